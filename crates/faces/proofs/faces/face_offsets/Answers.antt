-- `faces::face_offsets` meets its contract. The loop's invariant: the offsets of the rows before `row` are written.
use Rattle.faces.proofs.faces.Counting.{offsetting_start, offsetting_count, offsetting_few, offsetting_on, offsetting_done}
use native.Mathlib.Omega.{arith}
use Rattle.faces.proofs.faces.face_offsets.Goals as goal

pub loop-row-init : goal.loop-row-init
loop-row-init c = offsetting_start c.requires

pub count_row-more-requires : goal.count_row-more-requires
count_row-more-requires c = offsetting_count c.loop-row.invariant c.loop-row-test.true

pub overflow_cast-w : goal.overflow_cast-w
overflow_cast-w c = omega (
  arith,
  offsetting_few c.loop-row.invariant,
  c.loop-row.invariant.ok.standing.less,
)

pub loop-row-preserved : goal.loop-row-preserved
loop-row-preserved c = offsetting_on c.loop-row.invariant c.loop-row-test.true c.count_row-more.ensures

pub overflow_cast-w-2 : goal.overflow_cast-w-2
overflow_cast-w-2 c = omega (arith, offsetting_few c.loop-row.invariant, c.loop-row.invariant.ok.standing.less)

pub returns : goal.returns
returns c = offsetting_done c.loop-row.invariant c.loop-row-test.false
