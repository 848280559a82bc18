-- `faces::row_from` meets its contract. The loop's invariant: the entry's row is not before `row`.
use Rattle.faces.proofs.faces.Seeking.{seek_near, seek_start, seek_next, seek_done}
use native.Mathlib.Omega.{arith}
use Rattle.faces.proofs.faces.row_from.Goals as goal

pub overflow_add-s : goal.overflow_add-s
overflow_add-s c = omega (arith, seek_near c.requires, c.requires.standing)

pub overflow_add-s-2 : goal.overflow_add-s-2
overflow_add-s-2 c = omega (arith, seek_near c.requires, c.requires.standing)

pub offset_bounds-w-s : goal.offset_bounds-w-s
offset_bounds-w-s c = omega (arith, seek_near c.requires, c.requires.standing)

pub bounds-w-s : goal.bounds-w-s
bounds-w-s c = omega (arith, seek_near c.requires, c.requires.standing)

pub loop-end-init : goal.loop-end-init
loop-end-init c = seek_start c.requires c.wide-end.ensures

pub bounds-w-s-in-loop-end : goal.bounds-w-s-in-loop-end
bounds-w-s-in-loop-end c = omega (
  arith,
  seek_near
      (seek_next c.loop-end.invariant c.loop-end-test.true),
  c.loop-end.invariant.ok.standing,
)

pub loop-end-preserved : goal.loop-end-preserved
loop-end-preserved c = seek_start (seek_next c.loop-end.invariant c.loop-end-test.true)
    c.wide-end-in-loop-end.ensures

pub returns : goal.returns
returns c = seek_done c.loop-end.invariant c.loop-end-test.false
