-- `faces::count_row` meets its contract. The loop's invariant: the entries before e are counted.
use Rattle.faces.proofs.faces.Counting.{counting_start, counting_yes, counting_no}
use Rattle.faces.proofs.faces.Standing.{column_near}
use native.Mathlib.Omega.{arith}
use Rattle.faces.proofs.faces.count_row.Goals as goal
use Rattle.faces.proofs.faces.count_row.Goals.{then-index_at-row, else-index_at-row}

pub loop-e-init : goal.loop-e-init
loop-e-init c = counting_start c.requires c.wide-end.ensures
    c.wide-start.ensures

pub index_at-requires : goal.index_at-requires
index_at-requires c =
    record {
      k_in_bounds = omega (
        arith,
        c.loop-e.invariant.few,
        c.loop-e.invariant.standing.columns,
        c.loop-e.invariant.standing.inside,
        c.loop-e-test.true,
      );
      k_bound = column_near c.loop-e.invariant.standing c.loop-e.e
          (omega (arith, c.loop-e.invariant.few, c.loop-e-test.true));
    }

pub loop-e-preserved : goal.loop-e-preserved
loop-e-preserved c =
    elim c.if-index_at-row.branch [
      | then-index_at-row v ↦ counting_yes c.loop-e.invariant c.loop-e-test.true
          c.index_at.ensures.value v.if-index_at-row.true v.count-is
      | else-index_at-row v ↦ counting_no c.loop-e.invariant c.loop-e-test.true
          c.index_at.ensures.value v.if-index_at-row.false v.count-is
    ]
