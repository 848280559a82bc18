-- `coupled::coupled_count` meets its contract. The loop's invariant: the coupled rows before `row` are counted.
use Rattle.faces.proofs.faces.Coupling.{coupling_start, coupling_few, coupling_yes, coupling_no, coupling_done}
use native.Mathlib.Omega.{arith}
use Rattle.faces.proofs.coupled.coupled_count.Goals as goal
use Rattle.faces.proofs.coupled.coupled_count.Goals.{then-is_coupled, else-is_coupled}

pub loop-row-init : goal.loop-row-init
loop-row-init c = coupling_start

pub overflow_add-count : goal.overflow_add-count
overflow_add-count c = omega (arith, coupling_few c.loop-row.invariant, c.loop-row-test.true)

pub loop-row-preserved : goal.loop-row-preserved
loop-row-preserved c =
    elim c.if-is_coupled.branch [
      | then-is_coupled v ↦ coupling_yes c.loop-row.invariant c.loop-row-test.true
          c.is_coupled.ensures v.if-is_coupled.true v.count-is
      | else-is_coupled v ↦ coupling_no c.loop-row.invariant c.loop-row-test.true
          c.is_coupled.ensures v.if-is_coupled.false v.count-is
    ]

pub returns : goal.returns
returns c = coupling_done c.loop-row.invariant c.loop-row-test.false
