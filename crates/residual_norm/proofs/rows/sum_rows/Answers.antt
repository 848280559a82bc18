-- `rows::sum_rows` meets its contract. The loop's invariant: what is left to do from here gives the whole sum.
use Rattle.store.proofs.store.Loop.{left_start, left_on, left_end}
use Rattle.residual_norm.specs.Measure.{sum_of}
use Rattle.residual_norm.specs.Turns.{sum_turn}
use Rattle.residual_norm.proofs.rows.sum_rows.Goals as goal

pub loop-row-init : goal.loop-row-init
unfolding sum_of sum_turn
loop-row-init g c = λ h e. left_start

pub loop-row-preserved : goal.loop-row-preserved
unfolding sum_turn
loop-row-preserved g c = λ h e. left_on (c.loop-row.invariant h e) c.loop-row-test.true (rw (e _ _ c.loop-row-test.true c.term-sum.ensures))

pub returns : goal.returns
returns g c = λ h e. left_end (c.loop-row.invariant h e) c.loop-row-test.false
