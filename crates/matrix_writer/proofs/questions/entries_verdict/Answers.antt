-- `matrix_writer::questions::entries_verdict` meets its contract: the loop's invariant: what is left to ask answers as the whole.
use Rattle.std.proofs.Common.{◌≡◌, Ok}
use Rattle.refusal.proofs.Outcome.{passed_up}
use Rattle.matrix_writer.proofs.Asking.{asking_start, asking_on, asking_stop, asking_done}
use Rattle.matrix_writer.specs.Writing.{entries_asked}
use Rattle.matrix_writer.proofs.questions.entries_verdict.Goals as goal

pub loop-row-init : goal.loop-row-init
loop-row-init c = asking_start _ _

pub returns-in_err-row_verdict : goal.returns-in_err-row_verdict
unfolding entries_asked
returns-in_err-row_verdict c =
    rw (passed_up _ c.from_residual.ensures.1) (asking_stop c.loop-row.invariant c.loop-row-test.true c.row_verdict.ensures c.in_err-row_verdict.was)

pub loop-row-preserved : goal.loop-row-preserved
loop-row-preserved c =
    let passed : c.row_verdict.result ≡ Ok tt = c.in_ok-row_verdict.was in
    asking_on c.loop-row.invariant c.loop-row-test.true c.row_verdict.ensures passed

pub returns : goal.returns
unfolding entries_asked
returns c = asking_done c.loop-row.invariant c.loop-row-test.false
