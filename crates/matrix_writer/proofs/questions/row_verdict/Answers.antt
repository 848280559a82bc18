-- `matrix_writer::questions::row_verdict` meets its contract: the loop's invariant: what is left to ask answers as the whole.
use Rattle.std.proofs.Common.{◌≡◌, Ok}
use Rattle.refusal.proofs.Outcome.{passed_up}
use Rattle.matrix_writer.proofs.Record.{stands_at_lem, row_begin, row_go, row_stop, row_end}
use Rattle.matrix_writer.proofs.questions.row_verdict.Goals as goal

pub loop-e-init : goal.loop-e-init
loop-e-init c = row_begin _ _ _ c.range_at-first.ensures

pub entry_verdict-requires : goal.entry_verdict-requires
entry_verdict-requires c =
    record { sound = c.requires.sound; stands_in = stands_at_lem c.requires.row_lt_rows c.range_at-first.ensures c.loop-e.auto.e c.loop-e-test.true }

pub returns-in_err-entry_verdict : goal.returns-in_err-entry_verdict
returns-in_err-entry_verdict c =
    rw (passed_up _ c.from_residual.ensures.1) (row_stop _ _ _ c.range_at-first.ensures c.loop-e.invariant c.loop-e.auto.e c.loop-e-test.true c.entry_verdict.ensures c.in_err-entry_verdict.was)

pub loop-e-preserved : goal.loop-e-preserved
loop-e-preserved c =
    let passed : c.entry_verdict.result ≡ Ok tt = c.in_ok-entry_verdict.was in
    row_go _ _ _ c.range_at-first.ensures c.loop-e.invariant c.loop-e.auto.e c.loop-e-test.true c.entry_verdict.ensures passed

pub returns : goal.returns
returns c = row_end _ _ _ c.range_at-first.ensures c.loop-e.invariant c.loop-e-test.false
