-- `acceleration::correct` meets its contract.
use Rattle.refusal.proofs.Outcome.{passed_up}
use Rattle.acceleration.proofs.acceleration.Ways.{pass_ok, normal_ok, advance_ok, correct_done, correct_last, correct_second, correct_first}
use Rattle.acceleration.proofs.acceleration.correct.Goals as goal

pub orthogonalize-requires : goal.orthogonalize-requires
orthogonalize-requires c = pass_ok c.requires c.restarted-kept.ensures

pub normalize-requires : goal.normalize-requires
normalize-requires c = rw c.pair-stored.ensures (normal_ok _ c.requires c.restarted-kept.ensures c.orthogonalize.ensures)

pub advance-requires : goal.advance-requires
advance-requires c =
    rw c.pair-stored.ensures
    (advance_ok _ c.requires c.restarted-kept.ensures c.orthogonalize.ensures c.in_ok-orthogonalize.was
    (rw c.pair-stored.ensures at c.normalize.ensures))

pub returns : goal.returns
returns c =
    correct_done _ c.requires c.restarted-kept.ensures c.orthogonalize.ensures c.in_ok-orthogonalize.was
    (rw c.pair-stored.ensures at c.normalize.ensures) c.in_ok-normalize.was
    (rw c.pair-stored.ensures at c.advance.ensures) c.in_ok-advance.was

pub returns-in_err-advance : goal.returns-in_err-advance
returns-in_err-advance c =
    rw (passed_up _ c.from_residual-in_err-advance.ensures.1)
    (correct_last _ c.requires c.restarted-kept.ensures c.orthogonalize.ensures c.in_ok-orthogonalize.was
    (rw c.pair-stored.ensures at c.normalize.ensures) c.in_ok-normalize.was
    (rw c.pair-stored.ensures at c.advance.ensures) c.in_err-advance.was)

pub returns-in_err-normalize : goal.returns-in_err-normalize
returns-in_err-normalize c =
    rw (passed_up _ c.from_residual-in_err-normalize.ensures.1)
    (correct_second _ c.requires c.restarted-kept.ensures c.orthogonalize.ensures c.in_ok-orthogonalize.was
    (rw c.pair-stored.ensures at c.normalize.ensures) c.in_err-normalize.was)

pub returns-in_err-orthogonalize : goal.returns-in_err-orthogonalize
returns-in_err-orthogonalize c =
    rw (passed_up _ c.from_residual.ensures.1)
    (correct_first _ c.requires c.restarted-kept.ensures c.orthogonalize.ensures c.in_err-orthogonalize.was)
