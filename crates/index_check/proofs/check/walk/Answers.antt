-- `check::walk` meets its contract.
use Rattle.index_check.proofs.check.Question.{walk_rows_ok, walk_through, walk_stopped}
use Rattle.refusal.proofs.Outcome.{passed_up}
use Rattle.index_check.proofs.check.walk.Goals as goal

pub walk_rows-requires : goal.walk_rows-requires
walk_rows-requires c = walk_rows_ok _ _ c.walk_heads.ensures c.in_ok-walk_heads.was

pub returns : goal.returns
returns c = walk_through _ _ c.walk_heads.ensures c.in_ok-walk_heads.was c.walk_rows.ensures

pub returns-in_err-walk_heads : goal.returns-in_err-walk_heads
returns-in_err-walk_heads c =
    let e = walk_stopped _ _ c.walk_heads.ensures c.in_err-walk_heads.was in
    rw (passed_up _ c.from_residual.ensures.1) (rw c.in_err-walk_heads.was at e)
