-- `refresh::update` meets its contract: of no levels the arrays are asked; else the attempt, and its answer.
use Rattle.update.proofs.refresh.Updating.{attempt_ready, update_done, update_empty}
use native.Mathlib.Omega.{arith}
use Rattle.update.proofs.refresh.update.Goals as goal

pub returns-then-h-eq0 : goal.returns-then-h-eq0
returns-then-h-eq0 c = update_empty _ _ _ _ _ _ c.if-h-eq0.true c.asked_empty.ensures

pub attempt-requires : goal.attempt-requires
attempt-requires c = attempt_ready c.requires c.if-h-eq0.false (omega arith)

pub returns : goal.returns
returns c =
    let start = c in
    update_done start.args.h start.args.offsets.now start.args.columns.now start.args.values.now c.attempt.ensures
