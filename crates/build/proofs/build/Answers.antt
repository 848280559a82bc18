-- `build::build` meets its contract: what the attempt made stays, and where it refused the stores are cleared.
use Rattle.build.proofs.Whole.{done_made, done_refused}
use Rattle.build.proofs.build.Goals as goal

pub returns-in-Ok : goal.returns-in-Ok
returns-in-Ok c = done_made _ c.attempt.ensures c.in-Ok.is

pub returns-in-Err : goal.returns-in-Err
returns-in-Err c = done_refused _ c.attempt.ensures c.in-Err.is c.clear.ensures
