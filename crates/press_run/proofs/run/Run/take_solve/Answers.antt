-- `take_solve` meets its contract.
use mathlib.Core.Path.{◌∙◌}
use Rattle.press_run.proofs.Taking.{solve_kept}
use Rattle.press_run.proofs.run.Run.take_solve.Goals as goal

pub returns : goal.returns
returns c = c.go_on.ensures ∙ solve_kept c.args.self c.args.solved
