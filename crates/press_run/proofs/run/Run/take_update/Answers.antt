-- `take_update` meets its contract.
use mathlib.Core.Path.{◌∙◌}
use Rattle.press_run.proofs.Taking.{update_kept}
use Rattle.press_run.proofs.run.Run.take_update.Goals as goal

pub returns : goal.returns
returns c = c.go_on.ensures ∙ update_kept c.args.self c.args.updated
