-- `updating::update_values` asks the index check, and then updates.
use Rattle.std.proofs.Common.{sym, ◌∙◌}
use Rattle.update.proofs.refresh.Sounding.{update_ready}
use Rattle.multigrid.proofs.updating.Ways.{update_sound, update_unsound}
use Rattle.multigrid.proofs.updating.update_values.Goals as goal

pub update-requires : goal.update-requires
update-requires c = update_ready _ _ _ _ (sym c.check.ensures ∙ c.if-check.true)

pub returns-then-check : goal.returns-then-check
returns-then-check c = update_sound (sym c.check.ensures ∙ c.if-check.true) c.update.ensures

pub returns-else-check : goal.returns-else-check
returns-else-check c = update_unsound (sym c.check.ensures ∙ c.if-check.false)
