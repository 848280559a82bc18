-- `solving::run` asks the index check, and then solves.
use Rattle.std.proofs.Common.{sym, ◌∙◌}
use Rattle.multigrid.proofs.solving.Ways.{solve_opened, ran_sound, ran_unsound}
use Rattle.multigrid.proofs.solving.run.Goals as goal

pub solve-requires : goal.solve-requires
solve-requires c = solve_opened _ (sym c.check.ensures ∙ c.if-check.true)

pub returns-then-check : goal.returns-then-check
returns-then-check c = ran_sound (sym c.check.ensures ∙ c.if-check.true) c.solve.ensures

pub returns-else-check : goal.returns-else-check
returns-else-check c = ran_unsound (sym c.check.ensures ∙ c.if-check.false) c.refused.ensures
