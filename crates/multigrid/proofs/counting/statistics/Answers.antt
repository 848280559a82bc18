-- `counting::statistics` gives the answer of the index check.
use Rattle.std.proofs.Common.{sym, ◌∙◌}
use Rattle.multigrid.proofs.counting.statistics.Goals as goal

pub returns-then-check : goal.returns-then-check
returns-then-check c = rw (sym c.check.ensures ∙ c.if-check.true)

pub returns-else-check : goal.returns-else-check
returns-else-check c = rw (sym c.check.ensures ∙ c.if-check.false)
