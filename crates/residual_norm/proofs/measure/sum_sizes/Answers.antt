-- `measure::sum_sizes` meets its contract: each term is the definition's of its row.
use Rattle.std.proofs.Common.{rules}
use Rattle.residual_norm.specs.Turns.{sizes_of, size_at}
use Rattle.residual_norm.proofs.measure.sum_sizes.Goals as goal

pub returns : goal.returns
unfolding sizes_of size_at
returns c = c.sum_rows.ensures _ (λ row r h p. search rules)
