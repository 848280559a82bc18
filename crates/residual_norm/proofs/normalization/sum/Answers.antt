-- `normalization::sum` meets its contract: each term is the definition's of its row.
use Rattle.std.proofs.Common.{rules}
use Rattle.residual_norm.proofs.normalization.sum.Goals as goal

pub returns : goal.returns
returns c = c.sum_rows.ensures _ (λ row r h p. search rules)
