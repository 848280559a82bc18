-- `measure::sum_squares` meets its contract: each term is the definition's of its row.
use Rattle.std.proofs.Common.{rules}
use Rattle.residual_norm.specs.Turns.{squares_of, square_at}
use Rattle.residual_norm.proofs.measure.sum_squares.Goals as goal

pub returns : goal.returns
unfolding squares_of square_at
returns c = c.sum_rows.ensures _ (λ row r h p. search rules)
