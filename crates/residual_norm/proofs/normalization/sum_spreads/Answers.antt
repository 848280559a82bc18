-- `normalization::sum_spreads` meets its contract: each term is the definition's of its row.
use Rattle.std.proofs.Common.{◌≡◌, ◌+◌, ◌∙◌, rules}
use Rattle.store.specs.Region.{at}
use Rattle.residual_norm.specs.Turns.{spread_of, spreads_of}
use Rattle.residual_norm.proofs.normalization.Laws.{spread_row}
use Rattle.residual_norm.proofs.normalization.sum_spreads.Goals as goal

pub returns : goal.returns
unfolding spreads_of
returns c =
    let F = c.args.f.now in
    c.sum_rows.ensures _ (λ row r h p. let e : r ≡ spread_of (at F (c.args.rhs + row)) (at F (c.args.product + row)) (at F (c.args.rowsums + row)) c.args.mean = search rules in e ∙ spread_row F _ row h _ _ _ _)
