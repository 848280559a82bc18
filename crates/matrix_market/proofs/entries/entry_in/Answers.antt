-- `matrix_market::entries::entry_in` meets its contract: what the entry with its places has, without them.
use mathlib.Core.Path.{sym, ap, ◌∙◌}
use Rattle.std.proofs.lemmas.Result.{err_from_is_err_and}
use Rattle.std.specs.Prelude.{Err}
use Rattle.matrix_market.proofs.Told.{forget, told_in}
use Rattle.matrix_market.proofs.entries.entry_in.Goals as goal

pub returns-in_err-entry : goal.returns-in_err-entry
returns-in_err-entry c =
    let p = err_from_is_err_and c.from_residual.result c.from_residual.ensures.1 in
    p.1 ∙ ap (λ e. Err e) p.2 ∙ ap forget (sym c.in_err-entry.was ∙ c.entry_in.ensures) ∙ told_in c.args.symmetric c.args.rows c.args.line.now

pub returns : goal.returns
returns c = ap forget (sym c.in_ok-entry.was ∙ c.entry_in.ensures) ∙ told_in c.args.symmetric c.args.rows c.args.line.now
