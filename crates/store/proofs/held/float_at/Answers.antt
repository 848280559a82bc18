-- `held::float_at` meets its contract: past the end there is a NaN.
use lib.Ieee.{div, of_bits}
use borrow.Author.Rules.{rules}
use Rattle.std.proofs.lemmas.Option.{unwrap_or-slice_get}
use Rattle.store.proofs.held.float_at.Goals as goal

pub returns : goal.returns
unfolding div of_bits
returns c = search (unwrap_or-slice_get, rules)
