-- `store::zero_words` meets its contract: the fill covers the whole store.
use mathlib.Core.Path.{refl}
use Rattle.store.proofs.store.Region.{wrote_whole}
use Rattle.store.proofs.store.zero_words.Goals as goal

pub returns : goal.returns
returns c = wrote_whole c.fill.ensures refl
