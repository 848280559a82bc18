-- The invariant: what is left to do from here gives what the whole gives.
use mathlib.Core.Path.{refl}
use borrow.Author.Rules.{rules}
use Rattle.store.proofs.store.Loop.{left_start}
use Rattle.record_format.proofs.Reading.{tab_done, tab_on}
use Rattle.record_format.proofs.bytes.read_words.Goals as goal

pub loop-k-init : goal.loop-k-init
loop-k-init c = (refl, left_start)

pub loop-k-preserved : goal.loop-k-preserved
loop-k-preserved c = search (tab_on, rules)

pub returns : goal.returns
returns c = search (tab_done)
