-- `values::entries::pick` meets its contract. The loop's invariant: what is left to do from here gives what the whole gives.
use mathlib.Core.Path.{refl}
use Rattle.store.proofs.store.Loop.{left_start, left_on}
use Rattle.coefficients.proofs.values.UpdateLaws.{entry_of_lem, pick_on, picked}
use borrow.Author.Rules.{rules}
use Rattle.coefficients.proofs.values.entries.pick.Goals as goal

pub loop-k-init : goal.loop-k-init
loop-k-init c = (refl, left_start)

pub index_at-entry-requires : goal.index_at-entry-requires
index_at-entry-requires c = search (entry_of_lem, rules)

pub loop-k-preserved : goal.loop-k-preserved
loop-k-preserved c = search (left_on, pick_on, rules)

pub returns : goal.returns
returns c = search (picked)
