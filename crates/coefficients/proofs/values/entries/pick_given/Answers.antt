-- `values::entries::pick_given` meets its contract. The loop's invariant: what is left to do from here gives what the whole gives.
use mathlib.Core.Path.{refl}
use lib.ListN.{length-set}
use Rattle.store.proofs.store.Loop.{left_start, left_on}
use Rattle.coefficients.proofs.values.UpdateLaws.{given_of, given_on, given_picked}
use borrow.Author.Rules.{rules}
use Rattle.coefficients.proofs.values.entries.pick_given.Goals as goal

pub loop-k-init : goal.loop-k-init
loop-k-init c = (refl, left_start)

pub index_at-entry-requires : goal.index_at-entry-requires
index_at-entry-requires c = search (given_of, rules)

pub loop-k-preserved : goal.loop-k-preserved
loop-k-preserved c = (
  simp length-set c.loop-k.invariant.0,
  left_on c.loop-k.invariant.1 c.loop-k-test.true (given_on _ _ _ _ _ _ _ c.index_at-entry.ensures.value),
)

pub returns : goal.returns
returns c = search (given_picked)
