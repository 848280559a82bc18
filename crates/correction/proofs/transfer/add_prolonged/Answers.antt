-- `transfer::add_prolonged` meets its contract. The loop's invariant: what is left to do from here gives what the whole gives.
use mathlib.Core.Path.{refl}
use lib.ListN.{length-set}
use Rattle.store.proofs.store.Loop.{left_start}
use Rattle.correction.proofs.transfer.Transfer.{prolong_near, added_left, added_done}
use native.Mathlib.Omega.{arith}
use borrow.Author.Rules.{rules}
use Rattle.correction.proofs.transfer.add_prolonged.Goals as goal

pub loop-row-init : goal.loop-row-init
loop-row-init c = (refl, left_start)

pub index_at-aggregate-requires : goal.index_at-aggregate-requires
index_at-aggregate-requires c = search (prolong_near, rules)

pub loop-row-preserved : goal.loop-row-preserved
loop-row-preserved c = (simp length-set (omega arith), search (added_left, rules))

pub returns : goal.returns
returns c = search (added_done)
