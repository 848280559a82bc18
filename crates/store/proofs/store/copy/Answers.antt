-- `store::copy` meets its contract. The loop's invariant: what is left to do from here gives what the whole gives.
use mathlib.Core.Path.{refl, ap, ◌∙◌}
use Prim.Native.Nat.{◌+◌}
use native.Mathlib.Omega.{arith}
use lib.ListN.{set, length-set}
use Rattle.std.proofs.lemmas.List.{get_or_default}
use Rattle.store.proofs.store.Loop.{left_on}
use Rattle.store.proofs.store.Turns.{copy_turn, copied}
use Rattle.store.proofs.store.copy.Goals as goal

pub loop-k-preserved : goal.loop-k-preserved
unfolding copy_turn
loop-k-preserved g c = (
  simp length-set (omega arith),
  λ d. left_on (c.loop-k.invariant.1 d) (omega arith) (ap (set c.loop-k.s (c.args.to + c.loop-k.k)) (c.index-s-from.is ∙ get_or_default c.loop-k.s (c.args.from + c.loop-k.k) _ d (omega arith))),
  λ e. absurd (omega arith),
)

pub returns : goal.returns
returns g c = copied _ _ _ _ _ c.loop-k.k c.requires c.loop-k.invariant.1 c.loop-k.invariant.2 (omega arith) (omega arith)
