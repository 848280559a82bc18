use Prim.Native.Nat.{◌*◌}
use Rattle.std.proofs.Common.{length}
use Rattle.float.specs.Float.{neg_zero}
use Rattle.store.proofs.store.Loop.{Left}
use Rattle.store.specs.Loop.{for}
use Rattle.vector.specs.Turns.{block_turn}
use Rattle.vector.proofs.vector.dot_pairs.Given as goal

abbrev pub invariant-loop-p : goal.invariant-loop-p
invariant-loop-p l = Left (block_turn (length l.u) l.u l.v) (2 * l.p) (2 * l.pairs) l.sum (for (block_turn (length l.u) l.u l.v) 0 (2 * l.pairs) neg_zero)
