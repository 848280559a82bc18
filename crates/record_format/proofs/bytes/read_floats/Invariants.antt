use mathlib.Core.Path.{◌≡◌}
use Prim.Native.Nat.{◌+◌, ◌*◌}
use lib.ListN.{length}
use Rattle.store.specs.Loop.{for}
use Rattle.store.proofs.store.Loop.{Left}
use Rattle.record_format.specs.Bytes.{float_at}
use Rattle.record_format.proofs.Reading.{tab_turn}
use Rattle.record_format.proofs.bytes.read_floats.Given as goal

abbrev pub invariant-loop-k : goal.invariant-loop-k
invariant-loop-k l = let k = l.k in (length l.out ≡ length l.initial.out) × Left (tab_turn (λ k. float_at l.b (l.at + 8 * k))) k l.n l.out (for (tab_turn (λ k. float_at l.b (l.at + 8 * k))) 0 l.n l.initial.out)
