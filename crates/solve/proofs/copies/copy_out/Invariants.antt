use mathlib.Core.Path.{◌≡◌}
use lib.ListN.{length}
use lib.Ieee.{nan}
use Rattle.store.specs.Loop.{for}
use Rattle.store.proofs.store.Loop.{Left}
use Rattle.solve.proofs.copies.Copying.{out_turn}
use Rattle.solve.proofs.copies.copy_out.Given as goal

abbrev pub invariant-loop-k : goal.invariant-loop-k
invariant-loop-k l = (length l.x ≡ length l.initial.x) × Left (out_turn nan l.f l.from) l.k (length l.initial.x) l.x (for (out_turn nan l.f l.from) 0 (length l.initial.x) l.initial.x)
