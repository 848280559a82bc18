use mathlib.Core.Path.{◌≡◌}
use Prim.Native.Nat.{◌+◌, ◌-◌}
use lib.ListN.{length}
use Rattle.store.specs.Loop.{for}
use Rattle.store.specs.Held.{Held}
use Rattle.store.proofs.store.Loop.{Left}
use Rattle.gauss_seidel.specs.Turns.{upper_turn}
use Rattle.dic.proofs.sweep.upper.Given as goal

abbrev pub invariant-loop-i : goal.invariant-loop-i
invariant-loop-i l = (length l.f ≡ length l.initial.f) × Left (upper_turn l.w l.s l.dic l.correction l.x) l.i l.s.rows l.f (for (upper_turn l.w l.s l.dic l.correction l.x) 0 l.s.rows l.initial.f) × Held l.near (l.correction + (l.s.rows - l.i)) l.f l.held
