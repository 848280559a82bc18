use mathlib.Core.Path.{◌≡◌}
use lib.ListN.{length}
use Rattle.store.specs.Loop.{for}
use Rattle.store.proofs.store.Loop.{Left}
use Rattle.coefficients.specs.Contract.{pick_turn}
use Rattle.coefficients.proofs.values.entries.pick.Given as goal

abbrev pub invariant-loop-k : goal.invariant-loop-k
invariant-loop-k l =
    (length l.f ≡ length l.initial.f)
    × Left (pick_turn l.w l.places l.values l.to) l.k l.n l.f
    (for (pick_turn l.w l.places l.values l.to) 0 l.n l.initial.f)
