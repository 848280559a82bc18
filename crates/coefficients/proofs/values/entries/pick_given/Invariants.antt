use mathlib.Core.Path.{◌≡◌}
use lib.ListN.{length}
use Rattle.store.specs.Loop.{for}
use Rattle.store.proofs.store.Loop.{Left}
use Rattle.coefficients.proofs.values.UpdateLaws.{give_turn}
use Rattle.coefficients.proofs.values.entries.pick_given.Given as goal

abbrev pub invariant-loop-k : goal.invariant-loop-k
invariant-loop-k l =
    (length l.f ≡ length l.initial.f)
    × Left (give_turn l.w l.places l.given l.to) l.k l.n l.f
    (for (give_turn l.w l.places l.given l.to) 0 l.n l.initial.f)
