use Rattle.vector.proofs.finite.Laws.{Finites}
use Rattle.vector.proofs.finite.all_finite.Given as goal

abbrev pub invariant-loop-k : goal.invariant-loop-k
invariant-loop-k l = Finites l.f l.x l.n l.k l.ok
