use Rattle.galerkin.proofs.galerkin.Turns.{Giving}
use Rattle.galerkin.proofs.galerkin.given.add_given.Given as goal

abbrev pub invariant-loop-e : goal.invariant-loop-e
invariant-loop-e l = Giving l.w l.given l.m l.positions l.total l.out l.e l.initial.f l.f
