use Rattle.iterations.specs.Contract.{Iterating}
use Rattle.iterations.proofs.iterating.iterate.Given as goal

abbrev pub invariant-loop-done : goal.invariant-loop-done
invariant-loop-done l = Iterating l.h l.w l.initial.f l.f l.initial.t l.t l.g l.factor l.initial' l.limits.threshold l.limits.iterations l.used l.last l.done
