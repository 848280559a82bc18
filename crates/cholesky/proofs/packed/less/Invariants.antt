use Rattle.store.specs.Loop.{for}
use Rattle.store.proofs.store.Loop.{Left}
use Rattle.cholesky.specs.Turns.{less_of}
use Rattle.cholesky.proofs.packed.less.Given as goal

abbrev pub invariant-loop-k : goal.invariant-loop-k
invariant-loop-k l = Left (less_of l.f l.p l.q) l.k l.m l.value (for (less_of l.f l.p l.q) 0 l.m l.own)
