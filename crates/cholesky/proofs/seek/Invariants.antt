use Rattle.cholesky.specs.Contract.{csr_at}
use Rattle.cholesky.proofs.Entries.{Seeking}
use Rattle.cholesky.proofs.seek.Given as goal

abbrev pub invariant-loop-e : goal.invariant-loop-e
invariant-loop-e l = Seeking (csr_at l.t l.w l.f) l.column l.from l.to l.e
