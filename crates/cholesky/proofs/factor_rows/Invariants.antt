use Rattle.cholesky.proofs.packed.Triangles.{UpAt}
use Rattle.cholesky.proofs.Rows.{Factoring}
use Rattle.cholesky.proofs.factor_rows.Given as goal

abbrev pub invariant-loop-row : goal.invariant-loop-row
invariant-loop-row l = UpAt l.t.size l.row l.start × Factoring l.t l.w l.level l.row l.initial.f l.f
