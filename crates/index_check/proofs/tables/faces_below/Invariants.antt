use Rattle.store.proofs.store.Each.{Tested}
use Rattle.index_check.proofs.tables.Laws.{face_at}
use Rattle.index_check.proofs.tables.faces_below.Given as goal

abbrev pub invariant-loop-k : goal.invariant-loop-k
invariant-loop-k l = Tested (face_at l.w l.p l.rows l.entries) l.n l.k l.ok
