use Rattle.matrix_reader.proofs.Stored.{Mirroring}
use Rattle.matrix_reader.proofs.entries.put_mirrors.Given as goal

abbrev pub invariant-loop-k : goal.invariant-loop-k
invariant-loop-k l = Mirroring l.m l.initial.rows l.initial.columns l.initial.values l.rows l.columns l.values l.k l.total
