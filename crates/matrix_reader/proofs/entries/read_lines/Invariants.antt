use Prim.Native.Nat.{◌-◌}
use lib.ListN.{length}
use Rattle.matrix_reader.proofs.Lines.{Reading}
use Rattle.matrix_reader.proofs.entries.read_lines.Given as goal

abbrev pub invariant-loop-line : goal.invariant-loop-line
invariant-loop-line l = Reading l.text (record { symmetric = l.symmetric; rows = l.n; entries = l.stated; next = l.initial.at }) l.initial.rows l.initial.columns l.initial.values l.rows l.columns l.values l.at l.m

abbrev pub decreases-loop-line : goal.decreases-loop-line
decreases-loop-line l = length l.text - l.at
