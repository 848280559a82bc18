use mathlib.Core.Path.{◌≡◌}
use lib.ListN.{length}
use Rattle.matrix_writer.proofs.Laying.{LaidTo}
use Rattle.matrix_writer.specs.Text.{row_triplets}
use Rattle.matrix_writer.specs.Sized.{matrix_in}
use Rattle.matrix_writer.proofs.lines.put_rows.Given as goal

abbrev pub invariant-loop-row : goal.invariant-loop-row
invariant-loop-row l = (length l.out ≡ length l.initial.out) × LaidTo (row_triplets l.source.symmetric (matrix_in l.source.arrays)) l.source.arrays.rows l.row l.at l.initial.out l.out l.next
