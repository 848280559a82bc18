use mathlib.Core.Path.{◌≡◌}
use Prim.Native.Nat.{◌-◌}
use lib.ListN.{length}
use Rattle.matrix_writer.proofs.Laying.{LaidTo}
use Rattle.matrix_writer.specs.Turns.{written_from}
use Rattle.matrix_writer.specs.Text.{row_length}
use Rattle.store.specs.Region.{idx}
use Rattle.matrix_writer.specs.Sized.{matrix_in}
use Rattle.matrix_writer.proofs.lines.put_row.Given as goal

abbrev pub invariant-loop-e : goal.invariant-loop-e
invariant-loop-e l = (length l.out ≡ length l.initial.out) × LaidTo (written_from l.source.symmetric (matrix_in l.source.arrays) l.row) (row_length (matrix_in l.source.arrays) l.row) (l.e - idx (matrix_in l.source.arrays).offsets l.row) l.at l.initial.out l.out l.next
