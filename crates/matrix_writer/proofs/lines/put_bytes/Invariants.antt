use mathlib.Core.Path.{◌≡◌}
use lib.ListN.{length}
use Rattle.matrix_writer.proofs.Laying.{BytesTo}
use Rattle.matrix_writer.proofs.lines.put_bytes.Given as goal

abbrev pub invariant-loop-byte : goal.invariant-loop-byte
invariant-loop-byte l = (length l.out ≡ length l.initial.out) × BytesTo l.text l.byte-index l.at l.initial.out l.out l.next
