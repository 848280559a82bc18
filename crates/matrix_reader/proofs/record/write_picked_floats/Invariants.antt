use mathlib.Core.List.{map}
use Prim.Native.Nat.{◌*◌, ◌≤◌}
use lib.ListN.{length, take}
use Rattle.store.specs.Region.{at, Wrote}
use Rattle.record_format.specs.Bytes.{float_bytes, flat}
use Rattle.matrix_reader.proofs.record.write_picked_floats.Given as goal

abbrev pub invariant-loop-k : goal.invariant-loop-k
invariant-loop-k l = (l.k ≤ length l.order) × Wrote l.to (8 * l.k) (flat float_bytes (take l.k (map (at l.floats) l.order))) l.initial.out l.out
