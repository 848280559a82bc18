use mathlib.Core.List.{map}
use Prim.Native.Nat.{◌*◌, ◌≤◌}
use lib.ListN.{length, take}
use Rattle.store.specs.Region.{idx, Wrote}
use Rattle.record_format.specs.Bytes.{bytes4, flat}
use Rattle.matrix_reader.proofs.record.write_picked.Given as goal

abbrev pub invariant-loop-k : goal.invariant-loop-k
invariant-loop-k l = (l.k ≤ length l.order) × Wrote l.to (4 * l.k) (flat bytes4 (take l.k (map (idx l.words) l.order))) l.initial.out l.out
