use Prim.Native.Nat.{◌*◌}
use lib.ListN.{take}
use Rattle.store.specs.Region.{Wrote}
use Rattle.record_format.specs.Bytes.{float_bytes, flat}
use Rattle.record_format.proofs.bytes.write_floats.Given as goal

abbrev pub invariant-loop-k : goal.invariant-loop-k
invariant-loop-k l = Wrote l.at (8 * l.k) (flat float_bytes (take l.k l.floats)) l.initial.out l.out
