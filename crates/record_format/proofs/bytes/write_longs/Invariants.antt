use Prim.Native.Nat.{◌*◌}
use lib.ListN.{take}
use Rattle.store.specs.Region.{Wrote}
use Rattle.record_format.specs.Bytes.{bytes8, flat}
use Rattle.record_format.proofs.bytes.write_longs.Given as goal

abbrev pub invariant-loop-k : goal.invariant-loop-k
invariant-loop-k l = Wrote l.at (8 * l.k) (flat bytes8 (take l.k l.longs)) l.initial.out l.out
