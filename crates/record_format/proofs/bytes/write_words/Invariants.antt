use Prim.Native.Nat.{◌*◌}
use lib.ListN.{take}
use Rattle.store.specs.Region.{Wrote}
use Rattle.record_format.specs.Bytes.{bytes4, flat}
use Rattle.record_format.proofs.bytes.write_words.Given as goal

abbrev pub invariant-loop-k : goal.invariant-loop-k
invariant-loop-k l = Wrote l.at (4 * l.k) (flat bytes4 (take l.k l.words)) l.initial.out l.out
