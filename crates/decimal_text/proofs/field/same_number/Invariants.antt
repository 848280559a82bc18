use Rattle.decimal_text.proofs.Same.{SameTo}
use lib.ListN.{length}
use Prim.Native.Nat.{◌-◌}
use Rattle.decimal_text.proofs.field.same_number.Given as goal

abbrev pub invariant-loop-k : goal.invariant-loop-k
invariant-loop-k l = SameTo (length l.a - l.k) (length l.b - l.k) l.a l.b
