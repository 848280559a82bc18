use mathlib.Core.Path.{◌≡◌}
use Prim.Native.Nat.{◌-◌}
use Rattle.decimal.specs.Decimal.{write_from, write_of}
use Rattle.decimal.proofs.write.Given as goal

abbrev pub invariant-loop-power : goal.invariant-loop-power
invariant-loop-power l = write_from (23 - l.power) l.v l.power ≡ write_of l.v
