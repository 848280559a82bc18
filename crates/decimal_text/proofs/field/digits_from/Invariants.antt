use Rattle.decimal_text.specs.Field.{digits_from}
use lib.ListN.{drop}
use Prim.Native.Nat.{◌≤◌, ◌^◌}
use mathlib.Core.Path.{◌≡◌}
use Rattle.decimal_text.proofs.field.digits_from.Given as goal

abbrev pub invariant-loop-b : goal.invariant-loop-b
invariant-loop-b l = (l.number ≤ 10 ^ 19) × (digits_from l.number (drop l.b-index l.s) ≡ digits_from l.n l.s)
