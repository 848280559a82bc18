use Rattle.decimal_text.specs.Field.{place_of}
use lib.ListN.{drop}
use Prim.Native.Nat.{◌+◌}
use mathlib.Core.Path.{◌≡◌}
use Rattle.decimal_text.proofs.field.find_either.Given as goal

abbrev pub invariant-loop-i : goal.invariant-loop-i
invariant-loop-i l = l.i + place_of l.a l.b (drop l.i l.s) ≡ place_of l.a l.b l.s
