use Rattle.matrix_market.specs.Walk.{blanks_of}
use lib.ListN.{drop}
use Prim.Native.Nat.{◌+◌}
use mathlib.Core.Path.{◌≡◌}
use Rattle.matrix_market.proofs.lines.leading_blanks.Given as goal

abbrev pub invariant-loop-i : goal.invariant-loop-i
invariant-loop-i l = l.i + blanks_of (drop l.i l.s) ≡ blanks_of l.s
