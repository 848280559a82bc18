use mathlib.Core.Path.{◌≡◌}
use Prim.Native.Nat.{◌+◌}
use lib.ListN.{length}
use Rattle.store.specs.Region.{at}
use Rattle.dic.proofs.dic.Dic.{Pivoting}
use Rattle.dic.proofs.dic.dic_pivots.Given as goal

abbrev pub invariant-loop-row : goal.invariant-loop-row
invariant-loop-row l = (length l.f ≡ length l.initial.f) × Pivoting l.level l.w l.s l.d l.row l.initial.f l.f × (l.pivot ≡ at l.f (l.d + l.row))
