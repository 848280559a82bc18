use mathlib.Core.Path.{◌≡◌}
use lib.ListN.{length}
use Rattle.dic.proofs.dic.Dic.{Inverting}
use Rattle.dic.proofs.dic.invert.Given as goal

abbrev pub invariant-loop-row : goal.invariant-loop-row
invariant-loop-row l = (length l.f ≡ length l.initial.f) × Inverting l.rows l.d l.initial.f l.f l.row l.ok
