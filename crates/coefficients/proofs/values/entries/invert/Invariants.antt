use mathlib.Core.Path.{◌≡◌}
use lib.ListN.{length}
use Rattle.coefficients.proofs.values.UpdateLaws.{Inverting}
use Rattle.coefficients.proofs.values.entries.invert.Given as goal

abbrev pub invariant-loop-row : goal.invariant-loop-row
invariant-loop-row l = (length l.f ≡ length l.initial.f) × Inverting l.rows l.diagonal l.inverse l.initial.f l.f l.row l.ok
