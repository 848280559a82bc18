use mathlib.Core.Path.{◌≡◌}
use lib.ListN.{length}
use Rattle.store.specs.Loop.{for}
use Rattle.store.proofs.store.Loop.{Left}
use Rattle.cholesky.proofs.Rows.{ColAt, column_turn}
use Rattle.cholesky.proofs.columns.Given as goal

abbrev pub invariant-loop-column : goal.invariant-loop-column
invariant-loop-column l = (length l.f ≡ length l.initial.f) × ColAt l.row l.start l.column l.own × Left (column_turn l.t l.w l.row) l.column l.row l.f (for (column_turn l.t l.w l.row) 0 l.row l.initial.f)
