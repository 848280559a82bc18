use Rattle.std.specs.Prelude.{Ok}
use mathlib.Core.Path.{◌≡◌}
use Rattle.store.proofs.store.Each.{Passed}
use Rattle.index_check.specs.Sound.{row_sound}
use Rattle.index_check.specs.LevelContract.{shape_to}
use Rattle.index_check.proofs.check.Walking.{Outer}
use Rattle.index_check.proofs.check.walk_rows.Given as goal

abbrev pub invariant-loop-row : goal.invariant-loop-row
invariant-loop-row l = Passed (row_sound l.t.rows l.t.entries (shape_to l.w l.p l.t)) l.p.rows l.row

abbrev pub invariant-walk : goal.invariant-walk
invariant-walk l = Outer l.w l.levels l.level l.a × (l.at ≡ Ok tt)
