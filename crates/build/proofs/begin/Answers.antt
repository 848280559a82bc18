-- `build::begin` meets its contract: the matrix is loaded, question 10 asked, and the levels are those of the matrix.
use Rattle.build.proofs.Whole.{load_ok, symmetric_ok, levels_ok, begun_levels, begun_asymmetric}
use mathlib.Core.Path.{refl}
use Rattle.build.proofs.begin.Goals as goal

pub load-requires : goal.load-requires
load-requires c = load_ok c.requires c.workspace_at-t.ensures

pub symmetric-requires : goal.symmetric-requires
symmetric-requires c = symmetric_ok c.requires c.workspace_at-t.ensures refl refl c.load.ensures

pub levels-requires : goal.levels-requires
levels-requires c = levels_ok c.requires c.workspace_at-t.ensures refl refl c.load.ensures c.symmetric.ensures c.if-not-symmetric.false

pub returns : goal.returns
returns c = begun_levels c.requires c.workspace_at-t.ensures refl refl c.load.ensures c.symmetric.ensures c.if-not-symmetric.false (rw c.is_some.ensures at c.levels.ensures)

pub returns-then-not-symmetric : goal.returns-then-not-symmetric
returns-then-not-symmetric c = begun_asymmetric c.requires c.workspace_at-t.ensures refl refl c.load.ensures c.symmetric.ensures c.if-not-symmetric.true
