-- A build of a load, and what is proved of its levels (proofs/Levels.antt). Definitions only.
use Rattle.std.specs.Prelude.{Bool, List, ℕ, Float}
use Rattle.options.specs.declared.options.MultigridOptions.{MultigridOptions}
use Rattle.hierarchy.specs.Level.{Level}
use Rattle.hierarchy.specs.Build.{Input}
use Rattle.galerkin_levels.specs.Levels.{ExactLevels}
use Rattle.load.specs.Box.{box}
use Rattle.load.specs.Load.{Load, pattern_of}
use Rattle.load.specs.Theorem.{whole_at}

-- what a build is given of a load: its arrays, any controls, and weights or none
abbrev pub input_from : Load → Bool → List Float → MultigridOptions → Input
input_from l given weights o = record {
  rows = l.pattern.rows;
  offsets = l.pattern.offsets;
  columns = l.pattern.columns;
  values = l.values;
  given = given;
  weights = weights;
  options = o;
}

-- Each level is exactly the Galerkin product of the level above, and of the finest, whose matrix is the whole numbers of the load of this seed.
abbrev pub ExactFrom : ℕ → List ℕ → List Level → Type 0
ExactFrom seed extents levels = ExactLevels (pattern_of (box extents)) (whole_at seed (box extents)) levels
