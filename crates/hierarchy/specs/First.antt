-- "Pattern first, values second": what an accepted build is. Definitions only.
use Rattle.std.specs.Prelude.{◌≡◌, true, List, map}
use Rattle.refusal.specs.Outcome.{accepted}
use Rattle.hierarchy.specs.Level.{Shape, Level, Hierarchy}
use Rattle.hierarchy.specs.Refresh.{refresh_of, with_sums}
use Rattle.hierarchy.specs.Build.{Lent, Input, build_of}
use Rattle.hierarchy.specs.Shapes.{pattern_of}

-- the shapes of levels
abbrev pub shapes_in : List Level → List Shape
shapes_in levels = map (λ (l : Level). l.shape) levels

-- The hierarchy h of an accepted build of x in what is lent. It is what a refresh of its own shapes makes of the values of x, with
-- the row sums; and where weights are given those shapes are made of the pattern, the weights and the controls of x alone.
pub record First (l : Lent) (x : Input) (h : Hierarchy) : Type 0 where
  pub built : build_of l x ≡ accepted h
  pub levels : List Level
  pub is : h ≡ with_sums x.options levels
  pub second : refresh_of x.options 0 (shapes_in levels) x.values ≡ accepted levels
  pub first : x.given ≡ true → shapes_in levels ≡ pattern_of x
