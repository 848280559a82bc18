-- A worked instance: eight rows in a ring, with whole values and face weights. Definitions only.
use Rattle.std.specs.Prelude.{true, List, [], ◌∷◌, map, ℕ, ℤ, pos, negsuc, ◌+ℤ◌, get_or}
use Rattle.std.specs.Float.{binary64}
use Rattle.std.specs.Float.Ieee.{of_int}
use Rattle.float.specs.Float.{zero64}
use Rattle.options.specs.declared.options.MultigridOptions.{MultigridOptions}
use Rattle.options.specs.declared.options.MultigridSmoother.{MultigridSmoother}
use Rattle.options.specs.declared.options.MultigridResidualNorm.{MultigridResidualNorm}
use Rattle.options.specs.declared.options.MultigridCoarseSolver.{MultigridCoarseSolver}
use Rattle.hierarchy.specs.Build.{Lent, Input}

-- Gauss-Seidel, a Cholesky end of two coupled rows, four levels at most, and so many steps to a level
abbrev pub controls : ℕ → MultigridOptions
controls steps = record {
  smoother = MultigridSmoother.GaussSeidel;
  residual_norm = MultigridResidualNorm.AbsoluteL2;
  pre_sweeps = 0;
  post_sweeps = 2;
  finest_sweeps = 1;
  sweep_level_multiplier = 1;
  max_sweeps = 4;
  coarsest_cells = 2;
  max_levels = 4;
  merge_levels = steps;
  krylov_dimension = 0;
  coarse_solver = MultigridCoarseSolver.Cholesky;
  coarse_absolute_tolerance = zero64;
  coarse_relative_tolerance = zero64;
  coarse_max_iterations = 1;
  scale_correction = true;
  max_aggregate_cells = 0;
}

-- the whole values, row by row: 4 on the diagonal, and on the faces of the ring −2 and −1 in turns
abbrev pub wholes : List ℤ
wholes =
    pos 4 ∷ negsuc 1 ∷ negsuc 0
    ∷ negsuc 1 ∷ pos 4 ∷ negsuc 0
    ∷ negsuc 0 ∷ pos 4 ∷ negsuc 1
    ∷ negsuc 1 ∷ pos 4 ∷ negsuc 0
    ∷ negsuc 0 ∷ pos 4 ∷ negsuc 1
    ∷ negsuc 1 ∷ pos 4 ∷ negsuc 0
    ∷ negsuc 0 ∷ pos 4 ∷ negsuc 1
    ∷ negsuc 0 ∷ negsuc 1 ∷ pos 4
    ∷ []

-- twice as much, for an update
abbrev pub doubled : List ℤ
doubled = map (λ (z : ℤ). z +ℤ z) wholes

-- the weights are large on the faces of −1 and so decide against the values
abbrev pub strengths : List ℤ
strengths =
    pos 0 ∷ pos 1 ∷ pos 2
    ∷ pos 1 ∷ pos 0 ∷ pos 2
    ∷ pos 2 ∷ pos 0 ∷ pos 1
    ∷ pos 1 ∷ pos 0 ∷ pos 2
    ∷ pos 2 ∷ pos 0 ∷ pos 1
    ∷ pos 1 ∷ pos 0 ∷ pos 2
    ∷ pos 2 ∷ pos 0 ∷ pos 1
    ∷ pos 2 ∷ pos 1 ∷ pos 0
    ∷ []

-- the whole number of entry e
abbrev pub whole_at : ℕ → ℤ
whole_at e = get_or wholes e (pos 0)

-- the ring, with so many steps to a level
abbrev pub ring : ℕ → Input
ring steps = record {
  rows = 8;
  offsets = 0 ∷ 3 ∷ 6 ∷ 9 ∷ 12 ∷ 15 ∷ 18 ∷ 21 ∷ 24 ∷ [];
  columns =
      0 ∷ 1 ∷ 7
      ∷ 0 ∷ 1 ∷ 2
      ∷ 1 ∷ 2 ∷ 3
      ∷ 2 ∷ 3 ∷ 4
      ∷ 3 ∷ 4 ∷ 5
      ∷ 4 ∷ 5 ∷ 6
      ∷ 5 ∷ 6 ∷ 7
      ∷ 0 ∷ 6 ∷ 7
      ∷ [];
  values = map (of_int binary64) wholes;
  given = true;
  weights = map (of_int binary64) strengths;
  options = controls steps;
}

-- enough for it
abbrev pub ample : Lent
ample = record { stores = record { words = 2000; floats = 2000 }; records = 4 }
