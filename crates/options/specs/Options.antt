-- The controls' defaults and ranges, and the two questions on them (options.rs). Definitions only.
use Rattle.std.specs.Prelude.{Bool, true, false, not, ◌&&◌, ◌||◌, ℕ, ◌^◌, eqb, leb, Float}
use Rattle.std.specs.Float.{binary64}
use Rattle.std.specs.Float.Ieee.{of_bits, lt}
use Rattle.float.specs.Float.{ratio, is_finite}
use Rattle.options.specs.declared.options.MultigridSmoother.{MultigridSmoother}
use Rattle.options.specs.declared.options.MultigridResidualNorm.{MultigridResidualNorm}
use Rattle.options.specs.declared.options.MultigridCoarseSolver.{MultigridCoarseSolver}
use Rattle.options.specs.declared.options.MultigridOptions.{MultigridOptions}
use Rattle.refusal.specs.Refusal.{invalid_controls, not_cholesky}
use Rattle.refusal.specs.Outcome.{Outcome, passed, ask, ◌>>◌}

-- `Default` of options.rs, and no cap
unfoldable pub default_options : MultigridOptions
default_options = record {
  smoother = MultigridSmoother.DicGaussSeidel;
  residual_norm = MultigridResidualNorm.NormalizedL1;
  pre_sweeps = 0;
  post_sweeps = 2;
  finest_sweeps = 1;
  sweep_level_multiplier = 1;
  max_sweeps = 4;
  coarsest_cells = 10;
  max_levels = 64;
  merge_levels = 2;
  krylov_dimension = 4;
  coarse_solver = MultigridCoarseSolver.PcgDic;
  coarse_absolute_tolerance = ratio 1 (10 ^ 12);
  coarse_relative_tolerance = ratio 1 100;
  coarse_max_iterations = 500;
  scale_correction = true;
  max_aggregate_cells = 0;
}

-- low ≤ n ≤ high
abbrev pub within : ℕ → ℕ → ℕ → Bool
within low n high = leb low n && leb n high

-- finite and not below zero; minus zero passes
abbrev pub tolerable : Float → Bool
tolerable t = is_finite t && not (lt t (of_bits binary64 0))

-- no cap on the rows of an aggregate, or one of 2 to 65,535
abbrev pub cap_allowed : ℕ → Bool
cap_allowed cap = eqb cap 0 || within 2 cap 65535

-- `validate` of options.rs, and the cap
unfoldable pub valid_of : MultigridOptions → Bool
valid_of o =
    within 1 o.max_sweeps 64 && leb o.pre_sweeps o.max_sweeps && leb o.post_sweeps o.max_sweeps
    && within 1 o.finest_sweeps 64
    && within 1 o.coarsest_cells 256 && within 1 o.max_levels 128 && within 1 o.merge_levels 4
    && leb o.krylov_dimension 16
    && tolerable o.coarse_absolute_tolerance && tolerable o.coarse_relative_tolerance && leb 1 o.coarse_max_iterations
    && cap_allowed o.max_aggregate_cells

-- the coarse solver that question 7 asks for
abbrev pub is_cholesky : MultigridCoarseSolver → Bool
is_cholesky MultigridCoarseSolver.PcgDic = false
is_cholesky MultigridCoarseSolver.Cholesky = true

-- whether a smoother makes DIC sweeps first, and so needs DIC data
abbrev pub needs_dic : MultigridSmoother → Bool
needs_dic MultigridSmoother.GaussSeidel = false
needs_dic MultigridSmoother.SymmetricGaussSeidel = false
needs_dic MultigridSmoother.DicGaussSeidel = true

-- questions 6 and 7 of document 01
abbrev pub controls_asked : MultigridOptions → Outcome Unit
controls_asked o = do
  ask (valid_of o) invalid_controls
  ask (is_cholesky o.coarse_solver) not_cholesky
  passed
