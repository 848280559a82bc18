-- Controls as numbers, as they cross to C: enums by their place in the source from 0, yes as any number but 0. Definitions only.
use Rattle.std.specs.Prelude.{Bool, not, cond, ℕ, eqb, Float}
use Rattle.options.specs.declared.options.MultigridOptions.{MultigridOptions}
use Rattle.options.specs.declared.options.MultigridSmoother.{MultigridSmoother}
use Rattle.options.specs.declared.options.MultigridSmoother.TheVariants.{GaussSeidel, SymmetricGaussSeidel, DicGaussSeidel}
use Rattle.options.specs.declared.options.MultigridResidualNorm.{MultigridResidualNorm}
use Rattle.options.specs.declared.options.MultigridResidualNorm.TheVariants.{AbsoluteL2, NormalizedL1}
use Rattle.options.specs.declared.options.MultigridCoarseSolver.{MultigridCoarseSolver}
use Rattle.options.specs.declared.options.MultigridCoarseSolver.TheVariants.{PcgDic, Cholesky}

-- 0 is no, and any other number is yes
abbrev pub is_set : ℕ → Bool
is_set n = not (eqb n 0)

-- the smoother of a number; a number past the end is the last
abbrev pub smoother_of : ℕ → MultigridSmoother
smoother_of n = cond (eqb n 0) GaussSeidel (cond (eqb n 1) SymmetricGaussSeidel DicGaussSeidel)

-- the residual norm of a number
abbrev pub residual_norm_of : ℕ → MultigridResidualNorm
residual_norm_of n = cond (eqb n 0) AbsoluteL2 NormalizedL1

-- the coarse solver of a number
abbrev pub coarse_solver_of : ℕ → MultigridCoarseSolver
coarse_solver_of n = cond (eqb n 0) PcgDic Cholesky

-- the controls of their numbers, in the order of the source, and the cap
abbrev pub options_of : ℕ → ℕ → ℕ → ℕ → ℕ → ℕ → ℕ → ℕ → ℕ → ℕ → ℕ → ℕ → Float → Float → ℕ → ℕ → ℕ → MultigridOptions
options_of smoother norm pre post finest multiplier most coarsest levels merge krylov solver absolute relative iterations scale cap = record {
  smoother = smoother_of smoother;
  residual_norm = residual_norm_of norm;
  pre_sweeps = pre;
  post_sweeps = post;
  finest_sweeps = finest;
  sweep_level_multiplier = multiplier;
  max_sweeps = most;
  coarsest_cells = coarsest;
  max_levels = levels;
  merge_levels = merge;
  krylov_dimension = krylov;
  coarse_solver = coarse_solver_of solver;
  coarse_absolute_tolerance = absolute;
  coarse_relative_tolerance = relative;
  coarse_max_iterations = iterations;
  scale_correction = is_set scale;
  max_aggregate_cells = cap;
}
