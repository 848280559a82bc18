-- A mesh of one cell. Definitions only.
use Rattle.std.specs.Prelude.{true, List, [], ◌∷◌, Float}
use Rattle.std.specs.Float.{binary64}
use Rattle.std.specs.Float.Ieee.{of_bits}
use Rattle.float.specs.Float.{zero64, one64}
use Rattle.options.specs.declared.options.MultigridOptions.{MultigridOptions}
use Rattle.options.specs.declared.options.MultigridSmoother.{MultigridSmoother}
use Rattle.options.specs.declared.options.MultigridResidualNorm.{MultigridResidualNorm}
use Rattle.options.specs.declared.options.MultigridCoarseSolver.{MultigridCoarseSolver}
use Rattle.solver.specs.declared.solver.LinearSolverStatus.{LinearSolverStatus}
use Rattle.refusal.specs.Refusal.{bad_diagonal}
use Rattle.hierarchy.specs.Build.{Input}
use Rattle.trace_example.specs.Calls.{Answer, Example}

abbrev pub two : Float
two = of_bits binary64 0x4000_0000_0000_0000

abbrev pub half : Float
half = of_bits binary64 0x3fe0_0000_0000_0000

-- Gauss-Seidel, plain cycles, one level at most
abbrev pub controls : MultigridOptions
controls = record {
  smoother = MultigridSmoother.GaussSeidel;
  residual_norm = MultigridResidualNorm.AbsoluteL2;
  pre_sweeps = 0;
  post_sweeps = 2;
  finest_sweeps = 1;
  sweep_level_multiplier = 1;
  max_sweeps = 4;
  coarsest_cells = 1;
  max_levels = 1;
  merge_levels = 1;
  krylov_dimension = 0;
  coarse_solver = MultigridCoarseSolver.Cholesky;
  coarse_absolute_tolerance = zero64;
  coarse_relative_tolerance = zero64;
  coarse_max_iterations = 1;
  scale_correction = true;
  max_aggregate_cells = 0;
}

-- one cell whose coefficient is 1, with a face weight
abbrev pub input : Input
input = record {
  rows = 1;
  offsets = 0 ∷ 1 ∷ [];
  columns = 0 ∷ [];
  values = one64 ∷ [];
  given = true;
  weights = zero64 ∷ [];
  options = controls;
}

-- converged after one iteration, from a residual of 1 to zero, with one visit
abbrev pub converged : List Float → Answer
converged x = record {
  report = record {
    status = LinearSolverStatus.Converged;
    iterations = 1;
    initial_residual = one64;
    final_residual = zero64;
    relative_residual = zero64;
  };
  solution = x;
  counts = 1 ∷ 0 ∷ 0 ∷ 0 ∷ [];
}

-- A solve for 1, from zero, down to half of the first residual, in five iterations at most. An update to the coefficient 0 is refused by
-- question 12, one to 2 is accepted: the solution 1 becomes a half.
abbrev pub cell : Example
cell = record {
  input = input;
  words = 109;
  floats = 45;
  statistics = 1;
  wrong = zero64 ∷ [];
  refusal = bad_diagonal 0 0;
  right = two ∷ [];
  rhs = one64 ∷ [];
  start = zero64 ∷ [];
  asked = record { absolute_tolerance = zero64; relative_tolerance = half; max_iterations = 5 };
  before = converged (one64 ∷ []);
  after = converged (half ∷ []);
}
