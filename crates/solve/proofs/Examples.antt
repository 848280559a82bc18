-- The worked solve of document 01: P = 4, −2; −2, 2 with the right-hand side 2, 0 from zero. It holds by computing.
-- Assumes nothing.
use mathlib.Core.Path.{◌≡◌, refl}
use mathlib.Core.Bool.{true}
use mathlib.Core.List.{[], ◌∷◌}
use Prim.Native.Nat.{ℕ}
use lib.Ieee.{Float, binary64, of_bits, add, sub, mul, div, lt, le, eq, ne}
use Rattle.float.specs.Float.{zero64, one64, is_finite, max_num}
use Rattle.float.specs.Sqrt.{sqrt_of}
use Rattle.store.specs.Loop.{iter, for}
use Rattle.store.specs.Region.{lay}
use Rattle.store.specs.Vector.{tab, each}
use Rattle.options.specs.declared.options.MultigridOptions.{MultigridOptions}
use Rattle.options.specs.declared.options.MultigridSmoother.{MultigridSmoother}
use Rattle.options.specs.declared.options.MultigridResidualNorm.{MultigridResidualNorm}
use Rattle.options.specs.declared.options.MultigridCoarseSolver.{MultigridCoarseSolver}
use Rattle.solver.specs.declared.solver.LinearSolverOptions.{LinearSolverOptions}
use Rattle.solver.specs.declared.solver.LinearSolverStatus.{LinearSolverStatus}
use Rattle.refusal.specs.Refusal.{wrong_length, bad_input}
use Rattle.refusal.specs.Outcome.{accepted, refused}
use Rattle.vector.specs.Dot as dot
use Rattle.vector.specs.Finite as finite
use Rattle.matrix.specs.Kernel as matrix
use Rattle.cholesky.specs.TriangularFactor as factor
use Rattle.cholesky.specs.Turns as cholesky-turns
use Rattle.coarse.specs.Terminal as terminal
use Rattle.coarse.specs.Turns as coarse-turns
use Rattle.cholesky.specs.Triangle.{tri}
use Rattle.correction.specs.Correction as correction
use Rattle.residual_norm.specs.Measure as measure
use Rattle.residual_norm.specs.Turns as residual-norm-turns
use Rattle.residual_norm.specs.Normalization as normalization
use Rattle.solver.specs.Solver as solver
use Rattle.hierarchy.specs.Level.{Hierarchy, empty_hierarchy}
use Rattle.cycle.specs.Cycle as cycle
use Rattle.iterations.specs.Iteration as iteration
use Rattle.solve.specs.Input as input
use Rattle.iterations.specs.Iterate as iterating
use Rattle.solve.specs.Solve as solve

abbrev two : Float
two = of_bits binary64 0x4000_0000_0000_0000

abbrev minus_two : Float
minus_two = of_bits binary64 0xc000_0000_0000_0000

abbrev minus_one : Float
minus_one = of_bits binary64 0xbff0_0000_0000_0000

abbrev four : Float
four = of_bits binary64 0x4010_0000_0000_0000

abbrev quarter : Float
quarter = of_bits binary64 0x3fd0_0000_0000_0000

abbrev half : Float
half = of_bits binary64 0x3fe0_0000_0000_0000

-- the controls of `smallpress`: the defaults with Cholesky and so many directions
abbrev controls : MultigridResidualNorm → ℕ → MultigridOptions
controls norm directions = record {
  smoother = MultigridSmoother.DicGaussSeidel;
  residual_norm = norm;
  pre_sweeps = 0;
  post_sweeps = 2;
  finest_sweeps = 1;
  sweep_level_multiplier = 1;
  max_sweeps = 4;
  coarsest_cells = 10;
  max_levels = 64;
  merge_levels = 2;
  krylov_dimension = directions;
  coarse_solver = MultigridCoarseSolver.Cholesky;
  coarse_absolute_tolerance = zero64;
  coarse_relative_tolerance = zero64;
  coarse_max_iterations = 500;
  scale_correction = true;
  max_aggregate_cells = 0;
}

-- P on one level
abbrev one_level : Hierarchy
one_level = record {
  levels = record {
    shape = record {
      pattern = record { rows = 2; offsets = 0 ∷ 2 ∷ 4 ∷ []; columns = 0 ∷ 1 ∷ 0 ∷ 1 ∷ [] };
      starts = 0 ∷ 1 ∷ 1 ∷ [];
      neighbors = 1 ∷ [];
      uppers = 1 ∷ [];
      lowers = 2 ∷ [];
      diagonals = 0 ∷ 3 ∷ [];
      terminal = true;
      links = 0 ∷ 1 ∷ [];
      positions = [];
    };
    numbers = record {
      coefficients = minus_two ∷ [];
      diagonal = four ∷ two ∷ [];
      inverse = quarter ∷ half ∷ [];
      dic = zero64 ∷ zero64 ∷ [];
      factor = two ∷ minus_one ∷ one64 ∷ [];
    };
  } ∷ [];
  sums = zero64 ∷ zero64 ∷ [];
}

-- down to half of the first residual, in five iterations at most
abbrev asked : LinearSolverOptions
asked = record { absolute_tolerance = zero64; relative_tolerance = half; max_iterations = 5 }

-- `smallpress`: converged after one iteration, from a residual of 2 to zero, at 1, 1, with one visit
small_press : solve.solve_of (iteration.system_of (controls MultigridResidualNorm.AbsoluteL2 0) one_level) asked (two ∷ zero64 ∷ []) (zero64 ∷ zero64 ∷ [])
    ≡ accepted (record {
      report = record {
        status = LinearSolverStatus.Converged;
        iterations = 1;
        initial_residual = two;
        final_residual = zero64;
        relative_residual = zero64;
      };
      x = one64 ∷ one64 ∷ [];
      counts = lay (1 ∷ 0 ∷ 0 ∷ 0 ∷ []) solve.uncounted;
    })
unfolding solve.solve_of input.input_ok solve.run_of iterating.iterate_of iteration.step_of iteration.moved_of cycle.cycle_of cycle.end_of cycle.count_of terminal.terminal_of terminal.terminal_solution coarse-turns.scatter_of coarse-turns.gather_of coarse-turns.diagonal_of factor.solve_factor_of factor.low_row factor.high_row cholesky-turns.low_term cholesky-turns.high_term tri measure.measure_of measure.value_of residual-norm-turns.squares_of residual-norm-turns.square_at measure.sum_of residual-norm-turns.sum_turn finite.all_finite dot.product_of normalization.normalization_of solver.relative_of matrix.apply_of matrix.spread_of matrix.spread_row matrix.spread_face correction.subtract_of correction.add_plain_of is_finite max_num sqrt_of each tab lay for iter lt le eq ne of_bits add sub mul div
small_press = refl

-- Of no levels, with either norm: converged after no iteration, with plus zeros; a vector of one row is refused by question 20, a limit of zero by 21.
empty_press : (norm : MultigridResidualNorm) → (
    solve.solve_of (iteration.system_of (controls norm 0) empty_hierarchy) asked [] []
    ∷ solve.solve_of (iteration.system_of (controls norm 0) empty_hierarchy) asked (zero64 ∷ []) []
    ∷ solve.solve_of (iteration.system_of (controls norm 0) empty_hierarchy) (record { absolute_tolerance = zero64; relative_tolerance = half; max_iterations = 0 }) [] []
    ∷ []) ≡ (
    accepted (record {
      report = record {
        status = LinearSolverStatus.Converged;
        iterations = 0;
        initial_residual = zero64;
        final_residual = zero64;
        relative_residual = zero64;
      };
      x = [];
      counts = solve.uncounted;
    })
    ∷ refused wrong_length
    ∷ refused bad_input
    ∷ [])
unfolding solve.solve_of input.input_ok finite.all_finite each is_finite lt le eq of_bits
empty_press norm = refl
