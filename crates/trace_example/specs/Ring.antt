-- A ring of four cells on two levels. Definitions only.
use Rattle.std.specs.Prelude.{true, List, [], ◌∷◌, map, ℕ, ℤ, pos, neg_ℤ, Float}
use Rattle.std.specs.Float.{binary64}
use Rattle.std.specs.Float.Ieee.{of_bits, of_int}
use Rattle.float.specs.Float.{zero64}
use Rattle.options.specs.declared.options.MultigridOptions.{MultigridOptions}
use Rattle.options.specs.declared.options.MultigridSmoother.{MultigridSmoother}
use Rattle.options.specs.declared.options.MultigridResidualNorm.{MultigridResidualNorm}
use Rattle.options.specs.declared.options.MultigridCoarseSolver.{MultigridCoarseSolver}
use Rattle.solver.specs.declared.solver.LinearSolverStatus.{LinearSolverStatus}
use Rattle.refusal.specs.Refusal.{bad_pivot}
use Rattle.hierarchy.specs.Build.{Input}
use Rattle.trace_example.specs.Calls.{Answer, Example}

-- DIC and Gauss-Seidel, the norm that reads row sums, one GCR direction, two levels at most, of which the last has two cells at most
abbrev pub controls : MultigridOptions
controls = record {
  smoother = MultigridSmoother.DicGaussSeidel;
  residual_norm = MultigridResidualNorm.NormalizedL1;
  pre_sweeps = 0;
  post_sweeps = 2;
  finest_sweeps = 1;
  sweep_level_multiplier = 1;
  max_sweeps = 4;
  coarsest_cells = 2;
  max_levels = 2;
  merge_levels = 1;
  krylov_dimension = 1;
  coarse_solver = MultigridCoarseSolver.Cholesky;
  coarse_absolute_tolerance = zero64;
  coarse_relative_tolerance = zero64;
  coarse_max_iterations = 1;
  scale_correction = true;
  max_aggregate_cells = 0;
}

-- the entries of the ring: d on the diagonal, a at the faces 0-1 and 2-3, b at 1-2 and 3-0
abbrev pub ring_of : ℤ → ℤ → ℤ → List Float
ring_of d a b =
    let d = of_int binary64 d in
    let a = of_int binary64 a in
    let b = of_int binary64 b in
    d ∷ a ∷ b ∷ a ∷ d ∷ b ∷ b ∷ d ∷ a ∷ b ∷ a ∷ d ∷ []

-- diagonal 4; the stronger coefficients, −2, stand where the weights are weaker
abbrev pub input : Input
input = record {
  rows = 4;
  offsets = 0 ∷ 3 ∷ 6 ∷ 9 ∷ 12 ∷ [];
  columns = 0 ∷ 1 ∷ 3 ∷ 0 ∷ 1 ∷ 2 ∷ 1 ∷ 2 ∷ 3 ∷ 0 ∷ 2 ∷ 3 ∷ [];
  values = ring_of (pos 4) (neg_ℤ (pos 2)) (neg_ℤ (pos 1));
  given = true;
  weights = ring_of (pos 0) (pos 1) (pos 2);
  options = controls;
}

-- floats by their bits
abbrev pub floats_of : List ℕ → List Float
floats_of bits = map (of_bits binary64) bits

-- converged after so many iterations, with these three residuals and this solution, by their bits; each iteration visits both levels and makes
-- one sweep on the finest
abbrev pub converged : ℕ → ℕ → ℕ → ℕ → List ℕ → Answer
converged iterations initial last relative x = record {
  report = record {
    status = LinearSolverStatus.Converged;
    iterations = iterations;
    initial_residual = of_bits binary64 initial;
    final_residual = of_bits binary64 last;
    relative_residual = of_bits binary64 relative;
  };
  solution = floats_of x;
  counts = iterations ∷ 0 ∷ iterations ∷ 0 ∷ iterations ∷ 0 ∷ 0 ∷ 0 ∷ [];
}

-- A solve for 8, 0, 0, 0 from 1, 0, 0, 0, down to a 256th of the first residual, in five iterations at most. An update to diagonal 4 and −2 at
-- every face makes the coarse matrix 4, −4; −4, 4, whose second pivot question 15 refuses; one to diagonal 8 is accepted.
abbrev pub ring : Example
ring = record {
  input = input;
  words = 382;
  floats = 340;
  statistics = 2;
  wrong = ring_of (pos 4) (neg_ℤ (pos 2)) (neg_ℤ (pos 2));
  refusal = bad_pivot 1 1;
  right = ring_of (pos 8) (neg_ℤ (pos 2)) (neg_ℤ (pos 1));
  rhs = map (of_int binary64) (pos 8 ∷ pos 0 ∷ pos 0 ∷ pos 0 ∷ []);
  start = map (of_int binary64) (pos 1 ∷ pos 0 ∷ pos 0 ∷ pos 0 ∷ []);
  asked = record { absolute_tolerance = zero64; relative_tolerance = of_bits binary64 0x3f70_0000_0000_0000; max_iterations = 5 };
  before = converged 2 0x3fdc_0000_0000_0000 0x3efa_4bf6_0554_6000 0x3f0e_0dab_73ce_2492
      (0x400a_d15a_84fe_9d42 ∷ 0x3fff_b18b_c32c_91db ∷ 0x3ff3_80f3_b21d_cb64 ∷ 0x3ff7_2926_c158_12fb ∷ []);
  after = converged 1 0x3fc0_0000_0000_0000 0x3f25_1974_70ad_4f6b 0x3f55_1974_70ad_4f6b
      (0x3ff1_7112_1790_e4ba ∷ 0x3fd2_08d4_afcf_d420 ∷ 0x3fb2_f708_4137_55f1 ∷ 0x3fc3_cfc1_7e9a_a928 ∷ []);
}
