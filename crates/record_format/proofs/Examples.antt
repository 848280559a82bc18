-- Worked examples: the records of document 01's small press, byte by byte, and what is read from them; and records that are refused. They hold
-- by computing. Assumes nothing.
use mathlib.Core.Path.{◌≡◌, refl}
use mathlib.Core.Bool.{true}
use mathlib.Core.List.{List, [], ◌∷◌}
use Prim.Native.Nat.{ℕ}
use lib.Ieee.{binary64, of_bits}
use lib.ListN.{take, set}
use Rattle.refusal.specs.Outcome.{accepted, refused}
use Rattle.store.specs.Vector.{tab}
use Rattle.options.specs.declared.options.MultigridSmoother.{MultigridSmoother}
use Rattle.options.specs.declared.options.MultigridResidualNorm.{MultigridResidualNorm}
use Rattle.options.specs.declared.options.MultigridCoarseSolver.{MultigridCoarseSolver}
use Rattle.record_format.specs.declared.marks.Mark.{Mark}
use Rattle.record_format.specs.Bytes.{u32_at, u64_at}
use Rattle.record_format.specs.Format.{bad_record, marked, controls_ok, read_controls, matrix_ok, read_matrix, values_ok, read_values, solve_ok, read_solve}

-- ---- numbers

-- the least byte comes first
word : u32_at (4 ∷ 3 ∷ 2 ∷ 1 ∷ []) 0 ≡ 0x0102_0304
unfolding u32_at
word = refl

long : u64_at (9 ∷ 8 ∷ 7 ∷ 6 ∷ 5 ∷ 4 ∷ 3 ∷ 2 ∷ 1 ∷ []) 1 ≡ 0x0102_0304_0506_0708
unfolding u64_at u32_at
long = refl

-- ---- CO

-- the controls of the small press
controls : List ℕ
controls =
    67 ∷ 79 ∷ 2 ∷ 0 ∷ 0 ∷ 0 ∷ 0 ∷ 0 ∷ 0 ∷ 0 ∷ 0 ∷ 0 ∷ 2 ∷ 0 ∷ 0 ∷ 0 ∷ 0 ∷ 0 ∷ 0 ∷ 0 ∷ 1 ∷ 0 ∷ 0 ∷ 0 ∷ 0 ∷ 0 ∷ 0 ∷ 0 ∷ 1 ∷ 0 ∷ 0 ∷ 0 ∷ 0 ∷ 0 ∷ 0 ∷ 0 ∷
    4 ∷ 0 ∷ 0 ∷ 0 ∷ 0 ∷ 0 ∷ 0 ∷ 0 ∷ 10 ∷ 0 ∷ 0 ∷ 0 ∷ 0 ∷ 0 ∷ 0 ∷ 0 ∷ 64 ∷ 0 ∷ 0 ∷ 0 ∷ 0 ∷ 0 ∷ 0 ∷ 0 ∷ 2 ∷ 0 ∷ 0 ∷ 0 ∷ 0 ∷ 0 ∷ 0 ∷ 0 ∷ 0 ∷ 0 ∷ 0 ∷ 0 ∷
    0 ∷ 0 ∷ 0 ∷ 0 ∷ 1 ∷ 17 ∷ 234 ∷ 45 ∷ 129 ∷ 153 ∷ 151 ∷ 113 ∷ 61 ∷ 123 ∷ 20 ∷ 174 ∷ 71 ∷ 225 ∷ 122 ∷ 132 ∷ 63 ∷ 244 ∷ 1 ∷ 0 ∷ 0 ∷ 0 ∷ 0 ∷ 0 ∷ 0 ∷
    1 ∷ 0 ∷ 0 ∷ 0 ∷ 0 ∷ 0 ∷ 0 ∷ 0 ∷ 0 ∷ []

controls_read : read_controls controls ≡ accepted (record {
  smoother = MultigridSmoother.DicGaussSeidel;
  residual_norm = MultigridResidualNorm.AbsoluteL2;
  pre_sweeps = 0;
  post_sweeps = 2;
  finest_sweeps = 1;
  sweep_level_multiplier = 1;
  max_sweeps = 4;
  coarsest_cells = 10;
  max_levels = 64;
  merge_levels = 2;
  krylov_dimension = 0;
  coarse_solver = MultigridCoarseSolver.Cholesky;
  coarse_absolute_tolerance = of_bits binary64 0x3d719799812dea11;
  coarse_relative_tolerance = of_bits binary64 0x3f847ae147ae147b;
  coarse_max_iterations = 500;
  scale_correction = true;
  max_aggregate_cells = 0;
})
unfolding read_controls controls_ok marked u64_at u32_at controls
controls_read = refl

-- a smoother of number 3, a yes or no of 2, a mark in small letters, a byte too few
controls_smoother : read_controls (set controls 2 3) ≡ refused bad_record
unfolding read_controls controls_ok marked controls
controls_smoother = refl

controls_flag : read_controls (set controls 101 2) ≡ refused bad_record
unfolding read_controls controls_ok marked controls
controls_flag = refl

controls_mark : read_controls (set controls 0 99) ≡ refused bad_record
unfolding read_controls controls_ok marked controls
controls_mark = refl

controls_short : read_controls (take 109 controls) ≡ refused bad_record
unfolding read_controls controls_ok marked controls
controls_short = refl

-- ---- MX

-- the matrix 4, −2; −2, 2
matrix : List ℕ
matrix =
    77 ∷ 88 ∷ 2 ∷ 0 ∷ 0 ∷ 0 ∷ 4 ∷ 0 ∷ 0 ∷ 0 ∷ 0 ∷ 0 ∷ 0 ∷ 0 ∷ 2 ∷ 0 ∷ 0 ∷ 0 ∷ 4 ∷ 0 ∷ 0 ∷ 0 ∷ 0 ∷ 0 ∷ 0 ∷ 0 ∷ 1 ∷ 0 ∷ 0 ∷ 0 ∷ 0 ∷ 0 ∷ 0 ∷ 0 ∷ 1 ∷ 0 ∷
    0 ∷ 0 ∷ 0 ∷ 0 ∷ 0 ∷ 0 ∷ 0 ∷ 0 ∷ 16 ∷ 64 ∷ 0 ∷ 0 ∷ 0 ∷ 0 ∷ 0 ∷ 0 ∷ 0 ∷ 192 ∷ 0 ∷ 0 ∷ 0 ∷ 0 ∷ 0 ∷ 0 ∷ 0 ∷ 192 ∷ 0 ∷ 0 ∷ 0 ∷ 0 ∷ 0 ∷ 0 ∷ 0 ∷ 64 ∷ []

matrix_read : read_matrix matrix ≡ accepted (record {
  rows = 2;
  entries = 4;
  offsets = 0 ∷ 2 ∷ 4 ∷ [];
  columns = 0 ∷ 1 ∷ 0 ∷ 1 ∷ [];
  values = of_bits binary64 0x4010000000000000 ∷ of_bits binary64 0xc000000000000000 ∷ of_bits binary64 0xc000000000000000 ∷ of_bits binary64 0x4000000000000000 ∷ [];
})
unfolding read_matrix matrix_ok marked u64_at u32_at tab matrix
matrix_read = refl

-- 65 rows, 321 entries, a byte too few
matrix_rows : read_matrix (set matrix 2 65) ≡ refused bad_record
unfolding read_matrix matrix_ok marked u64_at u32_at tab matrix
matrix_rows = refl

matrix_entries : read_matrix (set (set matrix 6 65) 7 1) ≡ refused bad_record
unfolding read_matrix matrix_ok marked u64_at u32_at tab matrix
matrix_entries = refl

matrix_short : read_matrix (take 69 matrix) ≡ refused bad_record
unfolding read_matrix matrix_ok marked u64_at u32_at tab matrix
matrix_short = refl

-- ---- UP and SO

update : List ℕ
update =
    85 ∷ 80 ∷ 0 ∷ 0 ∷ 0 ∷ 0 ∷ 0 ∷ 0 ∷ 32 ∷ 64 ∷ 0 ∷ 0 ∷ 0 ∷ 0 ∷ 0 ∷ 0 ∷ 16 ∷ 192 ∷ 0 ∷ 0 ∷ 0 ∷ 0 ∷ 0 ∷ 0 ∷ 16 ∷ 192 ∷ 0 ∷ 0 ∷ 0 ∷ 0 ∷ 0 ∷ 0 ∷ 16 ∷
    64 ∷ []

update_read : read_values Mark.Update 4 update ≡ accepted (of_bits binary64 0x4020000000000000 ∷ of_bits binary64 0xc010000000000000 ∷ of_bits binary64 0xc010000000000000 ∷ of_bits binary64 0x4010000000000000 ∷ [])
unfolding read_values values_ok marked u64_at u32_at tab update
update_read = refl

-- it is no FW, and none of five entries
update_weights : read_values Mark.Weights 4 update ≡ refused bad_record
unfolding read_values values_ok marked update
update_weights = refl

update_five : read_values Mark.Update 5 update ≡ refused bad_record
unfolding read_values values_ok marked update
update_five = refl

solve : List ℕ
solve =
    83 ∷ 79 ∷ 0 ∷ 0 ∷ 0 ∷ 0 ∷ 0 ∷ 0 ∷ 0 ∷ 0 ∷ 0 ∷ 0 ∷ 0 ∷ 0 ∷ 0 ∷ 0 ∷ 224 ∷ 63 ∷ 5 ∷ 0 ∷ 0 ∷ 0 ∷ 0 ∷ 0 ∷ 0 ∷ 0 ∷ 0 ∷ 0 ∷ 0 ∷ 0 ∷ 0 ∷ 0 ∷ 0 ∷ 64 ∷ 0 ∷
    0 ∷ 0 ∷ 0 ∷ 0 ∷ 0 ∷ 0 ∷ 0 ∷ 0 ∷ 0 ∷ 0 ∷ 0 ∷ 0 ∷ 0 ∷ 0 ∷ 0 ∷ 0 ∷ 0 ∷ 0 ∷ 0 ∷ 0 ∷ 0 ∷ 0 ∷ 0 ∷ []

solve_read : read_solve 2 solve ≡ accepted (record {
  limits = record { absolute_tolerance = of_bits binary64 0x0000000000000000; relative_tolerance = of_bits binary64 0x3fe0000000000000; max_iterations = 5 };
  rhs = of_bits binary64 0x4000000000000000 ∷ of_bits binary64 0x0000000000000000 ∷ [];
  start = of_bits binary64 0x0000000000000000 ∷ of_bits binary64 0x0000000000000000 ∷ [];
})
unfolding read_solve solve_ok marked u64_at u32_at tab solve
solve_read = refl
