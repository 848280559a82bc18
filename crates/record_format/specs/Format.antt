-- The five records of a problem file: the numbers that a record of these bytes has, or refusal 32; and the bytes of a record.
-- Each starts with a mark of two letters. Definitions only.
use Rattle.std.specs.Prelude.{Bool, cond, ◌&&◌, List, [], ◌∷◌, ◌++◌, ℕ, ◌+◌, ◌*◌, eqb, leb, ltb, length, Float}
use Rattle.refusal.specs.Outcome.{Outcome, accepted, ask}
use Rattle.refusal.specs.Refusal.{question}
use Rattle.refusal.specs.declared.Refusal.{Refusal}
use Rattle.options.specs.declared.options.MultigridOptions.{MultigridOptions}
use Rattle.solver.specs.declared.solver.LinearSolverOptions.{LinearSolverOptions}
use Rattle.export.specs.Flat.{smoother_of, residual_norm_of, coarse_solver_of}
use Rattle.export.specs.Structs.{smoother_number, residual_norm_number, coarse_solver_number}
use Rattle.record_format.specs.declared.marks.Mark.{Mark}
use Rattle.record_format.specs.Bytes.{byte_at, u32_at, u64_at, float_at, words_at, floats_at, bytes4, bytes8, float_bytes, flat}

-- a record of a problem file is unknown, repeated, out of place, out of range, too short, too large or missing
abbrev pub bad_record : Refusal
bad_record = question 32

-- ---- marks

-- the letters of a mark: CO, MX, FW, UP, SO
abbrev pub letters_of : Mark → List ℕ
letters_of Mark.Controls = 67 ∷ 79 ∷ []
letters_of Mark.Matrix = 77 ∷ 88 ∷ []
letters_of Mark.Weights = 70 ∷ 87 ∷ []
letters_of Mark.Update = 85 ∷ 80 ∷ []
letters_of Mark.Solve = 83 ∷ 79 ∷ []

-- whether bytes start with a mark
unfoldable pub marked : Mark → List ℕ → Bool
marked m b = eqb (byte_at b 0) (byte_at (letters_of m) 0) && eqb (byte_at b 1) (byte_at (letters_of m) 1)

-- ---- CO: the controls, in the order of their struct

-- the number of a yes or no
abbrev pub flag_number : Bool → ℕ
flag_number b = cond b 1 0

-- the controls at their places
abbrev pub controls_at : List ℕ → MultigridOptions
controls_at b = record {
  smoother = smoother_of (byte_at b 2);
  residual_norm = residual_norm_of (byte_at b 3);
  pre_sweeps = u64_at b 4;
  post_sweeps = u64_at b 12;
  finest_sweeps = u64_at b 20;
  sweep_level_multiplier = u64_at b 28;
  max_sweeps = u64_at b 36;
  coarsest_cells = u64_at b 44;
  max_levels = u64_at b 52;
  merge_levels = u64_at b 60;
  krylov_dimension = u64_at b 68;
  coarse_solver = coarse_solver_of (byte_at b 76);
  coarse_absolute_tolerance = float_at b 77;
  coarse_relative_tolerance = float_at b 85;
  coarse_max_iterations = u64_at b 93;
  scale_correction = eqb (byte_at b 101) 1;
  max_aggregate_cells = u64_at b 102;
}

-- whether bytes are a CO record: 110 of them, and each enum and the yes or no in its range
unfoldable pub controls_ok : List ℕ → Bool
controls_ok b =
    eqb (length b) 110 && marked Mark.Controls b && ltb (byte_at b 2) 3 && ltb (byte_at b 3) 2 && ltb (byte_at b 76) 2 && ltb (byte_at b 101) 2

-- the controls of a CO record
unfoldable pub read_controls : List ℕ → Outcome MultigridOptions
read_controls b = ask (controls_ok b) bad_record (accepted (controls_at b))

-- the nine counts of controls that stand together
abbrev pub counts_of : MultigridOptions → List ℕ
counts_of o =
    o.pre_sweeps ∷ o.post_sweeps ∷ o.finest_sweeps ∷ o.sweep_level_multiplier ∷ o.max_sweeps ∷ o.coarsest_cells
    ∷ o.max_levels ∷ o.merge_levels ∷ o.krylov_dimension ∷ []

-- the bytes of controls
unfoldable pub controls_bytes : MultigridOptions → List ℕ
controls_bytes o =
    letters_of Mark.Controls
    ++ (smoother_number o.smoother ∷ residual_norm_number o.residual_norm ∷ [])
    ++ flat bytes8 (counts_of o)
    ++ (coarse_solver_number o.coarse_solver ∷ [])
    ++ float_bytes o.coarse_absolute_tolerance
    ++ float_bytes o.coarse_relative_tolerance
    ++ bytes8 o.coarse_max_iterations
    ++ (flag_number o.scale_correction ∷ [])
    ++ bytes8 o.max_aggregate_cells

-- ---- MX: rows, entries, offsets, columns, values

-- a matrix as its record has it
pub record Matrix : Type 0 where
  pub rows : ℕ
  pub entries : ℕ
  pub offsets : List ℕ
  pub columns : List ℕ
  pub values : List Float

-- whether a problem file may have so many rows and entries
abbrev pub sizes_ok : ℕ → ℕ → Bool
sizes_ok rows entries = leb rows 64 && leb entries 320

-- how many bytes an MX record has
abbrev pub matrix_length : ℕ → ℕ → ℕ
matrix_length rows entries = 14 + 4 * rows + 12 * entries

-- the matrix at its places: an offset more than rows
abbrev pub matrix_at : List ℕ → Matrix
matrix_at b = record {
  rows = u32_at b 2;
  entries = u32_at b 6;
  offsets = words_at b 10 (u32_at b 2 + 1);
  columns = words_at b (14 + 4 * u32_at b 2) (u32_at b 6);
  values = floats_at b (14 + 4 * u32_at b 2 + 4 * u32_at b 6) (u32_at b 6);
}

-- whether bytes are an MX record: rows and entries within the sizes, and as many bytes as these ask for
unfoldable pub matrix_ok : List ℕ → Bool
matrix_ok b = marked Mark.Matrix b && sizes_ok (u32_at b 2) (u32_at b 6) && eqb (length b) (matrix_length (u32_at b 2) (u32_at b 6))

-- the matrix of an MX record
unfoldable pub read_matrix : List ℕ → Outcome Matrix
read_matrix b = ask (matrix_ok b) bad_record (accepted (matrix_at b))

-- the bytes of a matrix
unfoldable pub matrix_bytes : Matrix → List ℕ
matrix_bytes m =
    letters_of Mark.Matrix ++ bytes4 m.rows ++ bytes4 m.entries ++ flat bytes4 m.offsets ++ flat bytes4 m.columns ++ flat float_bytes m.values

-- ---- FW and UP: a float for each entry

-- how many bytes such a record has
abbrev pub values_length : ℕ → ℕ
values_length entries = 2 + 8 * entries

-- whether bytes are such a record, of that mark, for a matrix of so many entries
unfoldable pub values_ok : Mark → ℕ → List ℕ → Bool
values_ok m entries b = leb entries 320 && marked m b && eqb (length b) (values_length entries)

-- the floats of an FW or UP record
unfoldable pub read_values : Mark → ℕ → List ℕ → Outcome (List Float)
read_values m entries b = ask (values_ok m entries b) bad_record (accepted (floats_at b 2 entries))

-- the bytes of such a record
unfoldable pub values_bytes : Mark → List Float → List ℕ
values_bytes m values = letters_of m ++ flat float_bytes values

-- ---- SO: tolerances and limit, right-hand side, start

-- a solve as its record has it
pub record Problem : Type 0 where
  pub limits : LinearSolverOptions
  pub rhs : List Float
  pub start : List Float

-- how many bytes an SO record has
abbrev pub solve_length : ℕ → ℕ
solve_length rows = 26 + 16 * rows

-- tolerances and limit at their places
abbrev pub limits_at : List ℕ → LinearSolverOptions
limits_at b = record { absolute_tolerance = float_at b 2; relative_tolerance = float_at b 10; max_iterations = u64_at b 18 }

-- the solve at its places
abbrev pub problem_at : ℕ → List ℕ → Problem
problem_at rows b = record {
  limits = limits_at b;
  rhs = floats_at b 26 rows;
  start = floats_at b (26 + 8 * rows) rows;
}

-- whether bytes are an SO record for a matrix of so many rows
unfoldable pub solve_ok : ℕ → List ℕ → Bool
solve_ok rows b = leb rows 64 && marked Mark.Solve b && eqb (length b) (solve_length rows)

-- the solve of an SO record
unfoldable pub read_solve : ℕ → List ℕ → Outcome Problem
read_solve rows b = ask (solve_ok rows b) bad_record (accepted (problem_at rows b))

-- the bytes of a solve
unfoldable pub solve_bytes : Problem → List ℕ
solve_bytes p =
    letters_of Mark.Solve
    ++ float_bytes p.limits.absolute_tolerance
    ++ float_bytes p.limits.relative_tolerance
    ++ bytes8 p.limits.max_iterations
    ++ flat float_bytes p.rhs
    ++ flat float_bytes p.start
