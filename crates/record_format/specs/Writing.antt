-- Writing a record to bytes that are lent: what is asked, and what is left of the bytes. Definitions only.
use Rattle.refusal.specs.declared.Refusal.{Refusal}
use Rattle.std.specs.Prelude.{◌≡◌, List, ℕ, ◌-◌, eqb, leb, ltb, length, Float, Result, Ok, Err}
use Rattle.refusal.specs.Outcome.{Outcome, accepted, refused, passed, ask, ◌>>=◌, ◌>>◌}
use Rattle.refusal.specs.Refusal.{too_large, bad_offsets, wrong_length, store_too_small}
use Rattle.options.specs.declared.options.MultigridOptions.{MultigridOptions}
use Rattle.solver.specs.declared.solver.LinearSolverOptions.{LinearSolverOptions}
use Rattle.record_format.specs.declared.marks.Mark.{Mark}
use Rattle.record_format.specs.Format.{Matrix, controls_bytes, matrix_length, matrix_bytes, values_length, values_bytes, solve_length, solve_bytes}
use Rattle.record_format.specs.Answers.{leaves_of}

-- ---- what is asked of the lengths

-- an output has room for a record of so many bytes
abbrev pub room_of : ℕ → ℕ → Outcome Unit
room_of bytes size = do
  ask (leb bytes size) store_too_small
  passed

-- so many offsets, columns and values: at most 65,536 rows and 1,048,576 entries, an offset at least, as many values as columns
unfoldable pub matrix_room : ℕ → ℕ → ℕ → ℕ → Outcome Unit
matrix_room offsets columns values size = do
  ask (leb offsets 65537) too_large
  ask (leb columns 1048576) too_large
  ask (ltb 0 offsets) bad_offsets
  ask (eqb columns values) bad_offsets
  room_of (matrix_length (offsets - 1) columns) size

-- so many floats of an FW or UP record: at most 1,048,576
unfoldable pub values_room : ℕ → ℕ → Outcome Unit
values_room values size = do
  ask (leb values 1048576) too_large
  room_of (values_length values) size

-- so many elements of a right-hand side and of a start: at most 65,536, and as many in both
unfoldable pub solve_room : ℕ → ℕ → ℕ → Outcome Unit
solve_room rhs start size = do
  ask (leb rhs 65536) too_large
  ask (eqb rhs start) wrong_length
  room_of (solve_length rhs) size

-- ---- the record that is written to an output of that size, or the refusal

-- the matrix of arrays: a row less than offsets
abbrev pub matrix_of : List ℕ → List ℕ → List Float → Matrix
matrix_of offsets columns values = record {
  rows = length offsets - 1;
  entries = length columns;
  offsets = offsets;
  columns = columns;
  values = values;
}

-- CO
unfoldable pub write_controls : ℕ → MultigridOptions → Outcome (List ℕ)
write_controls size o = do
  _ ← room_of 110 size
  accepted (controls_bytes o)

-- MX
unfoldable pub write_matrix : ℕ → List ℕ → List ℕ → List Float → Outcome (List ℕ)
write_matrix size offsets columns values = do
  _ ← matrix_room (length offsets) (length columns) (length values) size
  accepted (matrix_bytes (matrix_of offsets columns values))

-- FW and UP
unfoldable pub write_values : ℕ → Mark → List Float → Outcome (List ℕ)
write_values size m values = do
  _ ← values_room (length values) size
  accepted (values_bytes m values)

-- SO
unfoldable pub write_solve : ℕ → LinearSolverOptions → List Float → List Float → Outcome (List ℕ)
write_solve size limits rhs start = do
  _ ← solve_room (length rhs) (length start) size
  accepted (solve_bytes (record { limits = limits; rhs = rhs; start = start }))

-- ---- what a writer answers

-- how many bytes it wrote, or the refusal
abbrev pub written_answer : Outcome (List ℕ) → Result ℕ Refusal
written_answer (accepted b) = Ok (length b)
written_answer (refused q) = Err q

-- A record is written over the start of an output, or refused: the answer, and what is left of the output.
pub record WrittenIs (o : Outcome (List ℕ)) (B B' : List ℕ) (r : Result ℕ Refusal) : Type 0 where
  pub answer : r ≡ written_answer o
  pub bytes : B' ≡ leaves_of (λ b. b) o B
