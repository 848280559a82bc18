-- A worked example: a matrix of one entry, -0, is written and read back with +0. Assumes nothing.
use mathlib.Core.Path.{◌≡◌, refl, sym}
use mathlib.Core.Bool.{true, false}
use mathlib.Core.List.{List, [], ◌∷◌}
use Prim.Native.Nat.{ℕ}
use native.Mathlib.Omega.{arith}
use lib.Ieee.{binary64, of_bits, eq, lt, neg, round}
use Rattle.std.specs.Prelude.{Option, Some, None}
use Rattle.refusal.specs.Outcome.{accepted, ask_rows}
use Rattle.store.specs.Vector.{tab, each}
use Rattle.pattern.specs.Pattern.{some}
use Rattle.csr.specs.Questions.{size_ok, never_fall, offsets_ok, entry_ok, row_ok, columns_ok}
use Rattle.decimal.specs.Decimal.{gives, find_of, write_from, write_of}
use Rattle.decimal.proofs.Laws.{find_sound, find_complete}
use Rattle.decimal.proofs.Ties.{gives_unique}
use Rattle.decimal_text.specs.Figures.{figures_of}
use Rattle.record_format.specs.Bytes.{u32_at, u64_at, flat}
use Rattle.record_format.specs.Format.{marked}
use Rattle.matrix_reader.specs.File.{Slices, file_of}
use Rattle.matrix_writer.specs.Text.{joined, written_at, row_triplets, triplets}
use Rattle.matrix_writer.specs.Writing.{record_ok, mirrors, mirror_in, entry_asked, row_asked, entries_asked, record_asked, write_file}
use Rattle.matrix_file_theorem.specs.Theorem.{positive_zero}
use Rattle.matrix_file_theorem.proofs.Theorem.{written_read}

-- +0 for -0, and another value stays
minus_zero : positive_zero (of_bits binary64 0x8000000000000000) ≡ of_bits binary64 0
unfolding of_bits eq
minus_zero = refl

minus_two_lem : positive_zero (of_bits binary64 0xc000000000000000) ≡ of_bits binary64 0xc000000000000000
unfolding of_bits eq
minus_two_lem = refl

-- ---- a matrix of one entry, -0

-- -0 is written as 0
found : (f : Option ℕ) → f ≡ find_of (of_bits binary64 0x8000000000000000) false 0 → f ≡ Some 0
unfolding eq round of_bits
found (Some k) e =
    let s = find_sound (of_bits binary64 0x8000000000000000) false 0 k (sym e) in
    let same : k ≡ 0 = gives_unique (of_bits binary64 0x8000000000000000) false 0 k 0 (omega arith) s.0 (omega arith) s.1 refl in
    rw same
found None e =
    let no : gives (of_bits binary64 0x8000000000000000) false 0 0 ≡ false = find_complete (of_bits binary64 0x8000000000000000) false 0 (sym e) 0 (omega arith) in
    absurd (let z : ◌≡◌ {A = ℕ} 0 1 = cc in omega arith)

zero_written : write_of (of_bits binary64 0x8000000000000000) ≡ Some (0, false, 0)
unfolding write_from
zero_written = rw (found (find_of (of_bits binary64 0x8000000000000000) false 0) refl)

matrix : List ℕ
matrix =
    77 ∷ 88 ∷ 1 ∷ 0 ∷ 0 ∷ 0 ∷ 1 ∷ 0 ∷ 0 ∷ 0 ∷ 0 ∷ 0 ∷ 0 ∷ 0 ∷ 1 ∷ 0 ∷ 0 ∷ 0 ∷ 0 ∷ 0 ∷ 0 ∷ 0 ∷ 0 ∷ 0 ∷ 0 ∷ 0 ∷ 0 ∷ 0 ∷ 0 ∷ 128 ∷ []

-- the header, 1 1 1, and 1 1 0
file : List ℕ
file =
    37 ∷ 37 ∷ 77 ∷ 97 ∷ 116 ∷ 114 ∷ 105 ∷ 120 ∷ 77 ∷ 97 ∷ 114 ∷ 107 ∷ 101 ∷ 116 ∷ 32 ∷ 109 ∷ 97 ∷ 116 ∷ 114 ∷ 105 ∷ 120 ∷ 32 ∷ 99 ∷ 111 ∷ 111 ∷ 114 ∷ 100 ∷ 105 ∷ 110 ∷ 97 ∷ 116 ∷ 101 ∷ 32 ∷ 114 ∷ 101 ∷ 97 ∷
    108 ∷ 32 ∷ 115 ∷ 121 ∷ 109 ∷ 109 ∷ 101 ∷ 116 ∷ 114 ∷ 105 ∷ 99 ∷ 10 ∷ 49 ∷ 32 ∷ 49 ∷ 32 ∷ 49 ∷ 10 ∷ 49 ∷ 32 ∷ 49 ∷ 32 ∷ 48 ∷ 10 ∷ []

written : write_file true 300 matrix ≡ accepted file
unfolding write_file record_asked entries_asked row_asked entry_asked mirror_in mirrors record_ok ask_rows marked u32_at u64_at tab each some size_ok offsets_ok never_fall columns_ok row_ok entry_ok figures_of flat joined written_at row_triplets triplets of_bits eq lt neg matrix file
written = rw zero_written

slices : Slices
slices = record { rows = 2; columns = 2; values = 2; starts = 2; order = 2; links = 2; out = 30 }

-- It is read back as the matrix of one entry, +0.
read : file_of file slices ≡ accepted (record { rows = 1; entries = 1; offsets = 0 ∷ 1 ∷ []; columns = 0 ∷ []; values = of_bits binary64 0 ∷ [] })
unfolding u32_at u64_at tab joined written_at row_triplets triplets of_bits eq matrix slices
read = written_read true 300 matrix file slices written (record { entries = refl; out = omega arith })
