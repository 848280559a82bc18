-- Worked examples: the matrix 4, -2; -2, 2 in both kinds, and a refusal of each number. They hold by computing, but for the search of a value's
-- digits among 10^15, which has laws. Assumes nothing.
use mathlib.Core.Path.{◌≡◌, refl, sym, ◌∙◌}
use mathlib.Core.Bool.{Bool, true, false}
use mathlib.Core.List.{List, [], ◌∷◌}
use Prim.Native.Nat.{ℕ, ◌<◌, ◌^◌}
use native.Mathlib.Omega.{arith}
use lib.Ieee.{Float, binary64, of_bits, nan, inf, fin, eq, lt, neg, round}
use lib.ListN.{take, set}
use Rattle.std.specs.Prelude.{Option, Some, None}
use Rattle.refusal.specs.Outcome.{accepted, refused, ask_rows}
use Rattle.refusal.specs.Refusal.{bad_offsets, bad_columns, store_too_small, bad_number, unequal_mirrors}
use Rattle.store.specs.Vector.{tab, each}
use Rattle.pattern.specs.Pattern.{some}
use Rattle.csr.specs.Questions.{size_ok, never_fall, offsets_ok, entry_ok, row_ok, columns_ok}
use Rattle.decimal.specs.Decimal.{value_of, gives, find_of, write_from, write_of}
use Rattle.decimal.proofs.Laws.{find_sound, find_complete, write_nearest}
use Rattle.decimal.proofs.Ties.{gives_unique}
use Rattle.decimal_text.specs.Figures.{figures_of}
use Rattle.record_format.specs.Bytes.{u32_at, u64_at, flat}
use Rattle.record_format.specs.Format.{bad_record, marked}
use Rattle.matrix_writer.specs.Text.{joined, written_at, row_triplets, triplets}
use Rattle.matrix_writer.specs.Writing.{record_ok, mirrors, mirror_in, entry_asked, row_asked, entries_asked, record_asked, write_file}

-- ---- values

-- a whole number is written as it is
module _ (v : Float) (m : ℕ) (small : m < 10 ^ 15) (is : gives v false 0 m ≡ true) where
  found : (f : Option ℕ) → f ≡ find_of v false 0 → f ≡ Some m
  found (Some k) e =
      let s = find_sound v false 0 k (sym e) in
      let same : k ≡ m = gives_unique v false 0 k m (omega arith) s.0 small s.1 is in
      rw same
  found None e =
      let no : gives v false 0 m ≡ false = find_complete v false 0 (sym e) m small in
      let none : true ≡ false = sym is ∙ no in
      absurd (let z : ◌≡◌ {A = ℕ} 0 1 = cc in omega arith)

  whole : write_of v ≡ Some (m, false, 0)
  unfolding write_from
  whole = rw (found (find_of v false 0) refl)

-- no number gives a NaN
never_nan : (x : Float) → eq x nan ≡ false
unfolding eq
never_nan nan = refl
never_nan (inf s) = refl
never_nan (fin s m e) = refl

not_written : (w : Option (ℕ × Bool × ℕ)) → write_of nan ≡ w → w ≡ None
not_written (Some (m, n, q)) e =
    let yes : gives nan n q m ≡ true = (write_nearest nan m n q e).value in
    let none : true ≡ false = sym yes ∙ never_nan (value_of m n q) in
    absurd (let z : ◌≡◌ {A = ℕ} 0 1 = cc in omega arith)
not_written None e = refl

four : write_of (of_bits binary64 0x4010000000000000) ≡ Some (4, false, 0)
unfolding eq round of_bits
four = whole (of_bits binary64 0x4010000000000000) 4 (omega arith) refl

two : write_of (of_bits binary64 0x4000000000000000) ≡ Some (2, false, 0)
unfolding eq round of_bits
two = whole (of_bits binary64 0x4000000000000000) 2 (omega arith) refl

-- ---- files

matrix : List ℕ
matrix =
    77 ∷ 88 ∷ 2 ∷ 0 ∷ 0 ∷ 0 ∷ 4 ∷ 0 ∷ 0 ∷ 0 ∷ 0 ∷ 0 ∷ 0 ∷ 0 ∷ 2 ∷ 0 ∷ 0 ∷ 0 ∷ 4 ∷ 0 ∷ 0 ∷ 0 ∷ 0 ∷ 0 ∷ 0 ∷ 0 ∷ 1 ∷ 0 ∷ 0 ∷ 0 ∷ 0 ∷ 0 ∷ 0 ∷ 0 ∷ 1 ∷ 0 ∷
    0 ∷ 0 ∷ 0 ∷ 0 ∷ 0 ∷ 0 ∷ 0 ∷ 0 ∷ 16 ∷ 64 ∷ 0 ∷ 0 ∷ 0 ∷ 0 ∷ 0 ∷ 0 ∷ 0 ∷ 192 ∷ 0 ∷ 0 ∷ 0 ∷ 0 ∷ 0 ∷ 0 ∷ 0 ∷ 192 ∷ 0 ∷ 0 ∷ 0 ∷ 0 ∷ 0 ∷ 0 ∷ 0 ∷ 64 ∷ []

-- a line for each entry on or below the diagonal
in_symmetric : write_file true 300 matrix ≡ accepted (
    37 ∷ 37 ∷ 77 ∷ 97 ∷ 116 ∷ 114 ∷ 105 ∷ 120 ∷ 77 ∷ 97 ∷ 114 ∷ 107 ∷ 101 ∷ 116 ∷ 32 ∷ 109 ∷ 97 ∷ 116 ∷ 114 ∷ 105 ∷ 120 ∷ 32 ∷ 99 ∷ 111 ∷ 111 ∷ 114 ∷ 100 ∷ 105 ∷ 110 ∷ 97 ∷ 116 ∷ 101 ∷ 32 ∷ 114 ∷ 101 ∷ 97 ∷
    108 ∷ 32 ∷ 115 ∷ 121 ∷ 109 ∷ 109 ∷ 101 ∷ 116 ∷ 114 ∷ 105 ∷ 99 ∷ 10 ∷ 50 ∷ 32 ∷ 50 ∷ 32 ∷ 51 ∷ 10 ∷ 49 ∷ 32 ∷ 49 ∷ 32 ∷ 52 ∷ 10 ∷ 50 ∷ 32 ∷ 49 ∷ 32 ∷ 45 ∷ 50 ∷ 10 ∷ 50 ∷ 32 ∷ 50 ∷ 32 ∷ 50 ∷
    10 ∷ []
    )
unfolding write_file record_asked entries_asked row_asked entry_asked mirror_in mirrors record_ok ask_rows marked u32_at u64_at tab each some size_ok offsets_ok never_fall columns_ok row_ok entry_ok figures_of flat joined written_at row_triplets triplets of_bits eq lt neg matrix
in_symmetric = rw (four, two)

-- a line for each entry
in_general : write_file false 300 matrix ≡ accepted (
    37 ∷ 37 ∷ 77 ∷ 97 ∷ 116 ∷ 114 ∷ 105 ∷ 120 ∷ 77 ∷ 97 ∷ 114 ∷ 107 ∷ 101 ∷ 116 ∷ 32 ∷ 109 ∷ 97 ∷ 116 ∷ 114 ∷ 105 ∷ 120 ∷ 32 ∷ 99 ∷ 111 ∷ 111 ∷ 114 ∷ 100 ∷ 105 ∷ 110 ∷ 97 ∷ 116 ∷ 101 ∷ 32 ∷ 114 ∷ 101 ∷ 97 ∷
    108 ∷ 32 ∷ 103 ∷ 101 ∷ 110 ∷ 101 ∷ 114 ∷ 97 ∷ 108 ∷ 10 ∷ 50 ∷ 32 ∷ 50 ∷ 32 ∷ 52 ∷ 10 ∷ 49 ∷ 32 ∷ 49 ∷ 32 ∷ 52 ∷ 10 ∷ 49 ∷ 32 ∷ 50 ∷ 32 ∷ 45 ∷ 50 ∷ 10 ∷ 50 ∷ 32 ∷ 49 ∷ 32 ∷ 45 ∷ 50 ∷ 10 ∷
    50 ∷ 32 ∷ 50 ∷ 32 ∷ 50 ∷ 10 ∷ []
    )
unfolding write_file record_asked entries_asked row_asked entry_asked mirror_in mirrors record_ok ask_rows marked u32_at u64_at tab each some size_ok offsets_ok never_fall columns_ok row_ok entry_ok figures_of flat joined written_at row_triplets triplets of_bits eq lt neg matrix
in_general = rw (four, two)

-- one byte short
no_room : write_file true 72 matrix ≡ refused store_too_small
unfolding write_file record_asked entries_asked row_asked entry_asked mirror_in mirrors record_ok ask_rows marked u32_at u64_at tab each some size_ok offsets_ok never_fall columns_ok row_ok entry_ok figures_of flat joined written_at row_triplets triplets of_bits eq lt neg matrix
no_room = rw (four, two)

-- the mark CO
another_mark : write_file true 300 (set (set matrix 0 67) 1 79) ≡ refused bad_record
unfolding write_file record_asked entries_asked row_asked entry_asked mirror_in mirrors record_ok ask_rows marked u32_at u64_at tab each some size_ok offsets_ok never_fall columns_ok row_ok entry_ok figures_of flat joined written_at row_triplets triplets of_bits eq lt neg matrix
another_mark = refl

-- a byte short
cut : write_file false 300 (take 69 matrix) ≡ refused bad_record
unfolding write_file record_asked entries_asked row_asked entry_asked mirror_in mirrors record_ok ask_rows marked u32_at u64_at tab each some size_ok offsets_ok never_fall columns_ok row_ok entry_ok figures_of flat joined written_at row_triplets triplets of_bits eq lt neg matrix
cut = refl

-- nothing behind the mark
mark_alone : write_file false 300 (take 2 matrix) ≡ refused bad_record
unfolding write_file record_asked entries_asked row_asked entry_asked mirror_in mirrors record_ok ask_rows marked u32_at u64_at tab each some size_ok offsets_ok never_fall columns_ok row_ok entry_ok figures_of flat joined written_at row_triplets triplets of_bits eq lt neg matrix
mark_alone = refl

-- offsets 0, 5, 4
falling : write_file false 300 (set matrix 14 5) ≡ refused bad_offsets
unfolding write_file record_asked entries_asked row_asked entry_asked mirror_in mirrors record_ok ask_rows marked u32_at u64_at tab each some size_ok offsets_ok never_fall columns_ok row_ok entry_ok figures_of flat joined written_at row_triplets triplets of_bits eq lt neg matrix
falling = refl

-- columns 0, 0 in the first row
equal_columns : write_file false 300 (set matrix 26 0) ≡ refused bad_columns
unfolding write_file record_asked entries_asked row_asked entry_asked mirror_in mirrors record_ok ask_rows marked u32_at u64_at tab each some size_ok offsets_ok never_fall columns_ok row_ok entry_ok figures_of flat joined written_at row_triplets triplets of_bits eq lt neg matrix
equal_columns = refl

-- the lower value is -4: it is 40 in a symmetric file, and no question in a general one
unequal : write_file true 300 (set matrix 60 16) ≡ refused unequal_mirrors
unfolding write_file record_asked entries_asked row_asked entry_asked mirror_in mirrors record_ok ask_rows marked u32_at u64_at tab each some size_ok offsets_ok never_fall columns_ok row_ok entry_ok figures_of flat joined written_at row_triplets triplets of_bits eq lt neg matrix
unequal = rw (four, two)

-- the upper value is a NaN, and its mirror is not: 39 before 40
not_a_number : write_file true 300 (set (set matrix 52 248) 53 127) ≡ refused bad_number
unfolding write_file record_asked entries_asked row_asked entry_asked mirror_in mirrors record_ok ask_rows marked u32_at u64_at tab each some size_ok offsets_ok never_fall columns_ok row_ok entry_ok figures_of flat joined written_at row_triplets triplets of_bits eq lt neg matrix
not_a_number = rw (four, not_written (write_of nan) refl)

-- the lower value is a NaN: the upper entry comes first, and its mirror is unequal
later_number : write_file true 300 (set (set matrix 60 248) 61 127) ≡ refused unequal_mirrors
unfolding write_file record_asked entries_asked row_asked entry_asked mirror_in mirrors record_ok ask_rows marked u32_at u64_at tab each some size_ok offsets_ok never_fall columns_ok row_ok entry_ok figures_of flat joined written_at row_triplets triplets of_bits eq lt neg matrix
later_number = rw (four, two)
