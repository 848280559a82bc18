-- What a record has that was written: sound arrays, and entries that passed their questions. Assumes nothing.
use mathlib.Core.Path.{◌≡◌, refl, sym, ap, ◌∙◌, subst}
use mathlib.Core.Bool.{Bool, true, false, not, ◌||◌}
use mathlib.Core.List.{List}
use mathlib.Core.Logic.{◌⊎◌, inl, inr}
use Prim.Native.Nat.{ℕ, zero, suc, ◌+◌, ◌-◌, ◌*◌, ◌≤◌, ◌<◌}
use native.Mathlib.Omega.{arith}
use lib.Dec.{T, leb}
use lib.ListN.{length}
use lib.Ieee.{Float, nan, binary64, fits}
use lib.Ieee.Bits.{of_bits-fits}
use Rattle.refusal.specs.declared.Refusal.{Refusal}
use Rattle.refusal.specs.Refusal.{too_large, bad_offsets, bad_columns, bad_number, unequal_mirrors, store_too_small}
use Rattle.refusal.specs.Outcome.{Outcome, accepted, refused, passed, ask, ◌>>=◌, ask_rows, ask_each}
use Rattle.refusal.proofs.Outcome.{never, accepted_one}
use Rattle.store.specs.Region.{idx}
use Rattle.store.proofs.store.Region.{le_or_lt}
use Rattle.store.proofs.store.Vector.{length_tab, get_d_tab}
use Rattle.csr.specs.Questions.{size_ok, offsets_ok, columns_ok, matrix_asked}
use Rattle.csr.proofs.csr.Walk.{size_told, offsets_fit, entry_told, columns_at_lem}
use Rattle.record_format.specs.Bytes.{u32_at, u64_at, float_at}
use Rattle.record_format.specs.Format.{bad_record, Matrix, matrix_at}
use Rattle.matrix_writer.specs.Text.{row_length, file_text}
use Rattle.matrix_writer.specs.Writing.{record_ok, writable, mirror_in, entry_asked, row_asked, entries_asked, record_asked, write_file}
use Rattle.matrix_file_theorem.proofs.Rows.{row_column, row_value, SoundMatrix, WritableMatrix}

-- ---- questions that passed

ask_held : {A : Type 0} {a : A} (b : Bool) (q : Refusal) (rest : Outcome A) → ask b q rest ≡ accepted a → (b ≡ true) × (rest ≡ accepted a)
ask_held true q rest e = (refl, e)
ask_held false q rest e = never {o = refused q} refl e

then_held : {A : Type 0} {a : A} (o : Outcome Unit) (rest : Outcome A) → ◌>>=◌ o (λ _. rest) ≡ accepted a → (o ≡ passed) × (rest ≡ accepted a)
then_held (accepted u) rest e = (refl, e)
then_held (refused q) rest e = never {o = refused q} refl e

module _ (asked : ℕ → Outcome Unit) where
  rows_held : (fuel row : ℕ) → ask_rows fuel row asked passed ≡ passed → (k : ℕ) → row ≤ k → k < row + fuel → asked k ≡ passed
  unfolding ask_rows
  rows_held zero row e k h g = absurd (omega arith)
  rows_held (suc fuel) row e k h g = pick (then_held (asked row) (ask_rows fuel (row + 1) asked passed) e) (rows_held fuel (row + 1)) (le_or_lt k row)
    where
      pick : (asked row ≡ passed) × (ask_rows fuel (row + 1) asked passed ≡ passed)
          → (ask_rows fuel (row + 1) asked passed ≡ passed → (k : ℕ) → row + 1 ≤ k → k < row + 1 + fuel → asked k ≡ passed) → (k ≤ row) ⊎ (row < k) → asked k ≡ passed
      pick p on (inl l) = let z : k ≡ row = omega arith in ap asked z ∙ p.0
      pick p on (inr l) = on p.1 k (omega arith) (omega arith)

  each_held : (n : ℕ) → ask_each n asked passed ≡ passed → (k : ℕ) → k < n → asked k ≡ passed
  each_held n e k h = rows_held (n - 0) 0 e k (omega arith) (omega arith)

-- ---- the record

-- A text that was written is that of a record that passed.
pub text_is : (symmetric : Bool) (size : ℕ) (b text : List ℕ) → write_file symmetric size b ≡ accepted text
    → (record_asked symmetric b ≡ passed) × (file_text symmetric (matrix_at b) ≡ text)
unfolding write_file
text_is symmetric size b text e =
    let t = file_text symmetric (matrix_at b) in
    let p = then_held (record_asked symmetric b) (ask (leb (length t) size) store_too_small (accepted t)) e in
    let q = ask_held (leb (length t) size) store_too_small (accepted t) p.1 in
    (p.0, accepted_one q.1)

module _ (symmetric : Bool) (b : List ℕ) (p : record_asked symmetric b ≡ passed) where
  abbrev matrix : Matrix
  matrix = matrix_at b

  parts : (matrix_asked matrix.rows matrix.offsets matrix.columns matrix.values ≡ passed) × (entries_asked symmetric matrix ≡ passed)
  unfolding record_asked
  parts =
      let asked = matrix_asked matrix.rows matrix.offsets matrix.columns matrix.values in
      then_held asked (entries_asked symmetric matrix) (ask_held (record_ok b) bad_record (◌>>=◌ asked (λ _. entries_asked symmetric matrix)) p).1

  held : (size_ok matrix.rows matrix.columns ≡ true) × (offsets_ok matrix.rows matrix.offsets matrix.columns matrix.values ≡ true)
      × (columns_ok matrix.rows matrix.offsets matrix.columns ≡ true)
  held =
      let third = ask (columns_ok matrix.rows matrix.offsets matrix.columns) bad_columns passed in
      let second = ask (offsets_ok matrix.rows matrix.offsets matrix.columns matrix.values) bad_offsets third in
      let x = ask_held (size_ok matrix.rows matrix.columns) too_large second parts.0 in
      let y = ask_held (offsets_ok matrix.rows matrix.offsets matrix.columns matrix.values) bad_offsets third x.1 in
      let z = ask_held (columns_ok matrix.rows matrix.offsets matrix.columns) bad_columns passed y.1 in
      (x.0, y.0, z.0)

  long : length matrix.columns ≡ matrix.entries
  long = length_tab (λ k. u32_at b (14 + 4 * u32_at b 2 + 4 * k)) (u32_at b 6)

  -- A record that passed has sound arrays,
  pub record_sound : SoundMatrix matrix
  record_sound =
      let f = offsets_fit matrix.rows matrix.offsets matrix.columns matrix.values held.1 in
      let z = size_told matrix.rows matrix.columns held.0 in
      record {
        few = z.0;
        short = omega (arith, z.1, long);
        size = f.size;
        first = f.first;
        order = f.rises;
        last = f.last ∙ long;
        counted = long;
        valued = f.counted ∙ long;
        inside = λ r e h lo hi.
            (entry_told matrix.rows matrix.columns (idx matrix.offsets (r + 1)) e
            (columns_at_lem matrix.rows matrix.offsets matrix.columns held.2 r e h lo hi)).0;
        rising = λ r e h lo hi.
            (entry_told matrix.rows matrix.columns (idx matrix.offsets (r + 1)) e
            (columns_at_lem matrix.rows matrix.offsets matrix.columns held.2 r e h lo (omega arith))).1 hi;
        fit = λ e h.
            subst (λ (v : Float). T (fits binary64 v))
            (sym (get_d_tab (λ k. float_at b (14 + 4 * u32_at b 2 + 4 * u32_at b 6 + 8 * k)) (u32_at b 6) e nan h))
            (of_bits-fits binary64 (u64_at b (14 + 4 * u32_at b 2 + 4 * u32_at b 6 + 8 * e)));
      }

  entry_held : (r k : ℕ) → r < matrix.rows → k < row_length matrix r
      → (writable (row_value matrix r k) ≡ true) × ((not symmetric || mirror_in matrix r (idx matrix.offsets r + k) (row_column matrix r k)) ≡ true)
  unfolding entries_asked row_asked entry_asked
  entry_held r k h l =
      let row = each_held (row_asked symmetric matrix) matrix.rows parts.1 r h in
      let entry = each_held (λ j. entry_asked symmetric matrix r (idx matrix.offsets r + j)) (row_length matrix r) row k l in
      let mirror = not symmetric || mirror_in matrix r (idx matrix.offsets r + k) (row_column matrix r k) in
      let x = ask_held (writable (row_value matrix r k)) bad_number (ask mirror unequal_mirrors passed) entry in
      (x.0, (ask_held mirror unequal_mirrors passed x.1).0)

  -- and entries that can be written.
  pub record_writable : WritableMatrix symmetric matrix
  record_writable = record {
    value = λ r k h l. (entry_held r k h l).0;
    mirror = λ e r k h l. rw e at (entry_held r k h l).1;
  }
