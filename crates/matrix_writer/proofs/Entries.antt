-- The entries of a written text are read as they were. Assumes nothing.
use mathlib.Core.Path.{◌≡◌, refl, sym, ap, ◌∙◌}
use mathlib.Core.Bool.{Bool, true, false, not, cond, ◌&&◌, ◌||◌, false≢true}
use mathlib.Core.List.{List, [], ◌∷◌, ◌++◌, map}
use mathlib.Core.Logic.{◌⊎◌, inl, inr}
use Prim.Native.Nat.{ℕ, zero, suc, ◌+◌, ◌-◌, ◌^◌, ◌≤◌, ◌<◌}
use native.Mathlib.Omega.{arith}
use lib.Dec.{eqb, ltb, leb}
use lib.Ieee.{Float, eq}
use lib.ListN.{length}
use borrow.Author.Tests.{lt-ltb, le-ltb, le-leb, leb-true, ne_eqb}
use Rattle.std.specs.Prelude.{Option, Some, None, Result}
use Rattle.refusal.specs.Refusal.{store_too_small, bad_number, unequal_mirrors}
use Rattle.refusal.specs.Outcome.{Outcome, accepted, refused, passed, ask, ◌>>=◌, ask_rows, ask_each}
use Rattle.refusal.proofs.Outcome.{never, accepted_one}
use Rattle.store.specs.Region.{idx, at}
use Rattle.store.proofs.store.Region.{le_or_lt}
use Rattle.decimal.specs.Decimal.{is_minus, magnitude_of, write_of}
use Rattle.decimal_text.specs.Field.{number_of, value_in}
use Rattle.decimal_text.specs.Figures.{figures, value_text}
use Rattle.decimal_text.proofs.Trip.{figures_number, figures_read, value_trip}
use Rattle.matrix_market.specs.declared.placed.PlacedError.{PlacedError}
use Rattle.matrix_market.specs.Lines.{pieces_of, kept, lines_of, is_data}
use Rattle.matrix_market.specs.Entries.{place_in}
use Rattle.matrix_market.specs.Placed.{placed_from, placed_in}
use Rattle.record_format.specs.Format.{Matrix, matrix_at}
use Rattle.matrix_writer.specs.Text.{joined, Triplet, triplet_at, row_length, is_written, written_at, row_triplets, triplets, file_text}
use Rattle.matrix_writer.specs.Writing.{is_found, writable, mirror_in, entry_asked, row_asked, entries_asked, record_asked, write_file}
use Rattle.matrix_writer.specs.Turns.{written_from, asked_from}
use Rattle.matrix_writer.specs.Contract.{StandsIn, Sound}
use Rattle.matrix_writer.specs.Theorem.{size_text, entry_text, found_value, read_back, Fitting, EachIn, back_of, InGrammar}
use Rattle.matrix_writer.proofs.Record.{sound_ready}
use Rattle.matrix_writer.proofs.Grammar.{lines_written, size_fields, entry_fields, size_counts, entry_counts, header_drops}

-- ---- one entry

-- A place is read as it was.
place_back : (rows n : ℕ) → n < rows → rows < 10 ^ 19 → place_in rows (figures (n + 1)) ≡ n + 1
place_back rows n h g =
    let a : number_of (figures (n + 1)) ≡ n + 1 = figures_read (n + 1) (omega arith) in
    let b : leb (n + 1) rows ≡ true = le-leb (n + 1) rows (omega arith) in
    rw (figures_number (n + 1), a, b)

-- A value that can be written is read as one that equals it.
value_back : (v : Float) → writable v ≡ true → (value_in (value_text v) ≡ Some (read_back v)) × (eq (read_back v) v ≡ true)
value_back v = go (write_of (magnitude_of v)) refl
  where
    go : (w : Option (ℕ × Bool × ℕ)) → write_of (magnitude_of v) ≡ w → is_found w ≡ true
        → (value_in (value_text v) ≡ Some (found_value (is_minus v) w)) × (eq (found_value (is_minus v) w) v ≡ true)
    go (Some (m, n, q)) e f = value_trip v m n q e
    go None e f = absurd (false≢true f)

-- counted from 1, places are in the same order
one_more : (r c : ℕ) → ltb (r + 1) (c + 1) ≡ ltb r c
one_more r c = pick (le_or_lt c r)
  where
    use_le : c ≤ r → ltb (r + 1) (c + 1) ≡ ltb r c
    use_le h = le-ltb (r + 1) (c + 1) (omega arith) ∙ sym (le-ltb r c h)

    use_lt : r < c → ltb (r + 1) (c + 1) ≡ ltb r c
    use_lt h = lt-ltb (r + 1) (c + 1) (omega arith) ∙ sym (lt-ltb r c h)

    pick : (c ≤ r) ⊎ (r < c) → ltb (r + 1) (c + 1) ≡ ltb r c
    pick (inl h) = use_le h
    pick (inr h) = use_lt h

-- An entry is read as it was.
pub entry_back : (symmetric : Bool) (rows : ℕ) (t : Triplet) → Fitting symmetric rows t → rows < 10 ^ 19 → placed_in symmetric rows (entry_text t) ≡ back_of t
entry_back symmetric rows t f g =
    let a = place_back rows t.row f.row_in g in
    let b = place_back rows t.column f.column_in g in
    let c : eqb (t.row + 1) 0 ≡ false = ne_eqb (t.row + 1) 0 (λ (e : t.row + 1 ≡ 0). omega arith) in
    let d : eqb (t.column + 1) 0 ≡ false = ne_eqb (t.column + 1) 0 (λ (e : t.column + 1 ≡ 0). omega arith) in
    let n : (symmetric && ltb (t.row + 1) (t.column + 1)) ≡ false = ap (λ (x : Bool). symmetric && x) (one_more t.row t.column) ∙ f.below in
    let x : t.row + 1 - 1 ≡ t.row = omega arith in
    let y : t.column + 1 - 1 ≡ t.column = omega arith in
    ap (placed_from symmetric rows) (entry_fields t f.value_in)
    ∙ rw (a, b, c, d, n, (value_back t.value f.value_in).0, x, y)

-- ---- the entries of a list

module _ (P : Triplet → Type 0) where
  each_append : (k l : List Triplet) → EachIn P k → EachIn P l → EachIn P (k ++ l)
  unfolding EachIn
  each_append [] l p q = q
  each_append (t ∷ k) l p q = (p.0, each_append k l p.1 q)

  each_joined : (f : ℕ → List Triplet) (n : ℕ) → ((k : ℕ) → k < n → EachIn P (f k)) → EachIn P (joined f n)
  unfolding joined EachIn
  each_joined f zero h = tt
  each_joined f (suc n) h = each_append (joined f n) (f n) (each_joined f n (λ k g. h k (omega arith))) (h n (omega arith))

module _ (symmetric : Bool) (rows : ℕ) where
  -- the lines of entries that count, and nothing behind the last line feed
  entries_count : (l : List Triplet) → EachIn (Fitting symmetric rows) l → kept is_data (map entry_text l ++ ([] ∷ [])) ≡ map entry_text l
  unfolding kept pieces_of EachIn
  entries_count [] h = refl
  entries_count (t ∷ l) h = let z = entry_counts t h.0.value_in in rw z (ap (λ (x : List (List ℕ)). entry_text t ∷ x) (entries_count l h.1))

  entries_back : rows < 10 ^ 19 → (l : List Triplet) → EachIn (Fitting symmetric rows) l → map (placed_in symmetric rows) (map entry_text l) ≡ map back_of l
  unfolding EachIn
  entries_back g [] h = refl
  entries_back g (t ∷ l) h =
      ap (λ (x : Result (ℕ × ℕ × Float) PlacedError). x ∷ map (placed_in symmetric rows) (map entry_text l)) (entry_back symmetric rows t h.0 g)
      ∙ ap (λ (x : List (Result (ℕ × ℕ × Float) PlacedError)). back_of t ∷ x) (entries_back g l h.1)

  entries_equal : (l : List Triplet) → EachIn (Fitting symmetric rows) l → EachIn (λ t. eq (read_back t.value) t.value ≡ true) l
  unfolding EachIn
  entries_equal [] h = tt
  entries_equal (t ∷ l) h = ((value_back t.value h.0.value_in).1, entries_equal l h.1)

-- ---- a record that passed

-- questions that all passed passed each
module _ (asked : ℕ → Outcome Unit) where
  passed_from : (fuel row k : ℕ) → ask_rows fuel row asked passed ≡ passed → row ≤ k → k < row + fuel → asked k ≡ passed
  unfolding ask_rows
  passed_from zero row k e h g = absurd (omega arith)
  passed_from (suc fuel) row k e h g = go (asked row) refl e (passed_from fuel (row + 1) k)
    where
      rest : Outcome Unit
      rest = ask_rows fuel (row + 1) asked passed

      go : (o : Outcome Unit) → asked row ≡ o → ◌>>=◌ o (λ _. rest) ≡ passed → (rest ≡ passed → row + 1 ≤ k → k < row + 1 + fuel → asked k ≡ passed) → asked k ≡ passed
      go (accepted a) z e on = pick (le_or_lt k row)
        where
          pick : (k ≤ row) ⊎ (row < k) → asked k ≡ passed
          pick (inl l) = let s : k ≡ row = omega arith in ap asked s ∙ z
          pick (inr l) = on e (omega arith) (omega arith)
      go (refused q) z e on = never {o = refused q} refl e

  each_passed : (n k : ℕ) → ask_each n asked passed ≡ passed → k < n → asked k ≡ passed
  each_passed n k e h = passed_from (n - 0) 0 k e (omega arith) (omega arith)

-- an entry that passed can be written
passed_writable : (symmetric : Bool) (m : Matrix) (r e : ℕ) → entry_asked symmetric m r e ≡ passed → writable (at m.values e) ≡ true
unfolding entry_asked
passed_writable symmetric m r e = go (writable (at m.values e)) (ask (not symmetric || mirror_in m r e (idx m.columns e)) unequal_mirrors passed)
  where
    go : (b : Bool) (rest : Outcome Unit) → ask b bad_number rest ≡ passed → b ≡ true
    go true rest p = refl
    go false rest p = never {o = refused bad_number} refl p

-- an entry that is written is not above the diagonal of a symmetric file
not_above : (symmetric : Bool) (row column : ℕ) → is_written symmetric row column ≡ true → (symmetric && ltb row column) ≡ false
not_above true row column h = le-ltb row column (leb-true column row h)
not_above false row column h = refl

module _ (symmetric : Bool) (m : Matrix) (s : Sound m) (a : entries_asked symmetric m ≡ passed) where
  entry_fitting : (r k : ℕ) → r < m.rows → k < row_length m r → EachIn (Fitting symmetric m.rows) (written_from symmetric m r k)
  unfolding written_from written_at EachIn entries_asked row_asked asked_from
  entry_fitting r k h g = go (is_written symmetric r (idx m.columns (idx m.offsets r + k))) refl
    where
      e : ℕ
      e = idx m.offsets r + k

      asked : entry_asked symmetric m r e ≡ passed
      asked = each_passed (asked_from symmetric m r) (row_length m r) k (each_passed (row_asked symmetric m) m.rows r a h) g

      stands : StandsIn m r e
      stands = record { row = h; from = omega arith; to = omega arith }

      go : (b : Bool) → is_written symmetric r (idx m.columns e) ≡ b → EachIn (Fitting symmetric m.rows) (cond b (triplet_at m r e ∷ []) [])
      go true z = (
        record {
          row_in = h;
          column_in = s.inside r e stands;
          below = not_above symmetric r (idx m.columns e) z;
          value_in = passed_writable symmetric m r e asked;
        },
        tt,
      )
      go false z = tt

  all_fitting : EachIn (Fitting symmetric m.rows) (triplets symmetric m)
  unfolding triplets row_triplets written_from
  all_fitting = each_joined (Fitting symmetric m.rows) (row_triplets symmetric m) m.rows (λ r h.
      each_joined (Fitting symmetric m.rows) (written_from symmetric m r) (row_length m r) (λ k g. entry_fitting r k h g))

-- ---- the file

-- A text that was written is that of a record that passed.
written_is : (symmetric : Bool) (size : ℕ) (b text : List ℕ) → write_file symmetric size b ≡ accepted text → (record_asked symmetric b ≡ passed) × (text ≡ file_text symmetric (matrix_at b))
unfolding write_file
written_is symmetric size b text = go (record_asked symmetric b) refl (leb (length (file_text symmetric (matrix_at b))) size)
  where
    go : (o : Outcome Unit) → record_asked symmetric b ≡ o → (fits : Bool)
        → ◌>>=◌ o (λ _. ask fits store_too_small (accepted (file_text symmetric (matrix_at b)))) ≡ accepted text
        → (record_asked symmetric b ≡ passed) × (text ≡ file_text symmetric (matrix_at b))
    go (accepted a) z true e = (z, sym (accepted_one e))
    go (accepted a) z false e = never {o = refused store_too_small} refl e
    go (refused q) z fits e = never {o = refused q} refl e

-- A text that was written is in the grammar, and its entries are read as they were.
pub written_in_grammar : (symmetric : Bool) (size : ℕ) (b text : List ℕ) → write_file symmetric size b ≡ accepted text → InGrammar symmetric (matrix_at b) text
unfolding kept
written_in_grammar symmetric size b text e =
    let m = matrix_at b in
    let w = written_is symmetric size b text e in
    let s = sound_ready symmetric b w.0 in
    let f = all_fitting symmetric m s.0 s.1 in
    let n = length (triplets symmetric m) in
    let g : m.rows < 10 ^ 19 = omega (arith, s.2) in
    let l = ap lines_of w.1 ∙ lines_written symmetric m in
    record {
      lines = l;
      counted = ap (kept is_data) l ∙ rw (header_drops symmetric, size_counts m.rows n) (ap (λ (x : List (List ℕ)). size_text m.rows n ∷ x) (entries_count symmetric m.rows (triplets symmetric m) f));
      sizes = size_fields m.rows n;
      entries = entries_back symmetric m.rows g (triplets symmetric m) f;
      equal = entries_equal symmetric m.rows (triplets symmetric m) f;
    }
