-- Reading a matrix file that was written gives the matrix, zero signs apart. Assumes nothing.
use mathlib.Core.Path.{◌≡◌, refl, sym, ap, ◌∙◌}
use mathlib.Core.Bool.{Bool, true, false, cond, ◌&&◌}
use mathlib.Core.List.{List, [], ◌∷◌, ◌++◌, map, append-nil}
use Prim.Native.Nat.{ℕ, suc, ◌+◌, ◌≤◌, ◌<◌}
use native.Mathlib.Omega.{arith}
use lib.Dec.{eqb, leb}
use lib.ListN.{length, length-append}
use lib.Seq.{append_snoc}
use lib.Ieee.{Float}
use borrow.Author.Tests.{eq-eqb, lt-ltb, le-leb}
use Rattle.std.specs.Prelude.{Result, Ok}
use Rattle.refusal.specs.Refusal.{too_large, store_too_small, bad_matrix_file}
use Rattle.refusal.specs.Outcome.{Outcome, accepted, ask, ◌>>=◌}
use Rattle.decimal_text.specs.Field.{number_of}
use Rattle.decimal_text.specs.Figures.{figures}
use Rattle.decimal_text.proofs.Trip.{figures_number, figures_read}
use Rattle.coordinate.specs.Coordinate.{Entry, entries_there, expanded}
use Rattle.matrix_market.specs.declared.placed.PlacedError.{PlacedError}
use Rattle.matrix_market.specs.Lines.{first_of, first_line, data_of}
use Rattle.matrix_market.specs.Placed.{placed_in}
use Rattle.record_format.specs.Format.{Matrix, matrix_length, matrix_at}
use Rattle.matrix_reader.specs.File.{same_bytes, kind_of, Stated, three_sizes, sizes_from, sizes_in, lines_after, is_free, entry_after, entries_from, placed_matrix, matrix_from, Slices, after_sizes, after_kind, file_of}
use Rattle.matrix_writer.specs.Text.{Triplet, triplets}
use Rattle.matrix_writer.specs.Writing.{write_file}
use Rattle.matrix_writer.specs.Theorem.{header_line, entry_text, back_of, InGrammar}
use Rattle.matrix_writer.proofs.Entries.{written_in_grammar}
use Rattle.matrix_file_theorem.specs.Theorem.{with_positive_zeros, FileRoom}
use Rattle.matrix_file_theorem.proofs.Values.{read_positive}
use Rattle.matrix_file_theorem.proofs.Joined.{there_append}
use Rattle.matrix_file_theorem.proofs.Rows.{SoundMatrix, WritableMatrix, as_read, read_entries, read_once}
use Rattle.matrix_file_theorem.proofs.Arrays.{All, PlacedTriplet, all_placed, entries_read, stated_few, matrix_read}
use Rattle.matrix_file_theorem.proofs.Record.{text_is, record_sound, record_writable}

-- ---- header and sizes

kind_read : (symmetric : Bool) → kind_of (header_line symmetric) ≡ accepted symmetric
unfolding same_bytes
kind_read true = refl
kind_read false = refl

sizes_read : (rows count : ℕ) → rows ≤ 65536 → count ≤ 1048576 → three_sizes (figures rows) (figures rows) (figures count) ≡ accepted (record { rows = rows; entries = count })
sizes_read rows count h g =
    let a : number_of (figures rows) ≡ rows = figures_read rows (omega arith) in
    let b : number_of (figures count) ≡ count = figures_read count (omega arith) in
    rw (figures_number rows, figures_number count, a, b, eq-eqb rows rows refl, le-leb rows 65536 h, le-leb count 1048576 g)

-- ---- entries

there_first : (e : Entry) (es : List Entry) → entries_there e.row e.column (e ∷ es) ≡ e ∷ entries_there e.row e.column es
unfolding entries_there
there_first e es =
    ap (λ (b : Bool). cond (b && eqb e.column e.column) (e ∷ entries_there e.row e.column es) (entries_there e.row e.column es)) (eq-eqb e.row e.row refl)
    ∙ ap (λ (b : Bool). cond b (e ∷ entries_there e.row e.column es) (entries_there e.row e.column es)) (eq-eqb e.column e.column refl)

-- where an entry is the only one at its place, the place is free before it
free_before : (es fs : List Entry) (e : Entry) → length (entries_there e.row e.column (es ++ e ∷ fs)) ≤ 1 → is_free e.row e.column es ≡ true
free_before es fs e h =
    let a : length (entries_there e.row e.column (es ++ e ∷ fs))
    ≡ length (entries_there e.row e.column es) + suc (length (entries_there e.row e.column fs)) =
    ap (λ (l : List Entry). length l) (there_append e.row e.column es (e ∷ fs) ∙ ap (λ (l : List Entry). entries_there e.row e.column es ++ l) (there_first e fs))
    ∙ length-append (entries_there e.row e.column es) (e ∷ entries_there e.row e.column fs) in
    eq-eqb (length (entries_there e.row e.column es)) 0 (omega arith)

first_same : {A : Type 0} {x y : A} {k l : List A} → x ∷ k ≡ y ∷ l → x ≡ y
first_same e = cc

rest_same : {A : Type 0} {x y : A} {k l : List A} → x ∷ k ≡ y ∷ l → k ≡ l
rest_same e = cc

-- Lines of entries are read behind others as the entries, where no two of all have one place.
lines_read : (symmetric : Bool) (s : Stated) (ts : List Triplet) (es : List Entry) → All (PlacedTriplet symmetric s.rows) ts
    → map (placed_in symmetric s.rows) (map entry_text ts) ≡ map back_of ts
    → length es + length ts ≡ s.entries
    → ((r c : ℕ) → r < s.rows → length (entries_there r c (es ++ map as_read ts)) ≤ 1)
    → entries_from symmetric s es (map entry_text ts) ≡ accepted (es ++ map as_read ts)
unfolding entries_from
lines_read symmetric s [] es a e n once =
    ap (λ (b : Bool). ask b bad_matrix_file (accepted es)) (eq-eqb (length es) s.entries (omega arith))
    ∙ ap accepted (sym (append-nil es))
lines_read symmetric s (t ∷ ts) es (All.more p a) e n once =
    let next : Entry → Outcome (List Entry) = λ x. entries_from symmetric s (es ++ (x ∷ [])) (map entry_text ts) in
    let long : length (es ++ (as_read t ∷ [])) ≡ length es + 1 = length-append es (as_read t ∷ []) in
    let z : es ++ (as_read t ∷ []) ++ map as_read ts ≡ es ++ as_read t ∷ map as_read ts = append_snoc es (as_read t) (map as_read ts) in
    ap (λ (b : Bool). ask b bad_matrix_file (◌>>=◌ (entry_after es (placed_in symmetric s.rows (entry_text t))) next)) (lt-ltb (length es) s.entries (omega arith))
    ∙ ap (λ (x : Result (ℕ × ℕ × Float) PlacedError). ◌>>=◌ (entry_after es x) next) (first_same e)
    ∙ ap (λ (v : Float). ◌>>=◌ (entry_after es (Ok (t.row, t.column, v))) next) (read_positive t.value p.fit p.value)
    ∙ ap (λ (b : Bool). ◌>>=◌ (ask b bad_matrix_file (accepted (as_read t))) next) (free_before es (map as_read ts) (as_read t) (once t.row t.column p.row))
    ∙ lines_read symmetric s ts (es ++ (as_read t ∷ [])) a (rest_same e) (omega arith)
    (λ r c h. rw z (once r c h))
    ∙ ap accepted z

-- ---- the file

module _ (symmetric : Bool) {m : Matrix} (text : List ℕ) (l : Slices) (s : SoundMatrix m) (w : WritableMatrix symmetric m) (g : InGrammar symmetric m text) (room : FileRoom l symmetric m) where
  abbrev stated : Stated
  stated = record { rows = m.rows; entries = length (triplets symmetric m) }

  abbrev whole : List Entry
  whole = expanded symmetric (read_entries symmetric m)

  kind_is : kind_of (first_line text) ≡ accepted symmetric
  kind_is = ap (λ (k : List (List ℕ)). kind_of (first_of k)) g.lines ∙ kind_read symmetric

  sizes_are : sizes_in (data_of text) ≡ accepted stated
  sizes_are =
      ap sizes_in g.counted ∙ ap sizes_from g.sizes
      ∙ sizes_read m.rows (length (triplets symmetric m)) s.few (omega (arith, stated_few symmetric s w, s.short))

  entries_are : entries_from symmetric stated [] (lines_after (data_of text)) ≡ accepted (read_entries symmetric m)
  entries_are =
      ap (λ (k : List (List ℕ)). entries_from symmetric stated [] (lines_after k)) g.counted
      ∙ lines_read symmetric stated (triplets symmetric m) [] (all_placed symmetric s w) g.entries (omega arith) (λ r c h. read_once symmetric s r c h)

  matrix_is : matrix_from l.out (placed_matrix m.rows whole) ≡ accepted (with_positive_zeros m)
  matrix_is =
      let n : length whole ≡ m.entries = entries_read symmetric s w in
      ap (λ (b : Bool). ask b too_large (ask (leb (matrix_length m.rows (length whole)) l.out) store_too_small (accepted (placed_matrix m.rows whole))))
      (le-leb (length whole) 1048576 (omega (arith, s.short)))
      ∙ ap (λ (b : Bool). ask b store_too_small (accepted (placed_matrix m.rows whole)))
      (le-leb (matrix_length m.rows (length whole)) l.out (omega (arith, room.out)))
      ∙ ap accepted (matrix_read symmetric s w)

  -- A text in the grammar of a sound matrix is read as the matrix.
  file_read : file_of text l ≡ accepted (with_positive_zeros m)
  file_read =
      ap (λ (o : Outcome Bool). ◌>>=◌ o (after_kind text l)) kind_is
      ∙ ap (λ (o : Outcome Stated). ◌>>=◌ o (after_sizes text l symmetric)) sizes_are
      ∙ ap (λ (b : Bool). ask b store_too_small (◌>>=◌ (entries_from symmetric stated [] (lines_after (data_of text))) (λ es. matrix_from l.out (placed_matrix m.rows (expanded symmetric es))))) room.entries
      ∙ ap (λ (o : Outcome (List Entry)). ◌>>=◌ o (λ es. matrix_from l.out (placed_matrix m.rows (expanded symmetric es)))) entries_are
      ∙ matrix_is

-- Reading a text that was written of a record gives its matrix, zero signs apart, in both kinds.
pub written_read : (symmetric : Bool) (size : ℕ) (b text : List ℕ) (l : Slices) → write_file symmetric size b ≡ accepted text → FileRoom l symmetric (matrix_at b)
    → file_of text l ≡ accepted (with_positive_zeros (matrix_at b))
written_read symmetric size b text l e room =
    let p = (text_is symmetric size b text e).0 in
    file_read symmetric text l (record_sound symmetric b p) (record_writable symmetric b p) (written_in_grammar symmetric size b text e) room
