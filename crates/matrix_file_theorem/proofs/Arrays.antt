-- The arrays of the matrix that is read: those of the matrix that was written, with +0 for -0. Assumes nothing.
use mathlib.Core.Path.{◌≡◌, refl, sym, ap, ◌∙◌}
use mathlib.Core.Bool.{Bool, true, false, cond}
use mathlib.Core.List.{List, [], ◌∷◌, ◌++◌, map}
use Prim.Native.Nat.{ℕ, zero, suc, ◌+◌, ◌≤◌, ◌<◌}
use native.Mathlib.Numerals.{add-one}
use native.Mathlib.Omega.{arith}
use lib.Dec.{T, eqb}
use lib.ListN.{length, length-append, length-map}
use lib.Ieee.{Float, nan, binary64, fits}
use Rattle.store.specs.Region.{idx, at}
use Rattle.store.specs.Vector.{tab}
use Rattle.store.proofs.store.Vector.{length_tab, tab_same, tab_get_d}
use Rattle.coordinate.specs.Coordinate.{Entry, entries_there, joined, row_entries, by_place, row_starts, placed_columns, placed_values, mirrors_of, expanded, listed}
use Rattle.coordinate.proofs.Lists.{joined_same}
use Rattle.coordinate.proofs.Lists as lists
use Rattle.coordinate.proofs.Laws.{placed_length}
use Rattle.record_format.specs.Format.{Matrix}
use Rattle.matrix_reader.specs.File.{placed_matrix}
use Rattle.matrix_writer.specs.Text.{Triplet, triplet_at, row_length, is_written, written_at, row_triplets, triplets}
use Rattle.matrix_writer.specs.Text as text
use Rattle.matrix_writer.specs.Writing.{writable}
use Rattle.matrix_file_theorem.specs.Theorem.{positive_zero, with_positive_zeros}
use Rattle.matrix_file_theorem.proofs.Joined.{rising_places, tab_append, map_tab}
use Rattle.matrix_file_theorem.proofs.Rows.{row_column, SoundMatrix, WritableMatrix, entry_in_lem, column_below, columns_rise, as_read, read_entries, row_entry, entry_there, read_there}

-- ---- what holds of each of a list

pub data All {A : Type 0} (P : A → Type 0) : List A → Type 0 where
  none : All P []
  more : {x : A} {l : List A} → P x → All P l → All P (x ∷ l)

module _ {A : Type 0} {P : A → Type 0} where
  all_append : {l k : List A} → All P l → All P k → All P (l ++ k)
  all_append All.none b = b
  all_append (All.more p a) b = All.more p (all_append a b)

  all_joined : (f : ℕ → List A) (n : ℕ) → ((i : ℕ) → i < n → All P (f i)) → All P (text.joined f n)
  unfolding text.joined
  all_joined f zero h = All.none
  all_joined f (suc n) h = all_append (all_joined f n (λ i l. h i (omega arith))) (h n (omega arith))

  all_cond : (b : Bool) (x : A) → (b ≡ true → P x) → All P (cond b (x ∷ []) [])
  all_cond true x p = All.more (p refl) All.none
  all_cond false x p = All.none

all_map : {A B : Type 0} {P : A → Type 0} {Q : B → Type 0} (h : A → B) → ((x : A) → P x → Q (h x)) → {l : List A} → All P l → All Q (map h l)
all_map h f All.none = All.none
all_map h f (All.more {x} p a) = All.more (f x p) (all_map h f a)

-- An entry that is written: its places are below the rows, in a symmetric file it is on or below the diagonal, and its value can be written.
pub record PlacedTriplet (symmetric : Bool) (n : ℕ) (t : Triplet) : Type 0 where
  pub row : t.row < n
  pub column : t.column < n
  pub lower : is_written symmetric t.row t.column ≡ true
  pub value : writable t.value ≡ true
  pub fit : T (fits binary64 t.value)

-- Each that is written is such.
pub all_placed : (symmetric : Bool) {m : Matrix} → SoundMatrix m → WritableMatrix symmetric m → All (PlacedTriplet symmetric m.rows) (triplets symmetric m)
unfolding triplets row_triplets written_at
all_placed symmetric {m} s w =
    all_joined (row_triplets symmetric m) m.rows
    (λ r h. all_joined (λ k. written_at symmetric m r (idx m.offsets r + k)) (row_length m r)
    (λ k l. all_cond (is_written symmetric r (row_column m r k)) (triplet_at m r (idx m.offsets r + k))
    (λ t. record {
      row = h;
      column = column_below s r h k l;
      lower = t;
      value = w.value r k h l;
      fit = s.fit (idx m.offsets r + k) (entry_in_lem s r k h l);
    })))

-- ---- how many entries

record Inside (n : ℕ) (e : Entry) : Type 0 where
  row : e.row < n
  column : e.column < n

inside_mirrors : {n : ℕ} {es : List Entry} → All (Inside n) es → All (Inside n) (mirrors_of es)
unfolding mirrors_of
inside_mirrors All.none = All.none
inside_mirrors {n} (All.more {x = e} {l = es} p a) = go (eqb e.row e.column) (inside_mirrors a)
  where
    go : (t : Bool) → All (Inside n) (mirrors_of es) → All (Inside n) (cond t (mirrors_of es) (record { row = e.column; column = e.row; value = e.value } ∷ mirrors_of es))
    go true on = on
    go false on = All.more (record { row = p.column; column = p.row }) on

inside_row : {n : ℕ} {es : List Entry} → All (Inside n) es → (k : ℕ) → k < length (map (λ (e : Entry). e.row) es) → idx (map (λ (e : Entry). e.row) es) k < n
inside_row All.none k h = absurd (omega arith)
inside_row (All.more p a) zero h = p.row
inside_row (All.more p a) (suc k) h = inside_row a k (omega arith)

inside_column : {n : ℕ} {es : List Entry} → All (Inside n) es → (k : ℕ) → k < length (map (λ (e : Entry). e.row) es) → idx (map (λ (e : Entry). e.column) es) k < n
inside_column All.none k h = absurd (omega arith)
inside_column (All.more p a) zero h = p.column
inside_column (All.more p a) (suc k) h = inside_column a k (omega arith)

listed_self : (es : List Entry) → listed (map (λ (e : Entry). e.row) es) (map (λ (e : Entry). e.column) es) (map (λ (e : Entry). e.value) es) ≡ es
unfolding listed
listed_self [] = refl
listed_self (e ∷ es) = ap (λ (l : List Entry). e ∷ l) (listed_self es)

-- Entries with places below n are as many by place.
inside_length : (n : ℕ) (es : List Entry) → All (Inside n) es → length (by_place n es) ≡ length es
inside_length n es a =
    let R = map (λ (e : Entry). e.row) es in
    let C = map (λ (e : Entry). e.column) es in
    let values = map (λ (e : Entry). e.value) es in
    let r : length R ≡ length es = length-map es (λ (e : Entry). e.row) in
    let c : length C ≡ length es = length-map es (λ (e : Entry). e.column) in
    let v : length values ≡ length es = length-map es (λ (e : Entry). e.value) in
    sym (ap (λ (l : List Entry). length (by_place n l)) (listed_self es))
    ∙ placed_length n R C values (c ∙ sym r) (v ∙ sym r) (inside_row a) (inside_column a)
    ∙ r

-- ---- the arrays

module _ (symmetric : Bool) {m : Matrix} (s : SoundMatrix m) (w : WritableMatrix symmetric m) where
  -- what is read, with its mirrors
  abbrev whole : List Entry
  whole = expanded symmetric (read_entries symmetric m)

  row_placed_lem : (r : ℕ) → r < m.rows → row_entries m.rows whole r ≡ tab (row_entry m r) (row_length m r)
  row_placed_lem r h =
      joined_same (λ c. entries_there r c whole) (entry_there m r) m.rows (λ c g. read_there symmetric s w r c h g)
      ∙ rising_places (row_column m r) (row_entry m r) (row_length m r) m.rows (columns_rise s r h) (column_below s r h)

  spans : {A : Type 0} (g : ℕ → A) (i : ℕ) → i ≤ m.rows
      → joined (λ r. tab (λ k. g (idx m.offsets r + k)) (row_length m r)) i ≡ tab g (idx m.offsets i)
  unfolding joined tab
  spans g zero h = ap (tab g) (sym s.first)
  spans {A} g (suc i) h =
      let o = s.order i (omega arith) in
      let e : idx m.offsets (i + 1) ≡ idx m.offsets (suc i) = ap (idx m.offsets) (add-one i) in
      let z : idx m.offsets i + row_length m i ≡ idx m.offsets (suc i) = omega arith in
      ap (λ (l : List A). l ++ tab (λ k. g (idx m.offsets i + k)) (row_length m i)) (spans g i (omega arith))
      ∙ tab_append g (idx m.offsets i) (row_length m i)
      ∙ ap (tab g) z

  placed_map : {B : Type 0} (f : Entry → B) (g : ℕ → B) → ((r k : ℕ) → f (row_entry m r k) ≡ g (idx m.offsets r + k)) → (i : ℕ) → i ≤ m.rows
      → map f (joined (row_entries m.rows whole) i) ≡ tab g (idx m.offsets i)
  placed_map {B} f g e i h =
      lists.map_joined f (row_entries m.rows whole) i
      ∙ joined_same (λ r. map f (row_entries m.rows whole r)) (λ r. tab (λ k. g (idx m.offsets r + k)) (row_length m r)) i
      (λ r l.
      ap (map f) (row_placed_lem r (omega arith))
      ∙ map_tab f (row_entry m r) (row_length m r)
      ∙ tab_same (λ k. f (row_entry m r k)) (λ k. g (idx m.offsets r + k)) (row_length m r) (λ k q. e r k))
      ∙ spans g i h

  start_is : (i : ℕ) → i ≤ m.rows → length (joined (row_entries m.rows whole) i) ≡ idx m.offsets i
  start_is i h =
      sym (length-map (joined (row_entries m.rows whole) i) (λ (e : Entry). e.column))
      ∙ ap (λ (l : List ℕ). length l) (placed_map (λ (e : Entry). e.column) (idx m.columns) (λ r k. refl) i h)
      ∙ length_tab (idx m.columns) (idx m.offsets i)

  -- Rows start where they did,
  pub starts_read : row_starts m.rows whole ≡ m.offsets
  starts_read =
      tab_same (λ r. length (joined (row_entries m.rows whole) r)) (idx m.offsets) (m.rows + 1) (λ r l. start_is r (omega arith))
      ∙ tab_get_d 0 m.offsets (m.rows + 1) s.size

  -- the columns are the same,
  pub columns_read : placed_columns m.rows whole ≡ m.columns
  columns_read =
      placed_map (λ (e : Entry). e.column) (idx m.columns) (λ r k. refl) m.rows (omega arith)
      ∙ ap (tab (idx m.columns)) s.last ∙ tab_get_d 0 m.columns m.entries s.counted

  -- and so are the values, with +0 for -0,
  pub values_read : placed_values m.rows whole ≡ map positive_zero m.values
  values_read =
      placed_map (λ (e : Entry). e.value) (λ e. positive_zero (at m.values e)) (λ r k. refl) m.rows (omega arith)
      ∙ ap (tab (λ e. positive_zero (at m.values e))) s.last
      ∙ sym (map_tab positive_zero (λ e. at m.values e) m.entries)
      ∙ ap (map positive_zero) (tab_get_d nan m.values m.entries s.valued)

  inside_read : All (Inside m.rows) (read_entries symmetric m)
  inside_read = all_map as_read (λ t p. record { row = p.row; column = p.column }) (all_placed symmetric s w)

  inside_whole : (b : Bool) (es : List Entry) → All (Inside m.rows) es → All (Inside m.rows) (expanded b es)
  inside_whole true es a = all_append a (inside_mirrors a)
  inside_whole false es a = a

  -- as many as there were.
  pub entries_read : length whole ≡ m.entries
  entries_read =
      sym (inside_length m.rows whole (inside_whole symmetric (read_entries symmetric m) inside_read))
      ∙ start_is m.rows (omega arith) ∙ s.last

  -- The file states no more than that.
  pub stated_few : length (triplets symmetric m) ≤ m.entries
  stated_few =
      let a : length (read_entries symmetric m) ≡ length (triplets symmetric m) = length-map (triplets symmetric m) as_read in
      let b = entries_read in
      let c = no_fewer symmetric (read_entries symmetric m) in
      omega arith
    where
      no_fewer : (b : Bool) (es : List Entry) → length es ≤ length (expanded b es)
      no_fewer true es = let a = length-append es (mirrors_of es) in omega arith
      no_fewer false es = omega arith

  -- The matrix that is read is the matrix, with +0 for -0.
  pub matrix_read : placed_matrix m.rows whole ≡ with_positive_zeros m
  matrix_read =
      ap (λ (n : ℕ). record { rows = m.rows; entries = n; offsets = row_starts m.rows whole; columns = placed_columns m.rows whole; values = placed_values m.rows whole }) entries_read
      ∙ ap (λ (l : List ℕ). record { rows = m.rows; entries = m.entries; offsets = l; columns = placed_columns m.rows whole; values = placed_values m.rows whole }) starts_read
      ∙ ap (λ (l : List ℕ). record { rows = m.rows; entries = m.entries; offsets = m.offsets; columns = l; values = placed_values m.rows whole }) columns_read
      ∙ ap (λ (l : List Float). record { rows = m.rows; entries = m.entries; offsets = m.offsets; columns = m.columns; values = l }) values_read
