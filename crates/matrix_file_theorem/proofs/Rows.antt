-- The entries that are read of a matrix's file, with their mirrors, are by place the entries of the matrix. Assumes nothing.
use mathlib.Core.Path.{◌≡◌, refl, sym, ap, ◌∙◌}
use mathlib.Core.Bool.{Bool, true, false, cond, ◌&&◌}
use mathlib.Core.List.{List, [], ◌∷◌, ◌++◌, map, append-nil}
use mathlib.Core.Logic.{◌⊎◌, inl, inr, ⊎_elim}
use Prim.Native.Nat.{ℕ, zero, suc, ◌+◌, ◌-◌, ◌≤◌, ◌<◌}
use native.Mathlib.Omega.{arith}
use lib.Dec.{T, eqb, leb}
use lib.ListN.{length}
use lib.Ieee.{Float, binary64, fits, eq}
use borrow.Author.Tests.{eqb-true, eq-eqb, le-leb, leb-true}
use Rattle.store.specs.Region.{idx, at}
use Rattle.store.proofs.store.Region.{le_or_lt}
use Rattle.store.proofs.store.Each.{both_l, both_r}
use Rattle.pattern.specs.Pattern.{some}
use Rattle.pattern.proofs.pattern.Number.{some_at, some_which}
use Rattle.coordinate.specs.Coordinate.{Entry, is_at, entries_there, joined, mirrors_of, expanded}
use Rattle.coordinate.proofs.Lists.{picks, picks_none, picks_one, joined_same, fails, bool?, not_both, same?}
use Rattle.record_format.specs.Format.{Matrix}
use Rattle.matrix_writer.specs.Text.{Triplet, triplet_at, row_length, is_written, written_at, row_triplets, triplets}
use Rattle.matrix_writer.specs.Writing.{writable, mirrors, mirror_in}
use Rattle.matrix_file_theorem.specs.Theorem.{positive_zero}
use Rattle.matrix_file_theorem.proofs.Values.{equal_values}
use Rattle.matrix_file_theorem.proofs.Joined.{map_joined, picks_joined, joined_one, picks_same, picks_few, there_append, there_joined, there_picks}

-- ---- what is known of a matrix

-- the column of entry k of row r
abbrev pub row_column : Matrix → ℕ → ℕ → ℕ
row_column m r k = idx m.columns (idx m.offsets r + k)

-- the value of entry k of row r
abbrev pub row_value : Matrix → ℕ → ℕ → Float
row_value m r k = at m.values (idx m.offsets r + k)

-- A matrix that passed questions 1 to 3, and whose values are of 64 bits.
pub record SoundMatrix (m : Matrix) : Type 0 where
  pub few : m.rows ≤ 65536
  pub short : m.entries ≤ 1048576
  pub size : length m.offsets ≡ m.rows + 1
  pub first : idx m.offsets 0 ≡ 0
  pub order : (r : ℕ) → r < m.rows → idx m.offsets r ≤ idx m.offsets (r + 1)
  pub last : idx m.offsets m.rows ≡ m.entries
  pub counted : length m.columns ≡ m.entries
  pub valued : length m.values ≡ m.entries
  pub inside : (r e : ℕ) → r < m.rows → idx m.offsets r ≤ e → e < idx m.offsets (r + 1) → idx m.columns e < m.rows
  pub rising : (r e : ℕ) → r < m.rows → idx m.offsets r ≤ e → e + 1 < idx m.offsets (r + 1) → idx m.columns e < idx m.columns (e + 1)
  pub fit : (e : ℕ) → e < m.entries → T (fits binary64 (at m.values e))

-- A matrix whose entries can be written, and in a symmetric file have their mirrors.
pub record WritableMatrix (symmetric : Bool) (m : Matrix) : Type 0 where
  pub value : (r k : ℕ) → r < m.rows → k < row_length m r → writable (row_value m r k) ≡ true
  pub mirror : symmetric ≡ true → (r k : ℕ) → r < m.rows → k < row_length m r → mirror_in m r (idx m.offsets r + k) (row_column m r k) ≡ true

module _ {m : Matrix} (s : SoundMatrix m) where
  offsets_order : (d r : ℕ) → r + d ≤ m.rows → idx m.offsets r ≤ idx m.offsets (r + d)
  offsets_order zero r h = let z : r + 0 ≡ r = omega arith in rw z (omega arith)
  offsets_order (suc d) r h =
      let a = offsets_order d r (omega arith) in
      let b = s.order (r + d) (omega arith) in
      let z : r + suc d ≡ r + d + 1 = omega arith in
      rw z (omega arith)

  -- No entry of a row is behind the last.
  pub entry_in_lem : (r k : ℕ) → r < m.rows → k < row_length m r → idx m.offsets r + k < m.entries
  entry_in_lem r k h l =
      let a = offsets_order (m.rows - (r + 1)) (r + 1) (omega arith) in
      let z : r + 1 + (m.rows - (r + 1)) ≡ m.rows = omega arith in
      let b : idx m.offsets (r + 1) ≤ idx m.offsets m.rows = rw z at a in
      let c = s.last in
      omega arith

  module _ (r : ℕ) (h : r < m.rows) where
    pub column_below : (k : ℕ) → k < row_length m r → row_column m r k < m.rows
    column_below k l = s.inside r (idx m.offsets r + k) h (omega arith) (omega arith)

    rises_to : (n e : ℕ) → idx m.offsets r ≤ e → e + suc n < idx m.offsets (r + 1) → idx m.columns e < idx m.columns (e + suc n)
    rises_to zero e lo hi = s.rising r e h lo hi
    rises_to (suc n) e lo hi =
        let a : idx m.columns e < idx m.columns (e + 1) = s.rising r e h lo (omega arith) in
        let b : idx m.columns (e + 1) < idx m.columns (e + 1 + suc n) = rises_to n (e + 1) (omega arith) (omega arith) in
        let z : e + suc (suc n) ≡ e + 1 + suc n = omega arith in
        rw z (omega arith)

    -- A later column of a row is larger.
    pub columns_rise : (j k : ℕ) → j < k → k < row_length m r → row_column m r j < row_column m r k
    columns_rise j k l q =
        let z : idx m.offsets r + j + suc (k - j - 1) ≡ idx m.offsets r + k = omega arith in
        rw z at (rises_to (k - j - 1) (idx m.offsets r + j) (omega arith) (omega arith))

    -- A column stands in a row once.
    pub column_once : (c j k : ℕ) → j < row_length m r → k < row_length m r → row_column m r j ≡ c → row_column m r k ≡ c → j ≡ k
    column_once c j k p q e f = ⊎_elim
        (λ (w : j ≤ k). ⊎_elim
        (λ (v : k ≤ j). let z : j ≡ k = omega arith in z)
        (λ (v : j < k). let a = columns_rise j k v q in absurd (omega arith))
        (le_or_lt k j))
        (λ (w : k < j). let a = columns_rise k j w p in absurd (omega arith))
        (le_or_lt j k)

-- ---- the entries that are read

-- an entry as it is read
abbrev pub as_read : Triplet → Entry
as_read t = record { row = t.row; column = t.column; value = positive_zero t.value }

-- the entries that are read
abbrev pub read_entries : Bool → Matrix → List Entry
read_entries symmetric m = map as_read (triplets symmetric m)

-- entry k of row r as it is read
abbrev pub row_entry : Matrix → ℕ → ℕ → Entry
row_entry m r k = as_read (triplet_at m r (idx m.offsets r + k))

-- those of row r that are written
abbrev row_read : Bool → Matrix → ℕ → List Entry
row_read symmetric m r = picks (λ k. is_written symmetric r (row_column m r k)) (row_entry m r) (row_length m r)

-- the entry of the matrix at (r, c), or none
abbrev pub entry_there : Matrix → ℕ → ℕ → List Entry
entry_there m r c = picks (λ k. eqb (row_column m r k) c) (row_entry m r) (row_length m r)

row_read_lem : (symmetric : Bool) (m : Matrix) (r : ℕ) → map as_read (row_triplets symmetric m r) ≡ row_read symmetric m r
unfolding row_triplets written_at
row_read_lem symmetric m r =
    picks_joined as_read (λ k. is_written symmetric r (row_column m r k)) (λ k. triplet_at m r (idx m.offsets r + k)) (row_length m r)

rows_read : (symmetric : Bool) (m : Matrix) → read_entries symmetric m ≡ joined (row_read symmetric m) m.rows
unfolding triplets
rows_read symmetric m =
    map_joined as_read (row_triplets symmetric m) m.rows
    ∙ joined_same (λ r. map as_read (row_triplets symmetric m r)) (row_read symmetric m) m.rows (λ r h. row_read_lem symmetric m r)

-- those at (r, c)
abbrev written_there : Bool → Matrix → ℕ → ℕ → List Entry
written_there symmetric m r c = picks (λ k. is_written symmetric r (row_column m r k) && eqb (row_column m r k) c) (row_entry m r) (row_length m r)

there_written : (symmetric : Bool) (m : Matrix) (r c : ℕ) → r < m.rows → entries_there r c (read_entries symmetric m) ≡ written_there symmetric m r c
there_written symmetric m r c h =
    ap (entries_there r c) (rows_read symmetric m)
    ∙ there_joined r c (row_read symmetric m) m.rows
    ∙ joined_one (λ i. entries_there r c (row_read symmetric m i)) m.rows r h
    (λ i l d.
    there_picks r c (λ k. is_written symmetric i (row_column m i k)) (row_entry m i) (row_length m i)
    ∙ picks_none (λ k. is_written symmetric i (row_column m i k) && is_at r c (row_entry m i k)) (row_entry m i) (row_length m i)
    (λ k q t. d (eqb-true i r (both_l (eqb i r) (eqb (row_column m i k) c) (both_r (is_written symmetric i (row_column m i k)) (is_at r c (row_entry m i k)) t)))))
    ∙ there_picks r c (λ k. is_written symmetric r (row_column m r k)) (row_entry m r) (row_length m r)
    ∙ picks_same (λ k. is_written symmetric r (row_column m r k) && is_at r c (row_entry m r k))
    (λ k. is_written symmetric r (row_column m r k) && eqb (row_column m r k) c) (row_entry m r) (row_length m r)
    (λ k q. ap (λ (b : Bool). is_written symmetric r (row_column m r k) && (b && eqb (row_column m r k) c)) (eq-eqb r r refl))

-- Of those that are read, one at most is at (r, c).
pub read_once : (symmetric : Bool) {m : Matrix} → SoundMatrix m → (r c : ℕ) → r < m.rows → length (entries_there r c (read_entries symmetric m)) ≤ 1
read_once symmetric {m} s r c h =
    rw (there_written symmetric m r c h)
    (picks_few (λ k. is_written symmetric r (row_column m r k) && eqb (row_column m r k) c) (row_entry m r) (row_length m r)
    (λ j k l q t u.
    let a = eqb-true (row_column m r j) c (both_r (is_written symmetric r (row_column m r j)) (eqb (row_column m r j) c) t) in
    let b = eqb-true (row_column m r k) c (both_r (is_written symmetric r (row_column m r k)) (eqb (row_column m r k) c) u) in
    let d = columns_rise s r h j k l q in
    omega arith))

-- ---- mirrors

-- an entry at the mirrored place
abbrev mirrored : Entry → Entry
mirrored e = record { row = e.column; column = e.row; value = e.value }

turned : (a b : Bool) → (a && b) ≡ (b && a)
turned true true = refl
turned true false = refl
turned false true = refl
turned false false = refl

mirrors_there : (r c : ℕ) → (r ≡ c → ⊥) → (es : List Entry) → entries_there r c (mirrors_of es) ≡ map mirrored (entries_there c r es)
unfolding mirrors_of entries_there
mirrors_there r c d [] = refl
mirrors_there r c d (e ∷ es) = go (eqb e.row e.column) refl (mirrors_there r c d es)
  where
    pick : (b : Bool) → entries_there r c (mirrors_of es) ≡ map mirrored (entries_there c r es)
        → cond b (mirrored e ∷ entries_there r c (mirrors_of es)) (entries_there r c (mirrors_of es)) ≡ map mirrored (cond b (e ∷ entries_there c r es) (entries_there c r es))
    pick true on = ap (λ (l : List Entry). mirrored e ∷ l) on
    pick false on = on

    off : e.row ≡ e.column → is_at c r e ≡ true → ⊥
    off x t = d (sym (eqb-true e.column r (both_r (eqb e.row c) (eqb e.column r) t)) ∙ sym x ∙ eqb-true e.row c (both_l (eqb e.row c) (eqb e.column r) t))

    go : (t : Bool) → eqb e.row e.column ≡ t → entries_there r c (mirrors_of es) ≡ map mirrored (entries_there c r es)
        → entries_there r c (cond t (mirrors_of es) (mirrored e ∷ mirrors_of es)) ≡ map mirrored (cond (is_at c r e) (e ∷ entries_there c r es) (entries_there c r es))
    go true x on =
        on ∙ ap (λ (b : Bool). map mirrored (cond b (e ∷ entries_there c r es) (entries_there c r es))) (sym (fails (is_at c r e) (off (eqb-true e.row e.column x))))
    go false x on =
        ap (λ (b : Bool). cond b (mirrored e ∷ entries_there r c (mirrors_of es)) (entries_there r c (mirrors_of es))) (turned (eqb e.column r) (eqb e.row c))
        ∙ pick (is_at c r e) on

mirrors_diagonal : (r : ℕ) (es : List Entry) → entries_there r r (mirrors_of es) ≡ []
unfolding mirrors_of entries_there
mirrors_diagonal r [] = refl
mirrors_diagonal r (e ∷ es) = go (eqb e.row e.column) refl (mirrors_diagonal r es)
  where
    off : eqb e.row e.column ≡ false → (eqb e.column r && eqb e.row r) ≡ true → ⊥
    off x t =
        not_both (eq-eqb e.row e.column
        (eqb-true e.row r (both_r (eqb e.column r) (eqb e.row r) t) ∙ sym (eqb-true e.column r (both_l (eqb e.column r) (eqb e.row r) t)))) x

    go : (t : Bool) → eqb e.row e.column ≡ t → entries_there r r (mirrors_of es) ≡ []
        → entries_there r r (cond t (mirrors_of es) (mirrored e ∷ mirrors_of es)) ≡ []
    go true x on = on
    go false x on =
        ap (λ (b : Bool). cond b (mirrored e ∷ entries_there r r (mirrors_of es)) (entries_there r r (mirrors_of es))) (fails (eqb e.column r && eqb e.row r) (off x)) ∙ on

-- ---- the lower triangle and its mirrors

module _ {m : Matrix} (s : SoundMatrix m) (r c : ℕ) (h : r < m.rows) where
  lower_none : r < c → entries_there r c (read_entries true m) ≡ []
  lower_none l =
      there_written true m r c h
      ∙ picks_none (λ k. leb (row_column m r k) r && eqb (row_column m r k) c) (row_entry m r) (row_length m r)
      (λ k q t.
      let a = leb-true (row_column m r k) r (both_l (leb (row_column m r k) r) (eqb (row_column m r k) c) t) in
      let b = eqb-true (row_column m r k) c (both_r (leb (row_column m r k) r) (eqb (row_column m r k) c) t) in
      omega arith)

  lower_here : c ≤ r → entries_there r c (read_entries true m) ≡ entry_there m r c
  lower_here l =
      there_written true m r c h
      ∙ picks_same (λ k. leb (row_column m r k) r && eqb (row_column m r k) c) (λ k. eqb (row_column m r k) c) (row_entry m r) (row_length m r)
      (λ k q. same_test (row_column m r k) (bool? (eqb (row_column m r k) c)))
    where
      same_test : (x : ℕ) → (eqb x c ≡ true) ⊎ (eqb x c ≡ false) → (leb x r && eqb x c) ≡ eqb x c
      same_test x (inl t) = let e = eqb-true x c t in ap (λ (b : Bool). b && eqb x c) (le-leb x r (omega arith))
      same_test x (inr f) = ap (λ (b : Bool). leb x r && b) f ∙ turned (leb x r) false ∙ sym f

module _ {m : Matrix} (s : SoundMatrix m) (w : WritableMatrix true m) where
  -- the mirror of an entry
  mirror_of_lem : (r c k : ℕ) → r < m.rows → c < m.rows → k < row_length m r → row_column m r k ≡ c
      → (j : ℕ) × (j < row_length m c) × (row_column m c j ≡ r) × (positive_zero (row_value m c j) ≡ positive_zero (row_value m r k))
  unfolding mirror_in mirrors
  mirror_of_lem r c k h g l e =
      let a : mirror_in m r (idx m.offsets r + k) c ≡ true = rw e at (w.mirror refl r k h l) in
      let v = some_which (λ j. mirrors m r (idx m.offsets r + k) (idx m.offsets c + j)) (row_length m c) a in
      let j = v.0 in
      let t = v.2 in
      let x = both_l (eqb (row_column m c j) r) (eq (row_value m c j) (row_value m r k)) t in
      let y = both_r (eqb (row_column m c j) r) (eq (row_value m c j) (row_value m r k)) t in (
        j,
        v.1,
        eqb-true (row_column m c j) r x,
        equal_values (row_value m c j) (row_value m r k) (s.fit (idx m.offsets c + j) (entry_in_lem s c j g v.1)) (s.fit (idx m.offsets r + k) (entry_in_lem s r k h l)) y,
      )

  one_there : (r c k : ℕ) → r < m.rows → k < row_length m r → row_column m r k ≡ c → entry_there m r c ≡ row_entry m r k ∷ []
  one_there r c k h l e =
      picks_one (λ j. eqb (row_column m r j) c) (row_entry m r) (row_length m r) k l (eq-eqb (row_column m r k) c e)
      (λ j q t. column_once s r h c j k q l (eqb-true (row_column m r j) c t) e)

  mirror_there : (r c : ℕ) → r < m.rows → c < m.rows → map mirrored (entry_there m c r) ≡ entry_there m r c
  mirror_there r c h g = ⊎_elim
      (λ (t : some (λ k. eqb (row_column m r k) c) (row_length m r) ≡ true).
      let v = some_which (λ k. eqb (row_column m r k) c) (row_length m r) t in
      let k = v.0 in
      let e = eqb-true (row_column m r k) c v.2 in
      let u = mirror_of_lem r c k h g v.1 e in
      ap (map mirrored) (one_there c r u.0 g u.1 u.2)
      ∙ ap (λ (x : ℕ). record { row = x; column = c; value = positive_zero (row_value m c u.0) } ∷ []) u.2
      ∙ ap (λ (x : ℕ). record { row = r; column = x; value = positive_zero (row_value m c u.0) } ∷ []) (sym e)
      ∙ ap (λ (x : Float). record { row = r; column = row_column m r k; value = x } ∷ []) u.3
      ∙ sym (one_there r c k h v.1 e))
      (λ (f : some (λ k. eqb (row_column m r k) c) (row_length m r) ≡ false).
      let a : entry_there m c r ≡ [] = picks_none (λ k. eqb (row_column m c k) r) (row_entry m c) (row_length m c)
      (λ k l t.
      let u = mirror_of_lem c r k g h l (eqb-true (row_column m c k) r t) in
      not_both (some_at (λ j. eqb (row_column m r j) c) (row_length m r) u.0 u.1 (eq-eqb (row_column m r u.0) c u.2)) f) in
      let b : entry_there m r c ≡ [] = picks_none (λ k. eqb (row_column m r k) c) (row_entry m r) (row_length m r)
      (λ k l t. not_both (some_at (λ j. eqb (row_column m r j) c) (row_length m r) k l t) f) in
      ap (map mirrored) a ∙ sym b)
      (bool? (some (λ k. eqb (row_column m r k) c) (row_length m r)))

  symmetric_there : (r c : ℕ) → r < m.rows → c < m.rows → entries_there r c (expanded true (read_entries true m)) ≡ entry_there m r c
  symmetric_there r c h g =
      there_append r c (read_entries true m) (mirrors_of (read_entries true m))
      ∙ ⊎_elim
      (λ (l : c ≤ r).
      ap (λ (k : List Entry). k ++ entries_there r c (mirrors_of (read_entries true m))) (lower_here s r c h l)
      ∙ ap (λ (k : List Entry). entry_there m r c ++ k) (upper r c h g l)
      ∙ append-nil (entry_there m r c))
      (λ (l : r < c).
      ap (λ (k : List Entry). k ++ entries_there r c (mirrors_of (read_entries true m))) (lower_none s r c h l)
      ∙ mirrors_there r c (λ e. omega arith) (read_entries true m)
      ∙ ap (map mirrored) (lower_here s c r g (omega arith))
      ∙ mirror_there r c h g)
      (le_or_lt c r)
    where
      upper : (r c : ℕ) → r < m.rows → c < m.rows → c ≤ r → entries_there r c (mirrors_of (read_entries true m)) ≡ []
      upper r c h g l = ⊎_elim
          (λ (e : r ≡ c). ap (λ (k : ℕ). entries_there r k (mirrors_of (read_entries true m))) (sym e) ∙ mirrors_diagonal r (read_entries true m))
          (λ (d : r ≡ c → ⊥). mirrors_there r c d (read_entries true m) ∙ ap (map mirrored) (lower_none s c r g (under r c d l)))
          (same? r c)
        where
          under : (r c : ℕ) → (r ≡ c → ⊥) → c ≤ r → c < r
          under r c d l = ⊎_elim (λ (w : r ≤ c). absurd (d (omega arith))) (λ (w : c < r). w) (le_or_lt r c)

-- What is read, with its mirrors, has at each place what the matrix has there.
pub read_there : (symmetric : Bool) {m : Matrix} → SoundMatrix m → WritableMatrix symmetric m → (r c : ℕ) → r < m.rows → c < m.rows
    → entries_there r c (expanded symmetric (read_entries symmetric m)) ≡ entry_there m r c
read_there true s w r c h g = symmetric_there s w r c h g
read_there false {m} s w r c h g = there_written false m r c h
