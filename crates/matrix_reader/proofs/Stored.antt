-- Entries in slices: what a store at the end, and a mirror, makes of them. Assumes nothing.
use mathlib.Core.Path.{◌≡◌, refl, sym, ap, ◌∙◌}
use mathlib.Core.Bool.{Bool, true, false, cond}
use mathlib.Core.List.{List, [], ◌∷◌, ◌++◌}
use Prim.Native.Nat.{ℕ, suc, ◌+◌, ◌≤◌, ◌<◌}
use native.Mathlib.Numerals.{add-one}
use native.Mathlib.Omega.{arith}
use lib.Dec.{eqb}
use lib.ListN.{length, take}
use lib.Seq.{take-suc-set, take-set-le, take-suc, take-take, get_or-take, length-take-le}
use lib.Ieee.{Float, nan}
use borrow.Author.Tests.{eq-eqb, ne_eqb}
use Rattle.store.specs.Region.{at, idx}
use Rattle.coordinate.specs.Coordinate.{Entry, mirrors_of, listed}
use Rattle.coordinate.specs.Contract.{entry_number}
use Rattle.matrix_reader.specs.Steps.{entries_to, PlaceFor, EntryPut, MirrorRoom, MirrorPut, MirrorsRoom, MirrorsPut}

pub listed_append : (R C : List ℕ) (F : List Float) (R' C' : List ℕ) (F' : List Float) → length C ≡ length R → length F ≡ length R
    → listed (R ++ R') (C ++ C') (F ++ F') ≡ listed R C F ++ listed R' C' F'
unfolding listed
listed_append [] [] [] R' C' F' c f = refl
listed_append [] [] (x ∷ F) R' C' F' c f = absurd (let e : suc (length F) ≡ 0 = f in omega arith)
listed_append [] (x ∷ C) F R' C' F' c f = absurd (let e : suc (length C) ≡ 0 = c in omega arith)
listed_append (r ∷ R) [] F R' C' F' c f = absurd (let e : 0 ≡ suc (length R) = c in omega arith)
listed_append (r ∷ R) (x ∷ C) [] R' C' F' c f = absurd (let e : 0 ≡ suc (length R) = f in omega arith)
listed_append (r ∷ R) (x ∷ C) (v ∷ F) R' C' F' c f = ap (λ (es : List Entry). record { row = r; column = x; value = v } ∷ es) (listed_append R C F R' C' F' (omega (arith, c)) (omega (arith, f)))

pub listed_length : (R C : List ℕ) (F : List Float) → length C ≡ length R → length F ≡ length R → length (listed R C F) ≡ length R
unfolding listed
listed_length [] C F c f = refl
listed_length (r ∷ R) [] F c f = absurd (let e : 0 ≡ suc (length R) = c in omega arith)
listed_length (r ∷ R) (x ∷ C) [] c f = absurd (let e : 0 ≡ suc (length R) = f in omega arith)
listed_length (r ∷ R) (x ∷ C) (v ∷ F) c f = ap suc (listed_length R C F (omega (arith, c)) (omega (arith, f)))

module _ (m : ℕ) (R C : List ℕ) (F : List Float) (r : m ≤ length R) (c : m ≤ length C) (f : m ≤ length F) where
  pub entries_length : length (entries_to m R C F) ≡ m
  unfolding entries_to
  entries_length =
      let a : length (take m R) ≡ m = length-take-le m R r in
      let b : length (take m C) ≡ m = length-take-le m C c in
      let d : length (take m F) ≡ m = length-take-le m F f in
      listed_length (take m R) (take m C) (take m F) (b ∙ sym a) (d ∙ sym a) ∙ a

  -- so many entries, and one more at the end of each list
  entries_snoc : (R' C' : List ℕ) (F' : List Float) (e : Entry) → take (suc m) R' ≡ take m R ++ (e.row ∷ []) → take (suc m) C' ≡ take m C ++ (e.column ∷ []) → take (suc m) F' ≡ take m F ++ (e.value ∷ [])
      → entries_to (m + 1) R' C' F' ≡ entries_to m R C F ++ (e ∷ [])
  unfolding entries_to listed
  entries_snoc R' C' F' e x y z =
      let a : length (take m R) ≡ m = length-take-le m R r in
      let b : length (take m C) ≡ m = length-take-le m C c in
      let d : length (take m F) ≡ m = length-take-le m F f in
      ap (λ (k : ℕ). listed (take k R') (take k C') (take k F')) (add-one m)
      ∙ ap (λ (l : List ℕ). listed l (take (suc m) C') (take (suc m) F')) x
      ∙ ap (λ (l : List ℕ). listed (take m R ++ (e.row ∷ [])) l (take (suc m) F')) y
      ∙ ap (λ (l : List Float). listed (take m R ++ (e.row ∷ [])) (take m C ++ (e.column ∷ [])) l) z
      ∙ listed_append (take m R) (take m C) (take m F) (e.row ∷ []) (e.column ∷ []) (e.value ∷ []) (b ∙ sym a) (d ∙ sym a)

pub no_entries : (R C : List ℕ) (F : List Float) → entries_to 0 R C F ≡ []
unfolding entries_to listed
no_entries R C F = refl

module _ {m : ℕ} {e : Entry} {R C : List ℕ} {F : List Float} {R' C' : List ℕ} {F' : List Float} (p : PlaceFor m R C F) (s : EntryPut m e R C F R' C' F') where
  -- a stored entry stands behind those before it
  pub entries_more : entries_to (m + 1) R' C' F' ≡ entries_to m R C F ++ (e ∷ [])
  entries_more =
      entries_snoc m R C F (omega (arith, p.rows)) (omega (arith, p.columns)) (omega (arith, p.values)) R' C' F' e
      (ap (take (suc m)) s.rows ∙ take-suc-set R m e.row p.rows)
      (ap (take (suc m)) s.columns ∙ take-suc-set C m e.column p.columns)
      (ap (take (suc m)) s.values ∙ take-suc-set F m e.value p.values)

  -- which stay
  pub entries_kept : entries_to m R' C' F' ≡ entries_to m R C F
  unfolding entries_to
  entries_kept =
      ap (λ (l : List ℕ). listed l (take m C') (take m F')) (ap (take m) s.rows ∙ take-set-le m R m e.row (omega arith))
      ∙ ap (λ (l : List ℕ). listed (take m R) l (take m F')) (ap (take m) s.columns ∙ take-set-le m C m e.column (omega arith))
      ∙ ap (λ (l : List Float). listed (take m R) (take m C) l) (ap (take m) s.values ∙ take-set-le m F m e.value (omega arith))

-- the entries up to k + 1 are those up to k and entry k
pub entries_next : (k : ℕ) (R C : List ℕ) (F : List Float) → PlaceFor k R C F → entries_to (k + 1) R C F ≡ entries_to k R C F ++ (entry_number R C F k ∷ [])
entries_next k R C F p =
    entries_snoc k R C F (omega (arith, p.rows)) (omega (arith, p.columns)) (omega (arith, p.values)) R C F (entry_number R C F k)
    (take-suc R k 0 p.rows) (take-suc C k 0 p.columns) (take-suc F k nan p.values)

-- ---- mirrors

pub mirrors_append : (es fs : List Entry) → mirrors_of (es ++ fs) ≡ mirrors_of es ++ mirrors_of fs
unfolding mirrors_of
mirrors_append [] fs = refl
mirrors_append (e ∷ es) fs = go (eqb e.row e.column) (mirrors_append es fs)
  where
    go : (t : Bool) → mirrors_of (es ++ fs) ≡ mirrors_of es ++ mirrors_of fs
        → cond t (mirrors_of (es ++ fs)) (record { row = e.column; column = e.row; value = e.value } ∷ mirrors_of (es ++ fs))
        ≡ cond t (mirrors_of es) (record { row = e.column; column = e.row; value = e.value } ∷ mirrors_of es) ++ mirrors_of fs
    go true on = on
    go false on = ap (λ (l : List Entry). record { row = e.column; column = e.row; value = e.value } ∷ l) on

append_none : (es : List Entry) → es ++ [] ≡ es
append_none [] = refl
append_none (e ∷ es) = ap (λ (l : List Entry). e ∷ l) (append_none es)

append_three : (es fs gs : List Entry) → (es ++ fs) ++ gs ≡ es ++ (fs ++ gs)
append_three [] fs gs = refl
append_three (e ∷ es) fs gs = ap (λ (l : List Entry). e ∷ l) (append_three es fs gs)

mirror_none : (e : Entry) → e.row ≡ e.column → mirrors_of (e ∷ []) ≡ []
unfolding mirrors_of
mirror_none e h = ap (λ (t : Bool). cond t [] (record { row = e.column; column = e.row; value = e.value } ∷ [])) (eq-eqb e.row e.column h)

mirror_one : (e : Entry) → (e.row ≡ e.column → ⊥) → mirrors_of (e ∷ []) ≡ record { row = e.column; column = e.row; value = e.value } ∷ []
unfolding mirrors_of
mirror_one e h = ap (λ (t : Bool). cond t [] (record { row = e.column; column = e.row; value = e.value } ∷ [])) (ne_eqb e.row e.column h)

-- an entry on the diagonal has no mirror
pub mirror_kept : (k total : ℕ) (R C : List ℕ) (F : List Float) → idx R k ≡ idx C k → MirrorPut k total R C F R C F total
mirror_kept k total R C F h = record {
  is = sym (append_none (entries_to total R C F)) ∙ ap (λ (l : List Entry). entries_to total R C F ++ l) (sym (mirror_none (entry_number R C F k) h));
  rows = refl;
  columns = refl;
  values = refl;
  low = omega arith;
  high = omega arith;
}

-- another entry's stands behind the others
pub mirror_put : (k total : ℕ) {R C : List ℕ} {F : List Float} {R' C' : List ℕ} {F' : List Float} → MirrorRoom k total R C F → (idx R k ≡ idx C k → ⊥)
    → EntryPut total (record { row = idx C k; column = idx R k; value = at F k }) R C F R' C' F' → MirrorPut k total R C F R' C' F' (total + 1)
mirror_put k total {R} {C} {F} o h s = record {
  is = entries_more o.place s ∙ ap (λ (l : List Entry). entries_to total R C F ++ l) (sym (mirror_one (entry_number R C F k) h));
  rows = ap (take total) s.rows ∙ take-set-le total R total (idx C k) (omega arith);
  columns = ap (take total) s.columns ∙ take-set-le total C total (idx R k) (omega arith);
  values = ap (take total) s.values ∙ take-set-le total F total (at F k) (omega arith);
  low = omega arith;
  high = omega arith;
}

-- The mirrors of the first k of m entries stand behind these.
pub record Mirroring (m : ℕ) (R₀ C₀ : List ℕ) (F₀ : List Float) (R C : List ℕ) (F : List Float) (k total : ℕ) : Type 0 where
  pub long_rows : length R ≡ length R₀
  pub long_columns : length C ≡ length C₀
  pub long_values : length F ≡ length F₀
  pub rows : take m R ≡ take m R₀
  pub columns : take m C ≡ take m C₀
  pub values : take m F ≡ take m F₀
  pub within : k ≤ m
  pub low : m ≤ total
  pub high : total ≤ m + k
  pub is : entries_to total R C F ≡ entries_to m R₀ C₀ F₀ ++ mirrors_of (entries_to k R₀ C₀ F₀)

pub mirroring_start : (m : ℕ) (R C : List ℕ) (F : List Float) → Mirroring m R C F R C F 0 m
unfolding mirrors_of
mirroring_start m R C F = record {
  long_rows = refl;
  long_columns = refl;
  long_values = refl;
  rows = refl;
  columns = refl;
  values = refl;
  within = omega arith;
  low = omega arith;
  high = omega arith;
  is = sym (append_none (entries_to m R C F)) ∙ ap (λ (l : List Entry). entries_to m R C F ++ mirrors_of l) (sym (no_entries R C F));
}

module _ {m : ℕ} {R₀ C₀ : List ℕ} {F₀ : List Float} {R C : List ℕ} {F : List Float} {k total : ℕ} (o : MirrorsRoom m R₀ C₀ F₀) (s : Mirroring m R₀ C₀ F₀ R C F k total) where
  pub mirroring_ok : k < m → MirrorRoom k total R C F
  mirroring_ok h = record {
    own = omega (arith, s.low);
    place = record {
      rows = omega (arith, s.high, s.long_rows, o.rows);
      columns = omega (arith, s.high, s.long_columns, o.columns);
      values = omega (arith, s.high, s.long_values, o.values);
    };
  }

  same_number : k < m → entry_number R C F k ≡ entry_number R₀ C₀ F₀ k
  same_number h =
      let a : idx R k ≡ idx R₀ k = sym (get_or-take m R k 0 h) ∙ ap (λ (l : List ℕ). idx l k) s.rows ∙ get_or-take m R₀ k 0 h in
      let b : idx C k ≡ idx C₀ k = sym (get_or-take m C k 0 h) ∙ ap (λ (l : List ℕ). idx l k) s.columns ∙ get_or-take m C₀ k 0 h in
      let c : at F k ≡ at F₀ k = sym (get_or-take m F k nan h) ∙ ap (λ (l : List Float). at l k) s.values ∙ get_or-take m F₀ k nan h in
      ap (λ (x : ℕ). record { row = x; column = idx C k; value = at F k }) a
      ∙ ap (λ (x : ℕ). record { row = idx R₀ k; column = x; value = at F k }) b
      ∙ ap (λ (x : Float). record { row = idx R₀ k; column = idx C₀ k; value = x }) c

  pub mirroring_on : {R' C' : List ℕ} {F' : List Float} {r : ℕ} → k < m → length R' ≡ length R → length C' ≡ length C → length F' ≡ length F → MirrorPut k total R C F R' C' F' r
      → Mirroring m R₀ C₀ F₀ R' C' F' (k + 1) r
  mirroring_on {R'} {C'} {F'} {r} h x y z p =
      let room : PlaceFor k R₀ C₀ F₀ = record { rows = omega (arith, o.rows); columns = omega (arith, o.columns); values = omega (arith, o.values) } in
      record {
        long_rows = x ∙ s.long_rows;
        long_columns = y ∙ s.long_columns;
        long_values = z ∙ s.long_values;
        rows = shorter R' R R₀ p.rows s.rows;
        columns = shorter C' C C₀ p.columns s.columns;
        values = shorter F' F F₀ p.values s.values;
        within = omega arith;
        low = omega (arith, p.low, s.low);
        high = omega (arith, p.high, s.high);
        is =
            p.is ∙ ap (λ (l : List Entry). l ++ mirrors_of (entry_number R C F k ∷ [])) s.is
            ∙ append_three (entries_to m R₀ C₀ F₀) (mirrors_of (entries_to k R₀ C₀ F₀)) (mirrors_of (entry_number R C F k ∷ []))
            ∙ ap (λ (l : List Entry). entries_to m R₀ C₀ F₀ ++ l)
            (ap (λ (e : Entry). mirrors_of (entries_to k R₀ C₀ F₀) ++ mirrors_of (e ∷ [])) (same_number h)
            ∙ sym (mirrors_append (entries_to k R₀ C₀ F₀) (entry_number R₀ C₀ F₀ k ∷ []))
            ∙ ap mirrors_of (sym (entries_next k R₀ C₀ F₀ room)));
      }
    where
      shorter : {A : Type 0} (l g f : List A) → take total l ≡ take total g → take m g ≡ take m f → take m l ≡ take m f
      shorter l g f a b = sym (take-take m total l s.low) ∙ ap (take m) a ∙ take-take m total g s.low ∙ b

  pub mirroring_done : m ≤ k → MirrorsPut m R₀ C₀ F₀ R C F total
  mirroring_done h =
      let e : k ≡ m = omega (arith, s.within) in
      record {
        is = s.is ∙ ap (λ (i : ℕ). entries_to m R₀ C₀ F₀ ++ mirrors_of (entries_to i R₀ C₀ F₀)) e;
        low = s.low;
        high = omega (arith, s.high);
      }
