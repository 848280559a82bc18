-- The places of entries: below the rows, and in a symmetric file on or below the diagonal. Assumes nothing.
use mathlib.Core.Path.{◌≡◌, refl, sym, ap, subst, ◌∙◌}
use mathlib.Core.Bool.{Bool, true, false, cond, ◌&&◌}
use mathlib.Core.List.{List, [], ◌∷◌, ◌++◌}
use Prim.Native.Nat.{ℕ, zero, suc, ◌-◌, ◌≤◌, ◌<◌}
use native.Mathlib.Nat.{pos_of_ne-zero}
use native.Mathlib.Omega.{arith}
use lib.Dec.{eqb, ltb, leb}
use lib.ListN.{length}
use lib.Ieee.{Float}
use borrow.Author.Tests.{eqb-false, leb-true, ltb-false}
use Rattle.std.specs.Prelude.{Option, Some, None, Result, Ok, Err}
use Rattle.store.specs.Region.{idx}
use Rattle.decimal_text.specs.Field.{is_number, number_of, value_in}
use Rattle.matrix_market.specs.declared.placed.PlacedError.{PlacedError}
use Rattle.matrix_market.specs.Lines.{fields_of}
use Rattle.matrix_market.specs.Entries.{place_in}
use Rattle.matrix_market.specs.Placed.{placed_value, pick_placed, placed_of, placed_from, placed_in}
use Rattle.coordinate.specs.Coordinate.{Entry, mirrors_of, listed}
use Rattle.matrix_reader.specs.File.{Stated}
use Rattle.matrix_reader.specs.Steps.{Pass, ended, malformed, bad_value, no_value, pass_line, pass_from}
use Rattle.matrix_reader.proofs.Repeats.{Lower}

-- A place of a file of n rows.
pub record Below (symmetric : Bool) (n r c : ℕ) : Type 0 where
  pub row : r < n
  pub column : c < n
  pub lower : symmetric ≡ true → c ≤ r

-- what a line says has such a place, if it has one
abbrev pub PlacedIn : Bool → ℕ → Result (ℕ × ℕ × Float) PlacedError → Type 0
PlacedIn symmetric n (Err PlacedError.Malformed) = Unit
PlacedIn symmetric n (Err (PlacedError.BadValue r c)) = Below symmetric n r c
PlacedIn symmetric n (Ok (r, c, v)) = Below symmetric n r c

place_within : (n : ℕ) (l : List ℕ) → place_in n l ≤ n
place_within n l = go (is_number l) (leb (number_of l) n) refl
  where
    go : (x y : Bool) → leb (number_of l) n ≡ y → cond (x && y) (number_of l) 0 ≤ n
    go true true e = leb-true (number_of l) n e
    go true false e = omega arith
    go false y e = omega arith

placed_of_lem : (symmetric : Bool) (n : ℕ) (a b c : List ℕ) → PlacedIn symmetric n (placed_of symmetric n a b c)
placed_of_lem symmetric n a b c = go (eqb (place_in n a) 0) (eqb (place_in n b) 0) (symmetric && ltb (place_in n a) (place_in n b)) refl refl refl
  where
    place : eqb (place_in n a) 0 ≡ false → eqb (place_in n b) 0 ≡ false → (symmetric && ltb (place_in n a) (place_in n b)) ≡ false → Below symmetric n (place_in n a - 1) (place_in n b - 1)
    place x y z =
        let u : 0 < place_in n a = some (place_in n a) (eqb-false (place_in n a) 0 x) in
        let v : 0 < place_in n b = some (place_in n b) (eqb-false (place_in n b) 0 y) in
        record {
          row = omega (arith, place_within n a);
          column = omega (arith, place_within n b);
          lower = λ (t : symmetric ≡ true).
              let w : place_in n b ≤ place_in n a = ltb-false (place_in n a) (place_in n b) (sym (ap (λ (k : Bool). k && ltb (place_in n a) (place_in n b)) t) ∙ z) in
              omega arith;
        }
      where
        some : (i : ℕ) → (i ≡ 0 → ⊥) → 0 < i
        some i h = pos_of_ne-zero h

    value : (v : Option Float) → Below symmetric n (place_in n a - 1) (place_in n b - 1) → PlacedIn symmetric n (placed_value (place_in n a) (place_in n b) v)
    value (Some x) p = p
    value None p = p

    go : (x y z : Bool) → eqb (place_in n a) 0 ≡ x → eqb (place_in n b) 0 ≡ y → (symmetric && ltb (place_in n a) (place_in n b)) ≡ z
        → PlacedIn symmetric n (pick_placed x (Err PlacedError.Malformed) (pick_placed y (Err PlacedError.Malformed) (pick_placed z (Err PlacedError.Malformed) (placed_value (place_in n a) (place_in n b) (value_in c)))))
    go true y z e f g = tt
    go false true z e f g = tt
    go false false true e f g = tt
    go false false false e f g = value (value_in c) (place e f g)

placed_from_lem : (symmetric : Bool) (n : ℕ) (f : List (List ℕ)) → PlacedIn symmetric n (placed_from symmetric n f)
placed_from_lem symmetric n [] = tt
placed_from_lem symmetric n (a ∷ []) = tt
placed_from_lem symmetric n (a ∷ b ∷ []) = tt
placed_from_lem symmetric n (a ∷ b ∷ c ∷ []) = placed_of_lem symmetric n a b c
placed_from_lem symmetric n (a ∷ b ∷ c ∷ d ∷ f) = tt

pub placed_in_lem : (symmetric : Bool) (n : ℕ) (line : List ℕ) → PlacedIn symmetric n (placed_in symmetric n line)
placed_in_lem symmetric n line = placed_from_lem symmetric n (fields_of line)

-- the places of a line's answer
pub entry_below : {symmetric : Bool} {n r c : ℕ} {v : Float} (line : List ℕ) {p : Result (ℕ × ℕ × Float) PlacedError} → p ≡ placed_in symmetric n line → p ≡ Ok (r, c, v) → Below symmetric n r c
entry_below {symmetric} {n} line e f = subst (PlacedIn symmetric n) (sym e ∙ f) (placed_in_lem symmetric n line)

pub bad_below : {symmetric : Bool} {n r c : ℕ} (line : List ℕ) {p : Result (ℕ × ℕ × Float) PlacedError} → p ≡ placed_in symmetric n line → p ≡ Err (PlacedError.BadValue r c) → Below symmetric n r c
bad_below {symmetric} {n} line e f = subst (PlacedIn symmetric n) (sym e ∙ f) (placed_in_lem symmetric n line)

-- ---- entries

-- Each of some entries has such a place.
pub data Within (symmetric : Bool) (n : ℕ) : List Entry → Type 0 where
  none : Within symmetric n []
  one : {e : Entry} {es : List Entry} → Below symmetric n e.row e.column → Within symmetric n es → Within symmetric n (e ∷ es)

module _ {symmetric : Bool} {n : ℕ} where
  pub within_append : {es fs : List Entry} → Within symmetric n es → Within symmetric n fs → Within symmetric n (es ++ fs)
  within_append Within.none g = g
  within_append (Within.one b f) g = Within.one b (within_append f g)

  within_more : {es : List Entry} (e : Entry) → Within symmetric n es → Below symmetric n e.row e.column → Within symmetric n (es ++ (e ∷ []))
  within_more e f b = within_append f (Within.one b Within.none)

-- those of a pass do
abbrev pub PassWithin : Bool → ℕ → Pass → Type 0
PassWithin symmetric n (ended es) = Within symmetric n es
PassWithin symmetric n malformed = Unit
PassWithin symmetric n (bad_value es) = Within symmetric n es

pub pass_within : (symmetric : Bool) (s : Stated) (es : List Entry) (lines : List (List ℕ)) → Within symmetric s.rows es → PassWithin symmetric s.rows (pass_from symmetric s es lines)
unfolding pass_from
pass_within symmetric s es [] w = w
pass_within symmetric s es (line ∷ rest) w = go (ltb (length es) s.entries) (placed_in symmetric s.rows line) (placed_in_lem symmetric s.rows line) (λ fs. pass_within symmetric s fs rest)
  where
    go : (t : Bool) (p : Result (ℕ × ℕ × Float) PlacedError) → PlacedIn symmetric s.rows p → ((fs : List Entry) → Within symmetric s.rows fs → PassWithin symmetric s.rows (pass_from symmetric s fs rest))
        → PassWithin symmetric s.rows (cond t (pass_line es (λ fs. pass_from symmetric s fs rest) p) malformed)
    go false p b on = tt
    go true (Err PlacedError.Malformed) b on = tt
    go true (Err (PlacedError.BadValue r c)) b on = within_more (record { row = r; column = c; value = no_value }) w b
    go true (Ok (r, c, v)) b on = on (es ++ (record { row = r; column = c; value = v } ∷ [])) (within_more (record { row = r; column = c; value = v }) w b)

-- ---- mirrors

pub within_lower : {n : ℕ} {es : List Entry} → Within true n es → Lower es
within_lower Within.none = Lower.none
within_lower (Within.one b f) = Lower.one (b.lower refl) (within_lower f)

within_any : {symmetric : Bool} {n : ℕ} {es : List Entry} → Within symmetric n es → Within false n es
within_any Within.none = Within.none
within_any (Within.one b f) = Within.one (record { row = b.row; column = b.column; lower = λ (e : false ≡ true). absurd (let w : ◌≡◌ {A = ℕ} 0 1 = cc in omega arith) }) (within_any f)

within_mirrors : {symmetric : Bool} {n : ℕ} {es : List Entry} → Within symmetric n es → Within false n (mirrors_of es)
unfolding mirrors_of
within_mirrors Within.none = Within.none
within_mirrors {n = n} (Within.one {e} {es} b f) = go (eqb e.row e.column) (within_mirrors f)
  where
    go : (t : Bool) → Within false n (mirrors_of es) → Within false n (cond t (mirrors_of es) (record { row = e.column; column = e.row; value = e.value } ∷ mirrors_of es))
    go true on = on
    go false on = Within.one (record { row = b.column; column = b.row; lower = λ (e : false ≡ true). absurd (let w : ◌≡◌ {A = ℕ} 0 1 = cc in omega arith) }) on

pub within_expanded : {symmetric : Bool} {n : ℕ} {es : List Entry} → Within symmetric n es → Within false n (es ++ mirrors_of es)
within_expanded f = within_append (within_any f) (within_mirrors f)

-- ---- entries in lists

pub within_rows : {symmetric : Bool} {n : ℕ} (R C : List ℕ) (F : List Float) → length C ≡ length R → length F ≡ length R → Within symmetric n (listed R C F)
    → (k : ℕ) → k < length R → (idx R k < n) × (idx C k < n)
unfolding listed
within_rows [] C F c f w k h = absurd (omega arith)
within_rows (r ∷ R) [] F c f w k h = absurd (let e : 0 ≡ suc (length R) = c in omega arith)
within_rows (r ∷ R) (x ∷ C) [] c f w k h = absurd (let e : 0 ≡ suc (length R) = f in omega arith)
within_rows (r ∷ R) (x ∷ C) (v ∷ F) c f (Within.one b w) zero h = (b.row, b.column)
within_rows (r ∷ R) (x ∷ C) (v ∷ F) c f (Within.one b w) (suc k) h = within_rows R C F (omega (arith, c)) (omega (arith, f)) w k (omega arith)
