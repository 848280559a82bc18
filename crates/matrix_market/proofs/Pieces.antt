-- A list cut at bytes: the first piece and the rest. Assumes nothing.
use mathlib.Core.Path.{◌≡◌, refl, sym, ap, ◌∙◌}
use mathlib.Core.Bool.{Bool, true, false, cond, ◌||◌}
use mathlib.Core.List.{List, [], ◌∷◌}
use Prim.Native.Nat.{ℕ, suc, ◌+◌, ◌≤◌, ◌<◌}
use native.Mathlib.Nat.{suc-add}
use native.Mathlib.Omega.{arith}
use lib.Dec.{eqb}
use lib.ListN.{length, take, drop, get_or}
use Rattle.decimal_text.specs.Field.{place_of}
use Rattle.matrix_market.specs.Lines.{grown, pieces_of}

module _ (a b : ℕ) where
  -- where no byte cuts, the list is the one piece
  pub pieces_last : (l : List ℕ) → length l ≤ place_of a b l → pieces_of a b l ≡ l ∷ []
  unfolding pieces_of place_of
  pieces_last [] h = refl
  pieces_last (x ∷ l) h = go (eqb x a || eqb x b) h (pieces_last l)
    where
      go : (t : Bool) → suc (length l) ≤ cond t 0 (suc (place_of a b l)) → (length l ≤ place_of a b l → pieces_of a b l ≡ l ∷ []) → cond t ([] ∷ pieces_of a b l) (grown x (pieces_of a b l)) ≡ (x ∷ l) ∷ []
      go true h on = absurd (none (length l) h)
        where
          none : (n : ℕ) → suc n ≤ 0 → ⊥
          none n h = omega arith
      go false h on = ap (grown x) (on (omega arith))

  -- else it is what stands before the first such byte, and the pieces of what stands behind it
  pub pieces_next : (l : List ℕ) → place_of a b l < length l → pieces_of a b l ≡ take (place_of a b l) l ∷ pieces_of a b (drop (place_of a b l + 1) l)
  unfolding pieces_of place_of
  pieces_next [] h = absurd (none h)
    where
      none : 0 < 0 → ⊥
      none h = omega arith
  pieces_next (x ∷ l) h = go (eqb x a || eqb x b) h (pieces_next l)
    where
      go : (t : Bool) → cond t 0 (suc (place_of a b l)) < suc (length l) → (place_of a b l < length l → pieces_of a b l ≡ take (place_of a b l) l ∷ pieces_of a b (drop (place_of a b l + 1) l))
          → cond t ([] ∷ pieces_of a b l) (grown x (pieces_of a b l)) ≡ take (cond t 0 (suc (place_of a b l))) (x ∷ l) ∷ pieces_of a b (drop (cond t 0 (suc (place_of a b l)) + 1) (x ∷ l))
      go true h on = refl
      go false h on = ap (grown x) (on (omega arith)) ∙ ap (λ (k : ℕ). (x ∷ take (place_of a b l) l) ∷ pieces_of a b (drop k (x ∷ l))) (sym (suc-add (place_of a b l) 1))

  -- the byte at the place is one of the two
  pub place_is : (l : List ℕ) → place_of a b l < length l → (eqb (get_or l (place_of a b l) 0) a || eqb (get_or l (place_of a b l) 0) b) ≡ true
  unfolding place_of
  place_is [] h = absurd (none h)
    where
      none : 0 < 0 → ⊥
      none h = omega arith
  place_is (x ∷ l) h = go (eqb x a || eqb x b) refl h (place_is l)
    where
      go : (t : Bool) → (eqb x a || eqb x b) ≡ t → cond t 0 (suc (place_of a b l)) < suc (length l)
          → (place_of a b l < length l → (eqb (get_or l (place_of a b l) 0) a || eqb (get_or l (place_of a b l) 0) b) ≡ true)
          → (eqb (get_or (x ∷ l) (cond t 0 (suc (place_of a b l))) 0) a || eqb (get_or (x ∷ l) (cond t 0 (suc (place_of a b l))) 0) b) ≡ true
      go true e h on = e
      go false e h on = on (omega arith)

  -- a byte that cuts
  pub pieces_cut : (x : ℕ) (l : List ℕ) → (eqb x a || eqb x b) ≡ true → pieces_of a b (x ∷ l) ≡ [] ∷ pieces_of a b l
  unfolding pieces_of
  pieces_cut x l e = ap (λ (t : Bool). cond t ([] ∷ pieces_of a b l) (grown x (pieces_of a b l))) e
