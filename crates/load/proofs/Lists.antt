-- Laws of lists that are joined row by row, and of entries that are there or not. Assumes nothing.
use Rattle.std.proofs.Common.{◌≡◌, ℕ, zero, suc, ◌+◌, ◌-◌, ◌<◌, ◌≤◌, Bool, true, false, cond, List, [], ◌∷◌, ◌++◌, map, length, get_or, sym, refl, ap, ◌∙◌, ⊎_elim, append_assoc, arith, length-append, get_or-append-add, eq-eqb, ne_eqb}
use lib.ListN.{get_or-append}
use lib.Seq.{get_or-append_seam}
use Rattle.store.proofs.store.Region.{le_or_lt}
use Rattle.pattern.specs.Pattern.{sum_to}
use Rattle.pattern.proofs.pattern.Number.{sum_step, sum_mono}
use Rattle.load.specs.Load.{joined, place_in, total}
use Rattle.load.specs.Steps.{optional, one}

-- ---- lists joined

module _ {A : Type 0} (f : ℕ → List A) where
  -- Where row r starts among the joined rows.
  abbrev pub start_in : ℕ → ℕ
  start_in r = sum_to (λ c. length (f c)) r

  -- The joined rows are as long as they are together.
  pub length_joined : (n : ℕ) → length (joined f n) ≡ start_in n
  unfolding joined sum_to
  length_joined zero = refl
  length_joined (suc n) = length-append (joined f n) (f n) ∙ ap (λ (x : ℕ). x + length (f n)) (length_joined n)

  -- Element k of row r.
  pub joined_at : (n r k : ℕ) (d : A) → r < n → k < length (f r) → get_or (joined f n) (start_in r + k) d ≡ get_or (f r) k d
  unfolding joined
  joined_at zero r k d h l = absurd (omega arith)
  joined_at (suc n) r k d h l = ⊎_elim
      (λ (w : n ≤ r).
      let e : r ≡ n = omega arith in
      rw (e, ← length_joined n) (get_or-append-add (joined f n) (f n) k d))
      (λ (w : r < n).
      let m = sum_mono (λ c. length (f c)) (suc r) n w in
      let s = sum_step (λ c. length (f c)) r in
      let e = length_joined n in
      get_or-append (joined f n) (f n) d (start_in r + k) (omega arith) ∙ joined_at n r k d w l)
      (le_or_lt n r)

-- Sums of the same terms are equal.
pub sum_same : (f h : ℕ → ℕ) (n : ℕ) → ((k : ℕ) → f k ≡ h k) → sum_to f n ≡ sum_to h n
unfolding sum_to
sum_same f h zero e = refl
sum_same f h (suc n) e = rw (sum_same f h n e, e n)

-- An element that so many follow.
pub at_end : {A : Type 0} (l r : List A) (x d : A) → get_or (l ++ (x ∷ r)) (length (l ++ (x ∷ r)) - (1 + length r)) d ≡ x
at_end l r x d =
    let e : length (l ++ (x ∷ r)) ≡ length l + suc (length r) = length-append l (x ∷ r) in
    let k : length (l ++ (x ∷ r)) - (1 + length r) ≡ length l = omega arith in
    rw k (get_or-append_seam l x r d)

-- ---- entries that are there or not

module _ {A B : Type 0} (g : A → B) where
  -- A function of three optional elements.
  pub map_three : (a b c : Bool) (x y z : A)
      → map g (optional a x ++ (optional b y ++ optional c z)) ≡ optional a (g x) ++ (optional b (g y) ++ optional c (g z))
  map_three true true true x y z = refl
  map_three true true false x y z = refl
  map_three true false true x y z = refl
  map_three true false false x y z = refl
  map_three false true true x y z = refl
  map_three false true false x y z = refl
  map_three false false true x y z = refl
  map_three false false false x y z = refl

-- Three added up.
pub total_three : (g : ℕ → ℕ) (a b c : Bool) (x y z : ℕ)
    → total g (optional a x ++ (optional b y ++ optional c z)) ≡ cond a (g x) 0 + cond b (g y) 0 + cond c (g z) 0
unfolding total
total_three g true true true x y z = omega arith
total_three g true true false x y z = omega arith
total_three g true false true x y z = omega arith
total_three g true false false x y z = omega arith
total_three g false true true x y z = omega arith
total_three g false true false x y z = omega arith
total_three g false false true x y z = omega arith
total_three g false false false x y z = omega arith

-- An optional element that is another is what it is.
pub optional_same : {A : Type 0} (there : Bool) (x y : A) → (there ≡ true → x ≡ y) → optional there x ≡ optional there y
optional_same true x y e = ap (λ (v : _). v ∷ []) (e refl)
optional_same false x y e = refl

-- The first of a list stands at 0,
pub place_hit : (there : Bool) (x j : ℕ) (l : List ℕ) → there ≡ true → x ≡ j → place_in j (optional there x ++ l) ≡ 0
unfolding place_in
place_hit there x j l t e = rw (t, eq-eqb x j e) refl

-- and one of the rest behind it.
pub place_skip : (there : Bool) (x j : ℕ) (l : List ℕ) → (there ≡ true → x ≡ j → ⊥) → place_in j (optional there x ++ l) ≡ one there + place_in j l
unfolding place_in
place_skip true x j l ne = rw (ne_eqb x j (ne refl)) refl
place_skip false x j l ne = omega arith

-- The element of row r that so many follow in its row.
pub joined_end : {A : Type 0} (f : ℕ → List A) (n r : ℕ) (l t : List A) (x d : A) → r < n → f r ≡ l ++ (x ∷ t)
    → get_or (joined f n) (start_in f (suc r) - (1 + length t)) d ≡ x
joined_end f n r l t x d h e =
    let k : length (f r) ≡ length l + suc (length t) = ap length e ∙ length-append l (x ∷ t) in
    let s = sum_step (λ c. length (f c)) r in
    let q : start_in f (suc r) - (1 + length t) ≡ start_in f r + length l = omega arith in
    rw q (joined_at f n r (length l) d h (omega arith)) ∙ ap (λ (v : List _). get_or v (length l) d) e ∙ get_or-append_seam l x t d

module _ {A : Type 0} (l : List A) (o x y z : A) where
  -- Of a row's last entries the first,
  pub last_first : (a b c : Bool) → a ≡ true
      → l ++ (o ∷ (optional a x ++ (optional b y ++ optional c z))) ≡ (l ++ (o ∷ [])) ++ (x ∷ (optional b y ++ optional c z))
  last_first a b c t = rw t (sym (append_assoc l (o ∷ []) (x ∷ (optional b y ++ optional c z))))

  -- the second,
  pub last_second : (a b c : Bool) → b ≡ true
      → l ++ (o ∷ (optional a x ++ (optional b y ++ optional c z))) ≡ (l ++ (o ∷ optional a x)) ++ (y ∷ optional c z)
  last_second a b c t = rw t (sym (append_assoc l (o ∷ optional a x) (y ∷ optional c z)))

  -- and the third.
  pub last_third : (a b c : Bool) → c ≡ true
      → l ++ (o ∷ (optional a x ++ (optional b y ++ optional c z))) ≡ (l ++ (o ∷ (optional a x ++ optional b y))) ++ (z ∷ [])
  last_third a b c t = rw (t, append_assoc l (o ∷ (optional a x ++ optional b y)) (z ∷ []), append_assoc (optional a x) (optional b y) (z ∷ [])) refl
