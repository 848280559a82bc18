-- Lists joined and numbers that pass a test, as the writing of a matrix has them. Assumes nothing.
use mathlib.Core.Path.{◌≡◌, refl, sym, ap, ◌∙◌}
use mathlib.Core.Bool.{Bool, true, false, cond, ◌&&◌}
use mathlib.Core.List.{List, [], ◌∷◌, ◌++◌, map, append-nil, append_assoc}
use mathlib.Core.Logic.{⊎_elim}
use Prim.Native.Nat.{ℕ, zero, suc, ◌+◌, ◌≤◌, ◌<◌}
use native.Mathlib.Omega.{arith}
use lib.Dec.{eqb}
use lib.ListN.{length}
use borrow.Author.Tests.{eqb-true, eq-eqb, ne_eqb}
use Rattle.store.specs.Vector.{tab}
use Rattle.store.proofs.store.Region.{le_or_lt}
use Rattle.coordinate.specs.Coordinate.{Entry, is_at, entries_there, joined}
use Rattle.coordinate.proofs.Lists.{picks, picks_none, joined_same, joined_none, bool?}
use Rattle.matrix_writer.specs.Text as text

map_append : {A B : Type 0} (g : A → B) (l m : List A) → map g (l ++ m) ≡ map g l ++ map g m
map_append g [] m = refl
map_append {A} {B} g (x ∷ l) m = ap (λ (k : List B). g x ∷ k) (map_append g l m)

-- A map of the writing's lists joined is the lists' maps joined.
pub map_joined : {A B : Type 0} (g : A → B) (f : ℕ → List A) (n : ℕ) → map g (text.joined f n) ≡ joined (λ i. map g (f i)) n
unfolding joined text.joined
map_joined g f zero = refl
map_joined {A} {B} g f (suc n) = map_append g (text.joined f n) (f n) ∙ ap (λ (l : List B). l ++ map g (f n)) (map_joined g f n)

map_cond : {A B : Type 0} (h : A → B) (b : Bool) (x : A) → map h (cond b (x ∷ []) []) ≡ cond b (h x ∷ []) []
map_cond h true x = refl
map_cond h false x = refl

-- Of lists that have an element or none, the elements that pass.
pub picks_joined : {A B : Type 0} (h : A → B) (p : ℕ → Bool) (g : ℕ → A) (n : ℕ) → map h (text.joined (λ k. cond (p k) (g k ∷ []) []) n) ≡ picks p (λ k. h (g k)) n
unfolding picks text.joined
picks_joined h p g zero = refl
picks_joined {A} {B} h p g (suc n) =
    map_append h (text.joined (λ k. cond (p k) (g k ∷ []) []) n) (cond (p n) (g n ∷ []) [])
    ∙ ap (λ (l : List B). l ++ map h (cond (p n) (g n ∷ []) [])) (picks_joined h p g n)
    ∙ ap (λ (l : List B). picks p (λ k. h (g k)) n ++ l) (map_cond h (p n) (g n))

-- Of lists joined of which only one is not empty, that one.
pub joined_one : {A : Type 0} (f : ℕ → List A) (n r : ℕ) → r < n → ((i : ℕ) → i < n → (i ≡ r → ⊥) → f i ≡ []) → joined f n ≡ f r
unfolding joined
joined_one f zero r h off = absurd (omega arith)
joined_one {A} f (suc n) r h off = ⊎_elim
    (λ (w : n ≤ r).
    let z : n ≡ r = omega arith in
    ap (λ (l : List A). l ++ f n) (joined_none f n (λ i l. off i (omega arith) (λ e. omega arith))) ∙ ap f z)
    (λ (w : r < n).
    ap (λ (l : List A). joined f n ++ l) (off n (omega arith) (λ e. omega arith)) ∙ append-nil (joined f n)
    ∙ joined_one f n r w (λ i l d. off i (omega arith) d))
    (le_or_lt n r)

module _ {A : Type 0} where
  -- Tests that agree pick the same.
  pub picks_same : (p q : ℕ → Bool) (g : ℕ → A) (n : ℕ) → ((k : ℕ) → k < n → p k ≡ q k) → picks p g n ≡ picks q g n
  unfolding picks
  picks_same p q g zero e = refl
  picks_same p q g (suc n) e =
      ap (λ (l : List A). l ++ cond (p n) (g n ∷ []) []) (picks_same p q g n (λ k l. e k (omega arith)))
      ∙ ap (λ (b : Bool). picks q g n ++ cond b (g n ∷ []) []) (e n (omega arith))

  -- A test that no two pass picks one at most.
  pub picks_few : (p : ℕ → Bool) (g : ℕ → A) (n : ℕ) → ((j k : ℕ) → j < k → k < n → p j ≡ true → p k ≡ true → ⊥) → length (picks p g n) ≤ 1
  unfolding picks
  picks_few p g zero one = omega arith
  picks_few p g (suc n) one = ⊎_elim
      (λ (t : p n ≡ true).
      let z : picks p g n ≡ [] = picks_none p g n (λ k l u. one k n l (omega arith) u t) in
      rw (z, t) (omega arith))
      (λ (f : p n ≡ false).
      let z = picks_few p g n (λ j k l m. one j k l (omega arith)) in
      rw (f, append-nil (picks p g n)) z)
      (bool? (p n))

  -- Lists joined that are the old ones, but for one element more at a place behind which the old ones are empty.
  joined_last : (old next : ℕ → List A) (a : ℕ) (x : A) (l : List A) → ((c : ℕ) → (a ≡ c → ⊥) → next c ≡ old c) → next a ≡ old a ++ (x ∷ [])
      → ((c : ℕ) → a ≤ c → old c ≡ []) → joined old a ≡ l → (n : ℕ) → a < n → joined next n ≡ l ++ (x ∷ [])
  unfolding joined
  joined_last old next a x l skip hit empty base zero h = absurd (omega arith)
  joined_last old next a x l skip hit empty base (suc n) h = ⊎_elim
      (λ (w : n ≤ a).
      let z : n ≡ a = omega arith in
      ap (λ (k : List A). k ++ next n) (joined_same next old n (λ i q. skip i (λ e. omega arith)))
      ∙ ap (λ (i : ℕ). joined old i ++ next i) z
      ∙ ap (λ (k : List A). k ++ next a) base
      ∙ ap (λ (k : List A). l ++ k) (hit ∙ ap (λ (k : List A). k ++ (x ∷ [])) (empty a (omega arith))))
      (λ (w : a < n).
      ap (λ (k : List A). joined next n ++ k) (skip n (λ e. omega arith) ∙ empty n (omega arith))
      ∙ append-nil (joined next n) ∙ joined_last old next a x l skip hit empty base n w)
      (le_or_lt n a)

  -- Of strictly rising places each has one element, in their order.
  pub rising_places : (f : ℕ → ℕ) (g : ℕ → A) (len n : ℕ) → ((j k : ℕ) → j < k → k < len → f j < f k) → ((k : ℕ) → k < len → f k < n)
      → joined (λ c. picks (λ k. eqb (f k) c) g len) n ≡ tab g len
  unfolding picks tab
  rising_places f g zero n rise below = joined_none (λ c. []) n (λ i l. refl)
  rising_places f g (suc len) n rise below =
      joined_last (λ c. picks (λ k. eqb (f k) c) g len) (λ c. picks (λ k. eqb (f k) c) g (suc len)) (f len) (g len) (tab g len)
      (λ c d. ap (λ (b : Bool). picks (λ k. eqb (f k) c) g len ++ cond b (g len ∷ []) []) (ne_eqb (f len) c d) ∙ append-nil (picks (λ k. eqb (f k) c) g len))
      (ap (λ (b : Bool). picks (λ k. eqb (f k) (f len)) g len ++ cond b (g len ∷ []) []) (eq-eqb (f len) (f len) refl))
      (λ c h. picks_none (λ k. eqb (f k) c) g len (λ k l t. let a = rise k len l (omega arith) in let b = eqb-true (f k) c t in omega arith))
      (rising_places f g len (f len) (λ j k l m. rise j k l (omega arith)) (λ k l. rise k len l (omega arith)))
      n (below len (omega arith))

  -- Lists by index, one behind another.
  pub tab_append : (g : ℕ → A) (a b : ℕ) → tab g a ++ tab (λ k. g (a + k)) b ≡ tab g (a + b)
  unfolding tab
  tab_append g a zero = let e : a ≡ a + 0 = omega arith in append-nil (tab g a) ∙ ap (tab g) e
  tab_append g a (suc b) =
      let e : suc (a + b) ≡ a + suc b = omega arith in
      sym (append_assoc (tab g a) (tab (λ k. g (a + k)) b) (g (a + b) ∷ []))
      ∙ ap (λ (l : List A). l ++ (g (a + b) ∷ [])) (tab_append g a b)
      ∙ ap (tab g) e

-- A map of a list by index.
pub map_tab : {A B : Type 0} (f : A → B) (g : ℕ → A) (n : ℕ) → map f (tab g n) ≡ tab (λ k. f (g k)) n
unfolding tab
map_tab f g zero = refl
map_tab {A} {B} f g (suc n) = map_append f (tab g n) (g n ∷ []) ∙ ap (λ (l : List B). l ++ (f (g n) ∷ [])) (map_tab f g n)

-- ---- entries at a place

module _ (r c : ℕ) where
  pub there_append : (es fs : List Entry) → entries_there r c (es ++ fs) ≡ entries_there r c es ++ entries_there r c fs
  unfolding entries_there
  there_append [] fs = refl
  there_append (e ∷ es) fs = go (is_at r c e) (there_append es fs)
    where
      go : (t : Bool) → entries_there r c (es ++ fs) ≡ entries_there r c es ++ entries_there r c fs
          → cond t (e ∷ entries_there r c (es ++ fs)) (entries_there r c (es ++ fs)) ≡ cond t (e ∷ entries_there r c es) (entries_there r c es) ++ entries_there r c fs
      go true on = ap (λ (l : List Entry). e ∷ l) on
      go false on = on

  pub there_joined : (f : ℕ → List Entry) (n : ℕ) → entries_there r c (joined f n) ≡ joined (λ i. entries_there r c (f i)) n
  unfolding joined entries_there
  there_joined f zero = refl
  there_joined f (suc n) = there_append (joined f n) (f n) ∙ ap (λ (l : List Entry). l ++ entries_there r c (f n)) (there_joined f n)

  there_cond : (b : Bool) (e : Entry) → entries_there r c (cond b (e ∷ []) []) ≡ cond (b && is_at r c e) (e ∷ []) []
  unfolding entries_there
  there_cond true e = refl
  there_cond false e = refl

  pub there_picks : (p : ℕ → Bool) (g : ℕ → Entry) (n : ℕ) → entries_there r c (picks p g n) ≡ picks (λ k. p k && is_at r c (g k)) g n
  unfolding picks entries_there
  there_picks p g zero = refl
  there_picks p g (suc n) =
      there_append (picks p g n) (cond (p n) (g n ∷ []) [])
      ∙ ap (λ (l : List Entry). l ++ entries_there r c (cond (p n) (g n ∷ []) [])) (there_picks p g n)
      ∙ ap (λ (l : List Entry). picks (λ k. p k && is_at r c (g k)) g n ++ l) (there_cond (p n) (g n))
