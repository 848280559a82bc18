-- The sizes of the aggregates of a map: how a store changes them, and when an aggregate is full.
-- Assumes nothing.
use mathlib.Core.Path.{◌≡◌, refl, sym, ap, ◌∙◌}
use mathlib.Core.Bool.{Bool, true, false, cond}
use mathlib.Core.List.{List, [], ◌∷◌}
use mathlib.Core.Logic.{◌⊎◌, inl, inr, ⊎_elim}
use Prim.Native.Nat.{ℕ, zero, suc, ◌+◌, ◌≤◌, ◌<◌, zero-le}
use native.Mathlib.Nat.{not-suc-le-zero, le_of_suc-le-suc}
use native.Mathlib.Decide.{ℕ_discrete}
use native.Mathlib.Omega.{arith}
use lib.Dec.{eqb, leb}
use borrow.Author.Tests.{eq-eqb, ne_eqb, eqb-true, eqb-false, leb-true, leb-false}
use lib.ListN.{length, set, length-set}
use lib.Seq.{get_or-set_same, get_or-set_other}
use Rattle.store.specs.Region.{idx}
use Rattle.store.specs.Vector.{filled}
use Rattle.store.proofs.store.Vector.{length_tab, get_d_tab, tab_same, tab_get_d}
use Rattle.aggregation.specs.Pairs.{size_of, is_full}
use Rattle.aggregation.specs.Turns.{sizes_of}

-- one row of the aggregate c, counted for the aggregate a
abbrev one : ℕ → ℕ → ℕ
one c a = cond (eqb c a) 1 0

-- A store takes the row out of its aggregate and puts it into another.
size_moved : (m : List ℕ) (i v a : ℕ) → i < length m → one (idx m i) a + size_of (set m i v) a ≡ one v a + size_of m a
unfolding size_of
size_moved [] i v a h = absurd (not-suc-le-zero h)
size_moved (c ∷ m) zero v a h = omega arith
size_moved (c ∷ m) (suc i) v a h = let more = size_moved m i v a (le_of_suc-le-suc h) in omega arith

-- A row that was in another aggregate, or in none, joins a.
pub size_joined : (m : List ℕ) (i a : ℕ) → i < length m → (idx m i ≡ a → ⊥) → size_of (set m i a) a ≡ size_of m a + 1
size_joined m i a h x =
    let all : one (idx m i) a + size_of (set m i a) a ≡ one a a + size_of m a = size_moved m i a a h in
    let was : one (idx m i) a ≡ 0 = rw (ne_eqb (idx m i) a x) in
    let is : one a a ≡ 1 = rw (eq-eqb a a refl) in
    omega arith

-- Another aggregate keeps its size.
pub size_other : (m : List ℕ) (i v a : ℕ) → i < length m → (idx m i ≡ a → ⊥) → (v ≡ a → ⊥) → size_of (set m i v) a ≡ size_of m a
size_other m i v a h x y =
    let all : one (idx m i) a + size_of (set m i v) a ≡ one v a + size_of m a = size_moved m i v a h in
    let was : one (idx m i) a ≡ 0 = rw (ne_eqb (idx m i) a x) in
    let is : one v a ≡ 0 = rw (ne_eqb v a y) in
    omega arith

-- An aggregate has at most all rows.
pub size_most : (m : List ℕ) (a : ℕ) → size_of m a ≤ length m
unfolding size_of
size_most [] a = zero-le
size_most (c ∷ m) a = go (eqb c a) (size_most m a)
  where
    go : (b : Bool) → size_of m a ≤ length m → cond b 1 0 + size_of m a ≤ suc (length m)
    go true more = omega arith
    go false more = omega arith

-- An aggregate without a row has the size 0.
pub size_none : (m : List ℕ) (a : ℕ) → ((i : ℕ) → i < length m → idx m i ≡ a → ⊥) → size_of m a ≡ 0
unfolding size_of
size_none [] a x = refl
size_none (c ∷ m) a x =
    let head : one c a ≡ 0 = rw (ne_eqb c a (x 0 (omega arith))) in
    let tail : size_of m a ≡ 0 = size_none m a (λ i h. x (suc i) (omega arith)) in
    omega arith

-- Where every row is free, no aggregate has a row.
pub size_free : (n a : ℕ) → a < n → size_of (filled n n) a ≡ 0
size_free n a h = size_none (filled n n) a
    (λ i l e. let size = length_tab (λ _. n) n in let is = get_d_tab (λ _. n) n i 0 (omega arith) in omega arith)

-- So all sizes are 0.
pub sizes_free : (n : ℕ) → sizes_of n (filled n n) ≡ filled n 0
sizes_free n = tab_same (size_of (filled n n)) (λ _. 0) n (λ a h. size_free n a h)

-- An aggregate c after a free row i joined a: c is a, or has the size that it had.
pub size_set : {n : ℕ} (m : List ℕ) (i a c : ℕ) → i < length m → idx m i ≡ n → c < n
    → ((c ≡ a) × (size_of (set m i a) c ≡ size_of m c + 1)) ⊎ ((c ≡ a → ⊥) × (size_of (set m i a) c ≡ size_of m c))
size_set {n} m i a c h f l = go (ℕ_discrete c a)
  where
    go : Dec (c ≡ a) → ((c ≡ a) × (size_of (set m i a) c ≡ size_of m c + 1)) ⊎ ((c ≡ a → ⊥) × (size_of (set m i a) c ≡ size_of m c))
    go (yes e) = inl (e, ap (λ (b : ℕ). size_of (set m i b) c) (sym e) ∙ size_joined m i c h (λ z. omega arith))
    go (no x) = inr (x, size_other m i a c h (λ z. omega arith) (λ z. x (sym z)))

-- All sizes after that.
pub sizes_joined : (n : ℕ) (m : List ℕ) (i a : ℕ) → i < length m → idx m i ≡ n → a < n
    → set (sizes_of n m) a (size_of m a + 1) ≡ sizes_of n (set m i a)
sizes_joined n m i a h f l =
    sym (tab_get_d 0 (set (sizes_of n m) a (size_of m a + 1)) n (length-set (sizes_of n m) a (size_of m a + 1) ∙ length_tab (size_of m) n))
    ∙ tab_same (idx (set (sizes_of n m) a (size_of m a + 1))) (size_of (set m i a)) n (λ c b. ⊎_elim (same c) (other c b) (size_set m i a c h f b))
  where
    same : (c : ℕ) → (c ≡ a) × (size_of (set m i a) c ≡ size_of m c + 1)
        → idx (set (sizes_of n m) a (size_of m a + 1)) c ≡ size_of (set m i a) c
    same c (e, is) =
        let inside : a < length (sizes_of n m) = rw (length_tab (size_of m) n) l in
        ap (idx (set (sizes_of n m) a (size_of m a + 1))) e ∙ get_or-set_same (sizes_of n m) a (size_of m a + 1) 0 inside
        ∙ ap (λ (b : ℕ). size_of m b + 1) (sym e) ∙ sym is

    other : (c : ℕ) → c < n → (c ≡ a → ⊥) × (size_of (set m i a) c ≡ size_of m c)
        → idx (set (sizes_of n m) a (size_of m a + 1)) c ≡ size_of (set m i a) c
    other c b (x, is) =
        get_or-set_other (sizes_of n m) a c (size_of m a + 1) 0 x ∙ get_d_tab (size_of m) n c 0 b ∙ sym is

-- A full aggregate has as many rows as the cap.
pub full_has : (cap : ℕ) (m : List ℕ) (a : ℕ) → is_full cap m a ≡ true → cap ≤ size_of m a
full_has cap m a e = go (eqb cap 0) refl
  where
    go : (b : Bool) → eqb cap 0 ≡ b → cap ≤ size_of m a
    go true t = let z = eqb-true cap 0 t in omega arith
    go false t = leb-true cap (size_of m a) (rw t at e)

-- One that is not full has fewer, where there is a cap.
pub room_has : (cap : ℕ) (m : List ℕ) (a : ℕ) → (cap ≡ 0 → ⊥) → is_full cap m a ≡ false → size_of m a < cap
room_has cap m a x e = leb-false cap (size_of m a) (rw (ne_eqb cap 0 x) at e)

-- One with at most one row is never full, whatever the cap, unless it is 1.
pub lone_room : (cap : ℕ) (m : List ℕ) (a : ℕ) → (cap ≡ 1 → ⊥) → size_of m a ≤ 1 → is_full cap m a ≡ false
lone_room cap m a x l = go (eqb cap 0) refl (leb cap (size_of m a)) refl
  where
    go : (b : Bool) → eqb cap 0 ≡ b → (d : Bool) → leb cap (size_of m a) ≡ d → is_full cap m a ≡ false
    go true t d u = rw t
    go false t true u =
        let big = leb-true cap (size_of m a) u in
        absurd (x (let z = eqb-false cap 0 t in omega arith))
    go false t false u = rw (t, u)
