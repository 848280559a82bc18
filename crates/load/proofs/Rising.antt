-- Lists that rise between bounds. Assumes nothing.
use Rattle.std.proofs.Common.{◌≡◌, ℕ, zero, suc, ◌+◌, ◌<◌, ◌≤◌, Bool, true, false, ◌⊎◌, List, [], ◌∷◌, ◌++◌, length, sym, refl, inl, inr, ⊎_elim, arith}
use Rattle.store.specs.Region.{idx}
use Rattle.load.specs.Steps.{optional}
use Rattle.load.specs.Theorem.{Between, Among}

-- Wider bounds hold too.
pub between_wide : (lo hi lo' hi' : ℕ) (l : List ℕ) → lo' ≤ lo → hi ≤ hi' → Between lo hi l → Between lo' hi' l
between_wide lo hi lo' hi' [] a b h = tt
between_wide lo hi lo' hi' (x ∷ l) a b h =
    let p = h.0 in let q = h.1 in (omega arith, omega arith, between_wide (x + 1) hi (x + 1) hi' l (omega arith) b h.2)

-- One list behind another.
pub between_on : (lo mid hi : ℕ) (l r : List ℕ) → lo ≤ mid → mid ≤ hi → Between lo mid l → Between mid hi r → Between lo hi (l ++ r)
between_on lo mid hi [] r a b h k = between_wide mid hi lo hi r a (omega arith) k
between_on lo mid hi (x ∷ l) r a b h k =
    let p = h.0 in let q = h.1 in (p, omega arith, between_on (x + 1) mid hi l r (omega arith) b h.2 k)

-- An element that is there or not.
pub between_optional : (lo hi : ℕ) (there : Bool) (x : ℕ) → (there ≡ true → lo ≤ x) → (there ≡ true → x < hi) → Between lo hi (optional there x)
between_optional lo hi true x a b = (a refl, b refl, tt)
between_optional lo hi false x a b = tt

-- Each element lies between the bounds,
pub between_at : (lo hi k : ℕ) (l : List ℕ) → Between lo hi l → k < length l → (lo ≤ idx l k) × (idx l k < hi)
between_at lo hi k [] h n = absurd (omega arith)
between_at lo hi zero (x ∷ l) h n = (h.0, h.1)
between_at lo hi (suc k) (x ∷ l) h n =
    let r = between_at (x + 1) hi k l h.2 (omega arith) in
    let p = h.0 in let q = r.0 in (omega arith, r.1)

-- and is below the next.
pub between_rise : (lo hi k : ℕ) (l : List ℕ) → Between lo hi l → k + 1 < length l → idx l k < idx l (k + 1)
between_rise lo hi k [] h n = absurd (omega arith)
between_rise lo hi zero (x ∷ l) h n = let r = between_at (x + 1) hi 0 l h.2 (omega arith) in let q = r.0 in omega arith
between_rise lo hi (suc k) (x ∷ l) h n =
    let e : suc k + 1 ≡ suc (k + 1) = omega arith in
    rw e (between_rise (x + 1) hi k l h.2 (omega arith))

-- An element of a list has a place in it,
pub among_place : (x : ℕ) (l : List ℕ) → Among x l → (k : ℕ) × (k < length l) × (idx l k ≡ x)
among_place x [] h = absurd h
among_place x (y ∷ l) (inl e) = (0, omega arith, sym e)
among_place x (y ∷ l) (inr h) = let w = among_place x l h in let n = w.1 in (suc w.0, omega arith, w.2)

-- and what has a place is an element.
pub place_among : (k : ℕ) (l : List ℕ) → k < length l → Among (idx l k) l
place_among k [] h = absurd (omega arith)
place_among zero (y ∷ l) h = inl refl
place_among (suc k) (y ∷ l) h = inr (place_among k l (omega arith))

-- Elements of joined lists are those of each.
pub among_l : (x : ℕ) (l r : List ℕ) → Among x l → Among x (l ++ r)
among_l x [] r h = absurd h
among_l x (y ∷ l) r (inl e) = inl e
among_l x (y ∷ l) r (inr h) = inr (among_l x l r h)

pub among_r : (x : ℕ) (l r : List ℕ) → Among x r → Among x (l ++ r)
among_r x [] r h = h
among_r x (y ∷ l) r h = inr (among_r x l r h)

pub among_which : (x : ℕ) (l r : List ℕ) → Among x (l ++ r) → Among x l ⊎ Among x r
among_which x [] r h = inr h
among_which x (y ∷ l) r (inl e) = inl (inl e)
among_which x (y ∷ l) r (inr h) = ⊎_elim (λ (a : Among x l). inl (inr a)) (λ (b : Among x r). inr b) (among_which x l r h)

pub among_optional : (x y : ℕ) (there : Bool) → Among x (optional there y) → (there ≡ true) × (x ≡ y)
among_optional x y true (inl e) = (refl, e)
among_optional x y true (inr h) = absurd h
among_optional x y false h = absurd h

pub optional_among : (x y : ℕ) (there : Bool) → there ≡ true → x ≡ y → Among x (optional there y)
optional_among x y true t e = inl e
optional_among x y false t e = absurd (let z : ◌≡◌ {A = ℕ} 0 1 = cc in omega arith)
