-- Laws of bounded loops: a turn, the end, what turns keep, and `Left`, the invariant of a loop in code.
-- Assumes nothing.
use mathlib.Core.Path.{◌≡◌, refl, sym, ap, ◌∙◌}
use Prim.Native.Nat.{ℕ, zero, suc, ◌+◌, ◌-◌, ◌≤◌, ◌<◌}
use native.Mathlib.Nat.{le_refl, add-zero}
use native.Mathlib.Numerals.{add-one}
use native.Mathlib.Omega.{arith}
use Rattle.store.specs.Loop.{iter, for}

-- What is left at lo is the turn at lo, and then what is left at lo + 1.
pub for_step : {S : Type 0} (f : ℕ → S → S) (lo hi : ℕ) (s : S) → lo < hi → for f lo hi s ≡ for f (lo + 1) hi (f lo s)
unfolding for iter
for_step f lo hi s h =
    let e : hi - lo ≡ suc (hi - (lo + 1)) = omega arith in
    ap (λ (n : ℕ). iter f n lo s) e ∙ ap (λ (j : ℕ). iter f (hi - (lo + 1)) j (f lo s)) (sym (add-one lo))

-- From hi on nothing is left.
pub for_done : {S : Type 0} (f : ℕ → S → S) (lo hi : ℕ) (s : S) → hi ≤ lo → for f lo hi s ≡ s
unfolding for iter
for_done f lo hi s h =
    let e : hi - lo ≡ 0 = omega arith in
    ap (λ (n : ℕ). iter f n lo s) e

-- One turn.
pub for_one : {S : Type 0} (f : ℕ → S → S) (k : ℕ) (s : S) → for f k (k + 1) s ≡ f k s
for_one f k s = for_step f k (k + 1) s (omega arith) ∙ for_done f (k + 1) (k + 1) (f k s) (omega arith)

iter_sim : {S U : Type 0} (R : U → S → Type 0) (g : ℕ → U → U) (f : ℕ → S → S) (n lo : ℕ)
    → ((k : ℕ) → lo ≤ k → k < lo + n → (v : U) (s : S) → R v s → R (g k v) (f k s))
    → (v : U) (s : S) → R v s → R (iter g n lo v) (iter f n lo s)
unfolding iter
iter_sim R g f zero lo turn v s r = r
iter_sim R g f (suc n) lo turn v s r =
    iter_sim R g f n (suc lo) (λ k l u. turn k (omega arith) (omega arith)) (g lo v) (f lo s) (turn lo (le_refl lo) (omega arith) v s r)

-- Two loops side by side: a relation that each pair of turns keeps, the loops keep.
pub for_sim : {S U : Type 0} (R : U → S → Type 0) (g : ℕ → U → U) (f : ℕ → S → S) (lo hi : ℕ)
    → ((k : ℕ) → lo ≤ k → k < hi → (v : U) (s : S) → R v s → R (g k v) (f k s))
    → (v : U) (s : S) → R v s → R (for g lo hi v) (for f lo hi s)
unfolding for
for_sim R g f lo hi turn v s r = iter_sim R g f (hi - lo) lo (λ k l u. turn k l (omega arith)) v s r

-- What every turn keeps, the loop keeps.
pub for_keeps : {S : Type 0} (P : S → Type 0) (f : ℕ → S → S) (lo hi : ℕ)
    → ((k : ℕ) → lo ≤ k → k < hi → (s : S) → P s → P (f k s))
    → (s : S) → P s → P (for f lo hi s)
for_keeps {S} P f lo hi turn s p = for_sim (λ (v : S) (s' : S). P s') f f lo hi (λ k l u v s' q. turn k l u s' q) s s p

-- Where h makes a state of a simpler one, and each turn f at h v is h of a turn g, so it is with the loops.
-- P is what the simpler states keep, as their length.
pub for_map : {S U : Type 0} (h : U → S) (P : U → Type 0) (g : ℕ → U → U) (f : ℕ → S → S) (lo hi : ℕ)
    → ((k : ℕ) → lo ≤ k → k < hi → (v : U) → P v → P (g k v) × (f k (h v) ≡ h (g k v)))
    → (v : U) → P v → P (for g lo hi v) × (for f lo hi (h v) ≡ h (for g lo hi v))
for_map {S} {U} h P g f lo hi turn v p =
    for_sim (λ (u : U) (s : S). P u × (s ≡ h u)) g f lo hi
    (λ k l b u s r. ((turn k l b u r.0).0, ap (f k) r.1 ∙ (turn k l b u r.0).1))
    v (h v) (p, refl)

-- Loops whose turns are equal are equal.
pub for_same : {S : Type 0} (f g : ℕ → S → S) (lo hi : ℕ)
    → ((k : ℕ) → lo ≤ k → k < hi → (s : S) → f k s ≡ g k s)
    → (s : S) → for f lo hi s ≡ for g lo hi s
for_same {S} f g lo hi e s = for_sim (λ (v : S) (u : S). u ≡ v) g f lo hi (λ k l b v u q. rw q (e k l b v)) s s refl

iter_count : {S : Type 0} (P : ℕ → S → Type 0) (f : ℕ → S → S) (n lo : ℕ)
    → ((k : ℕ) → lo ≤ k → k < lo + n → (s : S) → P k s → P (suc k) (f k s))
    → (s : S) → P lo s → P (lo + n) (iter f n lo s)
unfolding iter
iter_count {S} P f zero lo turn s p = rw add-zero p
iter_count {S} P f (suc n) lo turn s p =
    let e : lo + suc n ≡ suc lo + n = omega arith in
    rw e (iter_count P f n (suc lo) (λ k l u. turn k (omega arith) (omega arith)) (f lo s) (turn lo (le_refl lo) (omega arith) s p))

-- An invariant that counts: P at lo, carried on by each turn, is P at hi after the loop.
pub for_count : {S : Type 0} (P : ℕ → S → Type 0) (f : ℕ → S → S) (lo hi : ℕ) → lo ≤ hi
    → ((k : ℕ) → lo ≤ k → k < hi → (s : S) → P k s → P (suc k) (f k s))
    → (s : S) → P lo s → P hi (for f lo hi s)
unfolding for
for_count {S} P f lo hi b turn s p =
    let e : lo + (hi - lo) ≡ hi = omega arith in
    rw e at (iter_count P f (hi - lo) lo (λ k l u. turn k l (omega arith)) s p)

for_still : {S : Type 0} (f : ℕ → S → S) (lo hi : ℕ) (s : S) → ((k : ℕ) → f k s ≡ s) → for f lo hi s ≡ s
for_still {S} f lo hi s still = for_keeps (λ (t : S). t ≡ s) f lo hi (λ k _ _ t e. rw e (still k)) s refl

-- The invariant of a loop in code: what is left at lo, from s, gives r. A record, so that a use need not write its arguments.
pub record Left {S : Type 0} (f : ℕ → S → S) (lo hi : ℕ) (s r : S) : Type 0 where
  pub gives : for f lo hi s ≡ r

-- At the start the whole is left.
pub left_start : {S : Type 0} {f : ℕ → S → S} {lo hi : ℕ} {s : S} → Left f lo hi s (for f lo hi s)
left_start = record { gives = refl }

-- A turn: the state s' after it is known by an equation.
pub left_on : {S : Type 0} {f : ℕ → S → S} {lo hi : ℕ} {s s' r : S} → Left f lo hi s r → lo < hi → s' ≡ f lo s → Left f (lo + 1) hi s' r
left_on {S} {f} {lo} {hi} {s} {s'} {r} e h t = rw t (record { gives = sym (for_step f lo hi s h) ∙ e.gives })

-- The end: the state is the result.
pub left_end : {S : Type 0} {f : ℕ → S → S} {lo hi : ℕ} {s r : S} → Left f lo hi s r → hi ≤ lo → s ≡ r
left_end {S} {f} {lo} {hi} {s} {r} e h = sym (for_done f lo hi s h) ∙ e.gives

-- An early end: a state that no turn changes is the result.
pub left_still : {S : Type 0} {f : ℕ → S → S} {lo hi : ℕ} {s r : S} → Left f lo hi s r → ((k : ℕ) → f k s ≡ s) → s ≡ r
left_still {S} {f} {lo} {hi} {s} {r} e still = sym (for_still f lo hi s still) ∙ e.gives

-- An early end at this turn: it leads to a state that no turn changes.
pub left_stop : {S : Type 0} {f : ℕ → S → S} {lo hi : ℕ} {s s' r : S} → Left f lo hi s r → lo < hi → s' ≡ f lo s → ((k : ℕ) → f k s' ≡ s') → s' ≡ r
left_stop {S} {f} {lo} {hi} {s} {s'} {r} e h t still = left_still (left_on e h t) still
