-- Filling and copying a region and loading a list, whatever their elements: a turn of the loop, and what the loop leaves.
-- Assumes nothing.
use mathlib.Core.Path.{◌≡◌, refl, sym, ap, ◌∙◌}
use mathlib.Core.List.{List, [], ◌∷◌}
use Prim.Native.Nat.{ℕ, ◌+◌, ◌≤◌}
use native.Mathlib.Omega.{arith}
use lib.ListN.{length, get_or, set}
use Rattle.store.specs.Loop.{for}
use Rattle.store.specs.Region.{part, splice, Wrote, CopyOk}
use Rattle.store.specs.Vector.{filled}
use Rattle.store.proofs.store.Loop.{Left, left_end}
use Rattle.store.proofs.store.Region.{get_d_part, length_part, splice_nil, wrote}
use Rattle.store.proofs.store.Vector.{length_tab, tab_same, tab_get_d, for_each}

-- a turn of a loop that fills
unfoldable pub fill_turn : {A : Type 0} → ℕ → A → ℕ → List A → List A
fill_turn to v k F = set F (to + k) v

none : {A : Type 0} (v : List A) → length v ≡ 0 → v ≡ []
none [] e = refl
none (x ∷ v) e = absurd (omega arith)

-- A loop that fills leaves n times v at `to`.
pub fill_done : {A : Type 0} {F G : List A} {to n k : ℕ} (v : A) → Left (fill_turn to v) k n G (for (fill_turn to v) 0 n F) → n ≤ k
    → Wrote to n (filled n v) F G
unfolding fill_turn
fill_done {A} {F} {G} {to} {n} v l h = wrote (left_end l h ∙ for_each to n F (λ _ _. v) (λ _ _ _ _. refl)) (length_tab (λ _. v) n)

-- a turn of a loop that copies; d stands for what is past the end
unfoldable pub copy_turn : {A : Type 0} → A → ℕ → ℕ → ℕ → List A → List A
copy_turn d from to k F = set F (to + k) (get_or F (from + k) d)

-- a turn of a loop that copies the list v; d stands for what is past its end
unfoldable pub load_turn : {A : Type 0} → A → List A → ℕ → ℕ → List A → List A
load_turn d v to k F = set F (to + k) (get_or v k d)

-- A loop that copies leaves the region at `from` at `to`.
pub copy_done : {A : Type 0} {F G : List A} {n from to k : ℕ} (d : A) → CopyOk (length F) n from to
    → Left (copy_turn d from to) k n G (for (copy_turn d from to) 0 n F) → n ≤ k → Wrote to n (part from n F) F G
unfolding copy_turn
copy_done {A} {F} {G} {n} {from} {to} d ok l h =
    let long : length (part from n F) ≡ n = length_part from n F (omega arith) in
    wrote (left_end l h
    ∙ for_each to n F (λ k H. get_or H (from + k) d) (λ k b H same. same (from + k) d (omega arith))
    ∙ ap (λ (v : List A). splice to v F) (tab_same _ (λ k. get_or (part from n F) k d) n (λ k b. sym (get_d_part from n F k d b)) ∙ tab_get_d d (part from n F) n long)) long

-- A loop that copies v leaves it at `to`.
pub load_done : {A : Type 0} {v F G : List A} {to k : ℕ} (d : A)
    → Left (load_turn d v to) k (length v) G (for (load_turn d v to) 0 (length v) F)
    → length v ≤ k → Wrote to (length v) v F G
unfolding load_turn
load_done {A} {v} {F} {G} {to} d l h =
    wrote (left_end l h
    ∙ for_each to (length v) F (λ k _. get_or v k d) (λ _ _ _ _. refl)
    ∙ ap (λ (u : List A). splice to u F) (tab_get_d d v (length v) refl)) refl

-- The same where the list of turns is told for each element past the end, and nothing was written before the first turn.
pub copied : {A : Type 0} (F G : List A) (n from to k : ℕ) → CopyOk (length F) n from to → ((d : A) → Left (copy_turn d from to) k n G (for (copy_turn d from to) 0 n F))
    → (k ≡ 0 → G ≡ F) → k ≤ n → n ≤ k → Wrote to n (part from n F) F G
copied {A} [] G n from to k ok l z a b =
    let k0 : k ≡ 0 = omega (arith, ok.source) in
    let n0 : n ≡ 0 = omega arith in
    let e : G ≡ [] = z k0 in
    let E : List A = [] in
    let p : length (part from n E) ≡ n = length_part from n E ok.source in
    wrote (e ∙ sym (ap (λ (v : List A). splice to v E) (none (part from n E) (p ∙ n0)) ∙ splice_nil to E)) p
copied {A} (y ∷ F) G n from to k ok l z a b = copy_done y ok (l y) b

pub loaded_turns : {A : Type 0} (v F G : List A) (to k : ℕ) → ((d : A) → Left (load_turn d v to) k (length v) G (for (load_turn d v to) 0 (length v) F))
    → (k ≡ 0 → G ≡ F) → k ≤ length v → length v ≤ k → Wrote to (length v) v F G
loaded_turns {A} [] F G to k l z a b = wrote (z (omega arith) ∙ sym (splice_nil to F)) refl
loaded_turns {A} (y ∷ v) F G to k l z a b = load_done y (l y) b
