-- Copies between lists: a turn of the loop, and what it leaves.
-- Assumes nothing.
use mathlib.Core.Path.{◌≡◌, refl, sym, ap, ◌∙◌}
use mathlib.Core.List.{List}
use Prim.Native.Nat.{ℕ, ◌+◌, ◌≤◌}
use native.Mathlib.Nat.{zero-add}
use native.Mathlib.Omega.{arith}
use lib.ListN.{length, get_or, set}
use lib.Ieee.{Float}
use Rattle.store.specs.Loop.{for}
use Rattle.store.specs.Region.{part, splice, Wrote}
use Rattle.store.proofs.store.Loop.{Left, left_end, for_same}
use Rattle.store.proofs.store.Region.{get_d_part, length_part, wrote, wrote_at, wrote_off, wrote_whole, kept_wrote, kept_on}
use Rattle.store.proofs.store.Vector.{tab_same, tab_get_d, for_each}
use Rattle.solve.specs.Copies.{EnterOk, Entered}

-- a turn of a loop that copies what stands at `from`
unfoldable pub out_turn : {A : Type 0} → A → List A → ℕ → ℕ → List A → List A
out_turn d v from k F = set F k (get_or v (from + k) d)

module _ {A : Type 0} where
  -- A loop that copies n elements at `from` leaves them at the start,
  out_wrote : (v F : List A) {G : List A} (from n : ℕ) {k : ℕ} (d : A) → from + n ≤ length v
      → Left (out_turn d v from) k n G (for (out_turn d v from) 0 n F) → n ≤ k → Wrote 0 n (part from n v) F G
  unfolding out_turn
  out_wrote v F {G} from n d fits l h =
      let long = length_part from n v fits in
      wrote (left_end l h
      ∙ for_same _ (λ k H. set H (0 + k) (get_or v (from + k) d)) 0 n (λ k _ _ H. ap (λ (i : ℕ). set H i (get_or v (from + k) d)) (sym (zero-add k))) F
      ∙ for_each 0 n F (λ k _. get_or v (from + k) d) (λ _ _ _ _. refl)
      ∙ ap (λ (u : List A). splice 0 u F)
      (tab_same _ (λ k. get_or (part from n v) k d) n (λ k b. sym (get_d_part from n v k d b)) ∙ tab_get_d d (part from n v) n long)) long

  -- over the whole where it has n elements.
  pub out_done : (v F : List A) {G : List A} (from : ℕ) {k : ℕ} (d : A) → from + length F ≤ length v
      → Left (out_turn d v from) k (length F) G (for (out_turn d v from) 0 (length F) F) → length F ≤ k → G ≡ part from (length F) v
  out_done v F from d fits l h = wrote_whole (out_wrote v F from (length F) d fits l h) refl

-- Right-hand side and start in the store.
pub entered : {F G H rhs x : List Float} {to start : ℕ} → EnterOk (length F) (length rhs) (length x) to start
    → Wrote to (length rhs) rhs F G → Wrote start (length x) x G H → Entered F H rhs x to start
entered ok a b =
    let same = a.size in
    record {
      given = wrote_off b _ _ (omega (arith, ok.given)) ∙ wrote_at a (omega (arith, ok.given, ok.room));
      solution = wrote_at b (omega (arith, ok.room));
      floats = kept_on (kept_wrote a (omega arith)) (kept_wrote b (omega (arith, ok.given)));
    }

-- There is room for the second after the first.
pub second_fits : {F G : List Float} {m k : ℕ} {rhs : List Float} {to start : ℕ} → EnterOk (length F) m k to start
    → Wrote to m rhs F G → start + k ≤ length G
second_fits ok a = omega (arith, ok.room, a.size)
