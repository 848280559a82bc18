-- Two maps one after the other, in place: a turn of the loop, and what the loop leaves.
-- Assumes nothing.
use mathlib.Core.Path.{◌≡◌, sym, ap, ◌∙◌}
use mathlib.Core.List.{List}
use Prim.Native.Nat.{ℕ, ◌+◌, ◌≤◌, ◌<◌}
use native.Mathlib.Omega.{arith}
use lib.ListN.{length, get_or, set, length-set}
use lib.Seq.{get_or-set_other}
use Rattle.store.specs.Loop.{for}
use Rattle.store.specs.Region.{idx, part, splice, Wrote}
use Rattle.store.proofs.store.Loop.{Left, left_on, left_end}
use Rattle.store.proofs.store.Region.{get_d_part, wrote}
use Rattle.store.proofs.store.Vector.{length_tab, tab_same, for_each}
use Rattle.pattern.specs.Pattern.{compose_of}
use Rattle.pattern.specs.Coarsening.{ComposeOk}

-- a turn of the loop
unfoldable pub compose_turn : ℕ → ℕ → ℕ → List ℕ → List ℕ
compose_turn map next i W = set W (map + i) (idx W (next + idx W (map + i)))

-- What is left at i gives the whole, and the aggregates from i on are as they were.
pub record Composing (w z : List ℕ) (n map next i : ℕ) : Type 0 where
  pub left : Left (compose_turn map next) i n z (for (compose_turn map next) 0 n w)
  pub rest : (k : ℕ) → i ≤ k → idx z (map + k) ≡ idx w (map + k)
  pub size : length z ≡ length w

module _ {w z : List ℕ} {n map next count i : ℕ} (ok : ComposeOk w n map next count)
    (s : Composing w z n map next i) where
  -- The next aggregate is below the count.
  pub compose_index : i < n → (map + i < length z) × (idx z (map + i) < count)
  compose_index h = (
    omega (arith, s.size, ok.target),
    rw (s.rest i (omega arith), ← get_d_part map n w i 0 h) (ok.maps.below i h),
  )

  -- It is replaced by the aggregate of the next map.
  pub compose_on : {a : ℕ} → i < n → a ≡ idx z (map + i)
      → Composing w (set z (map + i) (idx z (next + a))) n map next (i + 1)
  unfolding compose_turn
  compose_on {a} h is = record {
    left = left_on s.left h (ap (λ (x : ℕ). set z (map + i) (idx z (next + x))) is);
    rest = λ k l. get_or-set_other z (map + i) (map + k) (idx z (next + a)) 0 (λ e. omega arith)
        ∙ s.rest k (omega arith);
    size = length-set z (map + i) (idx z (next + a)) ∙ s.size;
  }

  -- At the end the composed map stands there.
  pub compose_end : n ≤ i → Wrote map n (compose_of n (part map n w) (part next count w)) w z
  unfolding compose_turn compose_of
  compose_end h =
      wrote (left_end s.left h
      ∙ for_each map n w (λ k G. idx G (next + idx G (map + k))) (λ k b G same. both k b G same)
      ∙ ap (λ (v : List ℕ). splice map v w) (tab_same (λ k. idx w (next + idx w (map + k)))
      (λ k. idx (part next count w) (idx (part map n w) k)) n (λ k b. sym (parts k b))))
      (length_tab (λ k. idx (part next count w) (idx (part map n w) k)) n)
    where
      small : (k : ℕ) → k < n → idx w (map + k) < count
      small k b = rw (← get_d_part map n w k 0 b) (ok.maps.below k b)

      both : (k : ℕ) → k < n → (G : List ℕ) → ((i : ℕ) (d : ℕ) → (map ≤ i → map + k ≤ i) → get_or G i d ≡ get_or w i d)
          → idx G (next + idx G (map + k)) ≡ idx w (next + idx w (map + k))
      both k b G same =
          let c = ok.clear in
          let l = small k b in
          rw (same (map + k) 0 (λ _. omega arith)) (same (next + idx w (map + k)) 0 (λ m. omega arith))

      parts : (k : ℕ) → k < n → idx (part next count w) (idx (part map n w) k) ≡ idx w (next + idx w (map + k))
      parts k b = rw (get_d_part map n w k 0 b) (get_d_part next count w (idx w (map + k)) 0 (small k b))
