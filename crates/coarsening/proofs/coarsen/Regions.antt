-- Regions of one store: two of them copied one after the other, and the pattern in them.
-- Assumes nothing.
use mathlib.Core.Path.{◌≡◌, ◌∙◌}
use mathlib.Core.List.{List}
use Prim.Native.Nat.{ℕ, ◌+◌, ◌≤◌}
use native.Mathlib.Omega.{arith}
use lib.ListN.{length}
use Rattle.store.specs.Region.{part, Wrote, Kept}
use Rattle.store.proofs.store.Region.{length_part, wrote_at, wrote_off, kept_wrote, kept_on, kept_part}
use Rattle.pattern.specs.Pattern.{entries}
use Rattle.coarsening.specs.declared.coarsen.Held.{Held}
use Rattle.coarsening.specs.CoarsenContract.{pattern_at}

module _ {A : Type 0} {a b n m : ℕ} (c d : ℕ) {F G H : List A} (first : Wrote a n (part c n F) F G) (second : Wrote b m (part d m G) G H)
    (order : a + n ≤ b) where
  -- Of two regions copied, the second to behind the first and to below where it stood, the first one stands.
  pub copied_first : b ≤ length F → part a n H ≡ part c n F
  copied_first l = wrote_off second a n (omega arith) ∙ wrote_at first (omega arith)

  -- And the second one.
  pub copied_second : b + m ≤ d → d + m ≤ length F → part b m H ≡ part d m F
  copied_second h l =
      let size : length G ≡ length F = first.size in
      wrote_at second (omega arith) ∙ wrote_off first d m (omega arith)

  -- Below the first nothing changed.
  pub copied_kept : Kept a F H
  copied_kept = kept_on (kept_wrote first (omega arith)) (kept_wrote second (omega arith))

-- A pattern that ends at or below p is the same in two stores that agree below p.
pub pattern_kept : {p : ℕ} {w z : List ℕ} → Kept p w z → (m : Held) → m.offsets + m.rows + 1 ≤ p
    → m.columns + m.entries ≤ p → pattern_at z m ≡ pattern_at w m
pattern_kept k m h l =
    rw (kept_part k m.offsets (m.rows + 1) (omega arith), kept_part k m.columns m.entries l)

-- A pattern in the store has its entries.
pub entries_at : (w : List ℕ) (m : Held) → m.columns + m.entries ≤ length w → entries (pattern_at w m) ≡ m.entries
entries_at w m h = length_part m.columns m.entries w h
