-- Numbers read from bytes: four bytes are a u32, two of these a u64, and a loop that reads one after the other leaves all of them. Assumes nothing.
use mathlib.Core.Path.{◌≡◌, refl, ◌∙◌}
use mathlib.Core.List.{List}
use Prim.Native.Nat.{ℕ, ◌+◌, ◌*◌, ◌≤◌, ◌<◌}
use native.Mathlib.Omega.{arith}
use lib.ListN.{set}
use Rattle.store.specs.Loop.{for}
use Rattle.store.specs.Region.{Wrote}
use Rattle.store.specs.Vector.{tab}
use Rattle.store.proofs.store.Loop.{Left, left_end, left_on}
use Rattle.store.proofs.store.Region.{wrote}
use Rattle.store.proofs.store.Vector.{length_tab, for_each}
use Rattle.record_format.specs.Bytes.{u32_at, u64_at}
use Rattle.record_format.specs.Steps.{ByteIs, WordIs}

-- Four bytes are a u32.
pub word_is : {b : List ℕ} {at first second third fourth : ℕ} → ByteIs b at first → ByteIs b (at + 1) second → ByteIs b (at + 2) third → ByteIs b (at + 3) fourth
    → WordIs b at (first + 256 * second + 65536 * third + 16777216 * fourth)
unfolding u32_at
word_is p q r s = record { is = omega arith; small = omega arith }

-- Two u32 are a u64.
pub long_is : {b : List ℕ} {at low high : ℕ} → WordIs b at low → WordIs b (at + 4) high → low + 4294967296 * high ≡ u64_at b at
unfolding u64_at
long_is p q = omega arith

-- a turn of a loop that writes what a function of the index gives
unfoldable pub tab_turn : {A : Type 0} → (ℕ → A) → ℕ → List A → List A
tab_turn g k F = set F (0 + k) (g k)

-- Such a loop leaves the table of the function over the start.
pub tab_done : {A : Type 0} {F G : List A} {n k : ℕ} (g : ℕ → A) → Left (tab_turn g) k n G (for (tab_turn g) 0 n F) → n ≤ k → Wrote 0 n (tab g n) F G
unfolding tab_turn
tab_done {A} {F} {G} {n} g l h = wrote (left_end l h ∙ for_each 0 n F (λ k _. g k) (λ _ _ _ _. refl)) (length_tab g n)

-- A turn of such a loop: v is what the function gives.
pub tab_on : {A : Type 0} (g : ℕ → A) {F R : List A} {k n : ℕ} {v : A} → Left (tab_turn g) k n F R → k < n → v ≡ g k → Left (tab_turn g) (k + 1) n (set F k v) R
unfolding tab_turn
tab_on {A} g {F} {R} {k} {n} {v} l h e = left_on l h (let z : 0 + k ≡ k = omega arith in rw (z, e))
