-- A bounded loop as a function of its state. Definitions only.
use Rattle.std.specs.Prelude.{ℕ, zero, suc, ◌-◌}

-- s after n turns of f, at the indices i, i + 1, ..
unfoldable pub iter : {S : Type 0} → (ℕ → S → S) → ℕ → ℕ → S → S
iter f zero i s = s
iter f (suc n) i s = iter f n (suc i) (f i s)

-- s after the turns k = lo, lo + 1, .., hi - 1 of f
unfoldable pub for : {S : Type 0} → (ℕ → S → S) → ℕ → ℕ → S → S
for f lo hi s = iter f (hi - lo) lo s
