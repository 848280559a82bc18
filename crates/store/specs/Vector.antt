-- Lists given by a function of the index, and tests of every index. Definitions only.
use Rattle.std.specs.Prelude.{Bool, true, ◌&&◌, List, [], ◌∷◌, ◌++◌, ℕ, zero, suc}

-- g 0, g 1, .., g (n - 1)
unfoldable pub tab : {A : Type 0} → (ℕ → A) → ℕ → List A
tab g zero = []
tab g (suc n) = tab g n ++ (g n ∷ [])

-- n times v
abbrev pub filled : {A : Type 0} → ℕ → A → List A
filled n v = tab (λ _. v) n

-- whether p k is true of each k below n
unfoldable pub each : (ℕ → Bool) → ℕ → Bool
each p zero = true
each p (suc n) = each p n && p n
