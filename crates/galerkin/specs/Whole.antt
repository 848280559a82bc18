-- Whole numbers as floats. Definitions only.
use Rattle.std.specs.Prelude.{◌≡◌, Bool, true, false, ℕ, zero, suc, ◌+◌, ℤ, pos, neg_ℤ, nat_abs, Float}
use Rattle.std.specs.Float.{binary64}
use Rattle.std.specs.Float.Ieee.{of_bits}
use Rattle.std.specs.Float.Ieee.Exact.{HasValue}

-- a with a sign
abbrev pub signed : Bool → ℕ → ℤ
signed false a = pos a
signed true a = neg_ℤ (pos a)

-- x is finite, and its value is the whole number z; of 0 both −0 and +0 are.
pub record Whole (x : Float) (z : ℤ) : Type 0 where
  pub sign : Bool
  pub size : ℕ
  pub value : HasValue x sign size 1
  pub is : z ≡ signed sign size

-- the absolute values of z 0, .., z (n - 1), added up
unfoldable pub sizes : ℕ → (ℕ → ℤ) → ℕ
sizes zero z = 0
sizes (suc n) z = sizes n z + nat_abs (z n)

-- `0.5`
abbrev pub half : Float
half = of_bits binary64 0x3fe0_0000_0000_0000
