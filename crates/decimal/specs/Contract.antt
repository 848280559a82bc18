-- What the bisection ensures. Definitions only.
use Rattle.std.specs.Prelude.{Bool, true, false, ◌≡◌, ℕ, ◌^◌, ◌≤◌, ◌<◌, Float}
use Rattle.std.specs.Float.Ieee.{lt}
use Rattle.decimal.specs.Decimal.{value_of}

-- m is where the rounded numbers, which grow with their digits, reach v: all before are below v, and m's is not, if m has at most 15 digits.
pub record Reached (v : Float) (negative : Bool) (power m : ℕ) : Type 0 where
  pub within : m ≤ 10 ^ 15
  pub before : (k : ℕ) → k < m → lt (value_of k negative power) v ≡ true
  pub here : m < 10 ^ 15 → lt (value_of m negative power) v ≡ false
