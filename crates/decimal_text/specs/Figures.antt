-- How numbers and values are written. Definitions only.
use Rattle.std.specs.Prelude.{Option, Some, None, Bool, cond, List, [], ◌∷◌, ◌++◌, ℕ, zero, suc, ◌+◌, ◌/◌, ◌%◌, eqb, ltb, Float}
use Rattle.decimal.specs.Decimal.{write_of, is_minus, magnitude_of}

-- the digits of n, with at most `more` after the first
unfoldable pub figures_of : ℕ → ℕ → List ℕ
figures_of zero n = (n % 10 + 48) ∷ []
figures_of (suc more) n = cond (ltb n 10) ((n + 48) ∷ []) (figures_of more (n / 10) ++ ((n % 10 + 48) ∷ []))

-- the digits of a number below 10^20, without a needless leading zero
abbrev pub figures : ℕ → List ℕ
figures n = figures_of 19 n

-- a minus or nothing
abbrev pub sign_text : Bool → List ℕ
sign_text minus = cond minus (45 ∷ []) []

-- the power of ten; nothing where it is zero
abbrev pub power_text : Bool → ℕ → List ℕ
power_text negative power = cond (eqb power 0) [] (101 ∷ sign_text negative ++ figures power)

-- a value's sign, digits and power
abbrev pub number_text : Bool → ℕ → Bool → ℕ → List ℕ
number_text minus m negative power = sign_text minus ++ figures m ++ power_text negative power

-- the text of what was found for a value; nothing where it cannot be written
abbrev pub text_of : Bool → Option (ℕ × Bool × ℕ) → List ℕ
text_of minus (Some (m, negative, power)) = number_text minus m negative power
text_of minus None = []

-- the text of a value: a minus below zero only, and the power nearest zero
abbrev pub value_text : Float → List ℕ
value_text v = text_of (is_minus v) (write_of (magnitude_of v))
