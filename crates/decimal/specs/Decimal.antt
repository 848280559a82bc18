-- Decimal numbers m * 10^power, of at most 15 digits and with a power from -22 to 22, as f64. Definitions only.
use Rattle.std.specs.Prelude.{Option, Some, None, Bool, true, false, not, cond, ℕ, zero, suc, ◌+◌, ◌*◌, ◌^◌, Float}
use Rattle.std.specs.Float.{nan, inf, fin, binary64}
use Rattle.std.specs.Float.Ieee.{of_bits, neg, round, lt, eq}

-- the numerator of 10^power, or where `negative` of 10^-power, as the fraction tens / parts
abbrev pub tens : Bool → ℕ → ℕ
tens false power = 10 ^ power
tens true power = 1

-- the denominator of that fraction
abbrev pub parts : Bool → ℕ → ℕ
parts false power = 1
parts true power = 10 ^ power

-- the f64 nearest to m * 10^power, or where `negative` to m * 10^-power
abbrev pub value_of : ℕ → Bool → ℕ → Float
value_of m negative power = round binary64 false (m * tens negative power) (parts negative power)

-- x is no NaN, and has no minus sign
abbrev pub plus : Float → Bool
plus nan = false
plus (inf s) = not s
plus (fin s m e) = not s

-- the first, where the test holds, else the second
abbrev pub pick_found : Bool → Option ℕ → Option ℕ → Option ℕ
pick_found true x y = x
pick_found false x y = y

-- the first number among i, i + 1, .., i + count - 1 that passes a test
unfoldable pub first_of : ℕ → (ℕ → Bool) → ℕ → Option ℕ
first_of zero test i = None
first_of (suc count) test i = pick_found (test i) (Some i) (first_of count test (i + 1))

-- `m e power` is a way to write v: it is read as v, zero signs apart
abbrev pub gives : Float → Bool → ℕ → ℕ → Bool
gives v negative power m = eq (value_of m negative power) v

-- the digits, at most 15, with which the power gives v
abbrev pub find_of : Float → Bool → ℕ → Option ℕ
find_of v negative power = first_of (10 ^ 15) (gives v negative power) 0

-- ---- writing: the powers 0, 1, -1, 2, -2, .., 22, -22 in this order, and the first that gives v

-- of the digits with 10^power and those with 10^-power the first that there are
abbrev pub number_of : Option ℕ → Option ℕ → ℕ → Option (ℕ × Bool × ℕ)
number_of (Some m) other power = Some (m, false, power)
number_of None (Some m) power = Some (m, true, power)
number_of None None power = None

-- v with 10^power, or else with 10^-power
abbrev pub attempt_of : Float → ℕ → Option (ℕ × Bool × ℕ)
attempt_of v power = number_of (find_of v false power) (find_of v true power) power

-- the first, unless it is refused
abbrev pub or_else : Option (ℕ × Bool × ℕ) → Option (ℕ × Bool × ℕ) → Option (ℕ × Bool × ℕ)
or_else (Some (m, negative, power)) other = Some (m, negative, power)
or_else None other = other

-- the first of `count` powers from `power` on
unfoldable pub write_from : ℕ → Float → ℕ → Option (ℕ × Bool × ℕ)
write_from zero v power = None
write_from (suc count) v power = or_else (attempt_of v power) (write_from count v (power + 1))

-- v with the power nearest zero that gives it, if one from -22 to 22 does
abbrev pub write_of : Float → Option (ℕ × Bool × ℕ)
write_of v = write_from 23 v 0

-- ---- signs: a minus is written below zero only, so that -0 is written as 0, and a minus before 0 is read as -0

-- v is below zero
abbrev pub is_minus : Float → Bool
is_minus v = lt v (of_bits binary64 0)

-- what is written after the sign
abbrev pub magnitude_of : Float → Float
magnitude_of v = cond (is_minus v) (neg v) v

-- x read after a sign
abbrev pub signed_of : Bool → Float → Float
signed_of minus x = cond minus (neg x) x
