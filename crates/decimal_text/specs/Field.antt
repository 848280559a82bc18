-- What a field of bytes says: digits, and a value with its sign, point and power of ten. Definitions only.
use Rattle.std.specs.Prelude.{Option, Some, None, Bool, true, false, not, cond, ◌&&◌, ◌||◌, List, [], ◌∷◌, ◌++◌, ℕ, suc, ◌+◌, ◌-◌, ◌*◌, ◌^◌, min, eqb, ltb, leb, length, take, drop, get_or, Float}
use Rattle.decimal.specs.Decimal.{value_of, signed_of}

-- ---- digits

-- a byte from `0` to `9`
abbrev pub is_digit : ℕ → Bool
is_digit b = leb 48 b && leb b 57

-- whether every byte is a digit
unfoldable pub all_digits : List ℕ → Bool
all_digits [] = true
all_digits (b ∷ l) = is_digit b && all_digits l

-- the number that n and then the digits of l write
unfoldable pub number_from : ℕ → List ℕ → ℕ
number_from n [] = n
number_from n (b ∷ l) = number_from (n * 10 + (b - 48)) l

-- the number that digits write, leading zeros or not
abbrev pub number_of : List ℕ → ℕ
number_of l = number_from 0 l

-- one digit or more, and nothing else
abbrev pub is_number : List ℕ → Bool
is_number l = ltb 0 (length l) && all_digits l

-- ---- places of bytes

-- where the first byte that is a or b stands; the length where none is
unfoldable pub place_of : ℕ → ℕ → List ℕ → ℕ
place_of a b [] = 0
place_of a b (x ∷ l) = cond (eqb x a || eqb x b) 0 (suc (place_of a b l))

-- whether the first byte is a minus sign
abbrev pub starts_minus : List ℕ → Bool
starts_minus l = eqb (get_or l 0 0) 45

-- 1 where the first byte is a sign, else 0
abbrev pub sign_of : List ℕ → ℕ
sign_of l = cond (eqb (get_or l 0 0) 43 || eqb (get_or l 0 0) 45) 1 0

-- what stands after a sign or none
abbrev pub unsigned : List ℕ → List ℕ
unsigned l = drop (sign_of l) l

-- ---- the parts of a value, its sign taken away

-- what stands before the e or E
abbrev pub head_of : List ℕ → List ℕ
head_of l = take (place_of 101 69 l) l

-- whether there is an e or E
abbrev pub has_power : List ℕ → Bool
has_power l = ltb (place_of 101 69 l) (length l)

-- what stands after the e or E; nothing where there is none
abbrev pub power_of : List ℕ → List ℕ
power_of l = drop (place_of 101 69 l + 1) l

-- what stands before the point
abbrev pub whole_of : List ℕ → List ℕ
whole_of l = take (place_of 46 46 l) l

-- what stands after the point; nothing where there is none
abbrev pub fraction_of : List ℕ → List ℕ
fraction_of l = drop (place_of 46 46 l + 1) l

-- the digits before and after the point
abbrev pub both_of : List ℕ → List ℕ
both_of l = whole_of l ++ fraction_of l

-- ---- the value

-- the first, where the test holds, else the second
abbrev pub pick_reading : Bool → Option Float → Option Float → Option Float
pick_reading true x y = x
pick_reading false x y = y

-- m * 10^(up - down) after its sign, correctly rounded, if m has at most 15 digits and the power is from -22 to 22
abbrev pub scaled_of : Bool → ℕ → ℕ → ℕ → Option Float
scaled_of minus m up down =
    pick_reading (ltb m (10 ^ 15) && leb (up - down + (down - up)) 22)
    (Some (signed_of minus (value_of m (ltb up down) (up - down + (down - up)))))
    None

-- m digits with so many of them after the point, times ten to a power with its sign
abbrev pub shifted_of : Bool → ℕ → ℕ → Bool → ℕ → Option Float
shifted_of minus m fraction negative power = scaled_of minus m (cond negative 0 power) (fraction + cond negative power 0)

-- digits with a point or none, then nothing or, after an e or E, a sign or none and digits
abbrev pub form_of : Bool → List ℕ → Bool → List ℕ → Option Float
form_of minus head has power =
    pick_reading (is_number (both_of head) && (not has || is_number (unsigned power)))
    (shifted_of minus (number_of (both_of head)) (length (fraction_of head)) (starts_minus power) (number_of (unsigned power)))
    None

-- the value of a field: a sign or none, digits with a point or none, and a power of ten or none
abbrev pub value_in : List ℕ → Option Float
value_in l = form_of (starts_minus l) (head_of (unsigned l)) (has_power (unsigned l)) (power_of (unsigned l))

-- ---- what the code keeps of long digit strings: numbers up to 10^19

-- the first, where the test holds, else the second
abbrev pub pick_digits : Bool → Option ℕ → Option ℕ → Option ℕ
pick_digits true x y = x
pick_digits false x y = y

abbrev pub digits_from : ℕ → List ℕ → Option ℕ
digits_from n l = pick_digits (all_digits l) (Some (min (number_from n l) (10 ^ 19))) None

-- a digit string of any length as a number, up to 10^19
abbrev pub number_in : List ℕ → Option ℕ
number_in l = pick_digits (is_number l) (Some (min (number_of l) (10 ^ 19))) None

-- the first, where the test holds, else the second
abbrev pub pick_mantissa : Bool → Option (ℕ × ℕ) → Option (ℕ × ℕ) → Option (ℕ × ℕ)
pick_mantissa true x y = x
pick_mantissa false x y = y

-- the digits of l behind `whole` digits that write n
abbrev pub fraction_in : ℕ → ℕ → List ℕ → Option (ℕ × ℕ)
fraction_in n whole l = pick_mantissa (ltb 0 (whole + length l) && all_digits l) (Some (min (number_from n l) (10 ^ 19), length l)) None

-- the digits around the point
abbrev pub mantissa_in : List ℕ → Option (ℕ × ℕ)
mantissa_in l = pick_mantissa (is_number (both_of l)) (Some (min (number_of (both_of l)) (10 ^ 19), length (fraction_of l))) None

-- the first, where the test holds, else the second
abbrev pub pick_exponent : Bool → Option (Bool × ℕ) → Option (Bool × ℕ) → Option (Bool × ℕ)
pick_exponent true x y = x
pick_exponent false x y = y

-- a power of ten behind its e or E
abbrev pub exponent_in : List ℕ → Option (Bool × ℕ)
exponent_in l = pick_exponent (is_number (unsigned l)) (Some (starts_minus l, min (number_of (unsigned l)) (10 ^ 19))) None

-- the power of ten of a field whose e or E stands at `mark`, if that is no end
abbrev pub power_in : List ℕ → ℕ → Option (Bool × ℕ)
power_in l mark = pick_exponent (ltb mark (length l)) (exponent_in (drop (mark + 1) l)) (Some (false, 0))

-- digits and a power of ten
abbrev pub shifted_in : Bool → ℕ → ℕ → Option (Bool × ℕ) → Option Float
shifted_in minus m fraction None = None
shifted_in minus m fraction (Some (negative, power)) = shifted_of minus m fraction negative power
