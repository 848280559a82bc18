-- Fields as document 02 has them, read by the definition. Assumes nothing.
use mathlib.Core.Bool.{Bool, true, false, ◌&&◌}
use mathlib.Core.List.{[], ◌∷◌}
use Prim.Native.Nat.{ℕ}
use lib.Dec.{T, eqb}
use lib.Ieee.{binary64, to_bits, round, neg}
use Rattle.std.specs.Prelude.{Float, Option, Some, None}
use Rattle.decimal_text.specs.Field.{all_digits, number_from, place_of, value_in}

abbrev is_value : Option Float → ℕ → Bool
is_value (Some x) bits = eqb (to_bits binary64 x) bits
is_value None bits = false

abbrev is_outside : Option Float → Bool
is_outside (Some x) = false
is_outside None = true

-- `5.`, `.5`, `-0`, `+1.50e3`, `0001e-00022`, `123456789012345E22`, `0.000000000000000000000000010e25`, `00000000000000000000000000000000000000000001`, `0.1e+0`
given : T (
    is_value (value_in (53 ∷ 46 ∷ [])) 4617315517961601024
    && is_value (value_in (46 ∷ 53 ∷ [])) 4602678819172646912
    && is_value (value_in (45 ∷ 48 ∷ [])) 9223372036854775808
    && is_value (value_in (43 ∷ 49 ∷ 46 ∷ 53 ∷ 48 ∷ 101 ∷ 51 ∷ [])) 4654311885213007872
    && is_value (value_in (48 ∷ 48 ∷ 48 ∷ 49 ∷ 101 ∷ 45 ∷ 48 ∷ 48 ∷ 48 ∷ 50 ∷ 50 ∷ [])) 4277919505920253670
    && is_value (value_in (49 ∷ 50 ∷ 51 ∷ 52 ∷ 53 ∷ 54 ∷ 55 ∷ 56 ∷ 57 ∷ 48 ∷ 49 ∷ 50 ∷ 51 ∷ 52 ∷ 53 ∷ 69 ∷ 50 ∷ 50 ∷ [])) 5146972932258190249
    && is_value (value_in (48 ∷ 46 ∷ 48 ∷ 48 ∷ 48 ∷ 48 ∷ 48 ∷ 48 ∷ 48 ∷ 48 ∷ 48 ∷ 48 ∷ 48 ∷ 48 ∷ 48 ∷ 48 ∷ 48 ∷ 48 ∷ 48 ∷ 48 ∷ 48 ∷ 48 ∷ 48 ∷ 48 ∷ 48 ∷ 48 ∷ 48 ∷ 49 ∷ 48 ∷ 101 ∷ 50 ∷ 53 ∷ [])) 4591870180066957722
    && is_value (value_in (48 ∷ 48 ∷ 48 ∷ 48 ∷ 48 ∷ 48 ∷ 48 ∷ 48 ∷ 48 ∷ 48 ∷ 48 ∷ 48 ∷ 48 ∷ 48 ∷ 48 ∷ 48 ∷ 48 ∷ 48 ∷ 48 ∷ 48 ∷ 48 ∷ 48 ∷ 48 ∷ 48 ∷ 48 ∷ 48 ∷ 48 ∷ 48 ∷ 48 ∷ 48 ∷ 48 ∷ 48 ∷ 48 ∷ 48 ∷ 48 ∷ 48 ∷ 48 ∷ 48 ∷ 48 ∷ 48 ∷ 48 ∷ 48 ∷ 48 ∷ 49 ∷ [])) 4607182418800017408
    && is_value (value_in (48 ∷ 46 ∷ 49 ∷ 101 ∷ 43 ∷ 48 ∷ [])) 4591870180066957722)
unfolding all_digits number_from place_of round to_bits neg
given = tt

-- `.`, ``, `-`, `1e`, `1e+`, `1.2.3`, `0e23`, `1000000000000000`, `1.000000000000000`, `1e99999999999999999999999999`, `nan`, `1e2 `, `--1`, `0.00000000000000000000001`
refused : T (
    is_outside (value_in (46 ∷ []))
    && is_outside (value_in ([]))
    && is_outside (value_in (45 ∷ []))
    && is_outside (value_in (49 ∷ 101 ∷ []))
    && is_outside (value_in (49 ∷ 101 ∷ 43 ∷ []))
    && is_outside (value_in (49 ∷ 46 ∷ 50 ∷ 46 ∷ 51 ∷ []))
    && is_outside (value_in (48 ∷ 101 ∷ 50 ∷ 51 ∷ []))
    && is_outside (value_in (49 ∷ 48 ∷ 48 ∷ 48 ∷ 48 ∷ 48 ∷ 48 ∷ 48 ∷ 48 ∷ 48 ∷ 48 ∷ 48 ∷ 48 ∷ 48 ∷ 48 ∷ 48 ∷ []))
    && is_outside (value_in (49 ∷ 46 ∷ 48 ∷ 48 ∷ 48 ∷ 48 ∷ 48 ∷ 48 ∷ 48 ∷ 48 ∷ 48 ∷ 48 ∷ 48 ∷ 48 ∷ 48 ∷ 48 ∷ 48 ∷ []))
    && is_outside (value_in (49 ∷ 101 ∷ 57 ∷ 57 ∷ 57 ∷ 57 ∷ 57 ∷ 57 ∷ 57 ∷ 57 ∷ 57 ∷ 57 ∷ 57 ∷ 57 ∷ 57 ∷ 57 ∷ 57 ∷ 57 ∷ 57 ∷ 57 ∷ 57 ∷ 57 ∷ 57 ∷ 57 ∷ 57 ∷ 57 ∷ 57 ∷ 57 ∷ []))
    && is_outside (value_in (110 ∷ 97 ∷ 110 ∷ []))
    && is_outside (value_in (49 ∷ 101 ∷ 50 ∷ 32 ∷ []))
    && is_outside (value_in (45 ∷ 45 ∷ 49 ∷ []))
    && is_outside (value_in (48 ∷ 46 ∷ 48 ∷ 48 ∷ 48 ∷ 48 ∷ 48 ∷ 48 ∷ 48 ∷ 48 ∷ 48 ∷ 48 ∷ 48 ∷ 48 ∷ 48 ∷ 48 ∷ 48 ∷ 48 ∷ 48 ∷ 48 ∷ 48 ∷ 48 ∷ 48 ∷ 48 ∷ 49 ∷ [])))
unfolding all_digits number_from place_of
refused = tt
