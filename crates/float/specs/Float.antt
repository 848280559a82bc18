-- The operators and methods of f64 that the solver uses, as IEEE 754 has them (`lib.Ieee`). Definitions only.
use Rattle.std.specs.Prelude.{Bool, true, false, cond, ◌&&◌, ◌||◌, ℕ, Float}
use Rattle.std.specs.Float.{nan, inf, fin, binary64}
use Rattle.std.specs.Float.Ieee.{of_bits, round, neg, add, sub, mul, div, lt, is_nan}

-- `x + y` of two f64: the exact sum, rounded to nearest, ties to even
abbrev pub add64 : Float → Float → Float
add64 x y = add binary64 x y

-- `x - y` of two f64
abbrev pub sub64 : Float → Float → Float
sub64 x y = sub binary64 x y

-- `x * y` of two f64
abbrev pub mul64 : Float → Float → Float
mul64 x y = mul binary64 x y

-- `x / y` of two f64
abbrev pub div64 : Float → Float → Float
div64 x y = div binary64 x y

-- `0.0`
abbrev pub zero64 : Float
zero64 = of_bits binary64 0

-- `-0.0`, from which the iterator sums begin
abbrev pub neg_zero : Float
neg_zero = neg zero64

-- `1.0`
abbrev pub one64 : Float
one64 = of_bits binary64 0x3ff0_0000_0000_0000

-- the f64 nearest to n / d
abbrev pub ratio : ℕ → ℕ → Float
ratio n d = round binary64 false n d

-- `x.is_finite()`: neither a NaN nor an infinity
unfoldable pub is_finite : Float → Bool
is_finite nan = false
is_finite (inf s) = false
is_finite (fin s m e) = true

-- `x.is_finite() && x > 0.0`
unfoldable pub is_positive : Float → Bool
is_positive x = is_finite x && lt zero64 x

-- `x.abs()`: the sign cleared, so −0 gives +0; a NaN stays a NaN
unfoldable pub abs_of : Float → Float
abs_of nan = nan
abs_of (inf s) = inf false
abs_of (fin s m e) = fin false m e

-- `a.max(b)`, IEEE 754's maxNum: a NaN beside a number gives the number; of equal numbers, as −0 and +0, the first
unfoldable pub max_num : Float → Float → Float
unfolding is_nan lt
max_num a b = cond (is_nan a || lt a b) b a

-- `x.powi(2)`: one product
abbrev pub square_of : Float → Float
square_of x = mul64 x x
