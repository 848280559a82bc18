-- `float::abs` meets its contract: of a number it clears the sign bit, and a NaN stays a NaN.
use mathlib.Core.Path.{sym, subst}
use lib.Dec.{T}
use lib.Ieee.{binary64, fits}
use Rattle.float.proofs.float.Compare.{no_nan, is_nan_lem}
use Rattle.float.proofs.float.Sign.{abs_is, abs_bits, abs_of_nan}
use Rattle.float.proofs.float.abs.Goals as goal

-- An argument is a value that an f64 holds.
held : (c : goal.Else-is_nan) → T (fits binary64 c.args.x)
held c = subst T (sym c.well_formed.0.1) tt

pub returns-then-is_nan : goal.returns-then-is_nan
returns-then-is_nan c = abs_of_nan c.args.x (is_nan_lem c.args.x c.is_nan.ensures.value c.if-is_nan.true)

pub returns-else-is_nan : goal.returns-else-is_nan
returns-else-is_nan c = abs_is c.args.x (held c)

pub float_to_bits-result : goal.float_to_bits-result
float_to_bits-result c = no_nan c.args.x c.is_nan.ensures.value c.if-is_nan.false

pub float_from_bits-result : goal.float_from_bits-result
float_from_bits-result c = abs_bits c.args.x (held c) (float_to_bits-result c)
