-- `float::to_bits` meets its contract: a NaN has the bits that `to_bits` writes for it.
use mathlib.Core.Path.{◌≡◌, refl, sym, ap, ◌∙◌}
use lib.Ieee.{binary64, nan, to_bits}
use Rattle.float.proofs.float.Compare.{is_nan_lem, no_nan}
use Rattle.float.proofs.float.to_bits.Goals as goal

of_nan : 0x7ff8_0000_0000_0000 ≡ to_bits binary64 nan
unfolding to_bits
of_nan = refl

pub returns-then-is_nan : goal.returns-then-is_nan
returns-then-is_nan c = of_nan ∙ sym (ap (to_bits binary64) (is_nan_lem c.args.x c.is_nan.ensures.value c.if-is_nan.true))

pub float_to_bits-result : goal.float_to_bits-result
float_to_bits-result c = no_nan c.args.x c.is_nan.ensures.value c.if-is_nan.false
