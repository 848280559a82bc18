-- `decimal_text::field::unsigned_value` meets its contract: by the digits and the power.
use lib.Seq.{length-take-le}
use lib.ListN.{length}
use Prim.Native.Nat.{◌<◌, ◌^◌}
use mathlib.Core.Path.{sym}
use Rattle.decimal_text.proofs.Value.{form_small, form_some}
use Rattle.decimal_text.proofs.Digits.{place_within}
use native.Mathlib.Omega.{arith}
use Rattle.decimal_text.proofs.field.unsigned_value.Goals as goal

pub slice_bounds-mantissa_in-end : goal.slice_bounds-mantissa_in-end
slice_bounds-mantissa_in-end c = sym (length-take-le c.find_either-mark.result c.args.s.now (omega (arith, c.find_either-mark.ensures, place_within 101 69 c.args.s.now)))

pub shifted-requires : goal.shifted-requires
shifted-requires c = let z : length c.args.s.now < 2 ^ 63 = omega (arith, c.well_formed) in form_small c.args.minus c.args.s.now c.find_either-mark.ensures c.mantissa_in.ensures z c.in_ok-m.was

pub returns : goal.returns
returns c = let z : length c.args.s.now < 2 ^ 63 = omega (arith, c.well_formed) in form_some c.args.minus c.args.s.now c.find_either-mark.ensures c.mantissa_in.ensures z c.in_ok-m.was c.power_at.ensures c.shifted.ensures
