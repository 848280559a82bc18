-- `float::of_bits` meets its contract: the test tells the bits of a NaN.
use mathlib.Core.Path.{◌≡◌, sym, ◌∙◌}
use mathlib.Core.Bool.{not}
use Prim.Native.Nat.{ℕ, ◌%◌, ◌^◌, ◌≤◌, ◌<◌}
use native.Mathlib.Omega.{arith}
use lib.Dec.{T}
use lib.Ieee.{binary64, nan, of_bits, div, nan_bits}
use lib.Ieee.Bits.{nan_bits_is, nan_bits_above}
use borrow.Author.Tests.{lt-ltb, le-ltb}
use Rattle.float.proofs.float.Compare.{only_nan}
use Rattle.float.proofs.float.of_bits.Goals as goal

above : (b : ℕ) → 0x7ff0_0000_0000_0000 < b % 2 ^ 63 → nan ≡ of_bits binary64 b
above b h =
    let t = nan_bits_above binary64 b ∙ lt-ltb 0x7ff0_0000_0000_0000 (b % 2 ^ 63) h in
    sym (only_nan (of_bits binary64 b) (sym (nan_bits_is binary64 b) ∙ t))

below : (b : ℕ) → b % 2 ^ 63 ≤ 0x7ff0_0000_0000_0000 → T (not (nan_bits binary64 b))
below b h = rw (nan_bits_above, le-ltb 0x7ff0_0000_0000_0000 (b % 2 ^ 63) h) tt

pub returns-then-b-gt9218868437227405312 : goal.returns-then-b-gt9218868437227405312
unfolding div of_bits
returns-then-b-gt9218868437227405312 c = above c.args.b (omega arith)

pub float_from_bits-result : goal.float_from_bits-result
float_from_bits-result c = below c.args.b (omega arith)
