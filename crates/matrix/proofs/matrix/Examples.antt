-- Worked examples, over P = 4, −2; −2, 2. Each holds by computing.
-- Assumes nothing.
use mathlib.Core.Path.{◌≡◌, refl}
use mathlib.Core.List.{[], ◌∷◌}
use lib.Ieee.{Float, binary64, of_bits, add, sub, mul}
use Rattle.float.specs.Float.{zero64, one64}
use Rattle.store.specs.Loop.{iter, for}
use Rattle.store.specs.Vector.{tab}
use Rattle.matrix.specs.Kernel.{Kernel, spread_face, spread_row, spread_of, apply_of, residual_of, sum_face, sum_row, row_sums_of}

abbrev pub two : Float
two = of_bits binary64 0x4000_0000_0000_0000

abbrev pub minus_two : Float
minus_two = of_bits binary64 0xc000_0000_0000_0000

abbrev pub four : Float
four = of_bits binary64 0x4010_0000_0000_0000

abbrev quarter : Float
quarter = of_bits binary64 0x3fd0_0000_0000_0000

abbrev half : Float
half = of_bits binary64 0x3fe0_0000_0000_0000

abbrev pub P : Kernel
P = record {
  rows = 2;
  diagonal = four ∷ two ∷ [];
  inverse = quarter ∷ half ∷ [];
  offsets = 0 ∷ 1 ∷ 1 ∷ [];
  neighbors = 1 ∷ [];
  coefficients = minus_two ∷ [];
}

-- P (1, 2) = (0, 2)
product : apply_of P (one64 ∷ two ∷ []) ≡ zero64 ∷ two ∷ []
unfolding apply_of spread_of spread_row spread_face for iter tab of_bits add mul
product = refl

-- (1, 1) − P (1, 2) = (1, −1)
difference : residual_of P (one64 ∷ two ∷ []) (one64 ∷ one64 ∷ []) ≡ one64 ∷ of_bits binary64 0xbff0_0000_0000_0000 ∷ []
unfolding residual_of spread_of spread_row spread_face for iter tab of_bits sub mul
difference = refl

-- The rows of P add up to (2, 0).
sums : row_sums_of P ≡ two ∷ zero64 ∷ []
unfolding row_sums_of sum_row sum_face for iter of_bits add
sums = refl
