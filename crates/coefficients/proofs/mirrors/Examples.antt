-- Worked examples, over P = 4, −2; −2, 2. Each holds by computing.
-- Assumes nothing.
use mathlib.Core.Path.{◌≡◌, refl}
use mathlib.Core.Bool.{true, false}
use mathlib.Core.List.{List, [], ◌∷◌, map}
use Prim.Native.Nat.{ℕ}
use lib.Ieee.{Float, binary64, of_bits, sub, le}
use Rattle.float.specs.Float.{is_finite, abs_of}
use Rattle.store.specs.Vector.{each}
use Rattle.matrix.proofs.matrix.Examples.{two, minus_two, four}
use Rattle.coefficients.specs.Mirrors.{pair_agrees, mirrors_agree}

-- The entries of P by rows.
abbrev entries : List Float
entries = four ∷ minus_two ∷ minus_two ∷ two ∷ []

-- The mirrored entries of P agree.
mirrored : mirrors_agree 1 (1 ∷ []) (2 ∷ []) entries ≡ true
unfolding mirrors_agree pair_agrees each is_finite abs_of sub le of_bits
mirrored = refl

-- the two values of a face, and whether they agree
record Pair : Type 0 where
  upper : Float
  lower : Float

abbrev pair : ℕ → ℕ → Pair
pair u l = record { upper = of_bits binary64 u; lower = of_bits binary64 l }

-- +0 and −0 agree; so do a difference of exactly 1e-12, and of one unit at 8,191.
near : map (λ p. pair_agrees p.upper p.lower)
    (pair 0 0x8000_0000_0000_0000 ∷ pair 0x3d71_9799_812d_ea11 0 ∷ pair 0x40bf_ff00_0000_0000 0x40bf_ff00_0000_0001 ∷ [])
    ≡ true ∷ true ∷ true ∷ []
unfolding pair_agrees is_finite abs_of sub le of_bits
near = refl

-- 2 and −2 do not; nor do a difference of the next float after 1e-12, one unit at 8,192, a difference that overflows, two infinities, a NaN
-- beside itself.
apart : map (λ p. pair_agrees p.upper p.lower)
    (pair 0x4000_0000_0000_0000 0xc000_0000_0000_0000 ∷ pair 0x3d71_9799_812d_ea12 0 ∷ pair 0x40c0_0000_0000_0000 0x40c0_0000_0000_0001
    ∷ pair 0x7fef_ffff_ffff_ffff 0xffef_ffff_ffff_ffff ∷ pair 0x7ff0_0000_0000_0000 0x7ff0_0000_0000_0000 ∷ pair 0x7ff8_0000_0000_0000 0x7ff8_0000_0000_0000 ∷ [])
    ≡ false ∷ false ∷ false ∷ false ∷ false ∷ false ∷ []
unfolding pair_agrees is_finite abs_of sub le of_bits
apart = refl
