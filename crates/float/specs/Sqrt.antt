-- `x.sqrt()`: the square root of an f64, rounded to nearest, ties to even, over whole numbers. Definitions only.
use Rattle.std.specs.Prelude.{ℕ, zero, suc, ◌+◌, ◌-◌, ◌*◌, ◌/◌, ◌^◌, ◌≤◌, ◌<◌, false, cond, leb, eqb, Float}
use Rattle.std.specs.Float.{nan, inf, fin, binary64}
use Rattle.std.specs.Float.Ieee.{up, down, size, round}
use Rattle.std.specs.Float.Ieee.Exact.{HasValue}

-- r is √n cut to a whole number
pub record Root (n r : ℕ) : Type 0 where
  pub low : r * r ≤ n
  pub high : n < (r + 1) * (r + 1)

-- √n cut to a whole number, for an n below 4 ^ k, a binary digit a step: twice that of n / 4, or one more
unfoldable pub cut_root : ℕ → ℕ → ℕ
cut_root zero n = 0
cut_root (suc k) n = let r = cut_root k (n / 4) * 2 in cond (leb ((r + 1) * (r + 1)) n) (r + 1) r

-- √n cut to a whole number
unfoldable pub whole_root : ℕ → ℕ
unfolding cut_root
whole_root n = cut_root (size n) n

-- The f64 nearest to √n units, a unit being 2 ^ −1074, the smallest f64 above zero: √n cut to whole units, with half a
-- unit added where something was cut, is rounded. From n = 2 ^ 1074 on, each f64 near √n units and each point half-way
-- between two of them is a whole number of units, so that the half unit only tells on which side of it √n lies.
unfoldable pub nearest_root : ℕ → Float
unfolding whole_root round
nearest_root n = let r = whole_root n in round binary64 false (2 * r + cond (eqb (r * r) n) 0 1) (2 ^ 1075)

-- IEEE 754's squareRoot. A finite x above zero is m * 2 ^ e; x * 2 ^ 2148 is whole, and its root is √x in units.
unfoldable pub sqrt_of : Float → Float
unfolding nearest_root
sqrt_of nan = nan
sqrt_of (inf s) = cond s nan (inf s)
sqrt_of (fin s zero e) = fin s zero e
sqrt_of (fin s (suc m) e) = cond s nan (nearest_root (suc m * up e * 2 ^ 2148 / down e))

-- What "nearest" means, in whole numbers: x is n * 2 ^ −2148, and r is q * 2 ^ k, k being j − 1074, a normal f64. √x is
-- 2 ^ 52 * 2 ^ k at least, so that the f64 around it are the multiples of 2 ^ k, and it lies strictly between
-- (q − ½) * 2 ^ k and (q + ½) * 2 ^ k: each by the squares.
pub record NearestRoot (x r : Float) : Type 0 where
  pub n : ℕ
  pub q : ℕ
  pub j : ℕ
  pub argument : HasValue x false n (2 ^ 2148)
  pub result : HasValue r false (q * 2 ^ j) (2 ^ 1074)
  pub normal : (2 ^ 52 ≤ q) × (q < 2 ^ 53)
  pub range : j < 2046
  pub least : 2 ^ 52 * 2 ^ 52 * 4 ^ j ≤ n
  pub over : (2 * q - 1) * (2 * q - 1) * 4 ^ j < 4 * n
  pub under : 4 * n < (2 * q + 1) * (2 * q + 1) * 4 ^ j
