-- The list of roots as text: two words of 16 hexadecimal digits a line, an argument and its root. Definitions only.
use Rattle.std.specs.Prelude.{cond, List, ℕ, zero, suc, ◌+◌, ◌*◌, ◌/◌, ◌%◌, eqb, get_or}
use Rattle.std.specs.Float.{binary64}
use Rattle.std.specs.Float.Ieee.{of_bits, to_bits}
use Rattle.float.specs.Sqrt.{sqrt_of}

-- the value of a digit `0` to `9` or `a` to `f`: the last four bits of its code, and nine more for a letter
abbrev pub digit_of : ℕ → ℕ
digit_of c = (c % 16 + c / 64 * 9) % 16

-- the number that the k digits from `at` on write
unfoldable pub word_of : ℕ → ℕ → List ℕ → ℕ
word_of zero at s = 0
word_of (suc k) at s = word_of k at s * 16 + digit_of (get_or s (at + k) 0)

-- 1 where the root of the f64 with the bits b has other bits than e, else 0
unfoldable pub differs_of : ℕ → ℕ → ℕ
differs_of b e = cond (eqb (to_bits binary64 (sqrt_of (of_bits binary64 b))) e) 0 1

-- how many of the first k lines differ, a line having 34 bytes
unfoldable pub differences_of : ℕ → List ℕ → ℕ
differences_of zero s = 0
differences_of (suc k) s = differences_of k s + differs_of (word_of 16 (k * 34) s) (word_of 16 (k * 34 + 17) s)
