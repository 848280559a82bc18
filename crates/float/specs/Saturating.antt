-- Sums of u64 that stop. Definitions only.
use Rattle.std.specs.Prelude.{ℕ, ◌+◌, min}

-- `saturating_add` of u64: the sum, which stops at 2^64 - 1
abbrev pub saturating_sum : ℕ → ℕ → ℕ
saturating_sum a b = min (a + b) 18446744073709551615
