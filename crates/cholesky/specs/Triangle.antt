-- A lower triangle packed by rows. Definitions only.
use Rattle.std.specs.Prelude.{ℕ, zero, suc, ◌+◌}

-- where row r starts: after rows of 1, 2, .., r elements
unfoldable pub tri : ℕ → ℕ
tri zero = 0
tri (suc r) = tri r + suc r
