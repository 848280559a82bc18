-- Where the vectors of a level stand in the floats. Definitions only.
use Rattle.std.specs.Prelude.{ℕ, ◌+◌, ◌*◌}
use Rattle.smoother.specs.declared.LevelScratch.{LevelScratch}

-- the vectors of a level of n rows, one after the other from a start on
abbrev pub scratch_of : ℕ → ℕ → LevelScratch
scratch_of start n = record { rhs = start; x = start + n; work = start + 2 * n; correction = start + 3 * n; product = start + 4 * n }
