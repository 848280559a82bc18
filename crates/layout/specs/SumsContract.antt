-- The row sums of a level's matrix: what the function that makes them ensures. Definitions only.
use Rattle.std.specs.Prelude.{cond, List, ℕ, Float}
use Rattle.float.specs.Float.{zero64}
use Rattle.store.specs.Vector.{filled}
use Rattle.options.specs.declared.options.MultigridResidualNorm.{MultigridResidualNorm}
use Rattle.matrix.specs.declared.matrix.SymmetricMatrix.{SymmetricMatrix}
use Rattle.matrix.specs.Kernel.{kernel_at, row_sums_of}
use Rattle.hierarchy.specs.Refresh.{needs_sums}

-- the row sums of the matrix at s, if the norm needs them
abbrev pub sums_at : MultigridResidualNorm → List ℕ → List Float → SymmetricMatrix → List Float
sums_at norm w F s = cond (needs_sums norm) (row_sums_of (kernel_at s w F)) (filled s.rows zero64)
