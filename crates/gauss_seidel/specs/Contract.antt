-- What the sweeps require and ensure. Definitions only.
use Rattle.std.specs.Prelude.{List, ◌≡◌, ℕ, ◌+◌, ◌≤◌, Float, length}
use Rattle.store.specs.Region.{splice}
use Rattle.matrix.specs.declared.matrix.SymmetricMatrix.{SymmetricMatrix}
use Rattle.matrix.specs.Contract.{KernelOk}
use Rattle.gauss_seidel.specs.Sweep.{Swept}

-- matrix, rhs, x and work follow one another
pub record GaussSeidelOk (w : List ℕ) (size : ℕ) (s : SymmetricMatrix) (rhs x work : ℕ) : Type 0 where
  pub kernel : KernelOk w rhs s
  pub given : rhs + s.rows ≤ x
  pub xs : x + s.rows ≤ work
  pub fits : work + s.rows ≤ size

-- matrix and DIC diagonal lie below rhs; rhs, x, work and correction follow one another
pub record SmoothOk (w : List ℕ) (size : ℕ) (s : SymmetricMatrix) (dic rhs x work correction : ℕ) : Type 0 where
  pub kernel : KernelOk w rhs s
  pub dics : dic + s.rows ≤ rhs
  pub given : rhs + s.rows ≤ x
  pub xs : x + s.rows ≤ work
  pub works : work + s.rows ≤ correction
  pub fits : correction + s.rows ≤ size

-- x and the vector beside it are those of s, and nothing else changed
pub record Both (n x beside : ℕ) (s : Swept) (F G : List Float) : Type 0 where
  pub is : G ≡ splice beside s.beside (splice x s.x F)
  pub long_x : length s.x ≡ n
  pub long : length s.beside ≡ n
