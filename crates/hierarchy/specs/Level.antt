-- The hierarchy of hierarchy.rs over lists: a list of levels, the finest first, each with a shape, which an update leaves as it
-- is, and its numbers, which an update refreshes. Definitions only.
use Rattle.std.specs.Prelude.{Bool, List, [], ℕ, Float}
use Rattle.matrix.specs.Kernel.{Kernel}
use Rattle.cholesky.specs.Factor.{Csr}
use Rattle.pattern.specs.Pattern.{Pattern}

-- the shape of a level: its matrix's pattern, its faces, and where it leads
pub record Shape : Type 0 where
  -- the pattern of the matrix
  pub pattern : Pattern
  -- where the faces of each row start, and each face's column, upper and lower entry
  pub starts : List ℕ
  pub neighbors : List ℕ
  pub uppers : List ℕ
  pub lowers : List ℕ
  -- the diagonal entry of each row
  pub diagonals : List ℕ
  -- whether it is the last level
  pub terminal : Bool
  -- the aggregate of each row; on the last level the coupled rows
  pub links : List ℕ
  -- the entry of the next level's matrix that each entry is added to; none on the last level
  pub positions : List ℕ

-- the numbers of a level, all that a solve reads of its matrix
pub record Numbers : Type 0 where
  -- the values of its faces, of its diagonal, and the diagonal's reciprocals
  pub coefficients : List Float
  pub diagonal : List Float
  pub inverse : List Float
  -- the reciprocal pivots of the incomplete factor; zeros where the smoother needs none, and on the last level
  pub dic : List Float
  -- the Cholesky factor of the last level's coupled rows, packed by rows; none on the others
  pub factor : List Float

-- `Level` of hierarchy.rs
pub record Level : Type 0 where
  pub shape : Shape
  pub numbers : Numbers

-- the levels, the finest first, and the sum of each row of the finest (zeros under AbsoluteL2)
pub record Hierarchy : Type 0 where
  pub levels : List Level
  pub sums : List Float

-- that of a matrix of no rows: it has no levels
abbrev pub empty_hierarchy : Hierarchy
empty_hierarchy = record { levels = []; sums = [] }

-- the kernel of a level, from its shape and its coefficients
abbrev pub kernel_of : Shape → List Float → List Float → List Float → Kernel
kernel_of s diagonal inverse coefficients =
    record { rows = s.pattern.rows; diagonal = diagonal; inverse = inverse; offsets = s.starts; neighbors = s.neighbors; coefficients = coefficients }

-- the kernel of a level: all that a solve reads of its matrix
abbrev pub kernel_in : Level → Kernel
kernel_in l = kernel_of l.shape l.numbers.diagonal l.numbers.inverse l.numbers.coefficients

-- the matrix of a level by its rows
abbrev pub csr_of : Shape → List Float → Csr
csr_of s values = record { offsets = s.pattern.offsets; columns = s.pattern.columns; values = values }
