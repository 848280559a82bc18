-- The coarse values and weights as the functions write them, and what these require. Definitions only.
use Rattle.std.specs.Prelude.{List, ℕ, ◌+◌, ◌≤◌, ◌<◌, length, Float}
use Rattle.store.specs.Region.{idx, part}
use Rattle.galerkin.specs.Values.{sums_of, symmetrize_of, zero_diagonal_of}

-- the coarse values: the sums, then half plus half
abbrev pub galerkin_of : ℕ → ℕ → List ℕ → List Float → ℕ → List ℕ → List ℕ → List Float
galerkin_of total m positions values faces upper lower = symmetrize_of faces upper lower (sums_of total m positions values)

-- `restrict_weights`: the weights summed as the values are, then those of the diagonal zero
abbrev pub restrict_weights_of : ℕ → ℕ → List ℕ → List Float → ℕ → List ℕ → List ℕ → List Float
restrict_weights_of total m positions weights count offsets columns = zero_diagonal_of count offsets columns (sums_of total m positions weights)

-- m positions, each below total, and m values below where `total` sums are written
pub record SumsOk (w : List ℕ) (size m positions values total out : ℕ) : Type 0 where
  pub table : positions + m ≤ length w
  pub below : values + m ≤ out
  pub room : out + total ≤ size
  pub near : (e : ℕ) → e < m → idx (part positions m w) e < total

-- the same of m values out of `count` that are given
pub record GivenOk (w : List ℕ) (size count m positions total out : ℕ) : Type 0 where
  pub table : positions + m ≤ length w
  pub many : m ≤ count
  pub room : out + total ≤ size
  pub near : (e : ℕ) → e < m → idx (part positions m w) e < total

-- for each face two entries of `total` values
pub record FacesOk (w : List ℕ) (size faces upper lower total values : ℕ) : Type 0 where
  pub uppers : upper + faces ≤ length w
  pub lowers : lower + faces ≤ length w
  pub room : values + total ≤ size
  pub up : (k : ℕ) → k < faces → idx (part upper faces w) k < total
  pub low : (k : ℕ) → k < faces → idx (part lower faces w) k < total

-- the columns of `total` entries at `columns` and as many weights at out; those before hi are some of the entries
pub record EntriesOk (w : List ℕ) (size hi columns total out : ℕ) : Type 0 where
  pub table : columns + total ≤ length w
  pub room : out + total ≤ size
  pub inside : hi ≤ total

-- `count` rows of entries with their columns, and as many weights at out
pub record RowsOk (w : List ℕ) (size count offsets columns total out : ℕ) : Type 0 where
  pub starts : offsets + count + 1 ≤ length w
  pub table : columns + total ≤ length w
  pub room : out + total ≤ size
  pub ends : (row : ℕ) → row < count → idx (part offsets (count + 1) w) (row + 1) ≤ total

-- what the sums need, and the rows of the coarse pattern
pub record WeightsOk (w : List ℕ) (size count m positions offsets columns weights total out : ℕ) : Type 0 where
  pub sums : SumsOk w size m positions weights total out
  pub rows : RowsOk w size count offsets columns total out
