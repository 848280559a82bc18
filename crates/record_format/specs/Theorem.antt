-- What the theorems on writing and reading speak of (proofs/Back.antt, proofs/Forth.antt). Definitions only.
use Rattle.std.specs.Prelude.{◌≡◌, not, List, ℕ, ◌+◌, ◌≤◌, ◌<◌, T, length, get_or, Float}
use Rattle.std.specs.Float.{nan, binary64}
use Rattle.std.specs.Float.Ieee.{fits, is_nan}
use Rattle.options.specs.declared.options.MultigridOptions.{MultigridOptions}
use Rattle.record_format.specs.Format.{Matrix, Problem, counts_of}

-- A list of bytes.
abbrev pub AllBytes : List ℕ → Type 0
AllBytes b = (i : ℕ) → get_or b i 0 < 256

-- A u32.
abbrev pub Word : ℕ → Type 0
Word v = v < 4294967296

-- A u64.
abbrev pub Long : ℕ → Type 0
Long v = v < 18446744073709551616

-- An f64.
abbrev pub Double : Float → Type 0
Double x = T (fits binary64 x)

-- A float that is no NaN: the bits of a NaN are not kept, so that one of other bits than 7ff8000000000000 is written differently than it was read.
abbrev pub Number : Float → Type 0
Number x = T (not (is_nan x))

-- Each of a list is a u32.
abbrev pub AllWords : List ℕ → Type 0
AllWords l = (k : ℕ) → k < length l → Word (get_or l k 0)

-- Each of a list is a u64.
abbrev pub AllLongs : List ℕ → Type 0
AllLongs l = (k : ℕ) → k < length l → Long (get_or l k 0)

-- Each of a list is an f64.
abbrev pub AllDoubles : List Float → Type 0
AllDoubles l = (k : ℕ) → k < length l → Double (get_or l k nan)

-- None of a list is a NaN.
abbrev pub AllNumbers : List Float → Type 0
AllNumbers l = (k : ℕ) → k < length l → Number (get_or l k nan)

-- Controls whose fields are of their machine types.
pub record ControlsFit (o : MultigridOptions) : Type 0 where
  pub counts : AllLongs (counts_of o)
  pub absolute : Double o.coarse_absolute_tolerance
  pub relative : Double o.coarse_relative_tolerance
  pub limit : Long o.coarse_max_iterations
  pub cap : Long o.max_aggregate_cells

-- A matrix of a problem file: within its sizes, an offset more than rows, a column and a value for each entry, of their machine types.
pub record MatrixFits (m : Matrix) : Type 0 where
  pub few : m.rows ≤ 64
  pub small : m.entries ≤ 320
  pub ends : length m.offsets ≡ m.rows + 1
  pub places : length m.columns ≡ m.entries
  pub all : length m.values ≡ m.entries
  pub starts : AllWords m.offsets
  pub neighbours : AllWords m.columns
  pub doubles : AllDoubles m.values

-- A solve of a matrix of so many rows.
pub record ProblemFits (rows : ℕ) (p : Problem) : Type 0 where
  pub few : rows ≤ 64
  pub absolute : Double p.limits.absolute_tolerance
  pub relative : Double p.limits.relative_tolerance
  pub limit : Long p.limits.max_iterations
  pub sides : length p.rhs ≡ rows
  pub starts : length p.start ≡ rows
  pub doubles : AllDoubles p.rhs
  pub first : AllDoubles p.start
