-- What the functions of the format require and ensure. Definitions only.
use Rattle.std.specs.Prelude.{◌≡◌, List, ℕ, ◌+◌, ◌-◌, ◌*◌, ◌≤◌, ◌<◌, Float}
use Rattle.store.specs.Region.{splice}
use Rattle.record_format.specs.Bytes.{byte_at, u32_at, words_at, floats_at}

-- The byte at a place is read.
pub record ByteIs (b : List ℕ) (at r : ℕ) : Type 0 where
  pub is : r ≡ byte_at b at
  pub small : r < 256

-- The u32 at a place is read.
pub record WordIs (b : List ℕ) (at r : ℕ) : Type 0 where
  pub is : r ≡ u32_at b at
  pub small : r < 4294967296

-- There are n places for numbers that are read from bytes of a record, from `at` on.
pub record RoomFor (size at n : ℕ) : Type 0 where
  pub places : n ≤ size
  pub near : at ≤ 65536
  pub few : n ≤ 65536

-- There is space for n bytes from `at` on.
pub record SpaceFor (at n size : ℕ) : Type 0 where
  pub fits : at + n ≤ size

-- Rows and entries of a problem file.
pub record Sizes (rows entries : ℕ) : Type 0 where
  pub few : rows ≤ 64
  pub small : entries ≤ 320

-- The arrays of a matrix are laid over the starts of three slices.
pub record MatrixLaid (b : List ℕ) (rows entries : ℕ) (O O' C C' : List ℕ) (F F' : List Float) : Type 0 where
  pub offsets : O' ≡ splice 0 (words_at b 10 (rows + 1)) O
  pub columns : C' ≡ splice 0 (words_at b (14 + 4 * rows) entries) C
  pub values : F' ≡ splice 0 (floats_at b (14 + 4 * rows + 4 * entries) entries) F

-- The vectors of a solve are laid over the starts of two slices.
pub record VectorsLaid (b : List ℕ) (rows : ℕ) (R R' S S' : List Float) : Type 0 where
  pub rhs : R' ≡ splice 0 (floats_at b 26 rows) R
  pub start : S' ≡ splice 0 (floats_at b (26 + 8 * rows) rows) S

-- The lengths of a matrix's arrays, and of an output that its record fits in.
pub record MatrixSpace (offsets columns values size : ℕ) : Type 0 where
  pub few : offsets ≤ 65537
  pub small : columns ≤ 1048576
  pub some : 0 < offsets
  pub same : columns ≡ values
  pub fits : 14 + 4 * (offsets - 1) + 12 * columns ≤ size

-- How many floats an FW or UP record has, and an output that it fits in.
pub record ValuesSpace (values size : ℕ) : Type 0 where
  pub small : values ≤ 1048576
  pub fits : 2 + 8 * values ≤ size

-- The lengths of a solve's vectors, and of an output that its record fits in.
pub record SolveSpace (rhs start size : ℕ) : Type 0 where
  pub few : rhs ≤ 65536
  pub same : rhs ≡ start
  pub fits : 26 + 16 * rhs ≤ size
