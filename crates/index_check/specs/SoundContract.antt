-- What the functions over sound levels require. Definitions only.
use Rattle.std.specs.Prelude.{◌≡◌, true, List, ℕ, ◌≤◌, ◌<◌, Ok}
use Rattle.store.specs.Region.{idx}
use Rattle.index_check.specs.Sound.{head_sound, walk_of}

-- ---- one level

-- r is the word at i, below 2^32.
pub record WordAt (w : List ℕ) (i r : ℕ) : Type 0 where
  pub is : r ≡ idx w i
  pub small : r < 4294967296

-- The level whose words start at a has a sound head.
pub record HeadOk (w : List ℕ) (a : ℕ) : Type 0 where
  pub head : head_sound w a ≡ true

-- ---- sizes

-- A level with a sound head whose floats start at b, far below the largest index.
pub record FloatsOk (w : List ℕ) (a b : ℕ) : Type 0 where
  pub head : head_sound w a ≡ true
  pub start : b ≤ 18014398509481984

-- Some levels, at most 128, that the walk went through.
pub record LevelsOk (w : List ℕ) (levels : ℕ) : Type 0 where
  pub sound : walk_of levels w 0 0 ≡ Ok tt
  pub some : 1 ≤ levels
  pub few : levels ≤ 128

-- So they are for a solve with so many directions of GCR.
pub record MemoryOk (w : List ℕ) (levels krylov : ℕ) : Type 0 where
  pub walked : LevelsOk w levels
  pub directions : krylov ≤ 16

-- So they are for scratch that starts at s.
pub record ScratchOk (w : List ℕ) (levels s : ℕ) : Type 0 where
  pub walked : LevelsOk w levels
  pub start : s ≤ 18014398509481984
