-- What `coarse_pattern` and `compose` require and ensure: where everything stands in the one store of words.
-- Definitions only.
use Rattle.std.specs.Prelude.{◌≡◌, List, ℕ, ◌+◌, ◌≤◌, length}
use Rattle.store.specs.Region.{part, Clear, Kept}
use Rattle.pattern.specs.declared.pattern.Coarsening.{Coarsening}
use Rattle.pattern.specs.Pattern.{Pattern, entries, Valid, Mirrored, coarse, coarse_offsets, coarse_columns, coarse_positions, Maps}

-- The sizes, and the regions of the store: what is read, then positions, coarse offsets, coarse columns and scratch.
pub record Layout (size : ℕ) (c : Coarsening) : Type 0 where
  pub few : c.rows ≤ 65536
  pub less : c.entries ≤ 1048576
  pub fewer : c.count ≤ c.rows
  pub offsets : c.offsets + c.rows + 1 ≤ c.positions
  pub columns : c.columns + c.entries ≤ c.positions
  pub map : c.map + c.rows ≤ c.positions
  pub positions : c.positions + c.entries ≤ c.coarse_offsets
  pub starts : c.coarse_offsets + c.count + 1 ≤ c.coarse_columns
  pub targets : c.coarse_columns + c.entries ≤ c.scratch
  pub scratch : c.scratch + c.count + c.rows + c.count ≤ size

-- the fine pattern in the store
abbrev pub fine_at : List ℕ → Coarsening → Pattern
fine_at w c = record {
  rows = c.rows;
  offsets = part c.offsets (c.rows + 1) w;
  columns = part c.columns c.entries w;
}

-- the map in the store
abbrev pub map_at : List ℕ → Coarsening → List ℕ
map_at w c = part c.map c.rows w

-- What `coarse_pattern` requires: the layout, and a fine pattern that is valid and mirrored with a map of its rows.
pub record PatternOk (w : List ℕ) (c : Coarsening) : Type 0 where
  pub layout : Layout (length w) c
  pub valid : Valid (fine_at w c)
  pub mirrored : Mirrored (fine_at w c)
  pub maps : Maps (map_at w c) c.rows c.count

-- What it ensures: r coarse entries, the coarse pattern and the fine entries' positions; below the positions nothing changed.
pub record Patterned (w z : List ℕ) (c : Coarsening) (r : ℕ) : Type 0 where
  pub found : r ≡ entries (coarse (fine_at w c) (map_at w c) c.count)
  pub offsets : part c.coarse_offsets (c.count + 1) z ≡ coarse_offsets (fine_at w c) (map_at w c) c.count
  pub columns : part c.coarse_columns r z ≡ coarse_columns (fine_at w c) (map_at w c) c.count
  pub positions : part c.positions c.entries z ≡ coarse_positions (fine_at w c) (map_at w c) c.count
  pub kept : Kept c.positions w z

-- n words at `map`, each the index of one of `count` words at `next`, which they do not meet.
pub record ComposeOk (w : List ℕ) (n map next count : ℕ) : Type 0 where
  pub source : next + count ≤ length w
  pub target : map + n ≤ length w
  pub clear : Clear next count map n
  pub maps : Maps (part map n w) n count
