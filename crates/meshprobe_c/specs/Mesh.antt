-- How the places of a pattern cross the boundary: as numbers. Definitions only.
use Rattle.std.specs.Prelude.{ℕ}
use Rattle.export.specs.Flat.{is_set}
use Rattle.aggregation.specs.declared.Graph.{Graph}
use Rattle.pattern.specs.declared.pattern.Coarsening.{Coarsening}
use Rattle.faces.specs.declared.faces.Faces.{Faces}
pub use Rattle.meshprobe.specs.Telling.{flag, flag_of, written_of, answer_of, Told}

-- the places of a matrix and its map, as numbers, and the cap
abbrev pub graph_of : ℕ → ℕ → ℕ → ℕ → ℕ → ℕ → ℕ → ℕ → Graph
graph_of rows entries offsets columns map weights absolute cap =
    record {
      rows = rows;
      entries = entries;
      offsets = offsets;
      columns = columns;
      map = map;
      weights = weights;
      absolute = is_set absolute;
      cap = cap;
    }

-- the places of a fine pattern, its map and its coarse pattern, as numbers
abbrev pub coarsening_of : ℕ → ℕ → ℕ → ℕ → ℕ → ℕ → ℕ → ℕ → ℕ → ℕ → Coarsening
coarsening_of rows entries count offsets columns map positions starts targets scratch =
    record {
      rows = rows;
      entries = entries;
      count = count;
      offsets = offsets;
      columns = columns;
      map = map;
      positions = positions;
      coarse_offsets = starts;
      coarse_columns = targets;
      scratch = scratch;
    }

-- the places of a pattern and of its faces, as numbers
abbrev pub topology_of : ℕ → ℕ → ℕ → ℕ → ℕ → ℕ → ℕ → ℕ → ℕ → ℕ → Faces
topology_of rows entries faces offsets columns starts diagonals neighbors uppers lowers =
    record {
      rows = rows;
      entries = entries;
      faces = faces;
      offsets = offsets;
      columns = columns;
      starts = starts;
      diagonals = diagonals;
      neighbors = neighbors;
      uppers = uppers;
      lowers = lowers;
    }
