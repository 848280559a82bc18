-- The hierarchies of the cell. Assumes nothing.
use mathlib.Core.Bool.{true}
use mathlib.Core.List.{[], ◌∷◌}
use lib.Ieee.{Float}
use Rattle.float.specs.Float.{zero64}
use Rattle.hierarchy.specs.Level.{Hierarchy}

-- its hierarchy, once the coefficient is d and its reciprocal i
abbrev pub one_cell : Float → Float → Hierarchy
one_cell d i = record {
  levels = record {
    shape = record {
      pattern = record { rows = 1; offsets = 0 ∷ 1 ∷ []; columns = 0 ∷ [] };
      starts = 0 ∷ 0 ∷ [];
      neighbors = [];
      uppers = [];
      lowers = [];
      diagonals = 0 ∷ [];
      terminal = true;
      links = [];
      positions = [];
    };
    numbers = record { coefficients = []; diagonal = d ∷ []; inverse = i ∷ []; dic = zero64 ∷ []; factor = [] };
  } ∷ [];
  sums = zero64 ∷ [];
}
