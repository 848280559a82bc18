-- Worked examples of the build: P = 4, −2; −2, 2, the path of 4 rows with diagonal 2 and off-diagonal −1, and tiny inputs that are
-- refused. Each holds by computing.
-- Assumes nothing.
use mathlib.Core.Path.{◌≡◌, refl}
use mathlib.Core.Bool.{true, false}
use mathlib.Core.List.{List, [], ◌∷◌, ◌++◌, map}
use Prim.Native.Nat.{ℕ}
use lib.Ieee.{Float, binary64, of_bits, add, sub, mul, div, lt, le, eq}
use Rattle.float.specs.Float.{zero64, one64, is_finite, abs_of, is_positive}
use Rattle.float.specs.Sqrt.{sqrt_of}
use Rattle.store.specs.Loop.{iter, for}
use Rattle.store.specs.Vector.{tab, each}
use Rattle.options.specs.declared.options.MultigridOptions.{MultigridOptions}
use Rattle.options.specs.declared.options.MultigridSmoother.{MultigridSmoother}
use Rattle.options.specs.declared.options.MultigridResidualNorm.{MultigridResidualNorm}
use Rattle.options.specs.declared.options.MultigridCoarseSolver.{MultigridCoarseSolver}
use Rattle.refusal.specs.Refusal.{bad_offsets, bad_columns, invalid_controls, store_too_small, not_symmetric, missing_diagonal, bad_diagonal, bad_reciprocal, too_many_coupled, bad_pivot}
use Rattle.options.specs.Options.{valid_of}
use Rattle.refusal.specs.Outcome.{Outcome, accepted, refused, ask_rows}
use Rattle.vector.specs.Finite.{all_finite}
use Rattle.matrix.specs.Kernel.{sum_face, sum_row, row_sums_of}
use Rattle.coefficients.specs.Mirrors.{pair_agrees, mirrors_agree}
use Rattle.coefficients.specs.Update.{diagonal_asked, kernel_update_of}
use Rattle.cholesky.specs.Triangle.{tri}
use Rattle.cholesky.specs.Turns.{less_of}
use Rattle.cholesky.specs.Factor as factor
use Rattle.cholesky.specs.Turns as cholesky-turns
use Rattle.dic.specs.Dic.{is_pivot, pivot_face, pivot_row, pivots_of, reciprocals_of, dic_of}
use Rattle.aggregation.specs.Pairs.{strengths_of, consider_of, strongest_of, assign_of, pair_row_of, pairs_of}
use Rattle.aggregation.specs.Turns.{entry_of, turn_of}
use Rattle.pattern.specs.Pattern as pattern
use Rattle.pattern.specs.Steps as pattern-steps
use Rattle.galerkin.specs.Values.{sums_of, average_face, symmetrize_of}
use Rattle.galerkin.specs.Turns.{add_entry}
use Rattle.faces.specs.Faces as faces
use Rattle.csr.specs.Questions as csr
use Rattle.csr.specs.Turns as csr-turns
use Rattle.hierarchy.specs.Level.{Level, Hierarchy, empty_hierarchy}
use Rattle.hierarchy.specs.Refresh.{with_sums}
use Rattle.hierarchy.specs.Build.{merge_of, grow_of, Lent, Input, symmetric_of, build_of}

abbrev two : Float
two = of_bits binary64 0x4000_0000_0000_0000

abbrev minus_two : Float
minus_two = of_bits binary64 0xc000_0000_0000_0000

abbrev minus_one : Float
minus_one = of_bits binary64 0xbff0_0000_0000_0000

abbrev four : Float
four = of_bits binary64 0x4010_0000_0000_0000

abbrev quarter : Float
quarter = of_bits binary64 0x3fd0_0000_0000_0000

abbrev half : Float
half = of_bits binary64 0x3fe0_0000_0000_0000

-- DIC with Gauss-Seidel, a Cholesky end of so many coupled rows, so many levels at most, and so many steps to a level
abbrev controls : ℕ → ℕ → ℕ → MultigridOptions
controls cells levels steps = record {
  smoother = MultigridSmoother.DicGaussSeidel;
  residual_norm = MultigridResidualNorm.NormalizedL1;
  pre_sweeps = 0;
  post_sweeps = 2;
  finest_sweeps = 1;
  sweep_level_multiplier = 1;
  max_sweeps = 4;
  coarsest_cells = cells;
  max_levels = levels;
  merge_levels = steps;
  krylov_dimension = 0;
  coarse_solver = MultigridCoarseSolver.Cholesky;
  coarse_absolute_tolerance = zero64;
  coarse_relative_tolerance = zero64;
  coarse_max_iterations = 1;
  scale_correction = true;
  max_aggregate_cells = 0;
}

-- a matrix in compressed rows, without weights
abbrev plain : MultigridOptions → ℕ → List ℕ → List ℕ → List Float → Input
plain o rows offsets columns values = record {
  rows = rows;
  offsets = offsets;
  columns = columns;
  values = values;
  given = false;
  weights = [];
  options = o;
}

-- of 2 rows
abbrev square : List ℕ → List ℕ → List Float → Input
square offsets columns values = plain (controls 10 4 1) 2 offsets columns values

-- P with other values
abbrev small : List Float → Input
small values = square (0 ∷ 2 ∷ 4 ∷ []) (0 ∷ 1 ∷ 0 ∷ 1 ∷ []) values

-- the values of P
abbrev own : List Float
own = four ∷ minus_two ∷ minus_two ∷ two ∷ []

-- so many words and floats, and 4 records of statistics
abbrev lent : ℕ → ℕ → Lent
lent words floats = record { stores = record { words = words; floats = floats }; records = 4 }

-- enough for each of these
abbrev ample : Lent
ample = lent 1000 1000

-- the path of 4 rows, with the end at so many coupled rows, 2 levels at most, and so many steps to a level
abbrev path : ℕ → ℕ → Input
path cells steps = plain (controls cells 2 steps) 4 (0 ∷ 2 ∷ 5 ∷ 8 ∷ 10 ∷ []) (0 ∷ 1 ∷ 0 ∷ 1 ∷ 2 ∷ 1 ∷ 2 ∷ 3 ∷ 2 ∷ 3 ∷ [])
    (two ∷ minus_one ∷ minus_one ∷ two ∷ minus_one ∷ minus_one ∷ two ∷ minus_one ∷ minus_one ∷ two ∷ [])

-- its diagonal, then the values of its faces
abbrev whole : List Float
whole = two ∷ two ∷ two ∷ two ∷ minus_one ∷ minus_one ∷ minus_one ∷ []

-- the aggregates or coupled rows of each level; none of a refused build
unfoldable pub links_in : Outcome Hierarchy → List (List ℕ)
links_in (accepted h) = map (λ (l : Level). l.shape.links) h.levels
links_in (refused q) = []

-- the matrix of each level: its diagonal, then the values of its faces
unfoldable pub matrices_in : Outcome Hierarchy → List (List Float)
matrices_in (accepted h) = map (λ (l : Level). l.numbers.diagonal ++ l.numbers.coefficients) h.levels
matrices_in (refused q) = []

-- P has one level, whose factor is 2, −1, 1; its rows add up to 2 and 0. The stores hold its charge and no word more.
one_level_lem : build_of (lent 178 212) (small own) ≡ accepted (record {
  levels = record {
    shape = record {
      pattern = record { rows = 2; offsets = 0 ∷ 2 ∷ 4 ∷ []; columns = 0 ∷ 1 ∷ 0 ∷ 1 ∷ [] };
      starts = 0 ∷ 1 ∷ 1 ∷ [];
      neighbors = 1 ∷ [];
      uppers = 1 ∷ [];
      lowers = 2 ∷ [];
      diagonals = 0 ∷ 3 ∷ [];
      terminal = true;
      links = 0 ∷ 1 ∷ [];
      positions = [];
    };
    numbers = record {
      coefficients = minus_two ∷ [];
      diagonal = four ∷ two ∷ [];
      inverse = quarter ∷ half ∷ [];
      dic = zero64 ∷ zero64 ∷ [];
      factor = two ∷ minus_one ∷ one64 ∷ [];
    };
  } ∷ [];
  sums = two ∷ zero64 ∷ [];
})
unfolding build_of symmetric_of grow_of with_sums csr.size_ok csr.never_fall csr.offsets_ok csr.entry_ok csr.row_ok csr-turns.step_ok csr-turns.row_at csr-turns.entry_from csr.columns_ok valid_of is_finite abs_of lt le eq of_bits add sub mul div sqrt_of each tab for iter ask_rows pair_agrees mirrors_agree pattern.some pattern.how_many pattern.those pattern.row_of faces.above faces.faces_of faces.uppers_of faces.face_offsets_of faces.neighbors_of faces.has_entry faces.stands_at faces.mirrored_of faces.lowers_of faces.diagonals_asked faces.diagonals_of faces.coupled_of faces.coupled_count_of faces.coupled_rows_of kernel_update_of diagonal_asked is_positive tri factor.seek_of factor.get_of less_of factor.rest_of cholesky-turns.column_of factor.columns_of factor.factor_row_of factor.rows_of factor.cholesky_of sum_face sum_row row_sums_of
one_level_lem = refl

-- Tiny inputs that questions 2, 3, 6, 9 (a word too few, a float too few), 10 (no mirror, other values), 11, 12, 13 and 15 refuse.
refusals : (
    build_of ample (square (0 ∷ 2 ∷ 3 ∷ []) (0 ∷ 1 ∷ 0 ∷ 1 ∷ []) own)
    ∷ build_of ample (square (0 ∷ 2 ∷ 4 ∷ []) (1 ∷ 0 ∷ 0 ∷ 1 ∷ []) own)
    ∷ build_of ample (plain (controls 10 0 1) 2 (0 ∷ 2 ∷ 4 ∷ []) (0 ∷ 1 ∷ 0 ∷ 1 ∷ []) own)
    ∷ build_of (lent 177 212) (small own)
    ∷ build_of (lent 178 211) (small own)
    ∷ build_of ample (square (0 ∷ 2 ∷ 3 ∷ []) (0 ∷ 1 ∷ 1 ∷ []) (four ∷ minus_two ∷ two ∷ []))
    ∷ build_of ample (small (four ∷ minus_two ∷ minus_one ∷ two ∷ []))
    ∷ build_of ample (square (0 ∷ 1 ∷ 1 ∷ []) (0 ∷ []) (four ∷ []))
    ∷ build_of ample (small (four ∷ minus_two ∷ minus_two ∷ zero64 ∷ []))
    ∷ build_of ample (small (four ∷ minus_two ∷ minus_two ∷ of_bits binary64 1 ∷ []))
    ∷ build_of ample (small (four ∷ minus_two ∷ minus_two ∷ one64 ∷ []))
    ∷ []) ≡ (
    refused bad_offsets
    ∷ refused bad_columns
    ∷ refused invalid_controls
    ∷ refused store_too_small
    ∷ refused store_too_small
    ∷ refused not_symmetric
    ∷ refused not_symmetric
    ∷ refused (missing_diagonal 0 1)
    ∷ refused (bad_diagonal 0 1)
    ∷ refused (bad_reciprocal 0 1)
    ∷ refused (bad_pivot 0 1)
    ∷ [])
unfolding build_of symmetric_of grow_of with_sums csr.size_ok csr.never_fall csr.offsets_ok csr.entry_ok csr.row_ok csr-turns.step_ok csr-turns.row_at csr-turns.entry_from csr.columns_ok valid_of is_finite abs_of lt le eq of_bits add sub mul div sqrt_of each tab for iter ask_rows pair_agrees mirrors_agree pattern.some pattern.how_many pattern.those pattern.row_of faces.above faces.faces_of faces.uppers_of faces.face_offsets_of faces.neighbors_of faces.has_entry faces.stands_at faces.mirrored_of faces.lowers_of faces.diagonals_asked faces.diagonals_of faces.coupled_of faces.coupled_count_of faces.coupled_rows_of kernel_update_of diagonal_asked is_positive tri factor.seek_of factor.get_of less_of factor.rest_of cholesky-turns.column_of factor.columns_of factor.factor_row_of factor.rows_of factor.cholesky_of sum_face sum_row row_sums_of
refusals = refl

-- A matrix of no rows, with so many offsets and columns, in so many words and floats.
abbrev nothing : ℕ → ℕ → List ℕ → List ℕ → Outcome Hierarchy
nothing words floats offsets columns = build_of (lent words floats) (plain (controls 10 4 1) 0 offsets columns (map (λ _. one64) columns))

-- It has no levels, and is charged 64 words and 10² floats: a word or a float fewer is refused by question 9, one entry or no offset by question 2.
no_rows : (
    nothing 64 100 (0 ∷ []) [] ∷ nothing 63 100 (0 ∷ []) [] ∷ nothing 64 99 (0 ∷ []) [] ∷ nothing 64 100 (0 ∷ []) (0 ∷ []) ∷ nothing 64 100 [] [] ∷ [])
    ≡ (accepted empty_hierarchy ∷ refused store_too_small ∷ refused store_too_small ∷ refused bad_offsets ∷ refused bad_offsets ∷ [])
unfolding build_of csr.size_ok csr.never_fall csr.offsets_ok csr.entry_ok csr.row_ok csr-turns.step_ok csr-turns.row_at csr-turns.entry_from csr.columns_ok valid_of is_finite lt le eq of_bits each
no_rows = refl

-- With an end of one cell P is paired into one row, 2: the entries of P are summed, and its DIC inverses are 0.25 and 1.
two_levels : build_of ample (plain (controls 1 4 1) 2 (0 ∷ 2 ∷ 4 ∷ []) (0 ∷ 1 ∷ 0 ∷ 1 ∷ []) own) ≡ accepted (record {
  levels = record {
    shape = record {
      pattern = record { rows = 2; offsets = 0 ∷ 2 ∷ 4 ∷ []; columns = 0 ∷ 1 ∷ 0 ∷ 1 ∷ [] };
      starts = 0 ∷ 1 ∷ 1 ∷ [];
      neighbors = 1 ∷ [];
      uppers = 1 ∷ [];
      lowers = 2 ∷ [];
      diagonals = 0 ∷ 3 ∷ [];
      terminal = false;
      links = 0 ∷ 0 ∷ [];
      positions = 0 ∷ 0 ∷ 0 ∷ 0 ∷ [];
    };
    numbers = record {
      coefficients = minus_two ∷ [];
      diagonal = four ∷ two ∷ [];
      inverse = quarter ∷ half ∷ [];
      dic = quarter ∷ one64 ∷ [];
      factor = [];
    };
  } ∷ record {
    shape = record {
      pattern = record { rows = 1; offsets = 0 ∷ 1 ∷ []; columns = 0 ∷ [] };
      starts = 0 ∷ 0 ∷ [];
      neighbors = [];
      uppers = [];
      lowers = [];
      diagonals = 0 ∷ [];
      terminal = true;
      links = [];
      positions = [];
    };
    numbers = record {
      coefficients = [];
      diagonal = two ∷ [];
      inverse = half ∷ [];
      dic = zero64 ∷ [];
      factor = [];
    };
  } ∷ [];
  sums = two ∷ zero64 ∷ [];
})
unfolding build_of symmetric_of grow_of with_sums csr.size_ok csr.never_fall csr.offsets_ok csr.entry_ok csr.row_ok csr-turns.step_ok csr-turns.row_at csr-turns.entry_from csr.columns_ok valid_of is_finite lt le eq of_bits add sub mul div sqrt_of each tab for iter ask_rows pair_agrees mirrors_agree pattern.some pattern.how_many pattern.those pattern.row_of faces.above faces.faces_of faces.uppers_of faces.face_offsets_of faces.neighbors_of faces.has_entry faces.stands_at faces.mirrored_of faces.lowers_of faces.diagonals_asked faces.diagonals_of faces.coupled_of faces.coupled_count_of faces.coupled_rows_of kernel_update_of diagonal_asked is_positive tri factor.seek_of factor.get_of less_of factor.rest_of cholesky-turns.column_of factor.columns_of factor.factor_row_of factor.rows_of factor.cholesky_of sum_face sum_row row_sums_of abs_of all_finite strengths_of consider_of entry_of strongest_of assign_of pair_row_of turn_of pairs_of merge_of pattern.sum_to pattern.flat pattern.start_of pattern.column_place_of pattern-steps.joins_by pattern.joins pattern.coarse_offsets pattern.coarse_columns pattern.coarse_positions add_entry sums_of average_face symmetrize_of dic_of pivots_of pivot_row pivot_face reciprocals_of is_pivot pattern.compose_of
two_levels = refl

-- Builds of the path. One step to a level leads to 2 coupled rows: an end of one cell is refused by question 14, as no third level is
-- allowed. An end of two cells is taken, with the aggregates 0 0 1 1 and the coarse matrix 2, −1; −1, 2. Two steps to a level lead to
-- one row, 2, which is not coupled: there an end of one cell is taken.
pub record PathBuilds : Type 0 where
  pub refuses : build_of ample (path 1 1) ≡ refused too_many_coupled
  pub aggregates : links_in (build_of ample (path 2 1)) ≡ (0 ∷ 0 ∷ 1 ∷ 1 ∷ []) ∷ (0 ∷ 1 ∷ []) ∷ []
  pub coarser : matrices_in (build_of ample (path 2 1)) ≡ whole ∷ (two ∷ two ∷ minus_one ∷ []) ∷ []
  pub merges : links_in (build_of ample (path 1 2)) ≡ (0 ∷ 0 ∷ 0 ∷ 0 ∷ []) ∷ [] ∷ []
  pub coarsest : matrices_in (build_of ample (path 1 2)) ≡ whole ∷ (two ∷ []) ∷ []

path_builds : PathBuilds
unfolding build_of symmetric_of grow_of with_sums csr.size_ok csr.never_fall csr.offsets_ok csr.entry_ok csr.row_ok csr-turns.step_ok csr-turns.row_at csr-turns.entry_from csr.columns_ok valid_of is_finite lt le eq of_bits add sub mul div sqrt_of each tab for iter ask_rows pair_agrees mirrors_agree pattern.some pattern.how_many pattern.those pattern.row_of faces.above faces.faces_of faces.uppers_of faces.face_offsets_of faces.neighbors_of faces.has_entry faces.stands_at faces.mirrored_of faces.lowers_of faces.diagonals_asked faces.diagonals_of faces.coupled_of faces.coupled_count_of faces.coupled_rows_of kernel_update_of diagonal_asked is_positive tri factor.seek_of factor.get_of less_of factor.rest_of cholesky-turns.column_of factor.columns_of factor.factor_row_of factor.rows_of factor.cholesky_of sum_face sum_row row_sums_of abs_of all_finite strengths_of consider_of entry_of strongest_of assign_of pair_row_of turn_of pairs_of merge_of pattern.sum_to pattern.flat pattern.start_of pattern.column_place_of pattern-steps.joins_by pattern.joins pattern.coarse_offsets pattern.coarse_columns pattern.coarse_positions add_entry sums_of average_face symmetrize_of dic_of pivots_of pivot_row pivot_face reciprocals_of is_pivot pattern.compose_of links_in matrices_in
path_builds = record { refuses = refl; aggregates = refl; coarser = refl; merges = refl; coarsest = refl }
