-- `build` of hierarchy.rs over lists and numbers, with questions 1 to 18 in the order of the Rust, but for 8, which no matrix fails. Definitions only.
use Rattle.std.specs.Prelude.{Bool, true, false, not, cond, ◌&&◌, ◌||◌, List, [], ◌∷◌, ℕ, zero, suc, ◌+◌, ◌-◌, ◌*◌, ◌%◌, eqb, leb, length, Float}
use Rattle.options.specs.declared.options.MultigridCoarseSolver.{MultigridCoarseSolver}
use Rattle.options.specs.declared.options.MultigridOptions.{MultigridOptions}
use Rattle.refusal.specs.Refusal.{store_too_small, not_symmetric, too_many_coupled, bad_coarse_value}
use Rattle.options.specs.Options.{controls_asked}
use Rattle.refusal.specs.Outcome.{Outcome, accepted, passed, ask, ◌>>=◌, ◌>>◌}
use Rattle.vector.specs.Finite.{all_finite}
use Rattle.coefficients.specs.Update.{Coefficients, kernel_update_of}
use Rattle.coefficients.specs.Mirrors.{mirrors_agree}
use Rattle.aggregation.specs.Pairs.{Weighted, Pairing, strengths_of, pairs_of}
use Rattle.pattern.specs.Pattern.{Pattern, entries, coarse, coarse_positions, compose_of}
use Rattle.galerkin.specs.Values.{sums_of, symmetrize_of, zero_diagonal_of}
use Rattle.faces.specs.Faces.{faces_of, face_offsets_of, neighbors_of, uppers_of, lowers_of, mirrored_of, diagonals_of, diagonals_asked, coupled_count_of, coupled_rows_of}
use Rattle.csr.specs.Questions.{matrix_asked}
use Rattle.csr.specs.Weights.{weights_asked}
use Rattle.hierarchy.specs.Level.{Shape, Level, Hierarchy, empty_hierarchy}
use Rattle.hierarchy.specs.Refresh.{inner_numbers, last_numbers, with_sums}

-- ---- controls

-- the controls that shape a hierarchy: its patterns and aggregates depend on no others
pub record Shaping : Type 0 where
  pub coarsest : ℕ
  pub levels : ℕ
  pub merges : ℕ
  pub solver : MultigridCoarseSolver
  pub cap : ℕ

-- those of a set of controls
abbrev pub shaping_of : MultigridOptions → Shaping
shaping_of o = record {
  coarsest = o.coarsest_cells;
  levels = o.max_levels;
  merges = o.merge_levels;
  solver = o.coarse_solver;
  cap = o.max_aggregate_cells;
}

-- ---- question 9

-- so many u32 words and f64 words
pub record Charge : Type 0 where
  pub words : ℕ
  pub floats : ℕ

-- such a charge
abbrev pub charge : ℕ → ℕ → Charge
charge words floats = record { words = words; floats = floats }

-- the fixed charge, of the finest matrix
abbrev pub fixed_charge : MultigridOptions → ℕ → ℕ → Charge
fixed_charge o rows entries = charge (16 * rows + 12 * entries + 64)
    ((12 + 2 * o.krylov_dimension) * rows + 8 * entries + o.coarsest_cells * o.coarsest_cells)

-- the charge so far and that of a level more
abbrev pub and_level : Pattern → Charge → Charge
and_level p c = charge (c.words + (5 * p.rows + 4 * entries p + 8)) (c.floats + (20 * p.rows + 4 * entries p))

-- whether stores of those sizes hold a charge
abbrev pub holds : Charge → Charge → Bool
holds stores c = leb c.words stores.words && leb c.floats stores.floats

-- ---- shapes

-- the shape of a matrix of pattern p that leads to `links` and `positions`
abbrev pub shape_of : Pattern → Bool → List ℕ → List ℕ → Shape
shape_of p terminal links positions = record {
  pattern = p;
  starts = face_offsets_of p;
  neighbors = neighbors_of p;
  uppers = uppers_of p;
  lowers = lowers_of p;
  diagonals = diagonals_of p;
  terminal = terminal;
  links = links;
  positions = positions;
}

-- of the last level
abbrev pub last_shape : Pattern → Shape
last_shape p = shape_of p true (coupled_rows_of p) []

-- of a level with the aggregates `map`, of which there are `count`
abbrev pub inner_shape : Pattern → List ℕ → ℕ → Shape
inner_shape p map count = shape_of p false map (coarse_positions p map count)

-- ---- matrices of the build

-- a matrix and the weight of each entry, which nobody reads where no weights are given
pub record Mesh : Type 0 where
  pub pattern : Pattern
  pub values : List Float
  pub weights : List Float

-- the matrix that merged steps made last, the aggregate in it of each row of the level, and the pairings made so far
pub record Merged : Type 0 where
  pub mesh : Mesh
  pub map : List ℕ
  pub stage : ℕ

-- such a matrix
abbrev pub merged : Mesh → List ℕ → ℕ → Merged
merged m map stage = record { mesh = m; map = map; stage = stage }

-- questions 12 and 13 of a matrix
abbrev pub kernel_asked : ℕ → Mesh → Outcome Coefficients
kernel_asked level m = kernel_update_of level m.pattern.rows (diagonals_of m.pattern) (uppers_of m.pattern) m.values

module _ (o : MultigridOptions) (given : Bool) where
  -- what `pairs` reads of a matrix: its weights, or its values where none are given, and the cap
  abbrev pub weighted_by : Mesh → Weighted
  weighted_by m = record {
    rows = m.pattern.rows;
    offsets = m.pattern.offsets;
    columns = m.pattern.columns;
    weights = strengths_of (not given) (cond given m.weights m.values);
    cap = (shaping_of o).cap;
  }

  -- `pairs` of a matrix, upward at even stages
  abbrev pub paired : ℕ → Mesh → Pairing
  paired stage m = pairs_of (weighted_by m) (eqb (stage % 2) 0)

module _ (given : Bool) where
  -- `galerkin` and `restrict_weights`: the matrix of the aggregates
  abbrev pub coarsened : Mesh → List ℕ → ℕ → Mesh
  coarsened m map count =
      let p = m.pattern in
      let q = coarse p map count in
      let sums = sums_of (entries q) (entries p) (coarse_positions p map count) in
      record {
        pattern = q;
        values = symmetrize_of (faces_of q) (uppers_of q) (lowers_of q) (sums m.values);
        weights = cond given (zero_diagonal_of count q.offsets q.columns (sums m.weights)) [];
      }

  -- the same with question 18
  abbrev pub coarsened_asked : Mesh → List ℕ → ℕ → Outcome Mesh
  coarsened_asked m map count =
      let c = coarsened m map count in
      ask (all_finite (entries c.pattern) c.values) bad_coarse_value (accepted c)

module _ (o : MultigridOptions) where
  -- whether few enough rows are coupled for the last level
  abbrev pub few_coupled : Pattern → Bool
  few_coupled p = leb (coupled_count_of p) o.coarsest_cells

  -- the last level: question 14, then 15
  abbrev pub last_level : ℕ → Mesh → Coefficients → Outcome (List Level)
  last_level level m c = do
    ask (few_coupled m.pattern) too_many_coupled
    n ← last_numbers o level (last_shape m.pattern) m.values c
    accepted (record { shape = last_shape m.pattern; numbers = n } ∷ [])

module _ (o : MultigridOptions) (given : Bool) where
  -- ---- merged steps

  -- so many merged steps at most, at the level being formed: the kernel of the matrix made last (12 and 13); then, unless few rows are coupled, a
  -- pairing g of it. Where g joins nothing the steps end, else they go on with the coarser matrix (18).
  unfoldable pub merge_of : ℕ → ℕ → Merged → Outcome Merged
  merge_of zero level s = accepted s
  merge_of (suc steps) level s = do
    _ ← kernel_asked level s.mesh
    let g = paired o given s.stage s.mesh
    cond (few_coupled o s.mesh.pattern) (accepted s)
        (cond (eqb g.count s.mesh.pattern.rows) (accepted (merged s.mesh s.map (s.stage + 1)))
        (do
          next ← coarsened_asked given s.mesh g.map g.count
          merge_of steps level (merged next (compose_of (length s.map) s.map g.map) (s.stage + 1))))

  -- ---- levels

  -- the levels from `level` on, so many more than one at most, the charge of the first being paid: 11, 12 and 13; then it is the last where no
  -- more are allowed, few rows are coupled, there is no face, or its pairing g joins nothing. Else come 16 and 17, 18 of the first coarse matrix,
  -- the merged steps, and 18 of the matrix that is summed afresh from the level by the composed map; then 9 of the next level, and the levels
  -- from there.
  unfoldable pub grow_of : Charge → ℕ → ℕ → ℕ → Charge → Mesh → Outcome (List Level)
  grow_of stores zero level stage used m = do
    _ ← diagonals_asked level m.pattern
    c ← kernel_asked level m
    last_level o level m c
  grow_of stores (suc more) level stage used m = do
    _ ← diagonals_asked level m.pattern
    c ← kernel_asked level m
    let g = paired o given stage m
    cond (few_coupled o m.pattern || eqb (faces_of m.pattern) 0 || eqb g.count m.pattern.rows) (last_level o level m c)
        (do
          n ← inner_numbers o level (inner_shape m.pattern g.map g.count) c
          first ← coarsened_asked given m g.map g.count
          s ← merge_of (o.merge_levels - 1) (level + 1) (merged first g.map (stage + 1))
          next ← coarsened_asked given m s.map s.mesh.pattern.rows
          let paid = and_level next.pattern used
          ask (holds stores paid) store_too_small
          levels ← grow_of stores more (level + 1) s.stage paid (record { pattern = next.pattern; values = next.values; weights = s.mesh.weights })
          accepted (record { shape = inner_shape m.pattern s.map s.mesh.pattern.rows; numbers = n } ∷ levels))

-- ---- the build

-- what is lent: so many words, floats and records of statistics
pub record Lent : Type 0 where
  pub stores : Charge
  pub records : ℕ

-- the arguments of `new` and `new_with_face_weights`
pub record Input : Type 0 where
  pub rows : ℕ
  pub offsets : List ℕ
  pub columns : List ℕ
  pub values : List Float
  pub given : Bool
  pub weights : List Float
  pub options : MultigridOptions

-- its pattern
abbrev pub pattern_in : Input → Pattern
pattern_in x = record { rows = x.rows; offsets = x.offsets; columns = x.columns }

-- the finest matrix, with no weights where none are given
abbrev pub mesh_in : Input → Mesh
mesh_in x = record { pattern = pattern_in x; values = x.values; weights = cond x.given x.weights [] }

-- question 10: each entry has its mirror, both finite and equal as numbers
unfoldable pub symmetric_of : Pattern → List Float → Bool
symmetric_of p values = mirrored_of p && mirrors_agree (faces_of p) (uppers_of p) (lowers_of p) values

-- the build: a hierarchy, or the first refusal. Of a matrix of no rows the fixed charge is asked, and no level is made; question 8 is gone.
unfoldable pub build_of : Lent → Input → Outcome Hierarchy
build_of l x = do
  let p = pattern_in x
  let o = x.options
  let fixed = fixed_charge o x.rows (entries p)
  _ ← matrix_asked x.rows x.offsets x.columns x.values
  _ ← cond x.given (weights_asked (entries p) x.weights) passed
  _ ← controls_asked o
  ask (holds l.stores fixed && leb o.max_levels l.records) store_too_small
  cond (eqb x.rows 0) (accepted empty_hierarchy)
      (do
        ask (holds l.stores (and_level p fixed)) store_too_small
        ask (symmetric_of p x.values) not_symmetric
        levels ← grow_of o x.given l.stores (o.max_levels - 1) 0 0 (and_level p fixed) (mesh_in x)
        accepted (with_sums o levels))
