-- The shapes of a build with face weights: what `build` does to patterns and weights alone. No coefficient is read, and no control
-- but those that shape.
-- Definitions only.
use Rattle.std.specs.Prelude.{Bool, cond, ◌||◌, List, [], ◌∷◌, ℕ, zero, suc, ◌+◌, ◌-◌, eqb, leb, length, Float}
use Rattle.aggregation.specs.Pairs.{Pairing, pairs_of}
use Rattle.aggregation.specs.Turns.{weighted}
use Rattle.pattern.specs.Pattern.{Pattern, entries, coarse, coarse_positions, compose_of}
use Rattle.galerkin.specs.Contract.{restrict_weights_of}
use Rattle.faces.specs.Faces.{faces_of, coupled_count_of}
use Rattle.hierarchy.specs.Level.{Shape}
use Rattle.hierarchy.specs.Build.{Shaping, shaping_of, last_shape, inner_shape, Input, pattern_in}
use Rattle.hierarchy.specs.Steps.{even}

-- a pattern with the weight of each entry
pub record Weights : Type 0 where
  pub pattern : Pattern
  pub weights : List Float

-- what merged steps have made: the coarse pattern with its weights, the aggregate in it of each row of the level, the pairings
pub record Traced : Type 0 where
  pub mesh : Weights
  pub map : List ℕ
  pub stage : ℕ

-- the coarse pattern and its weights
abbrev pub coarse_weights : Weights → List ℕ → ℕ → Weights
coarse_weights m map count =
    let p = m.pattern in
    let q = coarse p map count in
    record {
      pattern = q;
      weights = restrict_weights_of (entries q) (entries p) (coarse_positions p map count) m.weights count q.offsets q.columns;
    }

module _ (h : Shaping) where
  -- `pairs` by weights
  abbrev pub paired_by : ℕ → Weights → Pairing
  paired_by stage m = pairs_of (weighted m.pattern.rows m.pattern.offsets m.pattern.columns m.weights h.cap) (even stage)

  -- whether few enough rows are coupled for the last level
  abbrev pub few_in : Pattern → Bool
  few_in p = leb (coupled_count_of p) h.coarsest

  -- a pairing g of the pattern made last
  abbrev pub trace_joined : (Traced → Traced) → Traced → Pairing → Traced
  trace_joined further s g =
      cond (eqb g.count s.mesh.pattern.rows) (record { mesh = s.mesh; map = s.map; stage = s.stage + 1 })
      (further (record {
        mesh = coarse_weights s.mesh g.map g.count;
        map = compose_of (length s.map) s.map g.map;
        stage = s.stage + 1;
      }))

  -- so many merged steps at most
  unfoldable pub trace_of : ℕ → Traced → Traced
  trace_of zero s = s
  trace_of (suc steps) s =
      cond (few_in s.mesh.pattern) s (trace_joined (trace_of steps) s (paired_by s.stage s.mesh))

  -- the merged steps of a level with the pairing g
  abbrev pub traced_from : ℕ → Weights → Pairing → Traced
  traced_from stage m g =
      trace_of (h.merges - 1) (record { mesh = coarse_weights m g.map g.count; map = g.map; stage = stage + 1 })

  -- a level that pairs into s, and the shapes from the next level on
  abbrev pub shape_step : (ℕ → Weights → List Shape) → Weights → Traced → List Shape
  shape_step deeper m s =
      let count = s.mesh.pattern.rows in
      inner_shape m.pattern s.map count
      ∷ deeper s.stage (record { pattern = coarse m.pattern s.map count; weights = s.mesh.weights })

  -- a level, and the shapes from the next level on
  abbrev pub shapes_step : (ℕ → Weights → List Shape) → ℕ → ℕ → Weights → List Shape
  shapes_step deeper more stage m =
      cond (few_in m.pattern || eqb (faces_of m.pattern) 0 || eqb more 0) (last_shape m.pattern ∷ [])
      (let g = paired_by stage m in
      cond (eqb g.count m.pattern.rows) (last_shape m.pattern ∷ []) (shape_step deeper m (traced_from stage m g)))

  -- the shapes from a pattern on, so many more than one at most
  unfoldable pub shapes_of : ℕ → ℕ → Weights → List Shape
  shapes_of zero stage m = shapes_step (λ _ _. []) 0 stage m
  shapes_of (suc more) stage m = shapes_step (shapes_of more) (suc more) stage m

-- the shapes of a build with weights; none of a matrix of no rows
unfoldable pub pattern_of : Input → List Shape
pattern_of x =
    let h = shaping_of x.options in
    cond (eqb x.rows 0) [] (shapes_of h (h.levels - 1) 0 (record { pattern = pattern_in x; weights = x.weights }))
