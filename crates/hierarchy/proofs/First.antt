-- Pattern first, values second: an accepted build is the refresh of its own shapes from the values, and where weights are given
-- its shapes are those made of patterns and weights alone.
-- Assumes nothing.
use mathlib.Core.Path.{◌≡◌, refl, sym, ap, ◌∙◌, subst}
use mathlib.Core.Bool.{Bool, true, false, cond}
use mathlib.Core.List.{List, [], ◌∷◌}
use Prim.Native.Nat.{ℕ, zero, suc, ◌+◌, ◌-◌, ◌≤◌}
use native.Mathlib.Omega.{arith}
use borrow.Author.Tests.{eq-eqb, ne_eqb}
use lib.Dec.{eqb}
use lib.ListN.{length}
use lib.Ieee.{Float}
use Rattle.options.specs.declared.options.MultigridOptions.{MultigridOptions}
use Rattle.refusal.specs.Outcome.{accepted, ◌>>=◌}
use Rattle.refusal.proofs.Outcome.{accepted_one}
use Rattle.vector.specs.Finite.{all_finite}
use Rattle.aggregation.specs.Pairs.{Pairing, strengths_of}
use Rattle.pattern.specs.Pattern.{Pattern, entries, coarse, coarse_positions, compose_of}
use Rattle.pattern.proofs.pattern.Place.{length_those}
use Rattle.galerkin.specs.Contract.{galerkin_of}
use Rattle.faces.specs.Faces.{above, faces_of, uppers_of, lowers_of}
use Rattle.hierarchy.specs.Level.{Shape, Numbers, Level, Hierarchy}
use Rattle.hierarchy.specs.Refresh.{numbers_of, coarse_values, with_sums, refresh_of}
use Rattle.hierarchy.specs.Build.{shaping_of, Charge, shape_of, last_shape, inner_shape, Mesh, Merged, merged, kernel_asked, paired, coarsened_asked, few_coupled, merge_of, grow_of, Lent, Input, pattern_in, mesh_in, build_of}
use Rattle.hierarchy.specs.Steps.{ends_at, joined_step}
use Rattle.hierarchy.specs.Shapes.{Weights, Traced, paired_by, coarse_weights, trace_joined, trace_of, traced_from, shapes_of, pattern_of}
use Rattle.hierarchy.specs.First.{shapes_in, First}
use Rattle.hierarchy.proofs.Accepted.{then_split, coarsened_is, Last, onward, Inner, ends_zero, Halts, by_pattern, by_pairs, grow_keeps, joined_by, charge_in, build_empty, build_built}

-- ---- the faces

-- There are as many faces as entries above the diagonal.
pub length_uppers : (p : Pattern) → length (uppers_of p) ≡ faces_of p
unfolding uppers_of faces_of
length_uppers p = length_those (above p) (entries p)

-- ---- the first level

-- The levels from the first of a matrix m on.
pub record Headed (m : Mesh) (levels : List Level) : Type 0 where
  pub numbers : Numbers
  pub terminal : Bool
  pub links : List ℕ
  pub positions : List ℕ
  pub tail : List Level
  pub is : record { shape = shape_of m.pattern terminal links positions; numbers = numbers } ∷ tail ≡ levels

-- An accepted build has a first level, with the pattern of the matrix and its faces.
pub grow_headed : (o : MultigridOptions) (given : Bool) (stores : Charge) (more level stage : ℕ) (used : Charge) (m : Mesh) {levels : List Level}
    → grow_of o given stores more level stage used m ≡ accepted levels → Headed m levels
grow_headed o given stores =
    grow_keeps o given stores (λ _ _ _ m levels. Headed m levels)
    (λ more level stage m levels _ l. record {
      numbers = l.numbers;
      terminal = true;
      links = (last_shape m.pattern).links;
      positions = [];
      tail = [];
      is = l.is;
    })
    (λ more level stage used m levels _ _ i _. record {
      numbers = i.numbers;
      terminal = false;
      links = i.state.map;
      positions = coarse_positions m.pattern i.state.map i.state.mesh.pattern.rows;
      tail = i.rest;
      is = i.is;
    })

-- ---- values second

module _ (o : MultigridOptions) (level : ℕ) where
  -- The refresh of a last level.
  refresh_last : (s : Shape) (values : List Float) {n : Numbers} → numbers_of o level s values ≡ accepted n
      → refresh_of o level (s ∷ []) values ≡ accepted (record { shape = s; numbers = n } ∷ [])
  unfolding refresh_of
  refresh_last s values e = rw e

  -- The refresh of a level and those after it.
  refresh_more : (s t : Shape) (rest : List Shape) (values : List Float) {n : Numbers} {further : List Level}
      → numbers_of o level s values ≡ accepted n
      → all_finite (entries t.pattern) (coarse_values o s t values) ≡ true
      → refresh_of o (level + 1) (t ∷ rest) (coarse_values o s t values) ≡ accepted further
      → refresh_of o level (s ∷ t ∷ rest) values ≡ accepted (record { shape = s; numbers = n } ∷ further)
  unfolding refresh_of
  refresh_more s t rest values e f g = rw (e, f, g)

  -- The refresh of a level whose coarse matrix is m, and of the levels from m on.
  refresh_headed : (s : Shape) (values : List Float) (m : Mesh) {n : Numbers} {rest : List Level}
      → numbers_of o level s values ≡ accepted n → Headed m rest
      → (q : Pattern) → q ≡ m.pattern
      → galerkin_of (entries q) (entries s.pattern) s.positions values (faces_of q) (uppers_of q) (lowers_of q) ≡ m.values
      → all_finite (entries m.pattern) m.values ≡ true
      → refresh_of o (level + 1) (shapes_in rest) m.values ≡ accepted rest
      → refresh_of o level (s ∷ shapes_in rest) values ≡ accepted (record { shape = s; numbers = n } ∷ rest)
  refresh_headed s values m {n} {rest} e h q p v finite on =
      let t = shape_of m.pattern h.terminal h.links h.positions in
      let head : Level = record { shape = t; numbers = h.numbers } in
      let same : coarse_values o s t values ≡ m.values = rw (← p, length_uppers q) v in
      subst (λ (r : List Level). refresh_of o level (s ∷ shapes_in r) values ≡ accepted (record { shape = s; numbers = n } ∷ r)) h.is
      (refresh_more s t (shapes_in h.tail) values e (rw same finite)
      (ap (refresh_of o (level + 1) (shapes_in (head ∷ h.tail))) same
      ∙ ap (λ (r : List Level). refresh_of o (level + 1) (shapes_in r) m.values) h.is ∙ on ∙ ap accepted (sym h.is)))

module _ (o : MultigridOptions) (given : Bool) (stores : Charge) where
  -- A last level is the refresh of its shape.
  last_refresh : (level : ℕ) (m : Mesh) {levels : List Level} → Last o level m levels
      → refresh_of o level (shapes_in levels) m.values ≡ accepted levels
  last_refresh level m l = rw (← l.is) (refresh_last o level (last_shape m.pattern) m.values (rw l.kernel l.made))

  -- A level with aggregates is the refresh of its shape, if those after it are of theirs.
  inner_refresh : (more level stage : ℕ) (used : Charge) (m : Mesh) (g : Pairing) {levels : List Level}
      → (i : Inner o given (grow_of o given stores more (level + 1)) stores level stage used m g levels)
      → refresh_of o (level + 1) (shapes_in i.rest) i.next.values ≡ accepted i.rest
      → refresh_of o level (shapes_in levels) m.values ≡ accepted levels
  inner_refresh more level stage used m g i on =
      let map = i.state.map in
      let count = i.state.mesh.pattern.rows in
      let c = coarsened_is given m map count i.afresh in
      let next = onward i.next i.state in
      let h = grow_headed o given stores more (level + 1) i.state.stage _ next i.further in
      rw (← i.is)
      (refresh_headed o level (inner_shape m.pattern map count) m.values next (rw i.kernel i.made) h
      (coarse m.pattern map count) (ap (λ (x : Mesh). x.pattern) c.1) (ap (λ (x : Mesh). x.values) c.1)
      (rw (← c.1) c.0) on)

  -- An accepted build is the refresh of its own shapes.
  pub grow_refresh : (more level stage : ℕ) (used : Charge) (m : Mesh) {levels : List Level}
      → grow_of o given stores more level stage used m ≡ accepted levels
      → refresh_of o level (shapes_in levels) m.values ≡ accepted levels
  grow_refresh = grow_keeps o given stores (λ _ level _ m levels. refresh_of o level (shapes_in levels) m.values ≡ accepted levels)
      (λ more level stage m levels _ l. last_refresh level m l)
      (λ more level stage used m levels _ _ i on. inner_refresh more level stage used m (paired o given stage m) i on)

-- ---- pattern first

-- a matrix without its values
abbrev bare : Mesh → Weights
bare m = record { pattern = m.pattern; weights = m.weights }

-- what merged steps made, without values
abbrev bare_state : Merged → Traced
bare_state s = record { mesh = bare s.mesh; map = s.map; stage = s.stage }

-- Where weights are given the pairing is that by weights.
paired_by_lem : (o : MultigridOptions) (stage : ℕ) (m : Mesh) → paired o true stage m ≡ paired_by (shaping_of o) stage (bare m)
unfolding strengths_of
paired_by_lem o stage m = refl

-- The coarse matrix has the coarse pattern and weights.
coarsened_bare : (m : Mesh) (map : List ℕ) (count : ℕ) {c : Mesh} → coarsened_asked true m map count ≡ accepted c
    → coarse_weights (bare m) map count ≡ bare c
coarsened_bare m map count e = ap bare (coarsened_is true m map count e).1

module _ (o : MultigridOptions) where
  -- Accepted merged steps make what they make of patterns and weights alone.
  merge_trace : (steps level : ℕ) (s : Merged) {t : Merged} → merge_of o true steps level s ≡ accepted t
      → trace_of (shaping_of o) steps (bare_state s) ≡ bare_state t
  unfolding merge_of trace_of
  merge_trace zero level s e = ap bare_state (accepted_one e)
  merge_trace (suc steps) level s {t} e =
      let k = then_split (kernel_asked level s.mesh) _ e in
      go (λ s t e. merge_trace steps level s e) (few_coupled o s.mesh.pattern) (paired o true s.stage s.mesh)
      (paired_by_lem o s.stage s.mesh) k.2
    where
      step : ((s t : Merged) → merge_of o true steps level s ≡ accepted t → trace_of (shaping_of o) steps (bare_state s) ≡ bare_state t)
          → (g : Pairing) (y : Bool)
          → cond y (accepted (merged s.mesh s.map (s.stage + 1)))
          (◌>>=◌ (coarsened_asked true s.mesh g.map g.count) (λ next. merge_of o true steps level (joined_by next s g))) ≡ accepted t
          → cond y (record { mesh = bare s.mesh; map = s.map; stage = s.stage + 1 })
          (trace_of (shaping_of o) steps (record {
            mesh = coarse_weights (bare s.mesh) g.map g.count;
            map = compose_of (length s.map) s.map g.map;
            stage = s.stage + 1;
          })) ≡ bare_state t
      step on g true e = ap bare_state (accepted_one e)
      step on g false e =
          let a = then_split (coarsened_asked true s.mesh g.map g.count) _ e in
          rw (coarsened_bare s.mesh g.map g.count a.1) (on (joined_by a.0 s g) t a.2)

      go : ((s t : Merged) → merge_of o true steps level s ≡ accepted t → trace_of (shaping_of o) steps (bare_state s) ≡ bare_state t)
          → (x : Bool) (g : Pairing) → g ≡ paired_by (shaping_of o) s.stage (bare s.mesh)
          → cond x (accepted s) (joined_step o true (merge_of o true steps level) s g) ≡ accepted t
          → cond x (bare_state s) (trace_joined (shaping_of o) (trace_of (shaping_of o) steps) (bare_state s) (paired_by (shaping_of o) s.stage (bare s.mesh))) ≡ bare_state t
      go on true g p e = ap bare_state (accepted_one e)
      go on false g p e = rw (← p) (step on g (eqb g.count s.mesh.pattern.rows) e)

  -- The shape of a last level is made of the pattern alone.
  halted : (stage : ℕ) (m : Mesh) (more : ℕ) → Halts o true stage m more → shapes_of (shaping_of o) more stage (bare m) ≡ last_shape m.pattern ∷ []
  unfolding shapes_of
  halted stage m zero h = rw (ends_zero o m.pattern) refl
  halted stage m (suc more) (by_pattern p) = rw p refl
  halted stage m (suc more) (by_pairs p q) = rw (p, rw (paired_by_lem o stage m) at q) refl

  last_shapes : (more level stage : ℕ) (m : Mesh) (levels : List Level) → Halts o true stage m more → Last o level m levels
      → shapes_in levels ≡ shapes_of (shaping_of o) more stage (bare m)
  last_shapes more level stage m levels h l = sym (ap shapes_in l.is) ∙ sym (halted stage m more h)

  module _ (stores : Charge) (more level stage : ℕ) (used : Charge) (m : Mesh) (levels : List Level)
      (i : Inner o true (grow_of o true stores more (level + 1)) stores level stage used m (paired o true stage m) levels) where
    -- What the merged steps made, without values.
    traced : traced_from (shaping_of o) stage (bare m) (paired_by (shaping_of o) stage (bare m)) ≡ bare_state i.state
    traced =
        let g = paired_by (shaping_of o) stage (bare m) in
        let f = paired o true stage m in
        let steps = o.merge_levels - 1 in
        let first : coarse_weights (bare m) g.map g.count ≡ bare i.first =
        rw (← paired_by_lem o stage m) (coarsened_bare m f.map f.count i.coarser) in
        let rest : trace_of (shaping_of o) steps (record { mesh = bare i.first; map = g.map; stage = stage + 1 }) ≡ bare_state i.state =
        rw (← paired_by_lem o stage m) (merge_trace steps (level + 1) (merged i.first f.map (stage + 1)) i.steps) in
        ap (λ (w : Weights). trace_of (shaping_of o) steps (record { mesh = w; map = g.map; stage = stage + 1 })) first ∙ rest

    -- The shapes from a level with aggregates on, if those after it are made of the next pattern and weights alone.
    inner_shapes : ends_at o (suc more) m.pattern ≡ false → eqb (paired o true stage m).count m.pattern.rows ≡ false
        → shapes_in i.rest ≡ shapes_of (shaping_of o) more i.state.stage (bare (onward i.next i.state))
        → shapes_in levels ≡ shapes_of (shaping_of o) (suc more) stage (bare m)
    unfolding shapes_of
    inner_shapes p q on =
        let map = i.state.map in
        let count = i.state.mesh.pattern.rows in
        let next = sym (ap (λ (c : Mesh). c.pattern) (coarsened_is true m map count i.afresh).1) in
        rw (p, rw (paired_by_lem o stage m) at q, traced) (sym (ap shapes_in i.is) ∙ ap (λ (l : List Shape). inner_shape m.pattern map count ∷ l)
        (on ∙ ap (λ (p : Pattern). shapes_of (shaping_of o) more i.state.stage (record { pattern = p; weights = i.state.mesh.weights })) next))

  -- Where weights are given, the shapes of an accepted build are made of its pattern and weights alone.
  pub grow_shapes : (stores : Charge) (more level stage : ℕ) (used : Charge) (m : Mesh) {levels : List Level}
      → grow_of o true stores more level stage used m ≡ accepted levels
      → shapes_in levels ≡ shapes_of (shaping_of o) more stage (record { pattern = m.pattern; weights = m.weights })
  grow_shapes stores = grow_keeps o true stores (λ more _ stage m levels. shapes_in levels ≡ shapes_of (shaping_of o) more stage (bare m))
      last_shapes (λ more level stage used m levels p q i on. inner_shapes stores more level stage used m levels i p q on)

-- ---- the build

-- the finest matrix, with its weights if they are given
abbrev weighing : Input → Bool → Mesh
weighing x given = record { pattern = pattern_in x; values = x.values; weights = cond given x.weights [] }

-- So is a build of no rows, which has no levels.
first_empty : (l : Lent) (x : Input) {h : Hierarchy} → x.rows ≡ 0 → build_of l x ≡ accepted h → First l x h
unfolding pattern_of refresh_of with_sums
first_empty l x none e = record {
  built = e;
  levels = [];
  is = sym (build_empty l x none e);
  second = refl;
  first = λ _. rw (eq-eqb x.rows 0 none);
}

-- So is one of a matrix with rows.
first_filled : (l : Lent) (x : Input) {h : Hierarchy} → 1 ≤ x.rows → build_of l x ≡ accepted h → First l x h
unfolding pattern_of
first_filled l x some e =
    let b = build_built l x some e in
    let o = x.options in
    let more = o.max_levels - 1 in
    record {
      built = e;
      levels = b.levels;
      is = sym b.is;
      second = grow_refresh o x.given l.stores more 0 0 (charge_in x) (mesh_in x) b.grown;
      first = λ given. rw (ne_eqb x.rows 0 (λ z. omega arith)) (grow_shapes o l.stores more 0 0 (charge_in x) (weighing x true)
          (subst (λ (g : Bool). grow_of o g l.stores more 0 0 (charge_in x) (weighing x g) ≡ accepted b.levels) given b.grown));
    }

-- An accepted build is pattern first, values second.
pub build_first : (l : Lent) (x : Input) {h : Hierarchy} → build_of l x ≡ accepted h → First l x h
build_first l x {h} e = go x.rows refl
  where
    go : (n : ℕ) → x.rows ≡ n → First l x h
    go zero z = first_empty l x z e
    go (suc n) s = first_filled l x (omega arith) e
