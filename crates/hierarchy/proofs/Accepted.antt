-- What an accepted build went through: its questions, the steps of a level that is the last, those of a level with aggregates, and
-- merged steps; and what such steps keep, the build keeps.
-- Assumes nothing.
use mathlib.Core.Path.{◌≡◌, refl, sym, ◌∙◌, subst}
use mathlib.Core.Bool.{Bool, true, false, cond, ◌&&◌, ◌||◌}
use mathlib.Core.List.{List, [], ◌∷◌}
use Prim.Native.Nat.{ℕ, zero, suc, ◌+◌, ◌-◌, ◌≤◌}
use native.Mathlib.Omega.{arith}
use lib.Dec.{eqb, leb}
use lib.ListN.{length}
use borrow.Author.Tests.{eq-eqb, ne_eqb}
use Rattle.options.specs.declared.options.MultigridOptions.{MultigridOptions}
use Rattle.refusal.specs.declared.Refusal.{Refusal}
use Rattle.refusal.specs.Refusal.{invalid_controls, not_cholesky, store_too_small, not_symmetric, too_many_coupled, bad_coarse_value}
use Rattle.options.specs.Options.{valid_of, is_cholesky, controls_asked}
use Rattle.refusal.specs.Outcome.{Outcome, accepted, refused, passed, ask, ◌>>=◌}
use Rattle.refusal.proofs.Outcome.{accepted_one}
use Rattle.vector.specs.Finite.{all_finite}
use Rattle.coefficients.specs.Update.{Coefficients}
use Rattle.aggregation.specs.Pairs.{Pairing}
use Rattle.pattern.specs.Pattern.{Pattern, entries, compose_of}
use Rattle.pattern.proofs.pattern.Number.{not_both}
use Rattle.faces.specs.Faces.{faces_of, diagonals_asked}
use Rattle.csr.specs.Questions.{matrix_asked}
use Rattle.csr.specs.Weights.{weights_asked}
use Rattle.hierarchy.specs.Level.{Numbers, Level, Hierarchy, empty_hierarchy}
use Rattle.hierarchy.specs.Refresh.{inner_numbers, last_numbers, with_sums}
use Rattle.hierarchy.specs.Build.{Charge, fixed_charge, and_level, holds, last_shape, inner_shape, Mesh, Merged, merged, kernel_asked, paired, coarsened, coarsened_asked, few_coupled, last_level, merge_of, grow_of, Lent, Input, pattern_in, mesh_in, symmetric_of, build_of}
use Rattle.hierarchy.specs.Steps.{ends_at, inner_level, level_step, deeper_of}

-- ---- chains of questions

module _ {A : Type 0} where
  -- A question that was passed holds, and the rest is accepted.
  pub ask_split : (holds : Bool) (q : Refusal) (rest : Outcome A) {a : A} → ask holds q rest ≡ accepted a
      → (holds ≡ true) × (rest ≡ accepted a)
  ask_split true q rest e = (refl, e)
  ask_split false q rest e = absurd (let none : ◌≡◌ {A = ℕ} 0 1 = cc in omega arith)

  -- An accepted chain accepted its first computation.
  pub then_split : {B : Type 0} (o : Outcome A) (rest : A → Outcome B) {b : B} → ◌>>=◌ o rest ≡ accepted b
      → (a : A) × (o ≡ accepted a) × (rest a ≡ accepted b)
  then_split (accepted a) rest e = (a, refl, e)
  then_split (refused q) rest e = absurd (let none : ◌≡◌ {A = ℕ} 0 1 = cc in omega arith)

-- An accepted coarse matrix is the coarse matrix, and its values are finite.
pub coarsened_is : (given : Bool) (m : Mesh) (map : List ℕ) (count : ℕ) {c : Mesh} → coarsened_asked given m map count ≡ accepted c
    → let d = coarsened given m map count in (all_finite (entries d.pattern) d.values ≡ true) × (d ≡ c)
coarsened_is given m map count e =
    let d = coarsened given m map count in
    let s = ask_split (all_finite (entries d.pattern) d.values) bad_coarse_value (accepted d) e in
    (s.0, accepted_one s.1)

-- ---- a level

module _ (o : MultigridOptions) (level : ℕ) (m : Mesh) (levels : List Level) where
  -- The last level of an accepted build.
  pub record Last : Type 0 where
    pub own : Coefficients
    pub kernel : kernel_asked level m ≡ accepted own
    pub few : few_coupled o m.pattern ≡ true
    pub numbers : Numbers
    pub made : last_numbers o level (last_shape m.pattern) m.values own ≡ accepted numbers
    pub is : record { shape = last_shape m.pattern; numbers = numbers } ∷ [] ≡ levels

  last_is : (c : Coefficients) → kernel_asked level m ≡ accepted c → last_level o level m c ≡ accepted levels → Last
  last_is c k e =
      let made = last_numbers o level (last_shape m.pattern) m.values c in
      let end : Numbers → Outcome (List Level) = λ n. accepted (record { shape = last_shape m.pattern; numbers = n } ∷ []) in
      let s = ask_split (few_coupled o m.pattern) too_many_coupled (◌>>=◌ made end) e in
      let t = then_split made end s.1 in
      record { own = c; kernel = k; few = s.0; numbers = t.0; made = t.1; is = accepted_one t.2 }

-- the matrix of the next level: the one summed afresh, with the weights of what merged steps made
abbrev pub onward : Mesh → Merged → Mesh
onward next s = record { pattern = next.pattern; values = next.values; weights = s.mesh.weights }

module _ (o : MultigridOptions) (given : Bool) (deeper : ℕ → Charge → Mesh → Outcome (List Level)) (stores : Charge) where
  module _ (level stage : ℕ) (used : Charge) (m : Mesh) (g : Pairing) (levels : List Level) where
    -- A level of an accepted build with the aggregates of the pairing g, and the levels from the next one on.
    pub record Inner : Type 0 where
      pub own : Coefficients
      pub kernel : kernel_asked level m ≡ accepted own
      pub numbers : Numbers
      pub made : inner_numbers o level (inner_shape m.pattern g.map g.count) own ≡ accepted numbers
      pub first : Mesh
      pub coarser : coarsened_asked given m g.map g.count ≡ accepted first
      pub state : Merged
      pub steps : merge_of o given (o.merge_levels - 1) (level + 1) (merged first g.map (stage + 1)) ≡ accepted state
      pub next : Mesh
      pub afresh : coarsened_asked given m state.map state.mesh.pattern.rows ≡ accepted next
      pub fits : holds stores (and_level next.pattern used) ≡ true
      pub rest : List Level
      pub further : deeper state.stage (and_level next.pattern used) (onward next state) ≡ accepted rest
      pub is : record { shape = inner_shape m.pattern state.map state.mesh.pattern.rows; numbers = numbers } ∷ rest ≡ levels

    inner_is : (c : Coefficients) → kernel_asked level m ≡ accepted c
        → inner_level o given deeper stores level stage used m c g ≡ accepted levels → Inner
    inner_is c k e =
        let a = then_split (inner_numbers o level (inner_shape m.pattern g.map g.count) c) _ e in
        let b = then_split (coarsened_asked given m g.map g.count) _ a.2 in
        let s = then_split (merge_of o given (o.merge_levels - 1) (level + 1) (merged b.0 g.map (stage + 1))) _ b.2 in
        let n = then_split (coarsened_asked given m s.0.map s.0.mesh.pattern.rows) _ s.2 in
        let f = ask_split (holds stores (and_level n.0.pattern used)) store_too_small _ n.2 in
        let d = then_split (deeper s.0.stage (and_level n.0.pattern used) (onward n.0 s.0)) _ f.1 in
        record {
          own = c;
          kernel = k;
          numbers = a.0;
          made = a.1;
          first = b.0;
          coarser = b.1;
          state = s.0;
          steps = s.1;
          next = n.0;
          afresh = n.1;
          fits = f.0;
          rest = d.0;
          further = d.1;
          is = accepted_one d.2;
        }

  module _ (more level stage : ℕ) (used : Charge) (m : Mesh) where
    -- whether the pairing of the matrix joins nothing
    abbrev pub stays : Bool
    stays = eqb (paired o given stage m).count m.pattern.rows

    -- A level of an accepted build and those after it: it is the last by its pattern, or as its pairing joins nothing, or it has
    -- aggregates.
    pub data Grown (levels : List Level) : Type 0 where
      ends : ends_at o more m.pattern ≡ true → Last o level m levels → Grown levels
      alone : ends_at o more m.pattern ≡ false → stays ≡ true → Last o level m levels → Grown levels
      leads : ends_at o more m.pattern ≡ false → stays ≡ false → Inner level stage used m (paired o given stage m) levels → Grown levels

    -- An accepted level is one of these.
    step_grown : {levels : List Level} → level_step o given deeper stores more level stage used m ≡ accepted levels → Grown levels
    step_grown {levels} e =
        let a = then_split (diagonals_asked level m.pattern) _ e in
        let b = then_split (kernel_asked level m) _ a.2 in
        go b.0 b.1 (ends_at o more m.pattern) refl stays refl b.2
      where
        go : (c : Coefficients) → kernel_asked level m ≡ accepted c
            → (x : Bool) → ends_at o more m.pattern ≡ x → (y : Bool) → stays ≡ y
            → cond x (last_level o level m c)
            (cond y (last_level o level m c) (inner_level o given deeper stores level stage used m c (paired o given stage m))) ≡ accepted levels
            → Grown levels
        go c k true p y q r = ends p (last_is o level m levels c k r)
        go c k false p true q r = alone p q (last_is o level m levels c k r)
        go c k false p false q r = leads p q (inner_is level stage used m (paired o given stage m) levels c k r)

-- ---- levels

-- With no level more allowed a level is the last.
pub ends_zero : (o : MultigridOptions) (p : Pattern) → ends_at o 0 p ≡ true
ends_zero o p = go (few_coupled o p) (eqb (faces_of p) 0)
  where
    go : (a b : Bool) → (a || b || true) ≡ true
    go true b = refl
    go false true = refl
    go false false = refl

-- Computations that go on alike are the same.
then_same : {A B : Type 0} (a : Outcome A) {f g : A → Outcome B} → ((x : A) → f x ≡ g x) → ◌>>=◌ a f ≡ ◌>>=◌ a g
then_same (accepted x) h = h x
then_same (refused q) h = refl

-- A level from which none may follow, and one from which one may, a step at a time.
module _ {A : Type 0} (l i : A) where
  none_more : (a b : Bool) → l ≡ cond (a || b || true) l i
  none_more true b = refl
  none_more false true = refl
  none_more false false = refl

  some_more : (a b e z : Bool) → z ≡ false → cond (a || b || e) l i ≡ cond (a || b || z) l (cond e l i)
  some_more true b e z n = refl
  some_more false true e z n = refl
  some_more false false e z n = rw n

-- The levels of a build a step at a time.
pub grow_is : (o : MultigridOptions) (given : Bool) (stores : Charge) (more level stage : ℕ) (used : Charge) (m : Mesh)
    → grow_of o given stores more level stage used m ≡ level_step o given (deeper_of o given stores more level) stores more level stage used m
unfolding grow_of
grow_is o given stores zero level stage used m =
    then_same (diagonals_asked level m.pattern) (λ _. then_same (kernel_asked level m) (λ c.
    none_more (last_level o level m c) _ (few_coupled o m.pattern) (eqb (faces_of m.pattern) 0)))
grow_is o given stores (suc more) level stage used m =
    then_same (diagonals_asked level m.pattern) (λ _. then_same (kernel_asked level m) (λ c.
    some_more (last_level o level m c) _ (few_coupled o m.pattern) (eqb (faces_of m.pattern) 0)
    (eqb (paired o given stage m).count m.pattern.rows) (eqb (suc more) 0) (ne_eqb (suc more) 0 (λ e. omega arith))))

module _ (o : MultigridOptions) (given : Bool) (stage : ℕ) (m : Mesh) where
  -- Why a level is the last: by its pattern, or as its pairing joins nothing.
  pub data Halts (more : ℕ) : Type 0 where
    by_pattern : ends_at o more m.pattern ≡ true → Halts more
    by_pairs : ends_at o more m.pattern ≡ false → eqb (paired o given stage m).count m.pattern.rows ≡ true → Halts more

module _ (o : MultigridOptions) (given : Bool) (stores : Charge) (P : (more level stage : ℕ) → Charge → Mesh → List Level → Type 0) where
  -- What holds of a last level, and of a level with aggregates if it holds of the levels after it, with the charge so far, holds of an
  -- accepted build.
  pub grow_charged : ((more level stage : ℕ) (used : Charge) (m : Mesh) (levels : List Level) → Halts o given stage m more → Last o level m levels
      → P more level stage used m levels)
      → ((more level stage : ℕ) (used : Charge) (m : Mesh) (levels : List Level) → ends_at o (suc more) m.pattern ≡ false
      → eqb (paired o given stage m).count m.pattern.rows ≡ false
      → (i : Inner o given (grow_of o given stores more (level + 1)) stores level stage used m (paired o given stage m) levels)
      → P more (level + 1) i.state.stage (and_level i.next.pattern used) (onward i.next i.state) i.rest
      → P (suc more) level stage used m levels)
      → (more level stage : ℕ) (used : Charge) (m : Mesh) {levels : List Level} → grow_of o given stores more level stage used m ≡ accepted levels
      → P more level stage used m levels
  grow_charged halts goes zero level stage used m {levels} e =
      go (step_grown o given (λ _ _ _. accepted []) stores 0 level stage used m (sym (grow_is o given stores 0 level stage used m) ∙ e))
    where
      go : Grown o given (λ _ _ _. accepted []) stores 0 level stage used m levels → P 0 level stage used m levels
      go (ends p l) = halts 0 level stage used m levels (by_pattern p) l
      go (alone p q l) = halts 0 level stage used m levels (by_pairs p q) l
      go (leads p q i) = absurd (not_both (ends_zero o m.pattern) p)
  grow_charged halts goes (suc more) level stage used m {levels} e =
      go (λ stage used m levels e. grow_charged halts goes more (level + 1) stage used m e)
      (step_grown o given (grow_of o given stores more (level + 1)) stores (suc more) level stage used m
      (sym (grow_is o given stores (suc more) level stage used m) ∙ e))
    where
      go : ((stage : ℕ) (used : Charge) (m : Mesh) (levels : List Level) → grow_of o given stores more (level + 1) stage used m ≡ accepted levels
          → P more (level + 1) stage used m levels)
          → Grown o given (grow_of o given stores more (level + 1)) stores (suc more) level stage used m levels → P (suc more) level stage used m levels
      go on (ends p l) = halts (suc more) level stage used m levels (by_pattern p) l
      go on (alone p q l) = halts (suc more) level stage used m levels (by_pairs p q) l
      go on (leads p q i) = goes more level stage used m levels p q i
          (on i.state.stage (and_level i.next.pattern used) (onward i.next i.state) i.rest i.further)

module _ (o : MultigridOptions) (given : Bool) (stores : Charge) (P : (more level stage : ℕ) → Mesh → List Level → Type 0) where
  -- What holds of a last level, and of a level with aggregates if it holds of the levels after it, holds of an accepted build.
  pub grow_keeps : ((more level stage : ℕ) (m : Mesh) (levels : List Level) → Halts o given stage m more → Last o level m levels
      → P more level stage m levels)
      → ((more level stage : ℕ) (used : Charge) (m : Mesh) (levels : List Level) → ends_at o (suc more) m.pattern ≡ false
      → eqb (paired o given stage m).count m.pattern.rows ≡ false
      → (i : Inner o given (grow_of o given stores more (level + 1)) stores level stage used m (paired o given stage m) levels)
      → P more (level + 1) i.state.stage (onward i.next i.state) i.rest → P (suc more) level stage m levels)
      → (more level stage : ℕ) (used : Charge) (m : Mesh) {levels : List Level} → grow_of o given stores more level stage used m ≡ accepted levels
      → P more level stage m levels
  grow_keeps halts goes = grow_charged o given stores (λ more level stage _ m levels. P more level stage m levels)
      (λ more level stage _ m levels h l. halts more level stage m levels h l) goes

-- ---- merged steps

-- what a pairing g of the matrix made last leads to, if it joins some rows
abbrev pub joined_by : Mesh → Merged → Pairing → Merged
joined_by next s g = merged next (compose_of (length s.map) s.map g.map) (s.stage + 1)

module _ (o : MultigridOptions) (given : Bool) (P : Merged → Type 0) where
  -- What a pairing that joins nothing keeps, and the coarser matrix of one that joins, accepted merged steps keep.
  pub merge_keeps : ((s : Merged) → P s → P (merged s.mesh s.map (s.stage + 1)))
      → ((s : Merged) → P s → let g = paired o given s.stage s.mesh in
      P (joined_by (coarsened given s.mesh g.map g.count) s g))
      → (steps level : ℕ) (s : Merged) {t : Merged} → merge_of o given steps level s ≡ accepted t → P s → P t
  unfolding merge_of
  merge_keeps still joins zero level s e h = subst P (accepted_one e) h
  merge_keeps still joins (suc steps) level s {t} e h =
      let k = then_split (kernel_asked level s.mesh) _ e in
      let g = paired o given s.stage s.mesh in
      go (λ s e h. merge_keeps still joins steps level s e h) g (joins s h) (few_coupled o s.mesh.pattern)
      (eqb g.count s.mesh.pattern.rows) k.2
    where
      go : ((s : Merged) → merge_of o given steps level s ≡ accepted t → P s → P t)
          → (g : Pairing) → P (joined_by (coarsened given s.mesh g.map g.count) s g) → (x y : Bool)
          → cond x (accepted s) (cond y (accepted (merged s.mesh s.map (s.stage + 1)))
          (◌>>=◌ (coarsened_asked given s.mesh g.map g.count) (λ next. merge_of o given steps level (joined_by next s g)))) ≡ accepted t → P t
      go on g j true y e = subst P (accepted_one e) h
      go on g j false true e = subst P (accepted_one e) (still s h)
      go on g j false false e =
          let a = then_split (coarsened_asked given s.mesh g.map g.count) _ e in
          let c = coarsened_is given s.mesh g.map g.count a.1 in
          on (joined_by a.0 s g) a.2 (subst (λ (m : Mesh). P (joined_by m s g)) c.1 j)

-- ---- the build

-- the fixed charge, and it with the finest level's
abbrev pub fixed_in : Input → Charge
fixed_in x = fixed_charge x.options x.rows (entries (pattern_in x))

abbrev pub charge_in : Input → Charge
charge_in x = and_level (pattern_in x) (fixed_in x)

-- what follows the fixed charge, of a matrix with rows
abbrev levels_from : Charge → Input → Outcome Hierarchy
levels_from stores x =
    ask (holds stores (charge_in x)) store_too_small (ask (symmetric_of (pattern_in x) x.values) not_symmetric
    (◌>>=◌ (grow_of x.options x.given stores (x.options.max_levels - 1) 0 0 (charge_in x) (mesh_in x)) (λ levels. accepted (with_sums x.options levels))))

-- What an accepted build passed before its levels, and what it did then.
pub record Asked (l : Lent) (x : Input) (h : Hierarchy) : Type 0 where
  pub matrix : matrix_asked x.rows x.offsets x.columns x.values ≡ passed
  pub weights : cond x.given (weights_asked (entries (pattern_in x)) x.weights) passed ≡ passed
  pub controls : valid_of x.options ≡ true
  pub solver : is_cholesky x.options.coarse_solver ≡ true
  pub room : (holds l.stores (fixed_in x) && leb x.options.max_levels l.records) ≡ true
  pub rest : cond (eqb x.rows 0) (accepted empty_hierarchy) (levels_from l.stores x) ≡ accepted h

-- What an accepted build of a matrix with rows made.
pub record Built (l : Lent) (x : Input) (h : Hierarchy) : Type 0 where
  pub asked : Asked l x h
  pub paid : holds l.stores (charge_in x) ≡ true
  pub symmetric : symmetric_of (pattern_in x) x.values ≡ true
  pub levels : List Level
  pub grown : grow_of x.options x.given l.stores (x.options.max_levels - 1) 0 0 (charge_in x) (mesh_in x) ≡ accepted levels
  pub is : with_sums x.options levels ≡ h

-- An accepted build was asked.
pub build_asked : (l : Lent) (x : Input) {h : Hierarchy} → build_of l x ≡ accepted h → Asked l x h
unfolding build_of
build_asked l x e =
    let o = x.options in
    let a = then_split (matrix_asked x.rows x.offsets x.columns x.values) _ e in
    let b = then_split (cond x.given (weights_asked (entries (pattern_in x)) x.weights) passed) _ a.2 in
    let c = then_split (controls_asked o) _ b.2 in
    let valid = ask_split (valid_of o) invalid_controls _ c.1 in
    let room = ask_split (holds l.stores (fixed_in x) && leb o.max_levels l.records) store_too_small _ c.2 in
    record {
      matrix = a.1;
      weights = b.1;
      controls = valid.0;
      solver = (ask_split (is_cholesky o.coarse_solver) not_cholesky _ valid.1).0;
      room = room.0;
      rest = room.1;
    }

-- An accepted build of a matrix of no rows has no levels.
pub build_empty : (l : Lent) (x : Input) {h : Hierarchy} → x.rows ≡ 0 → build_of l x ≡ accepted h → empty_hierarchy ≡ h
build_empty l x none e = accepted_one (rw (eq-eqb x.rows 0 none) at (build_asked l x e).rest)

-- An accepted build of a matrix with rows is built.
pub build_built : (l : Lent) (x : Input) {h : Hierarchy} → 1 ≤ x.rows → build_of l x ≡ accepted h → Built l x h
build_built l x some e =
    let o = x.options in
    let asked = build_asked l x e in
    let paid = ask_split (holds l.stores (charge_in x)) store_too_small _ (rw (ne_eqb x.rows 0 (λ z. omega arith)) at asked.rest) in
    let even = ask_split (symmetric_of (pattern_in x) x.values) not_symmetric _ paid.1 in
    let g = then_split (grow_of o x.given l.stores (o.max_levels - 1) 0 0 (charge_in x) (mesh_in x)) _ even.1 in
    record {
      asked = asked;
      paid = paid.0;
      symmetric = even.0;
      levels = g.0;
      grown = g.1;
      is = accepted_one g.2;
    }
