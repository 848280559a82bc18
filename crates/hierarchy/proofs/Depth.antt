-- How many levels a build has, and that larger stores change nothing.
-- Assumes nothing.
use mathlib.Core.Path.{◌≡◌, refl, sym, ap, ◌∙◌, subst}
use mathlib.Core.Bool.{Bool, true, false, cond, ◌&&◌}
use mathlib.Core.List.{List, [], ◌∷◌}
use Prim.Native.Nat.{ℕ, zero, suc, ◌+◌, ◌-◌, ◌≤◌}
use native.Mathlib.Omega.{arith}
use lib.Dec.{eqb, leb}
use lib.ListN.{length}
use borrow.Author.Tests.{leb-true, le-leb}
use Rattle.store.proofs.store.Each.{both_l, both_r}
use Rattle.options.specs.declared.options.MultigridOptions.{MultigridOptions}
use Rattle.refusal.specs.declared.Refusal.{Refusal}
use Rattle.refusal.specs.Refusal.{store_too_small, not_symmetric}
use Rattle.options.specs.Options.{within, cap_allowed, valid_of, controls_asked, tolerable}
use Rattle.refusal.specs.Outcome.{Outcome, accepted, passed, ask, ◌>>=◌}
use Rattle.pattern.specs.Pattern.{entries}
use Rattle.faces.specs.Faces.{diagonals_asked}
use Rattle.csr.specs.Questions.{matrix_asked}
use Rattle.csr.specs.Weights.{weights_asked}
use Rattle.hierarchy.specs.Level.{Level, Hierarchy, empty_hierarchy}
use Rattle.hierarchy.specs.Refresh.{inner_numbers, with_sums}
use Rattle.hierarchy.specs.Build.{Charge, and_level, holds, inner_shape, Mesh, merged, kernel_asked, paired, coarsened_asked, last_level, merge_of, grow_of, Lent, Input, pattern_in, mesh_in, symmetric_of, build_of}
use Rattle.hierarchy.specs.Steps.{ends_at, level_step}
use Rattle.hierarchy.specs.Depth.{Ending, last, inner, Deep, Larger, LargerLent}
use Rattle.hierarchy.proofs.Accepted.{ask_split, then_split, Last, onward, grow_is, grow_keeps, fixed_in, charge_in, build_built}
use Rattle.hierarchy.proofs.First.{grow_headed}

-- ---- how many levels

-- So many levels at most, the last alone terminal.
record Ends (most : ℕ) (levels : List Level) : Type 0 where
  ending : Ending levels
  some : 1 ≤ length levels
  few : length levels ≤ most

ends_last : (more : ℕ) {o : MultigridOptions} {level : ℕ} {m : Mesh} {levels : List Level} → Last o level m levels → Ends (more + 1) levels
ends_last more l = subst (Ends (more + 1)) l.is (record { ending = last refl; some = omega arith; few = omega arith })

-- The first of levels.
pub head_is : {l k : Level} {r s : List Level} → l ∷ r ≡ k ∷ s → l ≡ k
head_is e = cc

module _ (o : MultigridOptions) (given : Bool) (stores : Charge) where
  grow_ends : (more level stage : ℕ) (used : Charge) (m : Mesh) {levels : List Level}
      → grow_of o given stores more level stage used m ≡ accepted levels → Ends (more + 1) levels
  grow_ends = grow_keeps o given stores (λ more _ _ _ levels. Ends (more + 1) levels)
      (λ more level stage m levels _ l. ends_last more l)
      (λ more level stage used m levels _ _ i on. subst (Ends (suc more + 1)) i.is (record {
        ending = inner refl on.ending;
        some = omega arith;
        few = let n = on.few in omega arith;
      }))

  -- The levels of an accepted build of a matrix: at most one more than allowed, the first with its pattern, the last alone terminal.
  pub grow_levels : (more level stage : ℕ) (used : Charge) (m : Mesh) {levels : List Level}
      → grow_of o given stores more level stage used m ≡ accepted levels → Deep (more + 1) m.pattern levels
  grow_levels more level stage used m e =
      let w = grow_ends more level stage used m e in
      let h = grow_headed o given stores more level stage used m e in
      record {
        some = w.some;
        few = w.few;
        first = λ l rest q. sym (ap (λ (l : Level). l.shape.pattern) (head_is (h.is ∙ q)));
        ending = w.ending;
      }

among : (a b c d e f g h : Bool) → (a && b && c && d && e && f && g && h) ≡ true → b ≡ true
among a b c d e f g h t =
    both_r a b (both_l (a && b) c (both_l (a && b && c) d (both_l (a && b && c && d) e
    (both_l (a && b && c && d && e) f (both_l (a && b && c && d && e && f) g (both_l (a && b && c && d && e && f && g) h t))))))

-- Valid controls allow at least one level.
pub valid_levels : (o : MultigridOptions) → valid_of o ≡ true → 1 ≤ o.max_levels
unfolding valid_of
valid_levels o e = leb-true 1 o.max_levels (both_l (leb 1 o.max_levels) (leb o.max_levels 128)
    (among (
    within 1 o.max_sweeps 64 && leb o.pre_sweeps o.max_sweeps && leb o.post_sweeps o.max_sweeps
    && within 1 o.finest_sweeps 64 && within 1 o.coarsest_cells 256)
    (within 1 o.max_levels 128) (within 1 o.merge_levels 4) (leb o.krylov_dimension 16) (tolerable o.coarse_absolute_tolerance)
    (tolerable o.coarse_relative_tolerance) (leb 1 o.coarse_max_iterations) (cap_allowed o.max_aggregate_cells) e))

-- Row sums change no level.
pub levels_kept : (o : MultigridOptions) (levels : List Level) → (with_sums o levels).levels ≡ levels
unfolding with_sums
levels_kept o [] = refl
levels_kept o (l ∷ rest) = refl

-- An accepted build of a matrix with rows has at least one level and at most `max_levels`, the finest with the pattern given, the last alone terminal.
pub build_levels : (l : Lent) (x : Input) {h : Hierarchy} → 1 ≤ x.rows → build_of l x ≡ accepted h
    → Deep x.options.max_levels (pattern_in x) h.levels
build_levels l x {h} some e =
    let o = x.options in
    let b = build_built l x some e in
    let d = grow_levels o x.given l.stores (o.max_levels - 1) 0 0 (charge_in x) (mesh_in x) b.grown in
    let positive = valid_levels o b.asked.controls in
    let most : o.max_levels - 1 + 1 ≡ o.max_levels = omega arith in
    let is : b.levels ≡ h.levels = sym (levels_kept o b.levels) ∙ ap (λ (k : Hierarchy). k.levels) b.is in
    subst (Deep o.max_levels (pattern_in x)) is (subst (λ (n : ℕ). Deep n (pattern_in x) b.levels) most d)

-- ---- larger stores

module _ {A B : Type 0} {b : B} where
  -- A chain stays accepted where what follows its first computation does.
  then_keeps : (o : Outcome A) (rest rest' : A → Outcome B) → ((a : A) → rest a ≡ accepted b → rest' a ≡ accepted b)
      → ◌>>=◌ o rest ≡ accepted b → ◌>>=◌ o rest' ≡ accepted b
  then_keeps o rest rest' on e = let s = then_split o rest e in rw s.1 (on s.0 s.2)

module _ {A : Type 0} {a : A} where
  -- A chain stays accepted where its question stays passed and what follows accepted.
  ask_keeps : (holds holds' : Bool) (q : Refusal) (rest rest' : Outcome A) → (holds ≡ true → holds' ≡ true)
      → (rest ≡ accepted a → rest' ≡ accepted a) → ask holds q rest ≡ accepted a → ask holds' q rest' ≡ accepted a
  ask_keeps holds holds' q rest rest' p on e = let s = ask_split holds q rest e in rw (p s.0) (on s.1)

  -- A choice stays accepted where its second branch does.
  cond_keeps : (x : Bool) (first rest rest' : Outcome A) → (rest ≡ accepted a → rest' ≡ accepted a)
      → cond x first rest ≡ accepted a → cond x first rest' ≡ accepted a
  cond_keeps true first rest rest' on e = e
  cond_keeps false first rest rest' on e = on e

-- Larger stores hold what the smaller do.
holds_larger : {stores bigger : Charge} → Larger stores bigger → (c : Charge) → holds stores c ≡ true → holds bigger c ≡ true
holds_larger {stores} {bigger} big c e =
    let w = leb-true c.words stores.words (both_l _ (leb c.floats stores.floats) e) in
    let f = leb-true c.floats stores.floats (both_r (leb c.words stores.words) _ e) in
    rw (le-leb c.words bigger.words (omega (arith, big.words)), le-leb c.floats bigger.floats (omega (arith, big.floats)))

module _ (o : MultigridOptions) (given : Bool) {stores bigger : Charge} (big : Larger stores bigger) where
  -- A level stays accepted with larger stores where the deeper ones do.
  step_larger : (deeper deeper' : ℕ → Charge → Mesh → Outcome (List Level)) {levels : List Level}
      → ((stage : ℕ) (used : Charge) (m : Mesh) (levels : List Level) → deeper stage used m ≡ accepted levels
      → deeper' stage used m ≡ accepted levels)
      → (more level stage : ℕ) (used : Charge) (m : Mesh) → level_step o given deeper stores more level stage used m ≡ accepted levels
      → level_step o given deeper' bigger more level stage used m ≡ accepted levels
  step_larger deeper deeper' on more level stage used m =
      let g = paired o given stage m in
      then_keeps (diagonals_asked level m.pattern) _ _ (λ _.
      then_keeps (kernel_asked level m) _ _ (λ c.
      cond_keeps (ends_at o more m.pattern) (last_level o level m c) _ _ (
      cond_keeps (eqb g.count m.pattern.rows) (last_level o level m c) _ _ (
      then_keeps (inner_numbers o level (inner_shape m.pattern g.map g.count) c) _ _ (λ n.
      then_keeps (coarsened_asked given m g.map g.count) _ _ (λ first.
      then_keeps (merge_of o given (o.merge_levels - 1) (level + 1) (merged first g.map (stage + 1))) _ _ (λ s.
      then_keeps (coarsened_asked given m s.map s.mesh.pattern.rows) _ _ (λ next.
      let paid = and_level next.pattern used in
      ask_keeps (holds stores paid) (holds bigger paid) store_too_small _ _ (holds_larger big paid) (λ e.
      let d = then_split (deeper s.stage paid (onward next s)) _ e in
      rw (on s.stage paid (onward next s) d.0 d.1) d.2)))))))))

  -- An accepted build of a matrix is the same with larger stores.
  pub grow_larger : (more level stage : ℕ) (used : Charge) (m : Mesh) {levels : List Level}
      → grow_of o given stores more level stage used m ≡ accepted levels → grow_of o given bigger more level stage used m ≡ accepted levels
  grow_larger zero level stage used m e =
      grow_is o given bigger 0 level stage used m
      ∙ step_larger (λ _ _ _. accepted []) (λ _ _ _. accepted []) (λ stage used m levels e. e) 0 level stage used m
      (sym (grow_is o given stores 0 level stage used m) ∙ e)
  grow_larger (suc more) level stage used m e =
      grow_is o given bigger (suc more) level stage used m
      ∙ step_larger (grow_of o given stores more (level + 1)) (grow_of o given bigger more (level + 1))
      (λ stage used m levels e. grow_larger more (level + 1) stage used m e) (suc more) level stage used m
      (sym (grow_is o given stores (suc more) level stage used m) ∙ e)

-- An accepted build is the same with more lent.
pub build_larger : {l bigger : Lent} → LargerLent l bigger → (x : Input) {h : Hierarchy} → build_of l x ≡ accepted h
    → build_of bigger x ≡ accepted h
unfolding build_of
build_larger {l} {bigger} big x =
    let p = pattern_in x in
    let o = x.options in
    then_keeps (matrix_asked x.rows x.offsets x.columns x.values) _ _ (λ _.
    then_keeps (cond x.given (weights_asked (entries p) x.weights) passed) _ _ (λ _.
    then_keeps (controls_asked o) _ _ (λ _.
    ask_keeps (room l) (room bigger) store_too_small _ _ roomy (
    cond_keeps (eqb x.rows 0) (accepted empty_hierarchy) _ _ (
    ask_keeps (holds l.stores (charge_in x)) (holds bigger.stores (charge_in x)) store_too_small _ _
    (holds_larger big.stores (charge_in x)) (
    ask_keeps (symmetric_of p x.values) (symmetric_of p x.values) not_symmetric _ _ (λ e. e) (λ e.
    let g = then_split (grow_of o x.given l.stores (o.max_levels - 1) 0 0 (charge_in x) (mesh_in x)) _ e in
    rw (grow_larger o x.given big.stores (o.max_levels - 1) 0 0 (charge_in x) (mesh_in x) g.1) g.2)))))))
  where
    room : Lent → Bool
    room l = holds l.stores (fixed_in x) && leb x.options.max_levels l.records

    roomy : room l ≡ true → room bigger ≡ true
    roomy e =
        let most = x.options.max_levels in
        let r = leb-true most l.records (both_r (holds l.stores (fixed_in x)) _ e) in
        rw (
          holds_larger big.stores (fixed_in x) (both_l (holds l.stores (fixed_in x)) _ e),
          le-leb most bigger.records (omega (arith, big.records)),
        )
