-- Stores for `max_levels` levels of the finest size are never refused by question 9: no level of a build has more rows or entries than
-- the finest, and there are at most `max_levels` of them.
-- Assumes nothing.
use Rattle.std.specs.Prelude.{Ok}
use mathlib.Core.Path.{◌≡◌, refl, sym, ap, ◌∙◌, subst}
use mathlib.Core.Bool.{Bool, true, false, cond, ◌&&◌}
use mathlib.Core.List.{List}
use Prim.Native.Nat.{ℕ, zero, suc, ◌+◌, ◌-◌, ◌*◌, ◌≤◌}
use native.Mathlib.Nat.{mul-le-mul, mul_comm}
use native.Mathlib.Omega.{arith}
use lib.Dec.{eqb, leb}
use borrow.Author.Tests.{le-leb, eq-eqb}
use Rattle.store.specs.Region.{idx}
use Rattle.refusal.specs.Refusal.{store_too_small, not_symmetric}
use Rattle.refusal.specs.Outcome.{Outcome, accepted, passed, verdict_of}
use Rattle.options.specs.declared.options.MultigridOptions.{MultigridOptions}
use Rattle.options.specs.Options.{controls_asked}
use Rattle.aggregation.proofs.Numbers.{count_most}
use Rattle.pattern.specs.Pattern.{Pattern, entries, Valid, coarse}
use Rattle.pattern.proofs.pattern.Coarse.{coarse_few, coarse_valid}
use Rattle.csr.specs.Questions.{matrix_asked}
use Rattle.csr.specs.Weights.{weights_asked}
use Rattle.faces.specs.Faces.{diagonals_asked}
use Rattle.hierarchy.specs.Level.{Level}
use Rattle.hierarchy.specs.Refresh.{inner_numbers}
use Rattle.hierarchy.specs.Build.{Charge, and_level, holds, inner_shape, Mesh, Merged, merged, kernel_asked, weighted_by, paired, coarsened, coarsened_asked, merge_of, grow_of, Lent, Input, pattern_in, mesh_in, symmetric_of, build_of}
use Rattle.hierarchy.specs.Steps.{even, ends_at, level_step}
use Rattle.hierarchy.proofs.Accepted.{coarsened_is, onward, grow_is, merge_keeps, fixed_in, charge_in}
use Rattle.hierarchy.proofs.Proper.{valid_range}
use Rattle.build.specs.AskingContract.{arrays_asked, ArraysFit}
use Rattle.build.proofs.questions.Passing.{arrays_fit}
use Rattle.build.proofs.questions.Products.{vectors_few, square_few}
use Rattle.charge.specs.Charge.{capped, charge_after, words_for, floats_for, sizes_for, Lends, spares}
use Rattle.charge.proofs.Spares.{Spared, done, ask_spares, holds_spares, cond_spares, then_spares, matrix_spares, weights_spare, controls_spare, diagonals_spare, kernel_spares, inner_spares, last_spares, coarsened_spares, merge_spares}

-- ---- sizes

-- A valid pattern of at most so many rows.
record Few (rows : ℕ) (p : Pattern) : Type 0 where
  valid : Valid p
  few : p.rows ≤ rows

-- The pairing of a valid pattern has no more aggregates than rows.
paired_few : (o : MultigridOptions) (given : Bool) (stage : ℕ) (m : Mesh) → Valid m.pattern → (paired o given stage m).count ≤ m.pattern.rows
paired_few o given stage m valid =
    count_most (weighted_by o given m) (even stage) (valid_range valid)

-- So a coarse matrix has no more rows than the finer one,
coarse_rows : (o : MultigridOptions) (given : Bool) (stage rows : ℕ) (m : Mesh) → Few rows m.pattern → let g = paired o given stage m in
    Few rows (coarsened given m g.map g.count).pattern
coarse_rows o given stage rows m f =
    let g = paired o given stage m in
    record {
      valid = coarse_valid m.pattern g.map g.count;
      few = let z = paired_few o given stage m f.valid in let y = f.few in omega arith;
    }

-- and merged steps keep it so.
merged_few : (o : MultigridOptions) (given : Bool) (rows steps level : ℕ) (s : Merged) {t : Merged} → merge_of o given steps level s ≡ accepted t
    → Few rows s.mesh.pattern → Few rows t.mesh.pattern
merged_few o given rows = merge_keeps o given (λ (s : Merged). Few rows s.mesh.pattern) (λ s f. f)
    (λ s f. coarse_rows o given s.stage rows s.mesh f)

-- ---- levels

-- Charges of the same numbers are the same.
alike : {a b c d : ℕ} → a ≡ b → c ≡ d → ◌≡◌ {A = Charge} (record { words = a; floats = c }) (record { words = b; floats = d })
alike e f = rw (e, f)

-- One level more.
one_more : (n w : ℕ) → suc n * w ≡ n * w + w
one_more n w = rw (mul_comm (suc n) w, mul_comm n w) (omega arith)

-- The charge of question 9 after so many levels of a pattern is that of their number.
pub charge_after_lem : (o : MultigridOptions) (p : Pattern) (levels : ℕ)
    → charge_after o p levels ≡ record { words = words_for p.rows (entries p) levels; floats = floats_for o p.rows (entries p) levels }
unfolding charge_after words_for floats_for
charge_after_lem o p zero = alike (omega arith) (omega arith)
charge_after_lem o p (suc levels) =
    let before = charge_after_lem o p levels in
    let words = ap (λ (c : Charge). c.words) before in
    let floats = ap (λ (c : Charge). c.floats) before in
    let onewords = one_more levels (5 * p.rows + 4 * entries p + 8) in
    let onefloats = one_more levels (20 * p.rows + 4 * entries p) in
    alike (omega arith) (omega arith)

-- A charge that is not larger than the stores is held.
held : (stores c : Charge) → c.words ≤ stores.words → c.floats ≤ stores.floats → holds stores c ≡ true
held stores c w f = rw (le-leb c.words stores.words w, le-leb c.floats stores.floats f)

-- A valid pattern of at most so many rows and entries, one level of which is charged at most w words and v floats.
record Sized (w v : ℕ) (rows most : ℕ) : Type 0 where
  words : 5 * rows + 4 * most + 8 ≤ w
  floats : 20 * rows + 4 * most ≤ v

-- Room for so many levels more.
record Room (w v more : ℕ) (stores used : Charge) : Type 0 where
  words : used.words + more * w ≤ stores.words
  floats : used.floats + more * v ≤ stores.floats

module _ (o : MultigridOptions) (given : Bool) (stores : Charge) (w v rows most : ℕ) (sized : Sized w v rows most) where
  -- A level spares question 9 with room for the levels that are still allowed, if those after it do.
  step_spares : (more : ℕ) (deeper : ℕ → Charge → Mesh → Outcome (List Level))
      → ((stage : ℕ) (used : Charge) (m : Mesh) → Few rows m.pattern → entries m.pattern ≤ most → Room w v more stores used
      → Spared 9 (deeper stage used m))
      → (level stage : ℕ) (used : Charge) (m : Mesh) → Few rows m.pattern → entries m.pattern ≤ most → Room w v (suc more) stores used
      → Spared 9 (level_step o given deeper stores (suc more) level stage used m)
  step_spares more deeper on level stage used m f short room =
      let p = m.pattern in
      let g = paired o given stage m in
      then_spares (diagonals_asked level p) (diagonals_spare level p) (λ _ _.
      then_spares (kernel_asked level m) (kernel_spares level m) (λ c _.
      cond_spares (ends_at o (suc more) p) (last_spares o level m c) (λ _.
      cond_spares (eqb g.count p.rows) (last_spares o level m c) (λ _.
      then_spares (inner_numbers o level (inner_shape p g.map g.count) c) (inner_spares o level (inner_shape p g.map g.count) c) (λ n _.
      then_spares (coarsened_asked given m g.map g.count) (coarsened_spares given m g.map g.count) (λ first e.
      then_spares (merge_of o given (o.merge_levels - 1) (level + 1) (merged first g.map (stage + 1)))
      (merge_spares o given (o.merge_levels - 1) (level + 1) (merged first g.map (stage + 1))) (λ s steps.
      then_spares (coarsened_asked given m s.map s.mesh.pattern.rows) (coarsened_spares given m s.map s.mesh.pattern.rows) (λ next afresh.
      let reached : Few rows s.mesh.pattern = merged_few o given rows (o.merge_levels - 1) (level + 1) (merged first g.map (stage + 1)) steps
      (subst (λ (c : Mesh). Few rows c.pattern) (coarsened_is given m g.map g.count e).1 (coarse_rows o given stage rows m f)) in
      let map = s.map in
      let count = s.mesh.pattern.rows in
      let is : coarse p map count ≡ next.pattern = ap (λ (c : Mesh). c.pattern) (coarsened_is given m map count afresh).1 in
      let tall : count ≡ next.pattern.rows = ap (λ (q : Pattern). q.rows) is in
      let long : entries (coarse p map count) ≡ entries next.pattern = ap (λ (q : Pattern). entries q) is in
      let few = reached.few in
      let less = coarse_few p map count in
      let low : next.pattern.rows ≤ rows = omega arith in
      let close : entries next.pattern ≤ most = omega arith in
      let onewords = one_more more w in
      let onefloats = one_more more v in
      let words = room.words in
      let floats = room.floats in
      let priced = sized.words in
      let rated = sized.floats in
      let paid = and_level next.pattern used in
      holds_spares (holds stores paid) store_too_small (held stores paid (omega arith) (omega arith)) (
      then_spares (deeper s.stage paid (onward next s))
      (on s.stage paid (onward next s) (record { valid = subst (λ (q : Pattern). Valid q) is (coarse_valid p map count); few = low }) close
      (record { words = omega arith; floats = omega arith })) (λ _ _. done))))))))))

  -- So do all levels from one on.
  grow_spares : (more level stage : ℕ) (used : Charge) (m : Mesh) → Few rows m.pattern → entries m.pattern ≤ most
      → Room w v more stores used → Spared 9 (grow_of o given stores more level stage used m)
  unfolding grow_of
  grow_spares zero level stage used m f short room =
      then_spares (diagonals_asked level m.pattern) (diagonals_spare level m.pattern) (λ _ _.
      then_spares (kernel_asked level m) (kernel_spares level m) (λ c _. last_spares o level m c))
  grow_spares (suc more) level stage used m f short room =
      subst (λ (out : Outcome (List Level)). Spared 9 out) (sym (grow_is o given stores (suc more) level stage used m))
      (step_spares more (grow_of o given stores more (level + 1))
      (λ stage used m f short room. grow_spares more (level + 1) stage used m f short room) level stage used m f short room)

-- ---- the build

-- What a number of at most so many is cut to is itself.
uncut : (n s : ℕ) → n ≤ 18446744073709551615 → capped n ≤ s → n ≤ s
uncut n s h c = omega arith

module _ (l : Lent) (x : Input) (lends : Lends l (sizes_for x.options x.rows (entries (pattern_in x)) x.options.max_levels)) (fit : ArraysFit x) where
  abbrev o : MultigridOptions
  o = x.options

  abbrev n : ℕ
  n = x.options.max_levels

  abbrev r : ℕ
  r = x.rows

  abbrev e : ℕ
  e = entries (pattern_in x)

  -- All levels but the finest, and the finest.
  levels_are : (w : ℕ) → n * w ≡ (n - 1) * w + w
  levels_are w = let some = fit.controls.some in let is : suc (n - 1) ≡ n = omega arith in rw is at (one_more (n - 1) w)

  -- No charge of so few rows and entries is cut.
  lent_words : 16 * r + 12 * e + 64 + n * (5 * r + 4 * e + 8) ≤ l.stores.words
  unfolding sizes_for words_for
  lent_words =
      let few = fit.sizes.few in
      let short = fit.sizes.short in
      let z = mul-le-mul {n₁ = n} {m₁ = 5 * r + 4 * e + 8} {n₂ = 128} {m₂ = 4521992} fit.controls.levels (omega arith) in
      uncut (16 * r + 12 * e + 64 + n * (5 * r + 4 * e + 8)) l.stores.words (omega arith) lends.words

  lent_floats : (fixed_in x).floats + n * (20 * r + 4 * e) ≤ l.stores.floats
  unfolding sizes_for floats_for
  lent_floats =
      let few = fit.sizes.few in
      let short = fit.sizes.short in
      let z = mul-le-mul {n₁ = n} {m₁ = 20 * r + 4 * e} {n₂ = 128} {m₂ = 5505024} fit.controls.levels (omega arith) in
      let v = vectors_few {rows = r} {krylov = o.krylov_dimension} (record { few = few; directions = fit.controls.krylov }) in
      let s = square_few o.coarsest_cells fit.controls.coarsest in
      uncut ((fixed_in x).floats + n * (20 * r + 4 * e)) l.stores.floats (omega arith) lends.floats

  -- The stores have room for the finest level, and for the others.
  finest_room : Room (5 * r + 4 * e + 8) (20 * r + 4 * e) (n - 1) l.stores (charge_in x)
  finest_room =
      let w = levels_are (5 * r + 4 * e + 8) in
      let v = levels_are (20 * r + 4 * e) in
      let words = lent_words in
      let floats = lent_floats in
      record { words = omega arith; floats = omega arith }

  roomy : (holds l.stores (fixed_in x) && leb n l.records) ≡ true
  unfolding sizes_for
  roomy =
      let words = lent_words in
      let floats = lent_floats in
      let records : n ≤ l.records = lends.records in
      rw (held l.stores (fixed_in x) (omega arith) (omega arith), le-leb n l.records records)

  finest_paid : holds l.stores (charge_in x) ≡ true
  finest_paid =
      let room = finest_room in
      let words = room.words in
      let floats = room.floats in
      held l.stores (charge_in x) (omega arith) (omega arith)

-- Questions 1 to 7 that passed, one by one.
arrays_passed : (x : Input) {a b c : Unit} → matrix_asked x.rows x.offsets x.columns x.values ≡ accepted a
    → cond x.given (weights_asked (entries (pattern_in x)) x.weights) passed ≡ accepted b → controls_asked x.options ≡ accepted c
    → verdict_of (arrays_asked x) ≡ Ok tt
unfolding arrays_asked
arrays_passed x m w c = rw (m, w, c)

-- Questions 4 and 5, where weights are given, spare 9.
weighed : (x : Input) (given : Bool) → Spared 9 (cond given (weights_asked (entries (pattern_in x)) x.weights) passed)
weighed x true = weights_spare (entries (pattern_in x)) x.weights
weighed x false = done

-- A build that is lent stores for `max_levels` levels of the finest size is not refused by question 9.
pub suffices : (l : Lent) (x : Input) → Lends l (sizes_for x.options x.rows (entries (pattern_in x)) x.options.max_levels)
    → spares 9 (build_of l x) ≡ true
unfolding build_of
suffices l x lends = chain.is
  where
    chain : Spared 9 (build_of l x)
    chain =
        let p = pattern_in x in
        let o = x.options in
        then_spares (matrix_asked x.rows x.offsets x.columns x.values) (matrix_spares x.rows x.offsets x.columns x.values) (λ _ m.
        then_spares (cond x.given (weights_asked (entries p) x.weights) passed) (weighed x x.given) (λ _ w.
        then_spares (controls_asked o) (controls_spare o) (λ _ c.
        let fit = arrays_fit x (arrays_passed x m w c) in
        holds_spares (holds l.stores (fixed_in x) && leb o.max_levels l.records) store_too_small (roomy l x lends fit) (
        cond_spares (eqb x.rows 0) done (λ _.
        holds_spares (holds l.stores (charge_in x)) store_too_small (finest_paid l x lends fit) (
        ask_spares (symmetric_of p x.values) not_symmetric refl (
        then_spares (grow_of o x.given l.stores (o.max_levels - 1) 0 0 (charge_in x) (mesh_in x))
        (grow_spares o x.given l.stores (5 * x.rows + 4 * entries p + 8) (20 * x.rows + 4 * entries p) x.rows (entries p)
        (record { words = omega arith; floats = omega arith }) (o.max_levels - 1) 0 0 (charge_in x) (mesh_in x)
        (record { valid = fit.valid; few = omega arith }) (omega arith) (finest_room l x lends fit)) (λ _ _. done))))))))

-- ---- no rows

-- The fixed charge of no rows is that of no levels of no rows.
empty_room : (l : Lent) (x : Input) → x.rows ≡ 0 → Lends l (sizes_for x.options 0 0 0) → ArraysFit x
    → (holds l.stores (fixed_in x) && leb x.options.max_levels l.records) ≡ true
unfolding sizes_for words_for floats_for
empty_room l x none lends fit =
    let o = x.options in
    let short : entries (pattern_in x) ≡ 0 = sym fit.valid.last ∙ ap (idx x.offsets) none ∙ fit.valid.first in
    let vectors : (12 + 2 * o.krylov_dimension) * x.rows ≡ (12 + 2 * o.krylov_dimension) * 0 = ap (λ (n : ℕ). (12 + 2 * o.krylov_dimension) * n) none in
    let s = square_few o.coarsest_cells fit.controls.coarsest in
    let records : o.max_levels ≤ l.records = lends.records in
    let words = lends.words in
    let floats = lends.floats in
    rw (held l.stores (fixed_in x) (omega arith) (omega arith), le-leb o.max_levels l.records records)

-- A build of a matrix of no rows that is lent stores for no levels is not refused by question 9.
pub suffices_empty : (l : Lent) (x : Input) → x.rows ≡ 0 → Lends l (sizes_for x.options 0 0 0) → spares 9 (build_of l x) ≡ true
unfolding build_of
suffices_empty l x none lends = chain.is
  where
    chain : Spared 9 (build_of l x)
    chain =
        let o = x.options in
        then_spares (matrix_asked x.rows x.offsets x.columns x.values) (matrix_spares x.rows x.offsets x.columns x.values) (λ _ m.
        then_spares (cond x.given (weights_asked (entries (pattern_in x)) x.weights) passed) (weighed x x.given) (λ _ w.
        then_spares (controls_asked o) (controls_spare o) (λ _ c.
        let fit = arrays_fit x (arrays_passed x m w c) in
        holds_spares (holds l.stores (fixed_in x) && leb o.max_levels l.records) store_too_small (empty_room l x none lends fit)
        (rw (eq-eqb x.rows 0 none) done))))
