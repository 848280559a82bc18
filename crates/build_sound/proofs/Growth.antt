-- The levels of an accepted build are laid, each with a proper pattern and few rows and entries, and the stores hold their charges.
-- Assumes nothing.
use Rattle.std.specs.Prelude.{Ok}
use mathlib.Core.Path.{◌≡◌, refl, sym, ap, ◌∙◌, subst}
use mathlib.Core.Bool.{Bool, true}
use mathlib.Core.List.{List}
use mathlib.Core.Logic.{◌⊎◌, inl, inr, ⊎_elim}
use Prim.Native.Nat.{ℕ, zero, suc, ◌+◌, ◌*◌, ◌≤◌, ◌<◌}
use native.Mathlib.Omega.{arith}
use lib.Dec.{leb}
use borrow.Author.Tests.{leb-true}
use Rattle.store.specs.Region.{idx}
use Rattle.store.proofs.store.Each.{both_r}
use Rattle.store.proofs.store.Region.{le_or_lt}
use Rattle.refusal.specs.Outcome.{Outcome, accepted, verdict_of}
use Rattle.refusal.proofs.Outcome.{verdict_passed}
use Rattle.options.specs.declared.options.MultigridOptions.{MultigridOptions}
use Rattle.pattern.specs.Pattern.{how_many, Pattern, entries, coarse, Onto}
use Rattle.pattern.proofs.pattern.Number.{many_first}
use Rattle.pattern.proofs.pattern.Coarse.{coarse_few}
use Rattle.faces.specs.Faces.{diagonals_asked, coupled_count_of}
use Rattle.faces.proofs.faces.Pick.{many_into}
use Rattle.hierarchy.specs.Level.{Level}
use Rattle.hierarchy.specs.Build.{Charge, and_level, holds, Mesh, paired, grow_of}
use Rattle.hierarchy.proofs.Accepted.{then_split, coarsened_is, Last, Inner, onward, grow_keeps, grow_charged}
use Rattle.hierarchy.proofs.Proper.{steps_proper, next_proper}
use Rattle.build_sound.specs.Laid.{Small, Laid, last, inner, charges_of}

-- There are no more aggregates than rows, if each has a row.
pub onto_few : {map : List ℕ} {n count : ℕ} → Onto map n count → count ≤ n
onto_few {map} {n} {count} onto =
    let all : ℕ → Bool = λ _. true in
    let into = many_into row all all count n (λ c h _. (row_in c h, refl))
    (λ c d l h _ _ same.
    let e : c ≡ d = sym (row_of_lem c (omega arith)) ∙ ap (idx map) same ∙ row_of_lem d h in
    omega arith) in
    omega (arith, full count, full n)
  where
    full : (m : ℕ) → how_many (λ _. true) m ≡ m
    full m = many_first (λ _. true) m m (omega arith) (λ i _. refl) (λ i l h. absurd (omega arith))

    row : ℕ → ℕ
    row c = ⊎_elim (λ (w : count ≤ c). 0) (λ (w : c < count). (onto.hit c w).0) (le_or_lt count c)

    row_in : (c : ℕ) → c < count → row c < n
    row_in c h = go (le_or_lt count c)
      where
        go : (v : (count ≤ c) ⊎ (c < count)) → ⊎_elim (λ (w : count ≤ c). 0) (λ (w : c < count). (onto.hit c w).0) v < n
        go (inl w) = absurd (omega arith)
        go (inr w) = (onto.hit c w).1

    row_of_lem : (c : ℕ) → c < count → idx map (row c) ≡ c
    row_of_lem c h = go (le_or_lt count c)
      where
        go : (v : (count ≤ c) ⊎ (c < count)) → idx map (⊎_elim (λ (w : count ≤ c). 0) (λ (w : c < count). (onto.hit c w).0) v) ≡ c
        go (inl w) = absurd (omega arith)
        go (inr w) = (onto.hit c w).2

-- The floats of a charge that stores hold.
pub held : (stores c : Charge) → holds stores c ≡ true → c.floats ≤ stores.floats
held stores c e = leb-true c.floats stores.floats (both_r (leb c.words stores.words) _ e)

module _ (o : MultigridOptions) (given : Bool) (stores : Charge) where
  -- The matrix of an accepted build passed question 11.
  pub grow_diagonal : (more level stage : ℕ) (used : Charge) (m : Mesh) {levels : List Level}
      → grow_of o given stores more level stage used m ≡ accepted levels → verdict_of (diagonals_asked level m.pattern) ≡ Ok tt
  unfolding grow_of
  grow_diagonal zero level stage used m e =
      verdict_passed (diagonals_asked level m.pattern) (then_split (diagonals_asked level m.pattern) _ e).1
  grow_diagonal (suc more) level stage used m e =
      verdict_passed (diagonals_asked level m.pattern) (then_split (diagonals_asked level m.pattern) _ e).1

  -- A last level is laid.
  last_laid : {level : ℕ} {m : Mesh} {levels : List Level} → Last o level m levels → Small m.pattern
      → Laid o.coarsest_cells m.pattern levels
  last_laid {level} {m} l small = subst (Laid o.coarsest_cells m.pattern) l.is
      (last small (leb-true (coupled_count_of m.pattern) o.coarsest_cells l.few) refl)

  -- A level with aggregates is laid, if those after it are.
  inner_laid : {deeper : ℕ → Charge → Mesh → Outcome (List Level)} {level stage : ℕ} {used : Charge} {m : Mesh} {levels : List Level}
      → (i : Inner o given deeper stores level stage used m (paired o given stage m) levels)
      → (Small i.next.pattern → Laid o.coarsest_cells i.next.pattern i.rest)
      → Small m.pattern → Laid o.coarsest_cells m.pattern levels
  inner_laid {m = m} i on small =
      let p = m.pattern in
      let most = o.coarsest_cells in
      let map = i.state.map in
      let count = i.state.mesh.pattern.rows in
      let j = steps_proper small.proper i in
      let is : coarse p map count ≡ i.next.pattern = ap (λ (c : Mesh). c.pattern) (coarsened_is given m map count i.afresh).1 in
      let tall : count ≡ i.next.pattern.rows = ap (λ (q : Pattern). q.rows) is in
      let long : entries (coarse p map count) ≡ entries i.next.pattern = ap (λ (q : Pattern). entries q) is in
      let next : Small i.next.pattern = record {
        proper = next_proper small.proper i;
        few = omega (arith, onto_few j.onto, small.few);
        short = omega (arith, coarse_few p map count, small.short);
      } in
      subst (Laid most p) i.is (inner small j.maps refl (subst (λ (q : Pattern). Laid most q i.rest) (sym is) (on next)))

  -- The levels of an accepted build of a small matrix are laid.
  pub grow_laid : (more level stage : ℕ) (used : Charge) (m : Mesh) {levels : List Level}
      → grow_of o given stores more level stage used m ≡ accepted levels → Small m.pattern
      → Laid o.coarsest_cells m.pattern levels
  grow_laid = grow_keeps o given stores (λ _ _ _ m levels. Small m.pattern → Laid o.coarsest_cells m.pattern levels)
      (λ _ _ _ _ _ _ l. last_laid l) (λ _ _ _ _ _ _ _ _ i on. inner_laid i on)

  -- ---- charges

  -- The charges of all levels lie in the stores, if that of the first does: `before` was charged before it.
  pub record Paid (used : Charge) (m : Mesh) (levels : List Level) : Type 0 where
    pub all : (before : ℕ) → used.floats ≡ before + (20 * m.pattern.rows + 4 * entries m.pattern) → used.floats ≤ stores.floats
        → before + charges_of levels ≤ stores.floats

  -- They do of a last level.
  last_paid : {level : ℕ} {used : Charge} {m : Mesh} {levels : List Level} → Last o level m levels → Paid used m levels
  unfolding charges_of
  last_paid {used = used} {m = m} l = subst (Paid used m) l.is (record { all = λ before is fits. omega arith })

  -- They do of a level with aggregates, if they do of those after it.
  inner_paid : {deeper : ℕ → Charge → Mesh → Outcome (List Level)} {level stage : ℕ} {used : Charge} {m : Mesh} {levels : List Level}
      → (i : Inner o given deeper stores level stage used m (paired o given stage m) levels)
      → Paid (and_level i.next.pattern used) (onward i.next i.state) i.rest → Paid used m levels
  unfolding charges_of
  inner_paid {used = used} {m = m} i on = subst (Paid used m) i.is (record {
    all = λ before is fits.
        let deeper = on.all used.floats refl (held stores (and_level i.next.pattern used) i.fits) in
        omega arith;
  })

  -- So they do of an accepted build.
  pub grow_paid : (more level stage : ℕ) (used : Charge) (m : Mesh) {levels : List Level}
      → grow_of o given stores more level stage used m ≡ accepted levels → Paid used m levels
  grow_paid = grow_charged o given stores (λ _ _ _ used m levels. Paid used m levels)
      (λ _ _ _ _ _ _ _ l. last_paid l) (λ _ _ _ _ _ _ _ _ i on. inner_paid i on)
