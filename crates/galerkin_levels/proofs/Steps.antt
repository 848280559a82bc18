-- A refresh of laid levels from whole values: each level's matrix is exactly the Galerkin product of the level above.
-- Assumes nothing.
use mathlib.Core.Path.{◌≡◌, refl, sym, ap, ◌∙◌, subst}
use mathlib.Core.Bool.{Bool, true, false, cond}
use mathlib.Core.List.{List, [], ◌∷◌}
use Prim.Native.Nat.{ℕ, zero, suc, ◌+◌}
use lib.IntN.{ℤ}
use lib.ListN.{length}
use lib.Ieee.{Float}
use Rattle.store.specs.Region.{idx}
use Rattle.store.specs.Vector.{tab}
use Rattle.options.specs.declared.options.MultigridOptions.{MultigridOptions}
use Rattle.refusal.specs.Refusal.{bad_coarse_value}
use Rattle.refusal.specs.Outcome.{Outcome, accepted, ask, ◌>>=◌, ask_rows}
use Rattle.refusal.proofs.Outcome.{accepted_one}
use Rattle.vector.specs.Finite.{all_finite}
use Rattle.cholesky.specs.Factor.{cholesky_of}
use Rattle.coefficients.specs.Update.{entry_of, Coefficients, diagonal_asked, kernel_update_of}
use Rattle.galerkin.specs.Product.{galerkin_product}
use Rattle.pattern.specs.Pattern.{Pattern, entries, coarse}
use Rattle.galerkin_theorem.specs.Theorem.{WholeValues, fine_matrix, coarse_matrix}
use Rattle.hierarchy.specs.Level.{Shape, Numbers, Level, kernel_of, csr_of}
use Rattle.hierarchy.specs.Refresh.{refresh_of, last_numbers, inner_numbers, numbers_of, coarse_values}
use Rattle.hierarchy.specs.Steps.{coefficients_of, smoother_of}
use Rattle.hierarchy.specs.Build.{shape_of, inner_shape}
use Rattle.hierarchy.specs.First.{shapes_in}
use Rattle.hierarchy.specs.Proper.{Proper}
use Rattle.hierarchy.proofs.Accepted.{ask_split, then_split}
use Rattle.hierarchy.proofs.First.{length_uppers}
use Rattle.build_sound.specs.Laid.{Laid}
use Rattle.galerkin_levels.specs.Levels.{MatrixIs, Galerkin}
use Rattle.galerkin_levels.specs.Steps.{Matrix, product_of}
use Rattle.galerkin_levels.proofs.Down.{value_in, galerkin_values, coarse_whole, coarse_dense}
use Rattle.galerkin_levels.proofs.Kernel.{level_is}

-- ---- the numbers of a level

-- Questions that are passed leave the rest.
asked_rest : {A : Type 0} (asked : ℕ → Outcome Unit) (rest : Outcome A) (fuel row : ℕ) {a : A} → ask_rows fuel row asked rest ≡ accepted a → rest ≡ accepted a
unfolding ask_rows
asked_rest asked rest zero row e = e
asked_rest asked rest (suc fuel) row e = asked_rest asked rest fuel (row + 1) (then_split (asked row) (λ _. ask_rows fuel (row + 1) asked rest) e).2

-- The diagonal and the faces' values of a level are those of its matrix.
pub record Taken (s : Shape) (values : List Float) (diagonal coefficients : List Float) : Type 0 where
  pub owns : diagonal ≡ tab (entry_of s.diagonals values) s.pattern.rows
  pub faces : coefficients ≡ tab (entry_of s.uppers values) (length s.uppers)

module _ (o : MultigridOptions) (level : ℕ) (s : Shape) (values : List Float) where
  -- So it is with its coefficients,
  coefficients_taken : {c : Coefficients} → coefficients_of o level s values ≡ accepted c → Taken s values c.diagonal c.coefficients
  unfolding kernel_update_of
  coefficients_taken e =
      let same = accepted_one (asked_rest (λ row. diagonal_asked level row (entry_of s.diagonals values row)) _ _ 0 e) in
      record { owns = sym (ap (λ (c : Coefficients). c.diagonal) same); faces = sym (ap (λ (c : Coefficients). c.coefficients) same) }

  -- and with its numbers.
  pub numbers_taken : {n : Numbers} → numbers_of o level s values ≡ accepted n → Taken s values n.diagonal n.coefficients
  numbers_taken {n} e =
      let a = then_split (coefficients_of o level s values) _ e in
      go a.0 (coefficients_taken a.1) s.terminal a.2
    where
      go : (c : Coefficients) → Taken s values c.diagonal c.coefficients → (terminal : Bool)
          → cond terminal (last_numbers o level s values c) (inner_numbers o level s c) ≡ accepted n → Taken s values n.diagonal n.coefficients
      go c t true e =
          let a = then_split (cholesky_of level (csr_of s values) (length s.links) s.links) _ e in
          subst (λ (n : Numbers). Taken s values n.diagonal n.coefficients) (accepted_one a.2) t
      go c t false e =
          let a = then_split (smoother_of o level (kernel_of s c.diagonal c.inverse c.coefficients)) _ e in
          subst (λ (n : Numbers). Taken s values n.diagonal n.coefficients) (accepted_one a.2) t

-- A level of an accepted refresh from whole values has exactly their matrix.
level_exact : (o : MultigridOptions) (level : ℕ) {p : Pattern} {values : List Float} {z : ℕ → ℤ} → Proper p → WholeValues p values z → (l : Level)
    {terminal : Bool} {links positions : List ℕ} → l.shape ≡ shape_of p terminal links positions → numbers_of o level l.shape values ≡ accepted l.numbers
    → MatrixIs l (fine_matrix p z)
level_exact o level {p} {values} f fine l is e =
    let t = numbers_taken o level l.shape values e in
    level_is f fine l is (t.owns ∙ ap (λ (s : Shape). tab (entry_of s.diagonals values) s.pattern.rows) is)
    (t.faces ∙ ap (λ (s : Shape). tab (entry_of s.uppers values) (length s.uppers)) is)

-- ---- levels

-- The first of levels and those after it.
cons_is : {A : Type 0} {a b : A} {u v : List A} → a ∷ u ≡ b ∷ v → (a ≡ b) × (u ≡ v)
cons_is e = (cc, cc)

-- A level's numbers.
numbers_are : {s : Shape} {n : Numbers} {l : Level} → record { shape = s; numbers = n } ≡ l → n ≡ l.numbers
numbers_are e = ap (λ (l : Level). l.numbers) e

-- Laid levels have a first one, of the pattern.
pub record Headed (q : Pattern) (levels : List Level) : Type 0 where
  pub head : Level
  pub tail : List Level
  pub is : levels ≡ head ∷ tail
  pub terminal : Bool
  pub links : List ℕ
  pub positions : List ℕ
  pub shape : head.shape ≡ shape_of q terminal links positions

pub laid_headed : {most : ℕ} {q : Pattern} {levels : List Level} → Laid most q levels → Headed q levels
laid_headed (Laid.last {l = l} small few is) = record { head = l; tail = []; is = refl; terminal = _; links = _; positions = _; shape = is }
laid_headed (Laid.inner {l = l} {rest = rest} small maps is on) =
    record { head = l; tail = rest; is = refl; terminal = _; links = _; positions = _; shape = is }

module _ (o : MultigridOptions) (level : ℕ) where
  -- An accepted refresh of one level.
  pub refresh_one : (values : List Float) (l : Level) → refresh_of o level (l.shape ∷ []) values ≡ accepted (l ∷ []) → numbers_of o level l.shape values ≡ accepted l.numbers
  unfolding refresh_of
  refresh_one values l e =
      let a = then_split (numbers_of o level l.shape values) (λ n. accepted (record { shape = l.shape; numbers = n } ∷ [])) e in
      a.1 ∙ ap accepted (numbers_are (cons_is (accepted_one a.2)).0)

  -- An accepted refresh of a level and those after it.
  pub refresh_more : (values : List Float) (l next : Level) (rest : List Level)
      → refresh_of o level (l.shape ∷ next.shape ∷ shapes_in rest) values ≡ accepted (l ∷ next ∷ rest)
      → (numbers_of o level l.shape values ≡ accepted l.numbers)
      × (refresh_of o (level + 1) (next.shape ∷ shapes_in rest) (coarse_values o l.shape next.shape values) ≡ accepted (next ∷ rest))
  unfolding refresh_of
  refresh_more values l next rest e =
      let s = l.shape in
      let t = next.shape in
      let below = coarse_values o s t values in
      let deep = refresh_of o (level + 1) (t ∷ shapes_in rest) below in
      let all : Numbers → List Level → Outcome (List Level) = λ n ls. accepted (record { shape = s; numbers = n } ∷ ls) in
      let a = then_split (numbers_of o level s values) (λ n. ask (all_finite (entries t.pattern) below) bad_coarse_value (◌>>=◌ deep (all n))) e in
      let b = ask_split (all_finite (entries t.pattern) below) bad_coarse_value (◌>>=◌ deep (all a.0)) a.2 in
      let d = then_split deep (all a.0) b.1 in
      let same = cons_is (accepted_one d.2) in
      (a.1 ∙ ap accepted (numbers_are same.0), d.1 ∙ ap accepted same.1)

-- The values of the next level are those of the coarse matrix.
values_are : (o : MultigridOptions) (p : Pattern) (map : List ℕ) (count : ℕ) (values : List Float) (s t : Shape) {terminal : Bool} {links positions : List ℕ}
    → s ≡ inner_shape p map count → t ≡ shape_of (coarse p map count) terminal links positions → coarse_values o s t values ≡ galerkin_values p map count values
values_are o p map count values s t is to = rw (is, to, length_uppers (coarse p map count))

-- The levels of an accepted refresh of laid levels from whole values: each level's matrix is exactly the Galerkin product of the level above.
pub refresh_galerkin : (o : MultigridOptions) {most : ℕ} (level : ℕ) {p : Pattern} {levels : List Level} → Laid most p levels → {values : List Float} {z : ℕ → ℤ}
    → refresh_of o level (shapes_in levels) values ≡ accepted levels → WholeValues p values z → Galerkin (fine_matrix p z) levels
refresh_galerkin o level (Laid.last {l = l} small few is) {values} e fine =
    Galerkin.last (level_exact o level small.proper fine l is (refresh_one o level values l e))
refresh_galerkin o {most} level {p} (Laid.inner {l = l} {rest = rest} {map = map} {count = count} small maps is on) {values} {z} e fine =
    let q = coarse p map count in
    let h = laid_headed on in
    let r = refresh_more o level values l h.head h.tail
    (subst (λ (ls : List Level). refresh_of o level (l.shape ∷ shapes_in ls) values ≡ accepted (l ∷ ls)) h.is e) in
    let below = values_are o p map count values l.shape h.head.shape is h.shape in
    let further : refresh_of o (level + 1) (shapes_in rest) (galerkin_values p map count values) ≡ accepted rest =
    subst (λ (ls : List Level). refresh_of o (level + 1) (shapes_in ls) (galerkin_values p map count values) ≡ accepted ls) (sym h.is)
    (subst (λ (v : List Float). refresh_of o (level + 1) (h.head.shape ∷ shapes_in h.tail) v ≡ accepted (h.head ∷ h.tail)) below r.1) in
    let deeper : Galerkin (fine_matrix q (value_in q (coarse_matrix p map z))) rest =
    refresh_galerkin o (level + 1) on further (coarse_whole small.proper maps fine) in
    let product : fine_matrix q (value_in q (coarse_matrix p map z)) ≡ product_of l (fine_matrix p z) =
    coarse_dense small.proper maps fine ∙ ap (λ (s : Shape). galerkin_product s.pattern.rows (idx s.links) (fine_matrix p z)) (sym is) in
    subst (λ (ls : List Level). Galerkin (fine_matrix p z) (l ∷ ls)) (sym h.is)
    (Galerkin.inner (level_exact o level small.proper fine l is r.0)
    (subst (λ (A : Matrix). Galerkin A (h.head ∷ h.tail)) product (subst (Galerkin (fine_matrix q (value_in q (coarse_matrix p map z)))) h.is deeper)))
