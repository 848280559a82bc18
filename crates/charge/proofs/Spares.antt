-- Which chains of questions cannot be refused by question n: those that do not ask it. Every question of a build but 9 is another.
-- Assumes nothing.
use mathlib.Core.Path.{◌≡◌, refl}
use mathlib.Core.Bool.{Bool, true, false, cond, not}
use mathlib.Core.List.{List}
use Prim.Native.Nat.{ℕ, zero, suc, ◌+◌, ◌-◌}
use lib.Dec.{eqb}
use lib.Ieee.{Float}
use lib.ListN.{length}
use Rattle.float.specs.Float.{div64, zero64, one64, is_finite, is_positive}
use Rattle.store.specs.Region.{at, idx}
use Rattle.store.specs.Vector.{filled}
use Rattle.store.proofs.store.Loop.{for_keeps}
use Rattle.refusal.specs.declared.Refusal.{Refusal}
use Rattle.refusal.specs.Refusal.{too_large, bad_offsets, bad_columns, weight_count, bad_weight, invalid_controls, not_cholesky, missing_diagonal, bad_diagonal, bad_reciprocal, bad_pivot, bad_dic_pivot, bad_dic_reciprocal, too_many_coupled, bad_coarse_value}
use Rattle.refusal.specs.Outcome.{Outcome, accepted, refused, passed, ask, ◌>>=◌, ask_rows, ask_each}
use Rattle.options.specs.declared.options.MultigridOptions.{MultigridOptions}
use Rattle.options.specs.Options.{valid_of, is_cholesky, controls_asked}
use Rattle.pattern.specs.Pattern.{Pattern, entries}
use Rattle.csr.specs.Questions.{size_ok, offsets_ok, columns_ok, matrix_asked}
use Rattle.csr.specs.Weights.{weights_ok, weights_asked}
use Rattle.csr.specs.Turns.{weights_counted}
use Rattle.faces.specs.Faces.{uppers_of, has_entry, diagonals_asked, diagonals_of}
use Rattle.coefficients.specs.Update.{Coefficients, diagonal_asked, entry_of, kernel_update_of}
use Rattle.matrix.specs.Kernel.{Kernel}
use Rattle.dic.specs.Dic.{is_pivot, pivot_row, pivots_of, reciprocal_asked, reciprocals_of, dic_of}
use Rattle.cholesky.specs.Factor.{Csr, rest_of, columns_of, factor_row_of, rows_of, cholesky_of}
use Rattle.cholesky.specs.Turns.{compact_of}
use Rattle.cholesky.specs.Triangle.{tri}
use Rattle.vector.specs.Finite.{all_finite}
use Rattle.hierarchy.specs.Level.{Shape, kernel_of, csr_of}
use Rattle.hierarchy.specs.Refresh.{needs_dic, inner_numbers, last_numbers}
use Rattle.hierarchy.specs.Steps.{smoother_of}
use Rattle.hierarchy.specs.Build.{Mesh, Merged, kernel_asked, paired, coarsened, coarsened_asked, few_coupled, last_level, last_shape, merge_of}
use Rattle.hierarchy.proofs.Accepted.{joined_by}
use Rattle.charge.specs.Charge.{spares}

-- An outcome that is no refusal by question n.
pub record Spared {A : Type 0} (n : ℕ) (o : Outcome A) : Type 0 where
  pub is : spares n o ≡ true

-- ---- chains

module _ {A : Type 0} {n : ℕ} where
  -- What is accepted is no refusal.
  pub done : {a : A} → Spared n (accepted a)
  done = record { is = refl }

  -- Another question, then what spares n.
  pub ask_spares : (holds : Bool) (q : Refusal) {rest : Outcome A} → not (eqb q.number n) ≡ true → Spared n rest → Spared n (ask holds q rest)
  ask_spares true q other e = e
  ask_spares false q other e = record { is = other }

  -- A question that holds, then what spares n.
  pub holds_spares : (holds : Bool) (q : Refusal) {rest : Outcome A} → holds ≡ true → Spared n rest → Spared n (ask holds q rest)
  holds_spares holds q h e = rw h e

  -- A choice.
  pub cond_spares : (x : Bool) {first second : Outcome A} → Spared n first → (x ≡ false → Spared n second) → Spared n (cond x first second)
  cond_spares true e f = e
  cond_spares false e f = f refl

  -- A computation, then what spares n wherever it is accepted.
  pub then_spares : {B : Type 0} (o : Outcome B) {rest : B → Outcome A} → Spared n o → ((b : B) → o ≡ accepted b → Spared n (rest b))
      → Spared n (◌>>=◌ o rest)
  then_spares (accepted b) e f = f b refl
  then_spares (refused q) e f = record { is = e.is }

  -- Rows, then what spares n.
  rows_spare : (fuel row : ℕ) (asked : ℕ → Outcome Unit) {rest : Outcome A} → ((k : ℕ) → Spared n (asked k)) → Spared n rest
      → Spared n (ask_rows fuel row asked rest)
  unfolding ask_rows
  rows_spare zero row asked e f = f
  rows_spare (suc fuel) row asked e f = then_spares (asked row) (e row) (λ _ _. rows_spare fuel (row + 1) asked e f)

  pub each_spares : (rows : ℕ) (asked : ℕ → Outcome Unit) {rest : Outcome A} → ((k : ℕ) → Spared n (asked k)) → Spared n rest
      → Spared n (ask_each rows asked rest)
  each_spares rows asked e f = rows_spare (rows - 0) 0 asked e f

-- ---- the questions of arrays and controls

-- Questions 1 to 3,
pub matrix_spares : (rows : ℕ) (offsets columns : List ℕ) (values : List Float) → Spared 9 (matrix_asked rows offsets columns values)
matrix_spares rows offsets columns values =
    ask_spares (size_ok rows columns) too_large refl (
    ask_spares (offsets_ok rows offsets columns values) bad_offsets refl (
    ask_spares (columns_ok rows offsets columns) bad_columns refl done))

-- 4 and 5,
pub weights_spare : (entries : ℕ) (weights : List Float) → Spared 9 (weights_asked entries weights)
weights_spare entries weights =
    ask_spares (weights_counted entries weights) weight_count refl (ask_spares (weights_ok weights) bad_weight refl done)

-- 6 and 7.
pub controls_spare : (o : MultigridOptions) → Spared 9 (controls_asked o)
controls_spare o = ask_spares (valid_of o) invalid_controls refl (ask_spares (is_cholesky o.coarse_solver) not_cholesky refl done)

-- ---- the questions of a level

-- Question 11,
pub diagonals_spare : (level : ℕ) (p : Pattern) → Spared 9 (diagonals_asked level p)
unfolding diagonals_asked
diagonals_spare level p = each_spares p.rows (λ i. ask (has_entry p i i) (missing_diagonal level i) passed)
    (λ i. ask_spares (has_entry p i i) (missing_diagonal level i) refl done) done

diagonal_spares : (level row : ℕ) (d : Float) → Spared 9 (diagonal_asked level row d)
unfolding diagonal_asked
diagonal_spares level row d =
    ask_spares (is_positive d) (bad_diagonal level row) refl (ask_spares (is_finite (div64 one64 d)) (bad_reciprocal level row) refl done)

-- 12 and 13,
update_spares : (level rows : ℕ) (diagonals faces : List ℕ) (values : List Float) → Spared 9 (kernel_update_of level rows diagonals faces values)
unfolding kernel_update_of
update_spares level rows diagonals faces values =
    each_spares rows (λ row. diagonal_asked level row (entry_of diagonals values row))
    (λ row. diagonal_spares level row (entry_of diagonals values row)) done

pub kernel_spares : (level : ℕ) (m : Mesh) → Spared 9 (kernel_asked level m)
kernel_spares level m = update_spares level m.pattern.rows (diagonals_of m.pattern) (uppers_of m.pattern) m.values

-- 16,
pivot_spares : (level : ℕ) (k : Kernel) (row : ℕ) (o : Outcome (List Float)) → Spared 9 o → Spared 9 (pivot_row level k row o)
unfolding pivot_row
pivot_spares level k row o e = then_spares o e (λ d _. ask_spares (is_pivot (at d row)) (bad_dic_pivot level row) refl done)

pivots_spare : (level : ℕ) (k : Kernel) → Spared 9 (pivots_of level k)
unfolding pivots_of
pivots_spare level k =
    for_keeps (λ (o : Outcome (List Float)). Spared 9 o) (pivot_row level k) 0 k.rows (λ row _ _ o e. pivot_spares level k row o e)
    (accepted k.diagonal) done

-- 17,
reciprocals_spare : (level n : ℕ) (d : List Float) → Spared 9 (reciprocals_of level n d)
unfolding reciprocals_of
reciprocals_spare level n d = each_spares n (reciprocal_asked level d)
    (λ row. ask_spares (is_finite (div64 one64 (at d row))) (bad_dic_reciprocal level row) refl done) done

dic_spares : (level : ℕ) (k : Kernel) → Spared 9 (dic_of level k)
unfolding dic_of ask_rows reciprocals_of
dic_spares level k = then_spares (pivots_of level k) (pivots_spare level k) (λ d _. reciprocals_spare level k.rows d)

-- 15.
row_spares : (level : ℕ) (coupled : List ℕ) (entry : ℕ → ℕ → Float) (row : ℕ) (l : List Float) → Spared 9 (factor_row_of level coupled entry row l)
unfolding factor_row_of
row_spares level coupled entry row l =
    ask_spares (is_positive (rest_of entry row row (columns_of entry row l))) (bad_pivot level (idx coupled row)) refl done

factor_spares : (level : ℕ) (coupled : List ℕ) (entry : ℕ → ℕ → Float) (rows row : ℕ) (l : List Float)
    → Spared 9 (rows_of level coupled entry rows row l)
unfolding rows_of
factor_spares level coupled entry zero row l = done
factor_spares level coupled entry (suc rows) row l =
    then_spares (factor_row_of level coupled entry row l) (row_spares level coupled entry row l)
    (λ next _. factor_spares level coupled entry rows (row + 1) next)

cholesky_spares : (level : ℕ) (a : Csr) (size : ℕ) (coupled : List ℕ) → Spared 9 (cholesky_of level a size coupled)
unfolding cholesky_of
cholesky_spares level a size coupled = factor_spares level coupled (compact_of a coupled) size 0 (filled (tri size) zero64)

-- The numbers of a level with aggregates.
pub inner_spares : (o : MultigridOptions) (level : ℕ) (s : Shape) (c : Coefficients) → Spared 9 (inner_numbers o level s c)
inner_spares o level s c =
    let k = kernel_of s c.diagonal c.inverse c.coefficients in
    then_spares (smoother_of o level k) (smooth k (needs_dic o.smoother)) (λ _ _. done)
  where
    smooth : (k : Kernel) (x : Bool) → Spared 9 (cond x (dic_of level k) (accepted (filled k.rows zero64)))
    smooth k true = dic_spares level k
    smooth k false = done

-- A last level: 14, then 15.
pub last_spares : (o : MultigridOptions) (level : ℕ) (m : Mesh) (c : Coefficients) → Spared 9 (last_level o level m c)
last_spares o level m c =
    let s = last_shape m.pattern in
    ask_spares (few_coupled o m.pattern) too_many_coupled refl (
    then_spares (last_numbers o level s m.values c) (
    then_spares (cholesky_of level (csr_of s m.values) (length s.links) s.links)
    (cholesky_spares level (csr_of s m.values) (length s.links) s.links) (λ _ _. done)) (λ _ _. done))

-- A coarse matrix: 18.
pub coarsened_spares : (given : Bool) (m : Mesh) (map : List ℕ) (count : ℕ) → Spared 9 (coarsened_asked given m map count)
coarsened_spares given m map count =
    let c = coarsened given m map count in
    ask_spares (all_finite (entries c.pattern) c.values) bad_coarse_value refl done

-- Merged steps: 12, 13 and 18.
pub merge_spares : (o : MultigridOptions) (given : Bool) (steps level : ℕ) (s : Merged) → Spared 9 (merge_of o given steps level s)
unfolding merge_of
merge_spares o given zero level s = done
merge_spares o given (suc steps) level s = then_spares (kernel_asked level s.mesh) (kernel_spares level s.mesh) (λ _ _.
    let g = paired o given s.stage s.mesh in
    cond_spares (few_coupled o s.mesh.pattern) done (λ _.
    cond_spares (eqb g.count s.mesh.pattern.rows) done (λ _.
    then_spares (coarsened_asked given s.mesh g.map g.count) (coarsened_spares given s.mesh g.map g.count)
    (λ next _. merge_spares o given steps level (joined_by next s g)))))
