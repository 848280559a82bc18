-- Records of statistics as numbers: read to a table, and written back. Assumes nothing.
use Rattle.solver.specs.declared.solver.LinearSolveReport.{LinearSolveReport}
use Rattle.refusal.specs.declared.Refusal.{Refusal}
use Rattle.std.specs.Prelude.{Result}
use Rattle.std.proofs.Common.{◌≡◌, ℕ, ◌+◌, ◌*◌, ◌<◌, ◌≤◌, List, length, get_or, set, sym, refl, ap, ◌∙◌, subst, arith, le-ltb, lt-ltb}
use lib.Seq.{set_out}
use lib.Ieee.{Float}
use Rattle.store.specs.Region.{idx}
use Rattle.store.specs.Loop.{for}
use Rattle.store.specs.Vector.{tab}
use Rattle.store.proofs.store.Loop.{Left, left_end, left_on}
use Rattle.store.proofs.store.Region.{wrote, wrote_whole}
use Rattle.store.proofs.store.Vector.{length_tab, for_each}
use Rattle.options.specs.declared.options.Handle.{Handle}
use Rattle.hierarchy.specs.Build.{Input}
use Rattle.solver.specs.declared.solver.LinearSolverOptions.{LinearSolverOptions}
use Rattle.solver.specs.declared.statistics.MultigridLevelStatistics.{MultigridLevelStatistics}
use Rattle.solver.specs.Statistics.{unvisited}
use Rattle.multigrid.specs.UpdatingCall.{UpdateCall}
use Rattle.lists.specs.Numbers.{Put, record_at, records_in, records_lent, with_record, record_back, with_records}
use Rattle.lists.specs.Calls.{BuildLent, SolveLent, BuildOver, SolveOver}

-- ---- a record

-- there are not so many numbers
pub record_none : (S : List ℕ) (at : ℕ) {r : MultigridLevelStatistics} → length S < at + 5 → r ≡ unvisited 0 → r ≡ record_at S at
unfolding record_at
record_none S at h e = rw (lt-ltb (length S) (at + 5) h) e

pub record_there : (S : List ℕ) (at : ℕ) → at + 5 ≤ length S
    → record { cells = idx S at; visits = idx S (at + 1); pre_sweeps = idx S (at + 2); post_sweeps = idx S (at + 3); coarse_iterations = idx S (at + 4) } ≡ record_at S at
unfolding record_at
record_there S at h = rw (le-ltb (length S) (at + 5) h)

pub put_past : (S : List ℕ) (at n : ℕ) → length S ≤ at → Put at n S S
put_past S at n h = record { is = sym (set_out S at n h) }

pub record_put : (at : ℕ) (r : MultigridLevelStatistics) {A B C D E F : List ℕ} → Put at r.cells A B → Put (at + 1) r.visits B C → Put (at + 2) r.pre_sweeps C D
    → Put (at + 3) r.post_sweeps D E → Put (at + 4) r.coarse_iterations E F → F ≡ with_record at r A
unfolding with_record
record_put at r a b c d e = rw (e.is, d.is, c.is, b.is, a.is)

-- ---- all of them

-- a turn of the loop that reads them
unfoldable pub read_turn : List ℕ → ℕ → List MultigridLevelStatistics → List MultigridLevelStatistics
read_turn S k F = set F (0 + k) (record_at S (5 * k))

pub read_on : (S : List ℕ) {F R : List MultigridLevelStatistics} {k : ℕ} {r : MultigridLevelStatistics} → Left (read_turn S) k 128 F R → k < 128 → r ≡ record_at S (5 * k)
    → Left (read_turn S) (k + 1) 128 (set F k r) R
unfolding read_turn
read_on S {F} {R} {k} {r} l h e = left_on l h (let z : 0 + k ≡ k = omega arith in rw (z, e))

pub read_done : (S : List ℕ) (F : List MultigridLevelStatistics) {G : List MultigridLevelStatistics} {k : ℕ} → Left (read_turn S) k 128 G (for (read_turn S) 0 128 F) → 128 ≤ k → length F ≡ 128 → G ≡ records_in S
unfolding read_turn
read_done S F {G} l h e =
    wrote_whole (wrote (left_end l h ∙ for_each 0 128 F (λ k _. record_at S (5 * k)) (λ _ _ _ _. refl)) (length_tab (λ k. record_at S (5 * k)) 128)) (sym e)

pub back_on : (t : List MultigridLevelStatistics) {F G R : List ℕ} {k : ℕ} → Left (record_back t) k 128 F R → k < 128 → G ≡ with_record (5 * k) (get_or t k (unvisited 0)) F
    → Left (record_back t) (k + 1) 128 G R
unfolding record_back
back_on t l h e = left_on l h e

-- ---- the calls

pub build_over : {w z : List ℕ} {F G : List Float} {table : List MultigridLevelStatistics} {lent : ℕ} {S S' : List ℕ} {x : Input} {r : Result Handle Refusal} → table ≡ records_in S → lent ≡ records_lent S
    → BuildLent w z F G table lent S S' x r → BuildOver w z F G S S' x r
build_over {w} {z} {F} {G} {table} {lent} {S} {S'} {x} {r} e f d =
    subst (λ (n : ℕ). BuildLent w z F G (records_in S) n S S' x r) f (subst (λ (t : List MultigridLevelStatistics). BuildLent w z F G t lent S S' x r) e d)

pub solve_over : {h : Handle} {w : List ℕ} {F G : List Float} {table : List MultigridLevelStatistics} {lent : ℕ} {S S' : List ℕ} {rhs x y : List Float} {s : LinearSolverOptions} {r : Result LinearSolveReport Refusal}
    → table ≡ records_in S → lent ≡ records_lent S → SolveLent h w F G table lent S S' rhs x y s r → SolveOver h w F G S S' rhs x y s r
solve_over {h} {w} {F} {G} {table} {lent} {S} {S'} {rhs} {x} {y} {s} {r} e f d =
    subst (λ (n : ℕ). SolveLent h w F G (records_in S) n S S' rhs x y s r) f (subst (λ (t : List MultigridLevelStatistics). SolveLent h w F G t lent S S' rhs x y s r) e d)

pub update_over : {h : Handle} {w : List ℕ} {F G : List Float} {lent n : ℕ} {offsets columns : List ℕ} {values : List Float} {r : Result Unit Refusal} → lent ≡ n
    → UpdateCall h w F G lent offsets columns values r → UpdateCall h w F G n offsets columns values r
update_over {h} {w} {F} {G} {lent} {n} {offsets} {columns} {values} {r} e d = subst (λ (k : ℕ). UpdateCall h w F G k offsets columns values r) e d
