-- A solve whose counts are added to the records of its levels leaves the statistics that its call ensures.
-- Assumes nothing.
use Rattle.solver.specs.declared.solver.LinearSolveReport.{LinearSolveReport}
use Rattle.refusal.specs.declared.Refusal.{Refusal}
use Rattle.std.specs.Prelude.{Result}
use mathlib.Core.Path.{◌≡◌, refl, sym, ap, subst, ◌∙◌}
use mathlib.Core.Bool.{true, false}
use mathlib.Core.List.{List, [], ◌∷◌}
use mathlib.Core.Logic.{◌⊎◌, inl, inr}
use Prim.Native.Nat.{ℕ, zero, suc, ◌+◌, ◌≤◌, ◌<◌}
use native.Mathlib.Nat.{add-zero, zero-add}
use native.Mathlib.Omega.{arith}
use lib.ListN.{length, get_or}
use lib.Seq.{ext_get_or}
use lib.Ieee.{Float}
use Rattle.store.proofs.store.Region.{le_or_lt}
use Rattle.pattern.proofs.pattern.Number.{bool?}
use Rattle.options.specs.declared.options.Handle.{Handle}
use Rattle.solver.specs.declared.solver.LinearSolverOptions.{LinearSolverOptions}
use Rattle.refusal.specs.Refusal.{unsound_stores}
use Rattle.refusal.specs.Outcome.{Outcome, accepted, refused}
use Rattle.refusal.proofs.Outcome.{ask_no}
use Rattle.index_check.specs.Sound.{sound_of}
use Rattle.iterations.specs.Iterate.{Solution}
use Rattle.solver.specs.declared.answers.SolveRun.{SolveRun}
use Rattle.statistics.specs.Contract.{CountOk, CountDone}
use Rattle.solver.specs.declared.statistics.MultigridLevelStatistics.{MultigridLevelStatistics}
use Rattle.solver.specs.Statistics.{unvisited, counted_at, counted_on}
use Rattle.statistics.specs.Contract.{CountedUp}
use Rattle.solve.specs.Solved.{solved_at}
use Rattle.solve.specs.Contract.{levels_counted}
use Rattle.solve.proofs.Solving.{opened_of}
use Rattle.multigrid.specs.SolvingCall.{solved_of, records_of, SolveCall}
use Rattle.multigrid.specs.Contract.{SolveRan}

-- ---- the records

-- To count keeps the number of records.
counted_long : (more depth : ℕ) (counts : List ℕ) (t : List MultigridLevelStatistics) → length (counted_on more depth counts t) ≡ length t
unfolding counted_on
counted_long zero depth counts t = refl
counted_long (suc more) depth counts [] = refl
counted_long (suc more) depth counts (r ∷ t) = omega (arith, counted_long more (depth + 1) counts t)

-- Those of the levels are counted,
pub counted_here : (more depth : ℕ) (counts : List ℕ) (t : List MultigridLevelStatistics) (i : ℕ) → i < more → i < length t
    → get_or (counted_on more depth counts t) i (unvisited 0) ≡ counted_at counts (depth + i) (get_or t i (unvisited 0))
unfolding counted_on
counted_here zero depth counts t i few fits = absurd (omega arith)
counted_here (suc more) depth counts [] i few fits = absurd (omega arith)
counted_here (suc more) depth counts (r ∷ t) zero few fits = ap (λ (d : ℕ). counted_at counts d r) (sym (add-zero depth))
counted_here (suc more) depth counts (r ∷ t) (suc i) few fits =
    let same : depth + 1 + i ≡ depth + suc i = omega arith in
    counted_here more (depth + 1) counts t i (omega arith) (omega arith) ∙ ap (λ (d : ℕ). counted_at counts d (get_or t i (unvisited 0))) same

-- and the others are as they were.
counted_behind : (more depth : ℕ) (counts : List ℕ) (t : List MultigridLevelStatistics) (i : ℕ) → more ≤ i
    → get_or (counted_on more depth counts t) i (unvisited 0) ≡ get_or t i (unvisited 0)
unfolding counted_on
counted_behind zero depth counts t i past = refl
counted_behind (suc more) depth counts [] i past = refl
counted_behind (suc more) depth counts (r ∷ t) zero past = absurd (omega arith)
counted_behind (suc more) depth counts (r ∷ t) (suc i) past = counted_behind more (depth + 1) counts t i (omega arith)

-- Records that were counted up are those of the definition.
counted_is : {counts : List ℕ} {levels : ℕ} {t u : List MultigridLevelStatistics} → CountedUp counts levels t u → u ≡ counted_on levels 0 counts t
counted_is {counts} {levels} {t} {u} c =
    ext_get_or (unvisited 0) u (counted_on levels 0 counts t) (c.as_many ∙ sym (counted_long levels 0 counts t)) (λ i h. go i h (le_or_lt levels i))
  where
    go : (i : ℕ) → i < length u → (levels ≤ i) ⊎ (i < levels) → get_or u i (unvisited 0) ≡ get_or (counted_on levels 0 counts t) i (unvisited 0)
    go i h (inl past) = c.others i past ∙ sym (counted_behind levels 0 counts t i past)
    go i h (inr few) =
        let long = c.as_many in
        c.counted i few ∙ ap (λ (d : ℕ). counted_at counts d (get_or t i (unvisited 0))) (sym (zero-add i))
        ∙ sym (counted_here levels 0 counts t i few (omega arith))

-- Where nothing is counted nothing changes.
counted_none : (counts : List ℕ) (t : List MultigridLevelStatistics) → counted_on 0 0 counts t ≡ t
unfolding counted_on
counted_none counts t = refl

-- They are the records that a solve leaves.
records_are : (levels : ℕ) {k : ℕ} {counts : List ℕ} {t u : List MultigridLevelStatistics} (out : Outcome Solution) → k ≡ levels_counted levels out
    → ((v : Solution) → out ≡ accepted v → counts ≡ v.counts) → CountedUp counts k t u → u ≡ records_of levels t out
records_are levels {k} {counts} {t} (accepted v) e same c =
    counted_is c ∙ ap (λ (n : ℕ). counted_on n 0 counts t) e ∙ ap (λ (l : List ℕ). counted_on levels 0 l t) (same v refl)
records_are levels {k} {counts} {t} (refused q) e same c = counted_is c ∙ ap (λ (n : ℕ). counted_on n 0 counts t) e ∙ counted_none counts t

-- A solve leaves as many records as there were.
pub solve_length_lem : (levels : ℕ) (t : List MultigridLevelStatistics) (out : Outcome Solution) → length (records_of levels t out) ≡ length t
solve_length_lem levels t (accepted v) = counted_long levels 0 v.counts t
solve_length_lem levels t (refused q) = refl

-- ---- the call

-- A handle that passes question 19 has at most 128 levels, and a record for each.
pub sound_few : (h : Handle) (w : List ℕ) (size records : ℕ) → sound_of h w size records ≡ true → (h.levels ≤ 128) × (h.levels ≤ records)
sound_few h w size records e = go h.levels refl
  where
    go : (n : ℕ) → h.levels ≡ n → (h.levels ≤ 128) × (h.levels ≤ records)
    go zero none = (omega arith, omega arith)
    go (suc n) some = let o = opened_of h w size records (omega arith) e in (o.0.deep, o.1)

module _ {h : Handle} {w : List ℕ} {F G : List Float} {records : ℕ} {rhs x y : List Float} {s : LinearSolverOptions} {run : SolveRun}
    (d : SolveRan h w F G records rhs x y s run) where
  -- A solve counts on at most 128 levels, and on none that has no record.
  pub counted_few : (run.levels ≤ 128) × (run.levels ≤ records)
  counted_few = go (bool? (sound_of h w (length F) records))
    where
      most : (out : Outcome Solution) → levels_counted h.levels out ≤ h.levels
      most (accepted v) = omega arith
      most (refused q) = omega arith

      go : (sound_of h w (length F) records ≡ true) ⊎ (sound_of h w (length F) records ≡ false) → (run.levels ≤ 128) × (run.levels ≤ records)
      go (inl passes) =
          let o = sound_few h w (length F) records passes in
          let deep = o.0 in
          let room = o.1 in
          let is = d.done.levels in
          let few = most (solved_of h w F records rhs x s) in
          (omega arith, omega arith)
      go (inr fails) =
          let none = d.done.levels ∙ ap (levels_counted h.levels) (ask_no (sound_of h w (length F) records) unsound_stores (solved_at h w F rhs x s) fails) in
          (omega arith, omega arith)

-- What a solve gives, counted up in the records t, is what its call ensures.
pub solve_counted : {h : Handle} {w : List ℕ} {F G : List Float} {t u : List MultigridLevelStatistics} {rhs x y : List Float} {s : LinearSolverOptions}
    {run : SolveRun} → SolveRan h w F G (length t) rhs x y s run → CountedUp run.counts run.levels t u
    → SolveCall h w F G t u rhs x y s run.answer
solve_counted {h} {w} {F} {t = t} {rhs = rhs} {x = x} {s = s} d c = record {
  answer = d.done.answer;
  solution = d.done.solution;
  statistics = records_are h.levels (solved_of h w F (length t) rhs x s) d.done.levels d.done.counts c;
  floats = d.done.floats;
  view = d.view;
  unsound = d.unsound;
}

-- `count` may be asked for what a solve gives,
pub solve_count_ok : {h : Handle} {w : List ℕ} {F G : List Float} {records : ℕ} {rhs x y : List Float} {s : LinearSolverOptions} {run : SolveRun}
    → SolveRan h w F G records rhs x y s run → CountOk run.levels records
solve_count_ok d = record { counted = (counted_few d).0; room = (counted_few d).1 }

-- and with its answer the call ensures the same.
pub solve_done : {h : Handle} {w : List ℕ} {F G : List Float} {t u : List MultigridLevelStatistics} {rhs x y : List Float} {s : LinearSolverOptions}
    {run : SolveRun} {r : Result LinearSolveReport Refusal} → SolveRan h w F G (length t) rhs x y s run → CountDone run t u r → SolveCall h w F G t u rhs x y s r
solve_done {h} {w} {F} {G} {t} {u} {rhs} {x} {y} {s} d c = subst (λ (r : Result LinearSolveReport Refusal). SolveCall h w F G t u rhs x y s r) (sym c.answer) (solve_counted d c.records)
