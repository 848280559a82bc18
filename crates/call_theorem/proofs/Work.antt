-- The work of a solve is known from its report: an accepted call leaves in the record of each level what the controls, the number of levels and
-- the iterations tell.
-- Assumes nothing.
use Rattle.std.specs.Prelude.{Ok}
use mathlib.Core.Path.{◌≡◌, refl, sym, ap, ◌∙◌, subst}
use mathlib.Core.Bool.{true}
use mathlib.Core.List.{List}
use Prim.Native.Nat.{ℕ, zero, suc, ◌+◌, ◌*◌, ◌-◌, ◌<◌}
use native.Mathlib.Nat.{zero-add}
use native.Mathlib.Omega.{arith}
use lib.ListN.{length, get_or}
use lib.Ieee.{Float}
use Rattle.options.specs.declared.options.Handle.{Handle}
use Rattle.solver.specs.declared.solver.LinearSolverOptions.{LinearSolverOptions}
use Rattle.solver.specs.declared.solver.LinearSolveReport.{LinearSolveReport}
use Rattle.solver.specs.declared.statistics.MultigridLevelStatistics.{MultigridLevelStatistics}
use Rattle.solver.specs.Statistics.{unvisited, counted_at, counted_on}
use Rattle.refusal.specs.Refusal.{unsound_stores}
use Rattle.refusal.specs.Outcome.{Outcome, accepted, refused}
use Rattle.hierarchy.specs.Depth.{Ending, last, inner}
use Rattle.hierarchy.proofs.Accepted.{ask_split}
use Rattle.layout.specs.Layout.{level_at, words_end, floats_end, levels_at, view_of}
use Rattle.index_check.specs.Sound.{walk_of, sound_of}
use Rattle.index_check.proofs.sound.Facts.{passed}
use Rattle.iterations.specs.Iterate.{Solution, answer_of}
use Rattle.iterations.specs.System.{system_at}
use Rattle.solve.specs.Solved.{solved_at}
use Rattle.call_theorem.specs.Work.{visits_per, pre_of, post_of, after_iterations, sweeps_of, smoothing_sweeps_of}
use Rattle.solve.proofs.Solving.{opened_of, levels_long}
use Rattle.call_theorem.proofs.SolveWork.{solve_work, sweeps_together}
use Rattle.multigrid.specs.SolvingCall.{solved_of, records_of, SolveCall}
use Rattle.multigrid.proofs.solving.Counting.{counted_here}

-- Of levels that the index check passed the last alone is terminal.
walk_ending : (more : ℕ) (w : List ℕ) (F : List Float) (level a b : ℕ) → walk_of (suc more) w level a ≡ Ok tt → Ending (levels_at (suc more) w F a b)
unfolding levels_at level_at
walk_ending zero w F level a b e = last (passed 0 e).last
walk_ending (suc more) w F level a b e =
    let p = passed (suc more) e in inner p.last (walk_ending more w F (level + 1) (words_end w a) (floats_end w a b) p.rest)

-- A solve that reports was accepted.
reported : {r : LinearSolveReport} (out : Outcome Solution) → Ok r ≡ answer_of out → (v : Solution) × (out ≡ accepted v) × (v.report ≡ r)
reported (accepted v) e = (v, refl, cc)
reported (refused q) e = absurd (let none : ◌≡◌ {A = ℕ} 0 1 = cc in omega arith)

module _ (h : Handle) (w : List ℕ) (F : List Float) (records : ℕ) (sound : sound_of h w (length F) records ≡ true) (depth : ℕ) (there : depth < h.levels) where
  -- What a solve of the hierarchy in the stores adds to the record of a level.
  view_work : (s : LinearSolverOptions) (rhs x : List Float) {v : Solution} → solved_at h w F rhs x s ≡ accepted v → (r : MultigridLevelStatistics)
      → counted_at v.counts depth r ≡ after_iterations h.options h.levels depth v.report.iterations r
  unfolding view_of
  view_work s rhs x {v} e r =
      let opened = (opened_of h w (length F) records (omega arith) sound).0 in
      let deep = opened.deep in
      let n = h.levels in
      let long : length (levels_at n w F 0 0) ≡ n = levels_long n w F 0 0 in
      let more : n ≡ suc (n - 1) = omega arith in
      let walked = subst (λ (k : ℕ). walk_of k w 0 0 ≡ Ok tt) more opened.sound in
      let ends = subst (λ (k : ℕ). Ending (levels_at k w F 0 0)) (sym more) (walk_ending (n - 1) w F 0 0 0 walked) in
      solve_work (system_at h w F) ends depth (omega arith) (omega arith) s rhs x e r
      ∙ ap (λ (k : ℕ). after_iterations h.options k depth v.report.iterations r) long

-- The record of each level after a solve that reports.
pub work_told : {h : Handle} {w : List ℕ} {F G : List Float} {t u : List MultigridLevelStatistics} {rhs x y : List Float} {s : LinearSolverOptions}
    {r : LinearSolveReport} → SolveCall h w F G t u rhs x y s (Ok r) → (depth : ℕ) → depth < h.levels
    → get_or u depth (unvisited 0) ≡ after_iterations h.options h.levels depth r.iterations (get_or t depth (unvisited 0))
work_told {h} {w} {F} {t = t} {u = u} {rhs = rhs} {x = x} {s = s} {r = r} c depth there =
    let out = solved_of h w F (length t) rhs x s in
    let a = reported out c.answer in
    let v = a.0 in
    let b = ask_split (sound_of h w (length F) (length t)) unsound_stores (solved_at h w F rhs x s) a.1 in
    let room = (opened_of h w (length F) (length t) (omega arith) b.0).1 in
    let old = get_or t depth (unvisited 0) in
    let is : u ≡ counted_on h.levels 0 v.counts t = c.statistics ∙ ap (records_of h.levels t) a.1 in
    ap (λ (l : List MultigridLevelStatistics). get_or l depth (unvisited 0)) is
    ∙ counted_here h.levels 0 v.counts t depth there (omega arith)
    ∙ ap (λ (d : ℕ). counted_at v.counts d old) (zero-add depth)
    ∙ view_work h w F (length t) b.0 depth there s rhs x b.1 old
    ∙ ap (λ (z : LinearSolveReport). after_iterations h.options h.levels depth z.iterations old) a.2

-- Its sweeps before and after the correction are together the Rust's one number, which adds both at each visit.
pub sweeps_told : {h : Handle} {w : List ℕ} {F G : List Float} {t u : List MultigridLevelStatistics} {rhs x y : List Float} {s : LinearSolverOptions}
    {r : LinearSolveReport} → SolveCall h w F G t u rhs x y s (Ok r) → (depth : ℕ) → depth < h.levels
    → sweeps_of (get_or u depth (unvisited 0))
    ≡ smoothing_sweeps_of (r.iterations * visits_per h.levels depth) (pre_of h.options h.levels depth) (post_of h.options h.levels depth)
    (sweeps_of (get_or t depth (unvisited 0)))
sweeps_told {h} {t = t} {r = r} c depth there =
    ap sweeps_of (work_told c depth there)
    ∙ sweeps_together h.options h.levels depth (r.iterations * visits_per h.levels depth) (get_or t depth (unvisited 0))
