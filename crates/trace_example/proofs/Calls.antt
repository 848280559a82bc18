-- The calls of an example can be made, one after the other, after a build with face weights, and the book's build is accepted for each of
-- their solves: the theorem on lists of calls is about something. What is left to an example holds by computing.
-- Assumes nothing.
use Rattle.std.specs.Prelude.{Ok, Err}
use mathlib.Core.Path.{◌≡◌, refl, sym, ap, ◌∙◌}
use mathlib.Core.Bool.{true}
use mathlib.Core.List.{List, [], ◌∷◌, ◌++◌}
use Prim.Native.Nat.{ℕ}
use native.Mathlib.Omega.{arith}
use lib.ListN.{length}
use lib.Ieee.{Float}
use Rattle.float.specs.Float.{zero64}
use Rattle.store.specs.Region.{lay}
use Rattle.store.specs.Vector.{filled}
use Rattle.store.proofs.store.Region.{length_lay}
use Rattle.options.specs.declared.options.Handle.{Handle}
use Rattle.refusal.specs.Refusal.{unsound_stores}
use Rattle.refusal.specs.Outcome.{Outcome, accepted, refused}
use Rattle.refusal.proofs.Outcome.{ask_yes, accepted_one}
use Rattle.pattern.specs.Pattern.{entries}
use Rattle.hierarchy.specs.Level.{Level, Hierarchy}
use Rattle.hierarchy.specs.Build.{Lent, build_of}
use Rattle.hierarchy.specs.First.{shapes_in}
use Rattle.layout.specs.Layout.{view_of, words_fit}
use Rattle.layout.specs.Headers.{head_of, heads_at, heads_of}
use Rattle.index_check.specs.Sound.{sound_of}
use Rattle.solver.specs.declared.statistics.MultigridLevelStatistics.{MultigridLevelStatistics}
use Rattle.solver.specs.Statistics.{unvisited, counted_on}
use Rattle.build.specs.Built.{handle_of, lent_of}
use Rattle.iterations.specs.Iteration.{system_of}
use Rattle.iterations.specs.Iterate.{Solution, answer_of}
use Rattle.solve.specs.Solve.{uncounted, solve_of}
use Rattle.solve.specs.Solved.{solution_of}
use Rattle.update_levels.specs.Update.{update_of}
use Rattle.multigrid.specs.New.{NewDone, statistics_of}
use Rattle.multigrid.specs.UpdatingCall.{updated_of, UpdateCall}
use Rattle.multigrid.specs.SolvingCall.{solved_of, records_of, SolveCall}
use Rattle.call_theorem.specs.Trace.{Trace, statistics_after, with_values, Agrees}
use Rattle.call_theorem.proofs.Trace.{new_sound, refreshed_is_fresh}
use Rattle.multigrid.proofs.building.Publishing.{build_length}
use Rattle.multigrid.proofs.solving.Counting.{solve_length_lem}
use Rattle.trace_example.specs.Calls.{Answer, Example, calls}

-- ---- stores that hold a hierarchy, and zeros wherever else

-- the words of a level
unfoldable pub level_words : Level → List ℕ
level_words l =
    let s = l.shape in
    head_of s ++ s.pattern.offsets ++ s.pattern.columns ++ s.starts ++ s.diagonals ++ s.neighbors ++ s.uppers ++ s.lowers ++ s.links ++ s.positions

-- its floats
unfoldable pub level_floats : Level → List Float
level_floats l =
    let n = l.numbers in
    filled (entries l.shape.pattern) zero64 ++ n.coefficients ++ n.diagonal ++ n.inverse ++ n.dic ++ n.factor

-- those of levels, one after the other
unfoldable pub all_levels : {A : Type 0} → (Level → List A) → List Level → List A
all_levels f [] = []
all_levels f (l ∷ rest) = f l ++ all_levels f rest

module _ (e : Example) where
  -- the words lent, once they hold h
  unfoldable pub words_for : Hierarchy → List ℕ
  words_for h = lay (all_levels level_words h.levels) (filled e.words 0)

  -- the floats lent
  unfoldable pub floats_for : Hierarchy → List Float
  floats_for h = lay (all_levels level_floats h.levels ++ h.sums) (filled e.floats zero64)

  -- the statistics lent
  abbrev pub statistics_lent : List MultigridLevelStatistics
  statistics_lent = filled e.statistics (unvisited 0)

  -- what is lent: words and floats of zeros
  abbrev pub lent : Lent
  lent = lent_of (filled e.words 0) (filled e.floats zero64) (length statistics_lent)

  -- an accepted solve, its counts in a table with room for every level
  abbrev pub given : Answer → Outcome Solution
  given a = accepted (record { report = a.report; x = a.solution; counts = lay a.counts uncounted })

-- What is left to an example, whose builds from the first and from the accepted values make these hierarchies.
pub record Computes (e : Example) (before after : Hierarchy) : Type 0 where
  pub weights : e.input.given ≡ true
  pub built : build_of (lent e) e.input ≡ accepted before
  pub anew : build_of (lent e) (with_values e.input e.right) ≡ accepted after
  pub view : view_of (length before.levels) (words_for e before) (floats_for e before) 0 ≡ before
  pub viewed : view_of (length before.levels) (words_for e before) (floats_for e after) 0 ≡ after
  pub fits : words_fit (length before.levels) (words_for e before) 0 ≡ true
  pub heads : heads_at (length before.levels) (words_for e before) 0 ≡ heads_of before.levels
  pub refuses : update_of e.input.options (shapes_in before.levels) e.input.offsets e.input.columns e.wrong ≡ refused e.refusal
  pub accepts : update_of e.input.options (shapes_in before.levels) e.input.offsets e.input.columns e.right ≡ accepted after
  pub solves : solve_of (system_of e.input.options before) e.asked e.rhs e.start ≡ given e e.before
  pub solved : solve_of (system_of e.input.options after) e.asked e.rhs e.start ≡ given e e.after

module _ {e : Example} {before after : Hierarchy} (c : Computes e before after) where
  -- the handle of the build
  abbrev handle : Handle
  handle = handle_of e.input before

  -- the words, and the floats while they hold a hierarchy
  abbrev words : List ℕ
  words = words_for e before

  abbrev floats : Hierarchy → List Float
  floats h = floats_for e h

  -- As many floats hold either hierarchy.
  floats_size : (h : Hierarchy) → length (floats h) ≡ length (filled e.floats zero64)
  unfolding floats_for
  floats_size h = length_lay _ _

  -- The build leaves these stores and these statistics.
  pub new_done : NewDone (filled e.words 0) words (filled e.floats zero64) (floats before) (statistics_lent e)
      (statistics_of (length (statistics_lent e)) (accepted before)) e.input (Ok handle)
  unfolding words_for
  new_done = record {
    built = record {
      answer = rw c.built refl;
      view = λ h k. let same : before ≡ h = accepted_one (sym c.built ∙ k) in rw⁻¹ same c.view;
      fits = λ h k. let same : before ≡ h = accepted_one (sym c.built ∙ k) in rw⁻¹ same c.fits;
      heads = λ h k. let same : before ≡ h = accepted_one (sym c.built ∙ k) in rw⁻¹ same c.heads;
      words = λ q k. let built = c.built in let z : ◌≡◌ {A = ℕ} 0 1 = cc in absurd (omega arith);
      floats = λ q k. let built = c.built in let z : ◌≡◌ {A = ℕ} 0 1 = cc in absurd (omega arith);
      wordsize = length_lay _ _;
      floatsize = floats_size before;
    };
    statistics = rw c.built refl;
  }

  -- Its statistics are as long as they were.
  pub statistics_size : length (statistics_of (length (statistics_lent e)) (accepted before)) ≡ length (statistics_lent e)
  statistics_size = build_length (length (statistics_lent e)) (accepted before)

  -- Stores of those sizes pass question 19.
  sound : (h : Hierarchy) (t : List MultigridLevelStatistics) → length t ≡ length (statistics_lent e) → sound_of handle words (length (floats h)) (length t) ≡ true
  sound h t size =
      let first = new_sound new_done in
      rw (floats_size h, size) (rw (floats_size before, statistics_size) at first)

  -- ---- a call

  module _ (h : Hierarchy) (v : view_of handle.levels words (floats h) 0 ≡ h) (t : List MultigridLevelStatistics) (n : length t ≡ length (statistics_lent e)) where
    -- the solve's outcome
    abbrev outcome : Outcome Solution
    outcome = solved_of handle words (floats h) (length t) e.rhs e.start e.asked

    -- It is one of the hierarchy.
    outcome_is : outcome ≡ solve_of (system_of e.input.options h) e.asked e.rhs e.start
    outcome_is = ask_yes _ unsound_stores _ (sound h t n)
        ∙ ap (λ (b : Hierarchy). solve_of (system_of e.input.options b) e.asked e.rhs e.start) v

    -- A solve can be made.
    pub solve_made : (a : Answer) → solve_of (system_of e.input.options h) e.asked e.rhs e.start ≡ given e a
        → SolveCall handle words (floats h) (floats h) t (records_of handle.levels t outcome) e.rhs e.start a.solution e.asked (Ok a.report)
    solve_made a k =
        record {
          answer = sym (ap answer_of (outcome_is ∙ k));
          solution = sym (ap (solution_of e.start) (outcome_is ∙ k));
          statistics = refl;
          floats = record { below = refl; size = refl };
          view = refl;
          unsound = λ _. refl;
        }

    -- It keeps the length of the statistics.
    pub solve_size : length (records_of handle.levels t outcome) ≡ length (statistics_lent e)
    solve_size = solve_length_lem handle.levels t outcome ∙ n

    -- An update is one of the hierarchy's shapes.
    update_is : (values : List Float) → updated_of handle words (floats h) (length t) e.input.offsets e.input.columns values
        ≡ update_of e.input.options (shapes_in h.levels) e.input.offsets e.input.columns values
    update_is values = ask_yes _ unsound_stores _ (sound h t n)
        ∙ ap (λ (b : Hierarchy). update_of e.input.options (shapes_in b.levels) e.input.offsets e.input.columns values) v

  -- The update that is refused can be made,
  pub refused_update : (t : List MultigridLevelStatistics) → length t ≡ length (statistics_lent e)
      → UpdateCall handle words (floats before) (floats before) (length t) e.input.offsets e.input.columns e.wrong (Err e.refusal)
  refused_update t n =
      let is = update_is before c.view t n e.wrong ∙ c.refuses in
      record { done = record { answer = rw is refl; view = rw is refl; kept = λ q k. record { below = refl; size = refl }; size = refl }; unsound = λ _. refl }

  -- and so can the one that is accepted.
  pub accepted_update : (t : List MultigridLevelStatistics) → length t ≡ length (statistics_lent e)
      → UpdateCall handle words (floats before) (floats after) (length t) e.input.offsets e.input.columns e.right (Ok tt)
  accepted_update t n =
      let is = update_is before c.view t n e.right ∙ c.accepts in
      record {
        done = record {
          answer = rw is refl;
          view = rw is c.viewed;
          kept = λ q k. let z : ◌≡◌ {A = ℕ} 0 1 = cc in absurd (omega arith);
          size = floats_size after ∙ sym (floats_size before);
        };
        unsound = λ k.
            let passes = sound before t n in
            let z : ◌≡◌ {A = ℕ} 0 1 = cc in
            absurd (omega arith);
      }

  -- ---- the calls, each with what the one before left
  unfoldable pub calls_made : Trace handle words (floats before) (statistics_of (length (statistics_lent e)) (accepted before)) (calls e)
  calls_made =
      let t = statistics_of (length (statistics_lent e)) (accepted before) in
      let u = records_of handle.levels t (outcome before c.view t statistics_size) in
      let n = solve_size before c.view t statistics_size in
      let w = records_of handle.levels u (outcome before c.view u n) in
      let m = solve_size before c.view u n in
      Trace.solve (solve_made before c.view t statistics_size e.before c.solves)
      (Trace.update (refused_update u n)
      (Trace.solve (solve_made before c.view u n e.before c.solves)
      (Trace.update (accepted_update w m)
      (Trace.solve (solve_made after c.viewed w m e.after c.solved) Trace.nothing))))

  -- what an answer tells to be counted, added to the records of the levels
  abbrev pub counted : Answer → List MultigridLevelStatistics → List MultigridLevelStatistics
  counted a t = counted_on handle.levels 0 (lay a.counts uncounted) t

  -- A solve adds what its answer tells.
  solve_counts : (h : Hierarchy) (v : view_of handle.levels words (floats h) 0 ≡ h) (t : List MultigridLevelStatistics) (n : length t ≡ length (statistics_lent e))
      (a : Answer) → solve_of (system_of e.input.options h) e.asked e.rhs e.start ≡ given e a
      → records_of handle.levels t (outcome h v t n) ≡ counted a t
  solve_counts h v t n a k = ap (records_of handle.levels t) (outcome_is h v t n ∙ k)

  -- The statistics after the calls: those of the build with what the three solves counted.
  pub calls_counted : statistics_after calls_made
      ≡ counted e.after (counted e.before (counted e.before (statistics_of (length (statistics_lent e)) (accepted before))))
  unfolding calls_made statistics_after
  calls_counted =
      let t = statistics_of (length (statistics_lent e)) (accepted before) in
      let u = records_of handle.levels t (outcome before c.view t statistics_size) in
      let n = solve_size before c.view t statistics_size in
      let w = records_of handle.levels u (outcome before c.view u n) in
      let m = solve_size before c.view u n in
      solve_counts after c.viewed w m e.after c.solved
      ∙ ap (counted e.after) (solve_counts before c.view u n e.before c.solves
      ∙ ap (counted e.before) (solve_counts before c.view t statistics_size e.before c.solves))

  -- Each solve agrees with a build that there is.
  pub calls_agree : Agrees (lent e) e.input (calls e)
  calls_agree = refreshed_is_fresh e.input handle c.weights new_done calls_made (lent e)
