-- Refreshed beside fresh: after a build with face weights, however many updates and solves, accepted and refused in any order, every solve
-- has the answer and the solution of a fresh build from the latest accepted values, wherever that build is accepted.
-- Assumes nothing.
use Rattle.solver.specs.declared.solver.LinearSolveReport.{LinearSolveReport}
use Rattle.refusal.specs.declared.Refusal.{Refusal}
use Rattle.std.specs.Prelude.{Result, Ok, Err}
use mathlib.Core.Path.{◌≡◌, refl, sym, ap, ◌∙◌}
use mathlib.Core.Bool.{true}
use mathlib.Core.List.{List, [], ◌∷◌}
use Prim.Native.Nat.{ℕ}
use native.Mathlib.Omega.{arith}
use lib.ListN.{length}
use lib.Ieee.{Float}
use Rattle.options.specs.declared.options.MultigridOptions.{MultigridOptions}
use Rattle.options.specs.declared.options.Handle.{Handle}
use Rattle.solver.specs.declared.solver.LinearSolverOptions.{LinearSolverOptions}
use Rattle.refusal.specs.Refusal.{unsound_stores}
use Rattle.refusal.specs.Outcome.{Outcome, accepted, refused}
use Rattle.refusal.proofs.Outcome.{ask_yes, accepted_one}
use Rattle.hierarchy.specs.Level.{Shape, Level, Hierarchy}
use Rattle.hierarchy.specs.Refresh.{refresh_of, with_sums}
use Rattle.hierarchy.specs.Build.{Lent, Input, build_of}
use Rattle.hierarchy.specs.Shapes.{pattern_of}
use Rattle.hierarchy.specs.First.{shapes_in}
use Rattle.hierarchy.proofs.First.{build_first}
use Rattle.layout.specs.Layout.{view_of}
use Rattle.build.specs.Built.{lent_of}
use Rattle.index_check.specs.Sound.{sound_of}
use Rattle.build_sound.proofs.Sound.{built_sound}
use Rattle.iterations.specs.Iteration.{system_of}
use Rattle.solver.specs.declared.statistics.MultigridLevelStatistics.{MultigridLevelStatistics}
use Rattle.iterations.specs.Iterate.{answer_of}
use Rattle.solve.specs.Solve.{solve_of}
use Rattle.solve.specs.Solved.{solved_at, solution_of}
use Rattle.update.specs.Updated.{updated_at, hierarchy_of}
use Rattle.update.specs.Updated as refreshing
use Rattle.multigrid.specs.New.{NewDone}
use Rattle.multigrid.proofs.building.Builds.{made_is}
use Rattle.multigrid.proofs.building.Publishing.{build_length}
use Rattle.multigrid.proofs.solving.Counting.{solve_length_lem}
use Rattle.multigrid.specs.UpdatingCall.{updated_of, UpdateCall}
use Rattle.multigrid.specs.SolvingCall.{solved_of, SolveCall}
use Rattle.call_theorem.specs.Trace.{Event, Trace, floats_after, statistics_after, with_values, booked, book_of, Fresh, Agrees}
use Rattle.update.proofs.refresh.First.{update_first}

-- ---- pattern first, values second

-- The levels of a hierarchy with its row sums are the levels.
levels_of : (o : MultigridOptions) (levels : List Level) → (with_sums o levels).levels ≡ levels
unfolding with_sums
levels_of o [] = refl
levels_of o (l ∷ rest) = refl

-- The pattern of a build with weights reads no values.
pattern_of_lem : (x : Input) (values : List Float) → pattern_of (with_values x values) ≡ pattern_of x
unfolding pattern_of
pattern_of_lem x values = refl

-- A solve in stores that pass question 19 is one of the hierarchy that they hold.
solved_of_lem : (h : Handle) (w : List ℕ) (F : List Float) (records : ℕ) (rhs start : List Float) (s : LinearSolverOptions) {o : MultigridOptions} {b : Hierarchy}
    → sound_of h w (length F) records ≡ true → h.options ≡ o → view_of h.levels w F 0 ≡ b
    → solved_of h w F records rhs start s ≡ solve_of (system_of o b) s rhs start
solved_of_lem h w F records rhs start s {o} sound controls view =
    ask_yes (sound_of h w (length F) records) unsound_stores (solved_at h w F rhs start s) sound
    ∙ ap (λ (o : MultigridOptions). solve_of (system_of o (view_of h.levels w F 0)) s rhs start) controls
    ∙ ap (λ (b : Hierarchy). solve_of (system_of o b) s rhs start) view

-- What holds between calls: the stores pass question 19, and hold the refresh of the build's pattern from the values of the book, which
-- holds x.
pub record Holds (h : Handle) (w : List ℕ) (F : List Float) (t : List MultigridLevelStatistics) (x : Input) : Type 0 where
  pub sound : sound_of h w (length F) (length t) ≡ true
  pub given : x.given ≡ true
  pub controls : h.options ≡ x.options
  pub levels : List Level
  pub view : view_of h.levels w F 0 ≡ with_sums x.options levels
  pub second : refresh_of x.options 0 (pattern_of x) x.values ≡ accepted levels
  pub first : shapes_in levels ≡ pattern_of x

module _ {h : Handle} {w : List ℕ} {F : List Float} {t : List MultigridLevelStatistics} {x : Input} (i : Holds h w F t x) where
  -- The book's build, if accepted, is the hierarchy in the stores.
  fresh_view : (l : Lent) {b : Hierarchy} → build_of l x ≡ accepted b → view_of h.levels w F 0 ≡ b
  fresh_view l e =
      let f = build_first l x e in
      let same : refresh_of x.options 0 (pattern_of x) x.values ≡ accepted f.levels = rw (f.first i.given) at f.second in
      i.view ∙ ap (with_sums x.options) (accepted_one (sym i.second ∙ same)) ∙ sym f.is

  -- It holds on where a call keeps the hierarchy and the sizes.
  still_holds : {G : List Float} {u : List MultigridLevelStatistics} → view_of h.levels w G 0 ≡ view_of h.levels w F 0 → length G ≡ length F → length u ≡ length t
      → Holds h w G u x
  still_holds v floats words = record {
    sound = rw (floats, words) i.sound;
    given = i.given;
    controls = i.controls;
    levels = i.levels;
    view = v ∙ i.view;
    second = i.second;
    first = i.first;
  }

  -- ---- a solve

  module _ {G : List Float} {u : List MultigridLevelStatistics} {rhs start y : List Float} {s : LinearSolverOptions} {r : Result LinearSolveReport Refusal}
      (c : SolveCall h w F G t u rhs start y s r) where
    -- A solve has the book's answer and solution,
    solve_fresh : (l : Lent) → Fresh l x rhs start s r y
    solve_fresh l = record {
      answer = λ b e. c.answer ∙ ap answer_of (solved_of_lem h w F (length t) rhs start s i.sound i.controls (fresh_view l e));
      solution = λ b e. c.solution ∙ ap (solution_of start) (solved_of_lem h w F (length t) rhs start s i.sound i.controls (fresh_view l e));
    }

    -- and keeps what holds.
    solve_holds : Holds h w G u x
    solve_holds = still_holds c.view c.floats.size
        (ap length c.statistics ∙ solve_length_lem h.levels t (solved_of h w F (length t) rhs start s))

  -- ---- an update

  module _ {G : List Float} (offsets columns : List ℕ) (values : List Float) where
    -- An accepted update puts its values in the place of the old ones,
    accepted_holds : {k : Hierarchy} → updated_at h w F offsets columns values ≡ accepted k → view_of h.levels w G 0 ≡ k
        → length G ≡ length F → Holds h w G t (with_values x values)
    accepted_holds e v size =
        let shapes = shapes_in (view_of h.levels w F 0).levels in
        let found : shapes ≡ pattern_of x =
        ap (λ (k : Hierarchy). shapes_in k.levels) i.view ∙ ap shapes_in (levels_of x.options i.levels) ∙ i.first in
        let n = update_first h.options shapes offsets columns values e in
        record {
          sound = rw size i.sound;
          given = i.given;
          controls = i.controls;
          levels = n.levels;
          view = v ∙ n.is ∙ ap (λ (o : MultigridOptions). with_sums o n.levels) i.controls;
          second = ap (λ (p : List Shape). refresh_of x.options 0 p values) (pattern_of_lem x values ∙ sym found)
              ∙ ap (λ (o : MultigridOptions). refresh_of o 0 shapes values) (sym i.controls) ∙ n.second;
          first = n.shapes ∙ found ∙ sym (pattern_of_lem x values);
        }

    -- a refused one changes nothing; and so it is with the book.
    booked_holds : (r : Result Unit Refusal) (out : Outcome Hierarchy) → updated_at h w F offsets columns values ≡ out → r ≡ refreshing.updated_answer out
        → view_of h.levels w G 0 ≡ hierarchy_of (view_of h.levels w F 0) out → length G ≡ length F → Holds h w G t (booked x values r)
    booked_holds (Ok tt) (accepted k) e a v size = accepted_holds e v size
    booked_holds (Ok tt) (refused q) e a v size = absurd (let none : ◌≡◌ {A = ℕ} 0 1 = cc in omega arith)
    booked_holds (Err p) (accepted k) e a v size = absurd (let none : ◌≡◌ {A = ℕ} 0 1 = cc in omega arith)
    booked_holds (Err p) (refused q) e a v size = still_holds v size refl

  -- What holds before an update holds after it, of what the book then has.
  update_holds : {G : List Float} {offsets columns : List ℕ} {values : List Float} {r : Result Unit Refusal}
      → UpdateCall h w F G (length t) offsets columns values r → Holds h w G t (booked x values r)
  update_holds {offsets = offsets} {columns = columns} {values = values} {r = r} c =
      let out = updated_at h w F offsets columns values in
      let same : updated_of h w F (length t) offsets columns values ≡ out =
      ask_yes (sound_of h w (length F) (length t)) unsound_stores out i.sound in
      booked_holds offsets columns values r out refl (c.done.answer ∙ ap refreshing.updated_answer same)
      (c.done.view ∙ ap (hierarchy_of (view_of h.levels w F 0)) same) c.done.size

-- ---- the list of calls

-- Where that holds before calls, each solve among them agrees with the book.
pub trace_agrees : {h : Handle} {w : List ℕ} {F : List Float} {t : List MultigridLevelStatistics} {x : Input} {events : List Event}
    → Trace h w F t events → Holds h w F t x → (l : Lent) → Agrees l x events
trace_agrees Trace.nothing i l = Agrees.nothing
trace_agrees (Trace.update c rest) i l = Agrees.update (trace_agrees rest (update_holds i c) l)
trace_agrees (Trace.solve c rest) i l = Agrees.solve (solve_fresh i c l) (trace_agrees rest (solve_holds i c) l)

-- An accepted build with weights leaves what holds, if its stores pass question 19.
built_holds : {w z : List ℕ} {F G : List Float} {s t : List MultigridLevelStatistics} (x : Input) (h : Handle) → x.given ≡ true
    → NewDone w z F G s t x (Ok h) → sound_of h z (length G) (length t) ≡ true → Holds h z G t x
built_holds {w} {z} {F} {G} {s} {t} x h given d sound =
    let l = lent_of w F (length s) in
    let m = made_is x (build_of l x) d.built.answer in
    let f = build_first l x m.1 in
    let levels : h.levels ≡ length m.0.levels = ap (λ (k : Handle). k.levels) m.2 in
    record {
      sound = sound;
      given = given;
      controls = ap (λ (k : Handle). k.options) m.2;
      levels = f.levels;
      view = ap (λ (n : ℕ). view_of n z G 0) levels ∙ d.built.view m.0 m.1 ∙ f.is;
      second = rw (f.first given) at f.second;
      first = f.first given;
    }

-- The stores of an accepted build pass question 19.
pub new_sound : {w z : List ℕ} {F G : List Float} {s t : List MultigridLevelStatistics} {x : Input} {h : Handle} → NewDone w z F G s t x (Ok h)
    → sound_of h z (length G) (length t) ≡ true
new_sound {w} {z} {F} {G} {s} {t} {x} {h} d =
    let l = lent_of w F (length s) in
    let m = made_is x (build_of l x) d.built.answer in
    let b = d.built in
    let words : length t ≡ length s = ap length d.statistics ∙ build_length (length s) (build_of l x) in
    rw (m.2, words) (built_sound l x m.1 z G (b.view m.0 m.1) (b.fits m.0 m.1) b.wordsize b.floatsize)

-- After a build with weights each solve has the answer and the solution of a fresh build and solve, whatever calls came before it.
pub refreshed_is_fresh : {w z : List ℕ} {F G : List Float} {s t : List MultigridLevelStatistics} (x : Input) (h : Handle) → x.given ≡ true
    → NewDone w z F G s t x (Ok h) → {events : List Event} → Trace h z G t events → (l : Lent) → Agrees l x events
refreshed_is_fresh x h given d trace l = trace_agrees trace (built_holds x h given d (new_sound d)) l

-- ---- the book's own calls

-- What the book answers is what its own calls give: a build in lent stores, whatever these held, and then that solve.
pub fresh_call : {w z : List ℕ} {F G H : List Float} {s t u : List MultigridLevelStatistics} {x : Input} {h : Handle} {rhs start y y' : List Float}
    {o : LinearSolverOptions} {r r' : Result LinearSolveReport Refusal} → Fresh (lent_of w F (length s)) x rhs start o r y
    → NewDone w z F G s t x (Ok h) → SolveCall h z G H t u rhs start y' o r' → (r ≡ r') × (y ≡ y')
fresh_call {w} {z} {F} {G} {H} {s} {t} {u} {x} {h} {rhs} {start} {y} {y'} {o} {r} {r'} f d c =
    let l = lent_of w F (length s) in
    let m = made_is x (build_of l x) d.built.answer in
    let levels : h.levels ≡ length m.0.levels = ap (λ (k : Handle). k.levels) m.2 in
    let view : view_of h.levels z G 0 ≡ m.0 = ap (λ (n : ℕ). view_of n z G 0) levels ∙ d.built.view m.0 m.1 in
    let same = solved_of_lem h z G (length t) rhs start o (new_sound d) (ap (λ (k : Handle). k.options) m.2) view in (
      f.answer m.0 m.1 ∙ sym (c.answer ∙ ap answer_of same),
      f.solution m.0 m.1 ∙ sym (c.solution ∙ ap (solution_of start) same),
    )

-- ---- calls beside calls

-- What holds before calls holds after them, of what the book then has.
trace_holds : {h : Handle} {w : List ℕ} {F : List Float} {t : List MultigridLevelStatistics} {x : Input} {events : List Event} (trace : Trace h w F t events)
    → Holds h w F t x → Holds h w (floats_after trace) (statistics_after trace) (book_of x events)
unfolding floats_after statistics_after book_of
trace_holds Trace.nothing i = i
trace_holds (Trace.update c rest) i = trace_holds rest (update_holds i c)
trace_holds (Trace.solve c rest) i = trace_holds rest (solve_holds i c)

-- After a build with weights and any calls, a solve has the answer and the solution of any other build and solve whose build was given
-- what the book holds after those calls, in whatever stores, and whose solve was given the same as this one.
pub refreshed_beside_fresh : {w z w' z' : List ℕ} {F G H F' G' H' : List Float} {s t u s' t' u' : List MultigridLevelStatistics} {x : Input} {h h' : Handle}
    {events : List Event} {rhs start y y' : List Float} {o : LinearSolverOptions} {r r' : Result LinearSolveReport Refusal}
    → x.given ≡ true → NewDone w z F G s t x (Ok h) → (trace : Trace h z G t events)
    → SolveCall h z (floats_after trace) H (statistics_after trace) u rhs start y o r
    → NewDone w' z' F' G' s' t' (book_of x events) (Ok h') → SolveCall h' z' G' H' t' u' rhs start y' o r'
    → (r ≡ r') × (y ≡ y')
refreshed_beside_fresh {w' = w'} {F' = F'} {s' = s'} {x = x} {h = h} given d trace c d' c' =
    let i = trace_holds trace (built_holds x h given d (new_sound d)) in
    fresh_call (solve_fresh i c (lent_of w' F' (length s'))) d' c'
