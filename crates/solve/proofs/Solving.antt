-- The whole solve: a law for each way out, on copies and then in the caller's vectors.
-- Assumes nothing.
use Rattle.std.specs.Prelude.{Result, Ok, Err, Option, Some, None}
use mathlib.Core.Path.{◌≡◌, refl, sym, ap, ◌∙◌}
use mathlib.Core.Bool.{Bool, true, false, cond, ◌&&◌}
use mathlib.Core.List.{List}
use Prim.Native.Nat.{ℕ, zero, suc, ◌+◌, ◌≤◌, ◌<◌}
use native.Mathlib.Omega.{arith}
use borrow.Author.Tests.{leb-true, eqb-true, eq-eqb, ne_eqb}
use lib.Dec.{eqb, leb}
use lib.ListN.{length, replicate, length-replicate, get_or-replicate}
use lib.Seq.{ext_get_or}
use lib.Ieee.{Float, le}
use Rattle.float.specs.Float.{is_finite}
use Rattle.store.specs.Region.{part, Kept}
use Rattle.store.specs.Vector.{filled}
use Rattle.store.proofs.store.Region.{kept_on, kept_less, kept_self, kept_part}
use Rattle.store.proofs.store.Vector.{length_tab, get_d_tab}
use Rattle.store.proofs.store.Each.{both_l, both_r}
use Rattle.options.specs.declared.options.Handle.{Handle}
use Rattle.solver.specs.declared.solver.LinearSolverOptions.{LinearSolverOptions}
use Rattle.solver.specs.declared.solver.LinearSolverStatus.{LinearSolverStatus}
use Rattle.solver.specs.declared.solver.LinearSolveReport.{LinearSolveReport}
use Rattle.refusal.specs.declared.Refusal.{Refusal}
use Rattle.refusal.specs.Refusal.{bad_normalization, bad_residual}
use Rattle.refusal.specs.Outcome.{Outcome, accepted, refused, verdict_of, ◌>>=◌}
use Rattle.refusal.proofs.Outcome.{ask_yes, ask_no, refuses, never, accepts_it, accepted_one}
use Rattle.matrix.specs.Kernel.{Kernel, apply_of}
use Rattle.correction.specs.Correction.{subtract_of}
use Rattle.acceleration.specs.Directions.{finite}
use Rattle.acceleration.specs.DirectionsContract.{memory_at}
use Rattle.residual_norm.specs.Measure.{measure_of}
use Rattle.residual_norm.specs.Normalization.{normalization_of}
use Rattle.residual_norm.specs.Contract.{NormalizationOk}
use Rattle.solver.specs.Solver.{threshold_of, report_of}
use Rattle.hierarchy.specs.Level.{empty_hierarchy}
use Rattle.layout.specs.Layout.{rows_at, entries_at, words_end, floats_end, levels_at, view_of}
use Rattle.layout.proofs.Views.{view_empty}
use Rattle.index_check.specs.Sound.{levels_sound, handle_sound, scratch_start, scratch_end, cycle_start, filled_sound, sound_of}
use Rattle.index_check.proofs.sound.Question.{handle_few, sound_filled, sound_empty}
use Rattle.index_check.proofs.sound.Accepts.{walk_passes}
use Rattle.solve.specs.Copies.{EnterOk, Entered}
use Rattle.iterations.specs.declared.stepping.Regions.{Regions}
use Rattle.iterations.specs.Iteration.{System, true_residual_of, system_of}
use Rattle.iterations.specs.System.{system_at}
use Rattle.iterations.specs.Steps.{regions_at, Opened, Ready, Renewed, product_at}
use Rattle.iterations.proofs.stepping.Placing.{vectors, rows_is, system_kept, sums_is, kernel_is, kernel_rows}
use Rattle.solver.specs.declared.answers.SolveRun.{SolveRun}
use Rattle.solve.specs.Input.{lengths_ok, input_ok}
use Rattle.solve.specs.Steps.{SolveOk, asked_of, attempt_at, AttemptOk, begun_at, BeginOk}
use Rattle.solve.proofs.input.Asked.{asked_no, both_asked, asked_yes}
use Rattle.iterations.specs.Iterate.{Solution, answer_of}
use Rattle.iterations.specs.Contract.{Ran, iterate_at}
use Rattle.iterations.proofs.iterating.Iterations.{ran_accepted, ran_refused}
use Rattle.solve.specs.Solve.{uncounted, factor_of, run_of, empty_report, empty_solution, solve_of, attempt_of}
use Rattle.solve.specs.Solved.{solved_at, solution_of}
use Rattle.solve.specs.Contract.{levels_counted, uncounted_run, refused_run, empty_run, SolveDone}

-- What is not refused has passed.
pub not_refused : (v : Result Unit Refusal) → ((q : Refusal) → v ≡ Err q → ⊥) → v ≡ Ok tt
not_refused (Ok tt) n = refl
not_refused (Err q) n = absurd (n q refl)

-- ---- from question 22 on

module _ {h : Handle} {w : List ℕ} (F : List Float) {g : Regions} (ready : Ready h w (length F) g) {G : List Float} (v : Renewed w F G g) where
  abbrev y : System
  y = system_at h w F

  abbrev rhs : List Float
  rhs = part g.rhs g.rows F

  abbrev x : List Float
  x = part g.solution g.rows F

  kept : Kept g.solution F G
  kept = let l = vectors ready in kept_less v.floats (omega arith)

  -- What the normalization and the norm require.
  pub factor_ok : NormalizationOk (length G) g.rows g.solution g.rhs g.product g.sums
  factor_ok =
      let l = vectors ready in
      let size = v.floats.size in
      record { xs = omega arith; rhss = omega arith; products = omega arith; sums = omega arith }

  pub norm_ok : g.residual + g.rows ≤ length G
  norm_ok =
      let l = vectors ready in
      let size = v.floats.size in
      omega arith

  -- What the iterations require.
  pub iterate_ok : Ready h w (length G) g
  iterate_ok = let size = v.floats.size in rw size ready

  rhs_same : part g.rhs g.rows G ≡ rhs
  rhs_same = let l = vectors ready in kept_part v.floats _ _ (omega arith)

  x_same : part g.solution g.rows G ≡ x
  x_same = let l = vectors ready in kept_part v.floats _ _ (omega arith)

  product_is : product_at w F g ≡ apply_of y.kernel x
  product_is = ap (λ (k : Kernel). apply_of k x) (sym (kernel_is ready F))

  -- The residual that stands in the store is that of the start.
  residual_is : (factor : Float) → part g.residual g.rows G ≡ true_residual_of y rhs factor x
  residual_is factor =
      v.left ∙ ap (subtract_of g.rows rhs) product_is
      ∙ ap (λ (n : ℕ). subtract_of n rhs (apply_of y.kernel x)) (sym (kernel_rows ready F))

  module _ {factor : Float} (e : factor ≡ normalization_of h.options.residual_norm g.rows (part g.solution g.rows G)
      (part g.rhs g.rows G) (part g.product g.rows G) (part g.sums g.rows G)) where
    -- The factor is the definition's.
    factor_is_lem : factor ≡ factor_of y rhs x
    factor_is_lem =
        let l = vectors ready in
        let norm = h.options.residual_norm in
        let product : part g.product g.rows G ≡ apply_of y.kernel x = v.made ∙ product_is in
        let sums : part g.sums g.rows G ≡ y.sums = kept_part v.floats _ _ (omega arith) ∙ sums_is ready F in
        let rows : g.rows ≡ y.kernel.rows = sym (kernel_rows ready F) in
        e ∙ ap (λ (u : List Float). normalization_of norm g.rows u (part g.rhs g.rows G) (part g.product g.rows G) (part g.sums g.rows G)) x_same
        ∙ ap (λ (u : List Float). normalization_of norm g.rows x u (part g.product g.rows G) (part g.sums g.rows G)) rhs_same
        ∙ ap (λ (u : List Float). normalization_of norm g.rows x rhs u (part g.sums g.rows G)) product
        ∙ ap (λ (u : List Float). normalization_of norm g.rows x rhs (apply_of y.kernel x) u) sums
        ∙ ap (λ (n : ℕ). normalization_of norm n x rhs (apply_of y.kernel x) y.sums) rows

    module _ {t : List ℕ} (zeros : t ≡ uncounted) (s : LinearSolverOptions) where
      -- A factor that is not finite.
      pub attempt_none : is_finite factor ≡ false → Ran g (attempt_at h w F g s) F G t (Err bad_normalization)
      attempt_none fails = ran_refused kept (ask_no _ _ _ (ap is_finite (sym factor_is_lem) ∙ fails))

      module _ (holds : is_finite factor ≡ true) where
        -- What follows: the first norm, and the iterations unless it is small enough.
        abbrev following : Outcome Solution
        following = ◌>>=◌ (finite bad_residual (measure_of h.options.residual_norm g.rows (part g.residual g.rows G) factor)) (λ initial.
            cond (le initial (threshold_of s.absolute_tolerance s.relative_tolerance initial))
            (accepted (record { report = report_of LinearSolverStatus.Converged 0 initial initial; x = part g.solution g.rows G; counts = t }))
            (iterate_at h w G t g factor initial (threshold_of s.absolute_tolerance s.relative_tolerance initial) s.max_iterations))

        run_is : run_of y s rhs x factor ≡ following
        unfolding run_of memory_at
        run_is =
            let l = vectors ready in
            let size = v.floats.size in
            let system : system_at h w G ≡ y = system_kept ready kept (omega arith) (omega arith) in
            let residual = residual_is factor in
            let rows = kernel_rows ready F in
            rw (zeros, system, rhs_same, x_same, residual, ← rows)

        attempt_is : attempt_at h w F g s ≡ following
        attempt_is = ask_yes _ _ _ (ap is_finite (sym factor_is_lem) ∙ holds) ∙ ap (run_of y s rhs x) (sym factor_is_lem) ∙ run_is

        module _ {p : Option Float} (m : p ≡ measure_of h.options.residual_norm g.rows (part g.residual g.rows G) factor) where
          -- A norm that is not finite.
          pub attempt_bad : p ≡ None → Ran g (attempt_at h w F g s) F G t (Err bad_residual)
          attempt_bad told = ran_refused kept (attempt_is ∙ rw (← m, told))

          module _ {initial threshold : Float} (told : p ≡ Some initial)
              (th : threshold ≡ threshold_of s.absolute_tolerance s.relative_tolerance initial) where
            -- A start that is good enough.
            pub attempt_done : le initial threshold ≡ true → {report : LinearSolveReport}
                → report ≡ report_of LinearSolverStatus.Converged 0 initial initial
                → Ran g (attempt_at h w F g s) F G t (Ok report)
            attempt_done below is = ran_accepted kept (attempt_is ∙ rw (← m, told, ← th, below)) is

            -- The iterations from one that is not.
            pub attempt_on : le initial threshold ≡ false → {H : List Float} {u : List ℕ} {r : Result LinearSolveReport Refusal}
                → Ran g (iterate_at h w G t g factor initial threshold s.max_iterations) G H u r
                → Ran g (attempt_at h w F g s) F H u r
            attempt_on above {H} {u} {r} d =
                let is : attempt_at h w F g s ≡ iterate_at h w G t g factor initial threshold s.max_iterations = attempt_is ∙ rw (← m, told, ← th, above) in
                record {
                  answer = d.answer ∙ ap answer_of (sym is);
                  solved = λ a r. d.solved a (sym is ∙ r);
                  counted = λ a r. d.counted a (sym is ∙ r);
                  floats = kept_on kept d.floats;
                }

-- ---- on copies

-- A table of zeros.
pub zeros_are : (n : ℕ) → replicate {A = ℕ} n 0 ≡ filled n 0
zeros_are n =
    ext_get_or 0 (replicate n 0) (filled n 0) (length-replicate n 0 ∙ sym (length_tab (λ _. 0) n))
    (λ i h. let b : i < n = rw length-replicate at h in get_or-replicate n i 0 0 b ∙ sym (get_d_tab (λ _. 0) n i 0 b))

-- Only an accepted solve reports,
report_is : {report : LinearSolveReport} (out : Outcome Solution) → Ok report ≡ answer_of out → (a : Solution) × (out ≡ accepted a)
report_is (accepted a) e = (a, refl)
report_is (refused q) e = absurd (let none : ◌≡◌ {A = ℕ} 0 1 = cc in omega arith)

-- and only a refused one answers a refusal.
refusal_is : {q : Refusal} (out : Outcome Solution) → Err q ≡ answer_of out → out ≡ refused q
refusal_is (accepted a) e = absurd (let none : ◌≡◌ {A = ℕ} 0 1 = cc in omega arith)
refusal_is (refused q) e = cc

module _ {h : Handle} {w : List ℕ} {size m n : ℕ} (b : BeginOk h w size m n) where
  -- What the places require.
  pub opened_ok : size ≤ 18446744073709551615 → Opened h w 18446744073709551615
  opened_ok fits = let o = b.opened in record {
    some = o.some;
    deep = o.deep;
    krylov = o.krylov;
    sound = o.sound;
    rows = o.rows;
    entries = o.entries;
    room = let room = o.room in omega arith;
  }

  module _ {g : Regions} (e : g ≡ regions_at h w) {other : ℕ} (same : other ≡ size) where
    ready_ok : Ready h w other g
    ready_ok = rw same (record { opened = b.opened; regions = e })

    -- What the solve on copies requires.
    pub attempt_ok : {t : List ℕ} → t ≡ replicate 512 0 → AttemptOk h w other g t
    attempt_ok zeros = record { ready = ready_ok; zeros = zeros ∙ zeros_are 512 }

    -- What the copies require.
    pub enter_ok : EnterOk other m n g.rhs g.solution
    enter_ok =
        let l = vectors ready_ok in
        let rows = rows_is ready_ok in
        let given = b.given in
        let start = b.start in
        let is = b.opened.rows in
        record { given = omega arith; room = omega arith }

-- What a solve that counted on no level gives its call.
pub uncounted_run_lem : {answer : Result LinearSolveReport Refusal} {counts : List ℕ} → counts ≡ replicate 512 0
    → ◌≡◌ {A = SolveRun} (record { answer = answer; levels = 0; counts = counts }) (uncounted_run answer)
uncounted_run_lem zeros = rw (zeros ∙ zeros_are 512)

-- Its contract, of an outcome that is refused.
done_refused : {h : Handle} {w : List ℕ} {F G x : List Float} {q : Refusal} {out : Outcome Solution} {run : SolveRun} → out ≡ refused q
    → run ≡ refused_run q → Kept (scratch_start h.levels w) F G → SolveDone h w F G x x out run
done_refused {h} {x = x} is e k = record {
  answer = ap (λ (r : SolveRun). r.answer) e ∙ sym (ap answer_of is);
  solution = sym (ap (solution_of x) is);
  levels = ap (λ (r : SolveRun). r.levels) e ∙ sym (ap (levels_counted h.levels) is);
  counts = λ v yes. never is yes;
  floats = k;
}

module _ {h : Handle} {w : List ℕ} (F rhs x : List Float) (s : LinearSolverOptions)
    (b : BeginOk h w (length F) (length rhs) (length x)) {g : Regions} (e : g ≡ regions_at h w)
    {D : List Float} (n : Entered F D rhs x g.rhs g.solution) where
  abbrev ready : Ready h w (length F) g
  ready = record { opened = b.opened; regions = e }

  -- The solve on copies is that of the caller's vectors.
  attempt_same : attempt_at h w D g s ≡ begun_at h w F rhs x s
  attempt_same =
      let l = vectors ready in
      let rows = rows_is ready in
      let is = b.opened.rows in
      let given = b.given in
      let start = b.start in
      let long : length rhs ≡ g.rows = omega arith in
      let wide : length x ≡ g.rows = omega arith in
      let system : system_at h w D ≡ system_at h w F = system_kept ready n.floats (omega arith) (omega arith) in
      let right : part g.rhs g.rows D ≡ rhs = ap (λ (k : ℕ). part g.rhs k D) (sym long) ∙ n.given in
      let left : part g.solution g.rows D ≡ x = ap (λ (k : ℕ). part g.solution k D) (sym wide) ∙ n.solution in
      ap (λ (y : System). attempt_of y s (part g.rhs g.rows D) (part g.solution g.rows D)) system
      ∙ ap (λ (r : List Float). attempt_of (system_at h w F) s r (part g.solution g.rows D)) right
      ∙ ap (attempt_of (system_at h w F) s rhs) left

  module _ {H : List Float} {u : List ℕ} {r : Result LinearSolveReport Refusal} (d : Ran g (attempt_at h w D g s) D H u r) where
    below : Kept (scratch_start h.levels w) F H
    below =
        let l = vectors ready in
        let at : g.rhs ≡ scratch_start h.levels w = ap (λ (g : Regions). g.rhs) e in
        kept_less (kept_on n.floats (kept_less d.floats (omega arith))) (omega arith)

    -- Room for what is copied out.
    pub leave_ok : g.solution + length x ≤ length H
    leave_ok =
        let ok = enter_ok b e refl in
        let first = n.floats.size in
        let second = d.floats.size in
        omega (arith, ok.room)

    -- Accepted, the solution is copied out.
    pub begin_yes : {report : LinearSolveReport} → r ≡ Ok report → {z : List Float} → z ≡ part g.solution (length x) H
        → SolveDone h w F H x z (begun_at h w F rhs x s) (record { answer = Ok report; levels = h.levels; counts = u })
    begin_yes told {z} out =
        let answer = sym told ∙ d.answer in
        let a = report_is (attempt_at h w D g s) answer in
        let is : begun_at h w F rhs x s ≡ accepted a.0 = sym attempt_same ∙ a.1 in
        let rows = rows_is ready in
        let rowed = b.opened.rows in
        let start = b.start in
        let wide : length x ≡ g.rows = omega arith in
        record {
          answer = answer ∙ ap answer_of attempt_same;
          solution = out ∙ ap (λ (n : ℕ). part g.solution n H) wide ∙ d.solved a.0 a.1 ∙ sym (ap (solution_of x) is);
          levels = sym (ap (levels_counted h.levels) is);
          counts = λ v yes. d.counted v (attempt_same ∙ yes);
          floats = below;
        }

    -- Refused, it is as it was.
    pub begin_no : {q : Refusal} {run : SolveRun} → r ≡ Err q → run ≡ refused_run q → SolveDone h w F H x x (begun_at h w F rhs x s) run
    begin_no told e = done_refused (sym attempt_same ∙ refusal_is (attempt_at h w D g s) (sym told ∙ d.answer)) e below

-- ---- questions 19 to 21

-- Of six tests each.
all_six : (a b c d e f : Bool) → a && b && c && d && e && f ≡ true
    → (a ≡ true) × (b ≡ true) × (c ≡ true) × (d ≡ true) × (e ≡ true) × (f ≡ true)
all_six a b c d e f t =
    let t5 = both_l (a && b && c && d && e) f t in
    let t4 = both_l (a && b && c && d) e t5 in
    let t3 = both_l (a && b && c) d t4 in
    let t2 = both_l (a && b) c t3 in
    (both_l a b t2, both_r a b t2, both_r (a && b) c t3, both_r (a && b && c) d t4, both_r (a && b && c && d) e t5, both_r (a && b && c && d && e) f t)

-- What question 19 tells of levels.
opened_filled : (h : Handle) (w : List ℕ) (size records : ℕ) → filled_sound h w size records ≡ true → Opened h w size × (h.levels ≤ records)
unfolding filled_sound
opened_filled h w size records e =
    let o = h.options in
    let end = scratch_end h.levels w 0 (cycle_start o.krylov_dimension h.levels w) in
    let t = all_six (handle_sound h) (leb h.levels records) (levels_sound h.levels w 0) (eqb (rows_at w 0) h.rows)
    (eqb (entries_at w 0) h.entries) (leb end size) e in
    let few = handle_few h t.0 in (
      record {
        some = few.0;
        deep = few.1;
        krylov = few.2;
        sound = walk_passes h.levels w 0 0 t.2;
        rows = eqb-true (rows_at w 0) h.rows t.3;
        entries = eqb-true (entries_at w 0) h.entries t.4;
        room = leb-true end size t.5;
      },
      leb-true h.levels records t.1,
    )

-- What question 19 tells where there is a level,
pub opened_of : (h : Handle) (w : List ℕ) (size records : ℕ) → 1 ≤ h.levels → sound_of h w size records ≡ true
    → Opened h w size × (h.levels ≤ records)
opened_of h w size records some e = opened_filled h w size records (sound_filled h w size records some e)

-- and of any handle.
pub solve_ready : (h : Handle) (w : List ℕ) (size records : ℕ) → sound_of h w size records ≡ true → SolveOk h w size
solve_ready h w size records e = record {
  filled = λ filled. (opened_of h w size records (omega (arith, filled)) e).0;
  empty = λ none. (sound_empty h w size records none e).0;
}

-- What the solve on copies requires.
pub begin_ok : {h : Handle} {w : List ℕ} {size : ℕ} (s : LinearSolverOptions) (rhs x : List Float) {r : Result Unit Refusal} → SolveOk h w size → (h.levels ≡ 0 → ⊥)
    → r ≡ verdict_of (asked_of h.rows s rhs x) → r ≡ Ok tt → BeginOk h w size (length rhs) (length x)
begin_ok {h} s rhs x o some a told =
    let yes = (accepts_it (asked_of h.rows s rhs x) a told).1 in
    let fits = (both_asked (lengths_ok h.rows rhs x) (input_ok s rhs x) x yes).0 in
    let long = eqb-true (length rhs) h.rows (both_l (eqb (length rhs) h.rows) (eqb (length x) h.rows) fits) in
    let wide = eqb-true (length x) h.rows (both_r (eqb (length rhs) h.rows) (eqb (length x) h.rows) fits) in
    record { opened = o.filled some; given = long; start = wide }

-- There are as many levels in the stores as are read.
pub levels_long : (k : ℕ) (w : List ℕ) (F : List Float) (a b : ℕ) → length (levels_at k w F a b) ≡ k
unfolding levels_at
levels_long zero w F a b = refl
levels_long (suc k) w F a b = omega (arith, levels_long k w F (words_end w a) (floats_end w a b))

-- The hierarchy of a handle of no levels.
empty_system : (h : Handle) (w : List ℕ) (F : List Float) → h.levels ≡ 0 → system_at h w F ≡ system_of h.options empty_hierarchy
empty_system h w F none = ap (system_of h.options) (ap (λ (n : ℕ). view_of n w F 0) none ∙ view_empty w F)

module _ (h : Handle) (w : List ℕ) (F rhs x : List Float) (s : LinearSolverOptions) (o : SolveOk h w (length F)) where
  -- The finest level's rows are the handle's.
  rows_are : (system_at h w F).kernel.rows ≡ h.rows
  rows_are = go h.levels refl
    where
      go : (n : ℕ) → h.levels ≡ n → (system_at h w F).kernel.rows ≡ h.rows
      go zero none = ap (λ (y : System). y.kernel.rows) (empty_system h w F none) ∙ sym (o.empty none)
      go (suc n) some =
          let opened = o.filled (λ none. omega arith) in
          let ready : Ready h w (length F) (regions_at h w) = record { opened = opened; regions = refl } in
          kernel_rows ready F ∙ rows_is ready ∙ opened.rows

  -- There are as many levels as the handle says.
  levels_are : length (system_at h w F).levels ≡ h.levels
  unfolding view_of
  levels_are = levels_long h.levels w F 0 0

  -- what follows questions 20 and 21
  abbrev after : Outcome Solution
  after = cond (eqb (length (system_at h w F).levels) 0) (accepted (empty_solution x)) (begun_at h w F rhs x s)

  module _ {r : Result Unit Refusal} (a : r ≡ verdict_of (asked_of h.rows s rhs x)) where
    -- The questions of the definition are those of the handle's rows.
    asked_as : asked_of (system_at h w F).kernel.rows s rhs x ≡ asked_of h.rows s rhs x
    asked_as = ap (λ (k : ℕ). asked_of k s rhs x) rows_are

    -- Questions 20 and 21 refuse.
    pub solve_no : {q : Refusal} {run : SolveRun} → r ≡ Err q → run ≡ refused_run q → SolveDone h w F F x x (solved_at h w F rhs x s) run
    unfolding solve_of
    solve_no {q} told e =
        let no = asked_as ∙ refuses (asked_of h.rows s rhs x) a told in
        done_refused (asked_no (lengths_ok (system_at h w F).kernel.rows rhs x) (input_ok s rhs x) x after no) e kept_self

    -- The solve of an input that passed.
    pub solve_on : r ≡ Ok tt → (h.levels ≡ 0 → ⊥) → {G z : List Float} {run : SolveRun}
        → SolveDone h w F G x z (begun_at h w F rhs x s) run → SolveDone h w F G x z (solved_at h w F rhs x s) run
    unfolding solve_of
    solve_on told some {G} {z} {run} d =
        let yes = asked_as ∙ (accepts_it (asked_of h.rows s rhs x) a told).1 in
        let rest : after ≡ begun_at h w F rhs x s = rw (ne_eqb (length (system_at h w F).levels) 0 (λ none. some (sym levels_are ∙ none))) in
        let same : solved_at h w F rhs x s ≡ begun_at h w F rhs x s =
        asked_yes (lengths_ok (system_at h w F).kernel.rows rhs x) (input_ok s rhs x) x after yes ∙ rest in
        rw same d

    -- That of no levels: nothing is written and nothing counted.
    pub solve_empty : r ≡ Ok tt → h.levels ≡ 0 → {run : SolveRun} → run ≡ empty_run → SolveDone h w F F x x (solved_at h w F rhs x s) run
    unfolding solve_of
    solve_empty told none {run} e =
        let yes = asked_as ∙ (accepts_it (asked_of h.rows s rhs x) a told).1 in
        let rest : after ≡ accepted (empty_solution x) = rw (eq-eqb (length (system_at h w F).levels) 0 (levels_are ∙ none)) in
        let same : solved_at h w F rhs x s ≡ accepted (empty_solution x) =
        asked_yes (lengths_ok (system_at h w F).kernel.rows rhs x) (input_ok s rhs x) x after yes ∙ rest in
        record {
          answer = ap (λ (r : SolveRun). r.answer) e ∙ sym (ap answer_of same);
          solution = sym (ap (solution_of x) same);
          levels = ap (λ (r : SolveRun). r.levels) e ∙ sym none ∙ sym (ap (levels_counted h.levels) same);
          counts = λ v is. ap (λ (r : SolveRun). r.counts) e ∙ ap (λ (z : Solution). z.counts) (accepted_one (sym same ∙ is));
          floats = kept_self;
        }
