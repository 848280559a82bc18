-- The work of a solve: what an accepted one counted on each level follows from the controls, the number of levels and its iterations.
-- Assumes nothing.
use mathlib.Core.Path.{◌≡◌, refl, sym, ap, ◌∙◌, subst}
use mathlib.Core.Bool.{Bool, true, false, cond}
use mathlib.Core.List.{List, [], ◌∷◌}
use mathlib.Core.Logic.{◌⊎◌, inl, inr}
use Prim.Native.Nat.{ℕ, zero, suc, ◌+◌, ◌*◌, ◌≤◌, ◌<◌, min}
use native.Mathlib.Nat.{suc-mul, zero-mul, mul-one, add-mul, one-mul, add-zero}
use native.Mathlib.Omega.{arith}
use borrow.Author.Tests.{lt-ltb, le-ltb, ne_eqb}
use lib.ListN.{length, length-set}
use lib.Seq.{get_or-set_same, get_or-set_other}
use lib.Ieee.{Float, le}
use Rattle.float.specs.Float.{is_finite, zero64}
use Rattle.float.specs.Saturating.{saturating_sum}
use Rattle.store.specs.Region.{idx}
use Rattle.store.specs.Vector.{filled}
use Rattle.store.proofs.store.Region.{le_or_lt}
use Rattle.store.proofs.store.Vector.{length_tab, get_d_tab}
use Rattle.options.specs.declared.options.MultigridOptions.{MultigridOptions}
use Rattle.options.specs.Counts.{pre_sweeps_of, post_sweeps_of}
use Rattle.solver.specs.declared.solver.LinearSolverOptions.{LinearSolverOptions}
use Rattle.solver.specs.declared.solver.LinearSolverStatus.{LinearSolverStatus}
use Rattle.solver.specs.declared.statistics.MultigridLevelStatistics.{MultigridLevelStatistics}
use Rattle.solver.specs.Statistics.{counted_at}
use Rattle.solver.specs.Solver.{threshold_of}
use Rattle.refusal.specs.Refusal.{wrong_length, bad_input, bad_normalization}
use Rattle.refusal.specs.Outcome.{accepted}
use Rattle.refusal.proofs.Outcome.{accepted_one}
use Rattle.hierarchy.specs.Level.{Level, kernel_in}
use Rattle.hierarchy.specs.Depth.{Ending, last, inner}
use Rattle.hierarchy.proofs.Accepted.{ask_split, then_split}
use Rattle.cycle.specs.Cycle.{Cycled, count_of, visited, swept, iterated, rows_first, smoothed, ended, corrected, end_of, up_of, cycle_of}
use Rattle.iterations.specs.Iteration.{State, System, true_residual_of, measured_of, moved_of, step_of}
use Rattle.iterations.specs.Iterate.{Solution, solution, iterate_of}
use Rattle.solve.specs.Input.{lengths_ok, input_ok}
use Rattle.solve.specs.Solve.{uncounted, begun, factor_of, run_of, solve_of}
use Rattle.call_theorem.specs.Work.{visits_per, pre_of, post_of, after_visits, after_iterations, sweeps_of, smoothing_sweeps_of}

-- ---- one counter

module _ (t : List ℕ) (i more : ℕ) where
  -- It has so many more, and stops at 2^64 - 1,
  count_here : i < length t → idx (count_of i more t) i ≡ saturating_sum (idx t i) more
  unfolding count_of
  count_here h = get_or-set_same t i (saturating_sum (idx t i) more) 0 h

  -- the others are as they were,
  count_there : (j : ℕ) → (j ≡ i → ⊥) → idx (count_of i more t) j ≡ idx t j
  unfolding count_of
  count_there j other = get_or-set_other t i j (saturating_sum (idx t i) more) 0 other

  -- and there are as many.
  count_long : length (count_of i more t) ≡ length t
  unfolding count_of
  count_long = length-set t i (saturating_sum (idx t i) more)

-- ---- the counters of a level

-- The counters of the level at that depth after so many visits with so many sweeps before and after the corrections, all told.
record Tallied (depth visits pre post : ℕ) (t : List ℕ) : Type 0 where
  room : 4 * depth + 3 < length t
  came : idx t (4 * depth) ≡ min visits 18446744073709551615
  before : idx t (4 * depth + 1) ≡ min pre 18446744073709551615
  behind : idx t (4 * depth + 2) ≡ min post 18446744073709551615
  none : idx t (4 * depth + 3) ≡ 0

module _ {j v p q : ℕ} {t : List ℕ} (c : Tallied j v p q t) where
  -- A visit of the level,
  visited_here : Tallied j (v + 1) p q (visited j t)
  visited_here = record {
    room = let r = c.room in let l = count_long t (4 * j) 1 in omega arith;
    came = let r = c.room in let e = c.came in count_here t (4 * j) 1 (omega arith) ∙ omega arith;
    before = count_there t (4 * j) 1 (4 * j + 1) (λ e. omega arith) ∙ c.before;
    behind = count_there t (4 * j) 1 (4 * j + 2) (λ e. omega arith) ∙ c.behind;
    none = count_there t (4 * j) 1 (4 * j + 3) (λ e. omega arith) ∙ c.none;
  }

  -- so many sweeps on it,
  swept_here : (a b : ℕ) → Tallied j v (p + a) (q + b) (swept j a b t)
  swept_here a b =
      let r = c.room in
      let u = count_of (4 * j + 1) a t in
      let l = count_long t (4 * j + 1) a in
      let m = count_long u (4 * j + 2) b in
      record {
        room = omega arith;
        came = count_there u (4 * j + 2) b (4 * j) (λ e. omega arith) ∙ count_there t (4 * j + 1) a (4 * j) (λ e. omega arith) ∙ c.came;
        before =
            let e = c.before in
            count_there u (4 * j + 2) b (4 * j + 1) (λ e. omega arith) ∙ count_here t (4 * j + 1) a (omega arith) ∙ omega arith;
        behind =
            let e = c.behind in
            let f : idx u (4 * j + 2) ≡ idx t (4 * j + 2) = count_there t (4 * j + 1) a (4 * j + 2) (λ e. omega arith) in
            count_here u (4 * j + 2) b (omega arith) ∙ omega arith;
        none = count_there u (4 * j + 2) b (4 * j + 3) (λ e. omega arith) ∙ count_there t (4 * j + 1) a (4 * j + 3) (λ e. omega arith) ∙ c.none;
      }

  -- and no iteration of its coarse solver.
  iterated_here : Tallied j v p q (iterated j 0 t)
  iterated_here =
      let r = c.room in
      let l = count_long t (4 * j + 3) 0 in
      record {
        room = omega arith;
        came = count_there t (4 * j + 3) 0 (4 * j) (λ e. omega arith) ∙ c.came;
        before = count_there t (4 * j + 3) 0 (4 * j + 1) (λ e. omega arith) ∙ c.before;
        behind = count_there t (4 * j + 3) 0 (4 * j + 2) (λ e. omega arith) ∙ c.behind;
        none = let e = c.none in count_here t (4 * j + 3) 0 (omega arith) ∙ omega arith;
      }

  -- What is counted of another level, four numbers or less, does not show.
  counted_there : (d k more : ℕ) → k ≤ 3 → (j ≡ d → ⊥) → Tallied j v p q (count_of (4 * d + k) more t)
  counted_there d k more few other =
      let r = c.room in
      let l = count_long t (4 * d + k) more in
      record {
        room = omega arith;
        came = count_there t (4 * d + k) more (4 * j) (λ e. other (omega arith)) ∙ c.came;
        before = count_there t (4 * d + k) more (4 * j + 1) (λ e. other (omega arith)) ∙ c.before;
        behind = count_there t (4 * d + k) more (4 * j + 2) (λ e. other (omega arith)) ∙ c.behind;
        none = count_there t (4 * d + k) more (4 * j + 3) (λ e. other (omega arith)) ∙ c.none;
      }

-- Nothing is counted yet.
tallied_none : (j : ℕ) → j < 128 → Tallied j 0 0 0 uncounted
tallied_none j few = record {
  room = let l : length uncounted ≡ 512 = length_tab (λ (k : ℕ). 0) 512 in omega arith;
  came = get_d_tab (λ (k : ℕ). 0) 512 (4 * j) 0 (omega arith);
  before = get_d_tab (λ (k : ℕ). 0) 512 (4 * j + 1) 0 (omega arith);
  behind = get_d_tab (λ (k : ℕ). 0) 512 (4 * j + 2) 0 (omega arith);
  none = get_d_tab (λ (k : ℕ). 0) 512 (4 * j + 3) 0 (omega arith);
}

-- ---- one cycle

module _ (o : MultigridOptions) where
  -- An accepted visit of the last level counts no sweep.
  last_split : (l : Level) (deeper : List Level) (depth : ℕ) (rhs x : List Float) (t : List ℕ) {c : Cycled} → l.shape.terminal ≡ true
      → cycle_of o (l ∷ deeper) depth rhs x t ≡ accepted c → iterated depth 0 (visited depth t) ≡ c.counts
  unfolding cycle_of end_of
  last_split l deeper depth rhs x t {c} is e =
      let e' : end_of o l depth rhs (visited depth t) ≡ accepted c = rw is at e in
      let a = then_split (ended l rhs) _ e' in
      ap (λ (z : Cycled). z.counts) (accepted_one a.2)

  -- An accepted visit of another level went through an accepted visit of the next, and counts its sweeps behind it.
  inner_split : (l : Level) (deeper : List Level) (depth : ℕ) (rhs x : List Float) (t : List ℕ) {c : Cycled} → l.shape.terminal ≡ false
      → cycle_of o (l ∷ deeper) depth rhs x t ≡ accepted c
      → (f : List Float) × (z : List Float) × (d : Cycled) × (cycle_of o deeper (depth + 1) f z (visited depth t) ≡ accepted d)
      × (swept depth (pre_sweeps_of o depth) (post_sweeps_of o depth) d.counts ≡ c.counts)
  unfolding cycle_of up_of
  inner_split l deeper depth rhs x t {c} is e =
      let pre = pre_sweeps_of o depth in
      let n = rows_first deeper in
      let e' = rw is at e in
      let a = then_split (smoothed o l pre rhs x) _ e' in
      let b = then_split (cycle_of o deeper (depth + 1) _ _ (visited depth t)) _ a.2 in
      let f = then_split (corrected o.scale_correction (kernel_in l) _ _ a.0) _ b.2 in
      let g = then_split (smoothed o l (post_sweeps_of o depth) rhs f.0) _ f.2 in
      (_, _, b.0, b.1, ap (λ (z : Cycled). z.counts) (accepted_one g.2))

  -- A cycle counts nothing on the levels above those that it is given.
  cycle_above : (levels : List Level) (depth : ℕ) (rhs x : List Float) (t : List ℕ) {c : Cycled} → cycle_of o levels depth rhs x t ≡ accepted c
      → {j v p q : ℕ} → j < depth → Tallied j v p q t → Tallied j v p q c.counts
  unfolding cycle_of
  cycle_above [] depth rhs x t e {j} {v} {p} {q} above k = subst (Tallied j v p q) (ap (λ (z : Cycled). z.counts) (accepted_one e)) k
  cycle_above (l ∷ deeper) depth rhs x t {c} e {j} {v} {p} {q} above k =
      by_kind (λ f z d e. cycle_above deeper (depth + 1) f z (visited depth t) {c = d} e {j = j} {v = v} {p = p} {q = q}) l.shape.terminal refl
    where
      other : j ≡ depth → ⊥
      other is = omega arith

      seen : Tallied j v p q (visited depth t)
      seen = subst (λ (i : ℕ). Tallied j v p q (count_of i 1 t)) (add-zero (4 * depth)) (counted_there k depth 0 1 (omega arith) other)

      by_kind : ((f z : List Float) (d : Cycled) → cycle_of o deeper (depth + 1) f z (visited depth t) ≡ accepted d
          → j < depth + 1 → Tallied j v p q (visited depth t) → Tallied j v p q d.counts)
          → (b : Bool) → l.shape.terminal ≡ b → Tallied j v p q c.counts
      by_kind rec true is = subst (Tallied j v p q) (last_split l deeper depth rhs x t is e) (counted_there seen depth 3 0 (omega arith) other)
      by_kind rec false is =
          let s = inner_split l deeper depth rhs x t is e in
          let deep = rec s.0 s.1 s.2 s.3 (omega arith) seen in
          subst (Tallied j v p q) s.4
          (counted_there (counted_there deep depth 1 (pre_sweeps_of o depth) (omega arith) other) depth 2 (post_sweeps_of o depth) (omega arith) other)

  -- The sweeps of one visit, of a level that is not the last,
  pre_inner : (total depth : ℕ) → depth + 1 < total → pre_of o total depth ≡ pre_sweeps_of o depth
  unfolding pre_of
  pre_inner total depth h = rw (lt-ltb (depth + 1) total h)

  post_inner : (total depth : ℕ) → depth + 1 < total → post_of o total depth ≡ post_sweeps_of o depth
  unfolding post_of
  post_inner total depth h = rw (lt-ltb (depth + 1) total h)

  -- and of the last.
  pre_last : (total depth : ℕ) → total ≤ depth + 1 → pre_of o total depth ≡ 0
  unfolding pre_of
  pre_last total depth h = rw (le-ltb (depth + 1) total h)

  post_last : (total depth : ℕ) → total ≤ depth + 1 → post_of o total depth ≡ 0
  unfolding post_of
  post_last total depth h = rw (le-ltb (depth + 1) total h)

  -- the sweeps of a level by what they are
  tallied_as : {j v p p' q q' : ℕ} {t u : List ℕ} → t ≡ u → p ≡ p' → q ≡ q' → Tallied j v p q t → Tallied j v p' q' u
  tallied_as {j} {v} {p} {p'} {q} {q'} {t} {u} e f g k =
      subst (λ (l : List ℕ). Tallied j v p' q' l) e (subst (λ (m : ℕ). Tallied j v p' m t) g (subst (λ (m : ℕ). Tallied j v m q t) f k))

  -- The last level is visited and not swept.
  here_last : (l : Level) (depth : ℕ) (rhs x : List Float) (t : List ℕ) {c : Cycled} → l.shape.terminal ≡ true
      → cycle_of o (l ∷ []) depth rhs x t ≡ accepted c → (total : ℕ) → total ≡ depth + 1 → {v p q : ℕ} → Tallied depth v p q t
      → Tallied depth (v + 1) (p + pre_of o total depth) (q + post_of o total depth) c.counts
  here_last l depth rhs x t is e total sum {v} {p} {q} k =
      let a = pre_last total depth (omega arith) in
      let b = post_last total depth (omega arith) in
      tallied_as (last_split l [] depth rhs x t is e) (omega arith) (omega arith) (iterated_here (visited_here k))

  -- Another is visited and swept.
  here_inner : (depth : ℕ) {u w : List ℕ} → (total : ℕ) → depth + 1 < total → {v p q : ℕ} → Tallied depth v p q u → swept depth (pre_sweeps_of o depth) (post_sweeps_of o depth) u ≡ w
      → Tallied depth v (p + pre_of o total depth) (q + post_of o total depth) w
  here_inner depth total h k e =
      let a = pre_inner total depth h in
      let b = post_inner total depth h in
      tallied_as e (omega arith) (omega arith) (swept_here k (pre_sweeps_of o depth) (post_sweeps_of o depth))

  -- There is a last level.
  ending_some : {levels : List Level} → Ending levels → 1 ≤ length levels
  ending_some (last is) = omega arith
  ending_some (inner is on) = omega arith

  -- A cycle visits each level once, and sweeps it as the controls say, the last alone being terminal.
  cycle_here : {levels : List Level} → Ending levels → (depth : ℕ) (rhs x : List Float) (t : List ℕ) {c : Cycled}
      → cycle_of o levels depth rhs x t ≡ accepted c → (total j : ℕ) {v p q : ℕ} → total ≡ depth + length levels → depth ≤ j → j < total
      → Tallied j v p q t → Tallied j (v + 1) (p + pre_of o total j) (q + post_of o total j) c.counts
  cycle_here (last {l} is) depth rhs x t {c} e total j {v} {p} {q} sum from to k =
      let here : depth ≡ j = omega arith in
      subst (λ (i : ℕ). Tallied i v p q t → Tallied i (v + 1) (p + pre_of o total i) (q + post_of o total i) c.counts) here
      (here_last l depth rhs x t is e total (omega arith)) k
  cycle_here (inner {l} {rest} is on) depth rhs x t {c} e total j {v} {p} {q} sum from to k =
      let s = inner_split l rest depth rhs x t is e in
      by_place_lem s (λ deeper seen. cycle_here on (depth + 1) s.0 s.1 (visited depth t) {c = s.2} s.3 total j (omega arith) deeper to seen) (le_or_lt (depth + 1) j)
    where
      some : 1 ≤ length rest
      some = ending_some on

      by_place_lem : (s : (f : List Float) × (z : List Float) × (d : Cycled) × (cycle_of o rest (depth + 1) f z (visited depth t) ≡ accepted d)
          × (swept depth (pre_sweeps_of o depth) (post_sweeps_of o depth) d.counts ≡ c.counts))
          → (depth + 1 ≤ j → Tallied j v p q (visited depth t) → Tallied j (v + 1) (p + pre_of o total j) (q + post_of o total j) s.2.counts)
          → (depth + 1 ≤ j) ⊎ (j < depth + 1) → Tallied j (v + 1) (p + pre_of o total j) (q + post_of o total j) c.counts
      by_place_lem s rec (inl deeper) =
          let other : j ≡ depth → ⊥ = λ same. absurd (omega arith) in
          let seen = subst (λ (i : ℕ). Tallied j v p q (count_of i 1 t)) (add-zero (4 * depth)) (counted_there k depth 0 1 (omega arith) other) in
          let deep = rec deeper seen in
          subst (Tallied j (v + 1) (p + pre_of o total j) (q + post_of o total j)) s.4
          (counted_there (counted_there deep depth 1 (pre_sweeps_of o depth) (omega arith) other) depth 2 (post_sweeps_of o depth) (omega arith) other)
      by_place_lem s rec (inr above) =
          let here : depth ≡ j = omega arith in
          subst (λ (i : ℕ). Tallied i v p q t → Tallied i (v + 1) (p + pre_of o total i) (q + post_of o total i) c.counts) here
          (λ k. here_inner depth total (let z = some in omega arith)
          (cycle_above rest (depth + 1) s.0 s.1 (visited depth t) {c = s.2} s.3 (omega arith) (visited_here k)) s.4) k

-- ---- the iterations

-- A number that stopped at 2^64 - 1, added, is the number added.
stopped_sum : (a b : ℕ) → saturating_sum a (min b 18446744073709551615) ≡ saturating_sum a b
stopped_sum a b = omega arith

module _ (y : System) (ending : Ending y.levels) (j : ℕ) (there : j < length y.levels) where
  -- the number of levels, and the sweeps of one visit
  abbrev total : ℕ
  total = length y.levels

  abbrev pre : ℕ
  pre = pre_of y.options total j

  abbrev post : ℕ
  post = post_of y.options total j

  -- the counters after so many iterations
  abbrev Done : ℕ → List ℕ → Type 0
  Done k t = Tallied j k (k * pre) (k * post) t

  module _ (rhs : List Float) (factor : Float) where
    -- One iteration makes one cycle,
    step_cycled : (s : State) {t : State} → step_of y rhs factor s ≡ accepted t
        → (c : Cycled) × (cycle_of y.options y.levels 0 s.residual (filled y.kernel.rows zero64) s.counts ≡ accepted c) × (c.counts ≡ t.counts)
    unfolding step_of
    step_cycled s e =
        let a = then_split (cycle_of y.options y.levels 0 s.residual (filled y.kernel.rows zero64) s.counts) _ e in
        let b = then_split (moved_of y rhs factor s.memory a.0.x s.residual s.x) _ a.2 in
        let d = then_split (measured_of y rhs factor _) _ b.2 in
        (a.0, a.1, ap (λ (z : State). z.counts) (accepted_one d.2))

    -- and counts it.
    step_done : (k : ℕ) (s : State) {t : State} → step_of y rhs factor s ≡ accepted t → Done k s.counts → Done (k + 1) t.counts
    step_done k s e d =
        let c = step_cycled s e in
        let a = add-mul k 1 pre in
        let b = add-mul k 1 post in
        let f = one-mul pre in
        let g = one-mul post in
        tallied_as y.options c.2 (omega arith) (omega arith)
        (cycle_here y.options ending 0 s.residual (filled y.kernel.rows zero64) s.counts c.1 total j (omega arith) (omega arith) there d)

    module _ (initial threshold : Float) where
      -- The iterations that are reported were counted.
      iterate_done : (more done : ℕ) (s : State) {v : Solution} → iterate_of y rhs factor initial threshold more done s ≡ accepted v → Done done s.counts
          → Done v.report.iterations v.counts
      unfolding iterate_of
      iterate_done zero done s e d = subst (λ (z : Solution). Done z.report.iterations z.counts) (accepted_one e) d
      iterate_done (suc more) done s {v} e d =
          let a = then_split (step_of y rhs factor s) _ e in
          by_test a.0 (iterate_done more (done + 1) a.0) (step_done done s a.1 d) (le a.0.last threshold) a.2
        where
          by_test : (t : State) → (iterate_of y rhs factor initial threshold more (done + 1) t ≡ accepted v → Done (done + 1) t.counts → Done v.report.iterations v.counts)
              → Done (done + 1) t.counts → (b : Bool)
              → cond b (accepted (solution LinearSolverStatus.Converged (done + 1) initial t)) (iterate_of y rhs factor initial threshold more (done + 1) t) ≡ accepted v
              → Done v.report.iterations v.counts
          by_test t rec now true is = subst (λ (z : Solution). Done z.report.iterations z.counts) (accepted_one is) now
          by_test t rec now false is = rec is now

  -- ---- the solve

  -- So were those of a solve.
  solve_done : length y.levels ≤ 128 → (s : LinearSolverOptions) (rhs x : List Float) {v : Solution} → solve_of y s rhs x ≡ accepted v
      → Done v.report.iterations v.counts
  unfolding solve_of run_of
  solve_done few s rhs x {v} e =
      let factor = factor_of y rhs x in
      let a = ask_split (lengths_ok y.kernel.rows rhs x) wrong_length _ e in
      let b = ask_split (input_ok s rhs x) bad_input _ a.1 in
      let c = ask_split (is_finite factor) bad_normalization _ (rw (ne_eqb (length y.levels) 0 (λ none. omega arith)) at b.1) in
      let residual = true_residual_of y rhs factor x in
      let d = then_split (measured_of y rhs factor residual) _ c.1 in
      by_test factor residual d.0 (threshold_of s.absolute_tolerance s.relative_tolerance d.0) (le d.0 (threshold_of s.absolute_tolerance s.relative_tolerance d.0)) d.2
    where
      none : Done 0 uncounted
      none = tallied_as y.options refl (sym (zero-mul pre)) (sym (zero-mul post)) (tallied_none j (omega arith))

      by_test : (factor : Float) (residual : List Float) (initial threshold : Float) (b : Bool)
          → cond b (accepted (solution LinearSolverStatus.Converged 0 initial (begun x residual initial)))
          (iterate_of y rhs factor initial threshold s.max_iterations 0 (begun x residual initial)) ≡ accepted v
          → Done v.report.iterations v.counts
      by_test factor residual initial threshold true is = subst (λ (z : Solution). Done z.report.iterations z.counts) (accepted_one is) none
      by_test factor residual initial threshold false is =
          iterate_done rhs factor initial threshold s.max_iterations 0 (begun x residual initial) is none

  -- What an accepted solve counted, added to a record, is what its controls, levels and iterations tell.
  pub solve_work : length y.levels ≤ 128 → (s : LinearSolverOptions) (rhs x : List Float) {v : Solution} → solve_of y s rhs x ≡ accepted v
      → (r : MultigridLevelStatistics) → counted_at v.counts j r ≡ after_iterations y.options (length y.levels) j v.report.iterations r
  unfolding counted_at
  solve_work few s rhs x {v} e r =
      let d = solve_done few s rhs x e in
      let k = v.report.iterations in
      let once : k * visits_per total j ≡ k = mul-one k in
      rw (d.came, d.before, d.behind, d.none, stopped_sum r.visits k, stopped_sum r.pre_sweeps (k * pre), stopped_sum r.post_sweeps (k * post), once)

-- ---- the Rust's one number

-- It grows by the sweeps of all visits, and stops at 2^64 - 1.
sweeps_grow : (visits pre post sweeps : ℕ) → sweeps ≤ 18446744073709551615
    → smoothing_sweeps_of visits pre post sweeps ≡ saturating_sum sweeps (visits * pre + visits * post)
unfolding smoothing_sweeps_of
sweeps_grow zero pre post sweeps few = let a = zero-mul pre in let b = zero-mul post in omega arith
sweeps_grow (suc visits) pre post sweeps few =
    let a = suc-mul visits pre in
    let b = suc-mul visits post in
    sweeps_grow visits pre post (saturating_sum sweeps (pre + post)) (omega arith) ∙ omega arith

module _ (o : MultigridOptions) (levels depth visits : ℕ) (r : MultigridLevelStatistics) where
  -- The sweeps before and after the correction are together the Rust's one number, which counts both at each visit, and stop with it.
  pub sweeps_together : sweeps_of (after_visits o levels depth visits r) ≡ smoothing_sweeps_of visits (pre_of o levels depth) (post_of o levels depth) (sweeps_of r)
  sweeps_together = sym (sweeps_grow visits (pre_of o levels depth) (post_of o levels depth) (sweeps_of r) (omega arith) ∙ omega arith)

  -- Where that number is below 2^64 - 1, it is their sum.
  pub sweeps_below : smoothing_sweeps_of visits (pre_of o levels depth) (post_of o levels depth) (sweeps_of r) < 18446744073709551615
      → (after_visits o levels depth visits r).pre_sweeps + (after_visits o levels depth visits r).post_sweeps
      ≡ smoothing_sweeps_of visits (pre_of o levels depth) (post_of o levels depth) (sweeps_of r)
  sweeps_below below = let e = sweeps_together in omega arith
