-- The iterations of a solve: what is left of them gives the whole.
-- Assumes nothing.
use Rattle.std.specs.Prelude.{Result, Ok, Err}
use mathlib.Core.Path.{◌≡◌, sym, ap, ◌∙◌}
use mathlib.Core.Bool.{true, false, cond}
use mathlib.Core.List.{List}
use Prim.Native.Nat.{ℕ, suc, ◌+◌, ◌-◌, ◌≤◌, ◌<◌}
use native.Mathlib.Nat.{sub-zero}
use native.Mathlib.Omega.{arith}
use lib.ListN.{length}
use lib.Ieee.{Float, le}
use Rattle.store.specs.Region.{part, Kept}
use Rattle.store.proofs.store.Region.{kept_on, kept_self, kept_part}
use Rattle.options.specs.declared.options.Handle.{Handle}
use Rattle.solver.specs.declared.solver.LinearSolverStatus.{LinearSolverStatus}
use Rattle.solver.specs.declared.solver.LinearSolveReport.{LinearSolveReport}
use Rattle.refusal.specs.declared.Refusal.{Refusal}
use Rattle.refusal.specs.Outcome.{Outcome, accepted, refused, ◌>>=◌}
use Rattle.refusal.proofs.Outcome.{then_accepted, then_refused, accepted_one}
use Rattle.iterations.specs.declared.stepping.Regions.{Regions}
use Rattle.iterations.specs.declared.stepping.Stepped.{Stepped}
use Rattle.iterations.specs.Iteration.{State, step_of}
use Rattle.iterations.specs.System.{system_at}
use Rattle.iterations.specs.Steps.{Ready, StepOk, state_at, step_at, stepped, StepDone}
use Rattle.iterations.proofs.stepping.Placing.{vectors, system_kept}
use Rattle.solver.specs.Solver.{report_of}
use Rattle.iterations.specs.Iterate.{Solution, solution, iterate_of, answer_of}
use Rattle.iterations.specs.Contract.{Ran, iterate_at, Iterating}

module _ {g : Regions} {out : Outcome Solution} {F G : List Float} {u : List ℕ} (kept : Kept g.solution F G) where
  -- An accepted solve leaves its state and reports it.
  pub ran_accepted : {status : LinearSolverStatus} {iterations : ℕ} {initial last : Float} {report : LinearSolveReport}
      → out ≡ accepted (record { report = report_of status iterations initial last; x = part g.solution g.rows G; counts = u }) → report ≡ report_of status iterations initial last
      → Ran g out F G u (Ok report)
  ran_accepted e told = record {
    answer = ap Ok told ∙ sym (ap answer_of e);
    solved = λ v r. ap (λ (s : Solution). s.x) (accepted_one (sym e ∙ r));
    counted = λ v r. ap (λ (s : Solution). s.counts) (accepted_one (sym e ∙ r));
    floats = kept;
  }

  -- A refused one answers its refusal.
  pub ran_refused : {q : Refusal} → out ≡ refused q → Ran g out F G u (Err q)
  ran_refused {q} e = record {
    answer = sym (ap answer_of e);
    solved = λ v r. absurd (let none : ◌≡◌ {A = ℕ} 0 1 = cc in omega arith);
    counted = λ v r. absurd (let none : ◌≡◌ {A = ℕ} 0 1 = cc in omega arith);
    floats = kept;
  }

module _ {h : Handle} {w : List ℕ} (F : List Float) {t : List ℕ} {g : Regions} {factor initial threshold : Float} {limit : ℕ}
    (ready : Ready h w (length F) g) where
  -- Before the first nothing is stored.
  pub iterating_start : Iterating h w F F t t g factor initial threshold limit 0 initial 0
  iterating_start = record {
    gives = ap (λ (k : ℕ). iterate_of (system_at h w F) (part g.rhs g.rows F) factor initial threshold k 0 (state_at g 0 F t initial)) (sub-zero limit);
    fits = omega arith;
    within = omega arith;
    floats = kept_self;
  }

  module _ {G : List Float} {u : List ℕ} {used : ℕ} {last : Float} {done : ℕ}
      (i : Iterating h w F G t u g factor initial threshold limit used last done) where
    -- What an iteration requires.
    pub iterating_ok : StepOk h w (length G) g used
    iterating_ok = let e = i.floats.size in record { ready = rw e ready; fits = i.fits }

    -- When all are done.
    pub iterating_end : limit ≤ done → {report : LinearSolveReport} → report ≡ report_of LinearSolverStatus.MaxIterations limit initial last
        → Ran g (iterate_at h w F t g factor initial threshold limit) F G u (Ok report)
    unfolding iterate_of
    iterating_end end told =
        let none : limit - done ≡ 0 = omega arith in
        let within = i.within in
        let all : limit ≡ done = omega arith in
        ran_accepted i.floats (sym i.gives
        ∙ ap (λ (k : ℕ). iterate_of (system_at h w F) (part g.rhs g.rows F) factor initial threshold k done (state_at g used G u last)) none)
        (told ∙ ap (λ (k : ℕ). report_of LinearSolverStatus.MaxIterations k initial last) all)

    module _ {H : List Float} {v : List ℕ} {r : Result Stepped Refusal} (more : done < limit) (d : StepDone h w G H u v g used factor r) where
      -- It is the iteration of the definition.
      step_same : step_at h w G u g used factor last ≡ step_of (system_at h w F) (part g.rhs g.rows F) factor (state_at g used G u last)
      step_same =
          let l = vectors ready in
          let system = system_kept ready i.floats (omega arith) (omega arith) in
          let rhs : part g.rhs g.rows G ≡ part g.rhs g.rows F = kept_part i.floats _ _ (omega arith) in
          rw (system, rhs)

      -- What is left: this iteration, and the rest.
      opened : iterate_at h w F t g factor initial threshold limit
          ≡ ◌>>=◌ (step_at h w G u g used factor last) (λ s.
          cond (le s.last threshold) (accepted (solution LinearSolverStatus.Converged (done + 1) initial s))
          (iterate_of (system_at h w F) (part g.rhs g.rows F) factor initial threshold (limit - (done + 1)) (done + 1) s))
      unfolding iterate_of
      opened =
          let y = system_at h w F in
          let rhs = part g.rhs g.rows F in
          let one : limit - done ≡ suc (limit - (done + 1)) = omega arith in
          let rest : State → Outcome Solution = λ s.
          cond (le s.last threshold) (accepted (solution LinearSolverStatus.Converged (done + 1) initial s))
          (iterate_of y rhs factor initial threshold (limit - (done + 1)) (done + 1) s) in
          sym i.gives
          ∙ ap (λ (k : ℕ). iterate_of y rhs factor initial threshold k done (state_at g used G u last)) one
          ∙ ap (λ (o : Outcome State). ◌>>=◌ o rest) (sym step_same)

      kept : Kept g.solution F H
      kept = kept_on i.floats d.floats

      module _ {stored : ℕ} {norm : Float} (told : r ≡ Ok (stepped stored norm)) where
        -- A residual above the threshold leads on.
        pub iterating_on : le norm threshold ≡ false → Iterating h w F H t v g factor initial threshold limit stored norm (done + 1)
        iterating_on above = record {
          gives = sym (opened ∙ then_accepted _ _ (d.done stored norm last told) ∙ rw above);
          fits = d.fits stored norm told;
          within = omega arith;
          floats = kept;
        }

        -- One at or below it ends the solve.
        pub iterating_yes : le norm threshold ≡ true → {report : LinearSolveReport}
            → report ≡ report_of LinearSolverStatus.Converged (done + 1) initial norm
            → Ran g (iterate_at h w F t g factor initial threshold limit) F H v (Ok report)
        iterating_yes below is = ran_accepted kept (opened ∙ then_accepted _ _ (d.done stored norm last told) ∙ rw below) is

      -- A refused iteration ends it too.
      pub iterating_no : {q : Refusal} → r ≡ Err q → Ran g (iterate_at h w F t g factor initial threshold limit) F H v (Err q)
      iterating_no {q} told = ran_refused kept (opened ∙ then_refused _ _ (d.refusal q last told))
