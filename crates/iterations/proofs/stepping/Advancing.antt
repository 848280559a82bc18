-- One iteration: what follows its cycle, and the whole.
-- Assumes nothing.
use Rattle.std.specs.Prelude.{Result, Ok, Err, Option, Some, None}
use mathlib.Core.Path.{◌≡◌, refl, sym, ap, ◌∙◌}
use mathlib.Core.List.{List}
use Prim.Native.Nat.{ℕ, ◌+◌, ◌≤◌}
use native.Mathlib.Nat.{mul-le-mul_right}
use native.Mathlib.Omega.{arith}
use lib.ListN.{length}
use lib.Ieee.{Float}
use Rattle.float.specs.Float.{zero64}
use Rattle.store.specs.Region.{part, Wrote, Kept}
use Rattle.store.specs.Vector.{filled}
use Rattle.store.proofs.store.Region.{wrote_at, kept_wrote, kept_on, kept_less, kept_part}
use Rattle.options.specs.declared.options.Handle.{Handle}
use Rattle.refusal.specs.declared.Refusal.{Refusal}
use Rattle.refusal.specs.Refusal.{bad_residual}
use Rattle.refusal.specs.Outcome.{Outcome, accepted, refused, ◌>>=◌}
use Rattle.refusal.proofs.Outcome.{then_accepted, then_refused, refuses, accepts_it}
use Rattle.matrix.specs.Kernel.{Kernel, kernel_at, apply_of}
use Rattle.matrix.proofs.matrix.Kernel.{kernel_kept, kernel_above}
use Rattle.correction.specs.Correction.{subtract_of}
use Rattle.acceleration.specs.Directions.{Pair, finite}
use Rattle.acceleration.specs.Gcr.{Corrections}
use Rattle.acceleration.specs.DirectionsContract.{memory_at}
use Rattle.acceleration.specs.AccelerationContract.{corrected_of}
use Rattle.residual_norm.specs.Measure.{measure_of}
use Rattle.layout.specs.Layout.{rows_at, view_of}
use Rattle.cycle.specs.Cycle.{Cycled, cycle_of}
use Rattle.cycle.specs.Contract.{cycle_at, CycleOk, CycleDone}
use Rattle.iterations.specs.declared.stepping.Regions.{Regions}
use Rattle.iterations.specs.declared.stepping.Stepped.{Stepped}
use Rattle.iterations.specs.Iteration.{System, State, after_of, true_residual_of, moved_of, step_of}
use Rattle.iterations.specs.System.{system_at}
use Rattle.iterations.specs.Steps.{stepped, StepOk, VectorsOk, Renewed, Moved, move_of, move_at, after_at, state_at, step_at, AdvanceDone, StepDone}
use Rattle.iterations.proofs.stepping.Moving.{memory_kept}
use Rattle.iterations.proofs.stepping.Placing.{vectors, move_ok, cycle_ok, rows_is, correction_is, system_kept, kernel_is, kernel_rows}

-- ---- after the cycle

-- Pairs are counted where a correction is accepted,
used_is : {r : Result ℕ Refusal} {stored : ℕ} (out : Outcome Corrections) → r ≡ corrected_of out → r ≡ Ok stored
    → (s : Corrections) × (out ≡ accepted s) × (length s.memory ≡ stored)
used_is (accepted s) e told = (s, refl, cc)
used_is (refused q) e told = absurd (let none : ◌≡◌ {A = ℕ} 0 1 = cc in omega arith)

-- and a refusal is the outcome's.
refused_is : {r : Result ℕ Refusal} {q : Refusal} (out : Outcome Corrections) → r ≡ corrected_of out → r ≡ Err q → out ≡ refused q
refused_is (accepted s) e told = absurd (let none : ◌≡◌ {A = ℕ} 0 1 = cc in omega arith)
refused_is (refused q) e told = cc

-- There is room for the correction.
pub fill_ok : {h : Handle} {w : List ℕ} {size : ℕ} {g : Regions} {used : ℕ} → StepOk h w size g used → g.correction + g.rows ≤ size
fill_ok ok = let l = vectors ok.ready in omega arith

module _ {h : Handle} {w : List ℕ} {size : ℕ} {g : Regions} {used other : ℕ} (ok : StepOk h w size g used) (same : other ≡ size) where
  -- What the residual requires.
  pub renew_ok : VectorsOk w other g
  renew_ok = rw same (vectors ok.ready)

  -- What its norm requires.
  pub measure_ok : {last : ℕ} → last ≡ other → g.residual + g.rows ≤ last
  measure_ok e = let l = vectors ok.ready in omega arith

-- the end of an iteration: the norm of a residual of so many rows
abbrev finished : Handle → Float → List ℕ → ℕ → List Float → List Float → List Pair → Outcome State
finished h factor counts rows x residual memory = do
  last ← finite bad_residual (measure_of h.options.residual_norm rows residual factor)
  accepted (record { x = x; residual = residual; memory = memory; counts = counts; last = last })

module _ {h : Handle} {w : List ℕ} (F : List Float) {g : Regions} {used : ℕ} (ok : StepOk h w (length F) g used) where
  abbrev y : System
  y = system_at h w F

  abbrev krylov : ℕ
  krylov = h.options.krylov_dimension

  abbrev n : ℕ
  n = g.rows

  abbrev rhs : List Float
  rhs = part g.rhs n F

  -- The solution is moved as the definition moves it.
  moved_is : (factor : Float) → moved_of y rhs factor (memory_at used n g.directions g.images F) (part g.correction n F) (part g.residual n F) (part g.solution n F)
      ≡ move_at w F g krylov used
  unfolding moved_of
  moved_is factor =
      let m = memory_at used n g.directions g.images F in
      let c = part g.correction n F in
      let r = part g.residual n F in
      let x = part g.solution n F in
      ap (λ (k : ℕ). move_of k y.kernel krylov m c r x) (kernel_rows ok.ready F)
      ∙ ap (λ (k : Kernel). move_of n k krylov m c r x) (kernel_is ok.ready F)

  module _ {G : List Float} {r : Result ℕ Refusal} (m : Moved krylov g (move_at w F g krylov used) F G r) where
    -- A refused correction.
    pub advance_no : {factor : Float} {q : Refusal} → r ≡ Err q → AdvanceDone h w F G g used factor (Err q)
    advance_no {factor} {q} told =
        let out = moved_is factor ∙ refused_is (move_at w F g krylov used) m.answer told in
        record {
          done = λ stored norm counts e. absurd (let none : ◌≡◌ {A = ℕ} 0 1 = cc in omega arith);
          fits = λ stored norm e. absurd (let none : ◌≡◌ {A = ℕ} 0 1 = cc in omega arith);
          refusal = λ p counts e. let same : q ≡ p = cc in then_refused (moved_of _ _ _ _ _ _ _) _ out ∙ ap refused same;
          floats = m.floats;
        }

    module _ {stored : ℕ} (told : r ≡ Ok stored) {H : List Float} (v : Renewed w G H g) where
      abbrev s : Corrections
      s = (used_is (move_at w F g krylov used) m.answer told).0

      taken : move_at w F g krylov used ≡ accepted s
      taken = (used_is (move_at w F g krylov used) m.answer told).1

      few : stored ≤ krylov
      few = m.fits stored told

      kept : Kept g.solution F H
      kept = let l = vectors ok.ready in kept_on m.floats (kept_less v.floats (omega arith))

      -- The residual is that of the moved solution.
      residual_is : (factor : Float) → part g.residual n H ≡ true_residual_of y rhs factor s.solution
      residual_is factor =
          let l = vectors ok.ready in
          let x : part g.solution n G ≡ s.solution = m.solved s taken in
          let b : part g.rhs n G ≡ rhs = kept_part m.floats _ _ (omega arith) in
          let k : kernel_at g.matrix w G ≡ kernel_at g.matrix w F = kernel_kept (kernel_above l.kernel (omega arith)) m.floats in
          let old : part g.residual n H ≡ subtract_of n rhs (apply_of (kernel_at g.matrix w F) s.solution) = v.left ∙ rw (x, b, k) in
          old ∙ ap (λ (k : Kernel). subtract_of n rhs (apply_of k s.solution)) (sym (kernel_is ok.ready F))
          ∙ ap (λ (m : ℕ). subtract_of m rhs (apply_of y.kernel s.solution)) (sym (kernel_rows ok.ready F))

      -- What is left of the iteration: the norm.
      after_is : (factor : Float) (counts : List ℕ)
          → after_at h w F g used factor counts
          ≡ ◌>>=◌ (finite bad_residual (measure_of h.options.residual_norm n (part g.residual n H) factor))
          (λ last. accepted (state_at g stored H counts last))
      after_is factor counts =
          let l = vectors ok.ready in
          let o = move_ok ok.ready few in
          let first = o.first in
          let second = o.second in
          let pairs = mul-le-mul_right n few in
          let x : part g.solution n H ≡ s.solution = kept_part v.floats _ _ (omega arith) ∙ m.solved s taken in
          let count : length s.memory ≡ stored = (used_is (move_at w F g krylov used) m.answer told).2 in
          let old : memory_at stored n g.directions g.images G ≡ s.memory =
          ap (λ (k : ℕ). memory_at k n g.directions g.images G) (sym count) ∙ m.stored s taken in
          let memory : memory_at stored n g.directions g.images H ≡ s.memory =
          memory_kept stored n g.directions g.images v.floats (omega arith) (omega arith) ∙ old in
          then_accepted (moved_of _ _ _ _ _ _ _) _ (moved_is factor ∙ taken)
          ∙ ap (λ (k : ℕ). finished h factor counts k s.solution (true_residual_of y rhs factor s.solution) s.memory) (kernel_rows ok.ready F)
          ∙ ap (λ (x : List Float). finished h factor counts n x (true_residual_of y rhs factor s.solution) s.memory) (sym x)
          ∙ ap (λ (r : List Float). finished h factor counts n (part g.solution n H) r s.memory) (sym (residual_is factor))
          ∙ ap (finished h factor counts n (part g.solution n H) (part g.residual n H)) (sym memory)

      module _ {factor : Float} {p : Option Float} (e : p ≡ measure_of h.options.residual_norm n (part g.residual n H) factor) where
        -- A norm that is finite.
        pub advance_yes : {last : Float} → p ≡ Some last → AdvanceDone h w F H g used factor (Ok (stepped stored last))
        advance_yes {last} t = record {
          done = λ stored' norm counts q.
              let same : stepped stored last ≡ stepped stored' norm = cc in
              let one : stored ≡ stored' = ap (λ (s : Stepped). s.used) same in
              let two : last ≡ norm = ap (λ (s : Stepped). s.last) same in
              after_is factor counts ∙ rw (← e, t, one, two);
          fits = λ stored' norm q.
              let same : stepped stored last ≡ stepped stored' norm = cc in
              let one : stored ≡ stored' = ap (λ (s : Stepped). s.used) same in
              rw one at few;
          refusal = λ q counts r. absurd (let none : ◌≡◌ {A = ℕ} 0 1 = cc in omega arith);
          floats = kept;
        }

        -- One that is not.
        pub advance_bad : p ≡ None → AdvanceDone h w F H g used factor (Err bad_residual)
        advance_bad t = record {
          done = λ stored' norm counts q. absurd (let none : ◌≡◌ {A = ℕ} 0 1 = cc in omega arith);
          fits = λ stored' norm q. absurd (let none : ◌≡◌ {A = ℕ} 0 1 = cc in omega arith);
          refusal = λ q counts r. let same : bad_residual ≡ q = cc in after_is factor counts ∙ rw (← e, t, same);
          floats = kept;
        }

-- ---- the whole iteration

module _ {h : Handle} {w : List ℕ} (F : List Float) {g : Regions} {used : ℕ} (ok : StepOk h w (length F) g used) where
  module _ {E : List Float} (z : Wrote g.correction g.rows (filled g.rows zero64) F E) where
    filled_kept : Kept g.correction F E
    filled_kept = kept_wrote z (omega arith)

    -- What the cycle requires.
    pub start_ok : CycleOk h.levels w (length E) 0 0 0 g.residual
    start_ok = rw z.size (cycle_ok ok.ready)

    -- The cycle starts from the residual and zeros.
    cycle_is : (t : List ℕ) → cycle_at h.options h.levels w E t 0 0 0 g.residual
        ≡ cycle_of h.options (system_at h w F).levels 0 (part g.residual g.rows F) (filled g.rows zero64) t
    unfolding view_of
    cycle_is t =
        let l = vectors ok.ready in
        let rows = rows_is ok.ready in
        let at = correction_is ok.ready in
        let levels = ap (λ (s : System). s.levels) (system_kept ok.ready filled_kept (omega arith) (omega arith)) in
        let residual : part g.residual (rows_at w 0) E ≡ part g.residual g.rows F =
        ap (λ (n : ℕ). part g.residual n E) (sym rows) ∙ kept_part filled_kept _ _ (omega arith) in
        let zeros : part (g.residual + rows_at w 0) (rows_at w 0) E ≡ filled g.rows zero64 =
        ap (λ (a : ℕ). part a (rows_at w 0) E) (sym at) ∙ ap (λ (n : ℕ). part g.correction n E) (sym rows) ∙ wrote_at z (fill_ok ok) in
        rw (levels, residual, zeros)

    -- An iteration is its cycle and what follows.
    step_is : (factor last : Float) (t : List ℕ) → step_at h w F t g used factor last
        ≡ ◌>>=◌ (cycle_at h.options h.levels w E t 0 0 0 g.residual)
        (λ c. after_of (system_at h w F) (part g.rhs g.rows F) factor (memory_at used g.rows g.directions g.images F)
        c.x (part g.residual g.rows F) (part g.solution g.rows F) c.counts)
    unfolding step_of
    step_is factor last t =
        let rest : Cycled → Outcome State = λ c. after_of (system_at h w F) (part g.rhs g.rows F) factor (memory_at used g.rows g.directions g.images F)
        c.x (part g.residual g.rows F) (part g.solution g.rows F) c.counts in
        ap (λ (n : ℕ). ◌>>=◌ (cycle_of h.options (system_at h w F).levels 0 (part g.residual g.rows F) (filled n zero64) t) rest) (kernel_rows ok.ready F)
        ∙ ap (λ (o : Outcome Cycled). ◌>>=◌ o rest) (sym (cycle_is t))

    module _ {G : List Float} {t u : List ℕ} {v : Result Unit Refusal}
        (d : CycleDone h.options h.levels w E G t u 0 0 0 g.residual v) where
      cycled_kept : Kept g.correction F G
      cycled_kept =
          let at = correction_is ok.ready in
          kept_on filled_kept (rw (← at) at d.floats)

      -- A refused cycle.
      pub step_no : {factor : Float} {q : Refusal} → v ≡ Err q → StepDone h w F G t u g used factor (Err q)
      step_no {factor} {q} told =
          let l = vectors ok.ready in
          let out = refuses (cycle_at h.options h.levels w E t 0 0 0 g.residual) d.answer told in
          record {
            done = λ stored norm last e. absurd (let none : ◌≡◌ {A = ℕ} 0 1 = cc in omega arith);
            fits = λ stored norm e. absurd (let none : ◌≡◌ {A = ℕ} 0 1 = cc in omega arith);
            refusal = λ p last e. let same : q ≡ p = cc in step_is factor last t ∙ then_refused _ _ out ∙ ap refused same;
            floats = kept_less cycled_kept (omega arith);
          }

      module _ (told : v ≡ Ok tt) where
        -- What follows requires no more.
        pub after_ok : StepOk h w (length G) g used
        after_ok = let e = cycled_kept.size in rw e ok

        -- It starts from what the cycle left.
        after_same : (factor last : Float) → step_at h w F t g used factor last ≡ after_at h w G g used factor u
        after_same factor last =
            let l = vectors ok.ready in
            let o = move_ok ok.ready ok.fits in
            let first = o.first in
            let second = o.second in
            let pairs = mul-le-mul_right g.rows ok.fits in
            let k = cycled_kept in
            let c = accepts_it (cycle_at h.options h.levels w E t 0 0 0 g.residual) d.answer told in
            let system = system_kept ok.ready k (omega arith) (omega arith) in
            let rhs : part g.rhs g.rows G ≡ part g.rhs g.rows F = kept_part k _ _ (omega arith) in
            let residual : part g.residual g.rows G ≡ part g.residual g.rows F = kept_part k _ _ (omega arith) in
            let solution : part g.solution g.rows G ≡ part g.solution g.rows F = kept_part k _ _ (omega arith) in
            let memory = memory_kept used g.rows g.directions g.images k (omega arith) (omega arith) in
            let correction : part g.correction g.rows G ≡ c.0.x =
            ap (λ (a : ℕ). part a g.rows G) (correction_is ok.ready) ∙ ap (λ (n : ℕ). part (g.residual + rows_at w 0) n G) (rows_is ok.ready)
            ∙ d.x c.0 c.1 in
            let counts : u ≡ c.0.counts = d.counts c.0 c.1 in
            step_is factor last t ∙ then_accepted _ _ c.1 ∙ cc

        -- The correction and the counters are the cycle's.
        pub step_on : {H : List Float} {factor : Float} {r : Result Stepped Refusal} → AdvanceDone h w G H g used factor r → StepDone h w F H t u g used factor r
        step_on {H} {factor} {r} a =
            let l = vectors ok.ready in
            record {
              done = λ stored norm last e. after_same factor last ∙ a.done stored norm u e;
              fits = a.fits;
              refusal = λ q last e. after_same factor last ∙ a.refusal q u e;
              floats = kept_on (kept_less cycled_kept (omega arith)) a.floats;
            }
