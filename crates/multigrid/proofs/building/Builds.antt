-- What an answer tells of a build: how many levels there are, the rows that it gives its call, and that weights which are not given play no
-- part.
-- Assumes nothing.
use Rattle.std.specs.Prelude.{Result, Ok, Err}
use mathlib.Core.Path.{◌≡◌, refl, sym, ap, ◌∙◌}
use mathlib.Core.Bool.{false}
use mathlib.Core.List.{List, []}
use Prim.Native.Nat.{ℕ, ◌≤◌}
use native.Mathlib.Omega.{arith}
use lib.ListN.{length, replicate}
use lib.Ieee.{Float}
use Rattle.options.specs.declared.options.MultigridOptions.{MultigridOptions}
use Rattle.options.specs.declared.options.Handle.{Handle}
use Rattle.refusal.specs.declared.Refusal.{Refusal}
use Rattle.refusal.specs.Outcome.{Outcome, accepted, refused}
use Rattle.hierarchy.specs.Level.{Hierarchy}
use Rattle.hierarchy.specs.Build.{Lent, Input, build_of}
use Rattle.layout.specs.Layout.{view_of}
use Rattle.solver.specs.declared.answers.BuildRun.{BuildRun}
use Rattle.build.specs.Built.{handle_of, built_of, lent_of, BuildDone}
use Rattle.build.specs.Steps.{input_of}
use Rattle.build_sound.proofs.Sound.{built_sound}
use Rattle.solve.proofs.Solving.{zeros_are}
use Rattle.multigrid.proofs.solving.Counting.{sound_few}
use Rattle.multigrid.specs.Contract.{cells_at, cells_of, table_of, table_built, CellsOk, BuildRan}
use Rattle.multigrid.proofs.building.Reading.{cells_are}

-- ---- the answer

-- Only an accepted build answers with a handle, and with its own,
pub made_is : (x : Input) {h : Handle} (out : Outcome Hierarchy) → Ok h ≡ built_of x out
    → (k : Hierarchy) × (out ≡ accepted k) × (h ≡ handle_of x k)
made_is x (accepted k) e = (k, refl, cc)
made_is x (refused q) e = absurd (let none : ◌≡◌ {A = ℕ} 0 1 = cc in omega arith)

-- and only a refused one with a refusal.
pub refused_is : (x : Input) {q : Refusal} (out : Outcome Hierarchy) → Err q ≡ built_of x out → out ≡ refused q
refused_is x (accepted k) e = absurd (let none : ◌≡◌ {A = ℕ} 0 1 = cc in omega arith)
refused_is x (refused q) e = cc

-- ---- the levels

module _ {w z : List ℕ} {F G : List Float} {records : ℕ} {x : Input} {r : Result Handle Refusal} (d : BuildDone w z F G x records r) where
  -- A build has at most 128 levels, and a record was lent for each.
  pub levels_few : (k : Hierarchy) → build_of (lent_of w F records) x ≡ accepted k → (length k.levels ≤ 128) × (length k.levels ≤ records)
  levels_few k e = sound_few (handle_of x k) z (length G) records
      (built_sound (lent_of w F records) x e z G (d.view k e) (d.fits k e) d.wordsize d.floatsize)

  -- The rows of a handle's levels can be read.
  pub cells_ok : {h : Handle} → r ≡ Ok h → CellsOk z h.levels
  cells_ok {h} e =
      let m = made_is x (build_of (lent_of w F records) x) (sym e ∙ d.answer) in
      let levels : h.levels ≡ length m.0.levels = ap (λ (k : Handle). k.levels) m.2 in
      record { fits = rw levels (d.fits m.0 m.1); few = rw levels (levels_few m.0 m.1).0 }

  -- The answer as it is told.
  told : {b : Result Handle Refusal} → r ≡ b → BuildDone w z F G x records b
  told e = rw e at d

  -- Rows that were read are those of the hierarchy.
  pub ran_made : {h : Handle} {table : List ℕ} → r ≡ Ok h → table ≡ table_of (cells_at h.levels z 0)
      → BuildRan w z F G records x (record { answer = Ok h; cells = table })
  unfolding table_built view_of
  ran_made {h} {table} e rows =
      let m = made_is x (build_of (lent_of w F records) x) (sym e ∙ d.answer) in
      let levels : h.levels ≡ length m.0.levels = ap (λ (k : Handle). k.levels) m.2 in
      let n = length m.0.levels in
      record {
        built = told e;
        cells = rows ∙ ap (λ (k : ℕ). table_of (cells_at k z 0)) levels ∙ ap table_of (cells_are n z G 0 0)
            ∙ ap (λ (k : Hierarchy). table_of (cells_of k.levels)) (d.view m.0 m.1) ∙ sym (ap table_built m.1);
      }

  -- Where the build refuses there are none.
  pub ran_refused : {q : Refusal} {table : List ℕ} → r ≡ Err q → table ≡ replicate 128 0
      → BuildRan w z F G records x (record { answer = Err q; cells = table })
  unfolding table_built
  ran_refused {q} e zeros =
      let none = refused_is x (build_of (lent_of w F records) x) (sym e ∙ d.answer) in
      record { built = told e; cells = zeros ∙ zeros_are 128 ∙ sym (ap table_built none) }

-- ---- weights that are not given

module _ (rows : ℕ) (offsets columns : List ℕ) (values weights : List Float) (o : MultigridOptions) where
  -- the input of a build without weights, with some handed over all the same
  abbrev with_some : Input
  with_some = input_of rows offsets columns values false weights o

  -- and with none
  abbrev with_none : Input
  with_none = input_of rows offsets columns values false [] o

  -- A build without weights does not depend on any,
  pub weights_unread : (l : Lent) → build_of l with_some ≡ build_of l with_none
  unfolding build_of
  weights_unread l = refl

  -- nor does its answer,
  answer_unread : (out : Outcome Hierarchy) → built_of with_some out ≡ built_of with_none out
  answer_unread (accepted h) = refl
  answer_unread (refused q) = refl

  -- nor what it leaves.
  pub done_unweighted : {w z : List ℕ} {F G : List Float} {records : ℕ} {r : Result Handle Refusal} → BuildDone w z F G with_none records r
      → BuildDone w z F G with_some records r
  done_unweighted {w} {z} {F} {G} {records} {r} b =
      let l = lent_of w F records in
      let same = weights_unread l in
      record {
        answer = b.answer ∙ sym (ap (built_of with_some) same ∙ answer_unread (build_of l with_none));
        view = λ h e. b.view h (sym same ∙ e);
        fits = λ h e. b.fits h (sym same ∙ e);
        heads = λ h e. b.heads h (sym same ∙ e);
        words = λ q e. b.words q (sym same ∙ e);
        floats = λ q e. b.floats q (sym same ∙ e);
        wordsize = b.wordsize;
        floatsize = b.floatsize;
      }
