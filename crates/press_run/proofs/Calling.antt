-- As much of an array as the run's matrix has is what a call sees. Assumes nothing.
use Rattle.solver.specs.declared.solver.LinearSolveReport.{LinearSolveReport}
use Rattle.refusal.specs.declared.Refusal.{Refusal}
use Rattle.std.specs.Prelude.{Result, Option, is_some, unwrap_or, option_copied}
use Rattle.std.specs.Bool.{then_some}
use denote.Ref.{Bor}
use mathlib.Core.Path.{◌≡◌, sym, ap, subst, ◌∙◌, refl}
use mathlib.Core.Bool.{Bool, true, false, cond}
use mathlib.Core.List.{List, [], ◌++◌, append-nil}
use mathlib.Core.Logic.{⊎_elim}
use Prim.Native.Nat.{ℕ, min}
use native.Mathlib.Omega.{arith}
use lib.ListN.{length, take, drop, length-take, drop_of_length-le}
use lib.Seq.{take_all, take-length, take-append_seam, drop-append_seam}
use lib.Ieee.{Float}
use Rattle.store.proofs.store.Region.{le_or_lt}
use Rattle.hierarchy.specs.Build.{Input}
use Rattle.solver.specs.declared.solver.LinearSolverOptions.{LinearSolverOptions}
use Rattle.lists.specs.declared.source.Matrix.{Matrix}
use Rattle.lists.specs.Calls.{source_in, BuildOver, SolveOver}
use Rattle.options.specs.declared.options.MultigridOptions.{MultigridOptions}
use Rattle.options.specs.declared.options.Handle.{Handle}
use Rattle.record_order.specs.declared.Came.{Came}
use Rattle.press_run.specs.Acting.{run_rows, run_offsets, run_entries, run_vector, run_input, RunBuild, RunSolve}

-- the weights are given where they came
given : (b : Bool) (v : Bor (List Float)) → (is_some (then_some b v) ≡ b) × (unwrap_or (option_copied (then_some b v)) [] ≡ cond b v.now [])
given true v = (refl, refl)
given false v = (refl, refl)

pub run_build : (q : Matrix) (d : Bor (List Float)) (p : Came) (o : MultigridOptions) (O C : List ℕ) (X W : List Float) {g : Option (Bor (List Float))} {rows : ℕ} {w z : List ℕ} {F G : List Float} {S S' : List ℕ} {r : Result Handle Refusal}
    → rows ≡ run_rows p → q.offsets.now ≡ run_offsets p O → q.columns.now ≡ run_entries p C → q.values.now ≡ run_entries p X → d.now ≡ run_entries p W → g ≡ then_some p.weights d
    → BuildOver w z F G S S' (source_in (record { rows = rows; matrix = q; weights = g; options = o })) r → RunBuild p o O C X W w z F G S S' r
run_build q d p o O C X W {g} {rows} {w} {z} {F} {G} {S} {S'} {r} few a b c e f done =
    subst (λ (x : Input). BuildOver w z F G S S' x r)
    (let is : source_in (record { rows = rows; matrix = q; weights = g; options = o }) ≡ run_input p o O C X W =
    rw (f, (given p.weights d).0, (given p.weights d).1, few, a, b, c, e) in is) done

-- a part that was written in place is the part of the whole, and the others stay
module _ (n : ℕ) (X Z : List Float) {b : ℕ} (e : b ≡ min n (length X)) (same : length Z ≡ length (take b X)) where
  long : length Z ≡ b
  long = same ∙ length-take b X ∙ omega arith

  part_written : (take n (Z ++ drop b X) ≡ Z) × (drop n (Z ++ drop b X) ≡ drop n X) × (take b X ≡ take n X)
  part_written =
      ⊎_elim
      (λ h. let z : n ≡ length Z = omega (arith, long) in let y : b ≡ n = omega arith in (
        ap (λ (k : ℕ). take k (Z ++ drop b X)) z ∙ take-append_seam Z (drop b X),
        ap (λ (k : ℕ). drop k (Z ++ drop b X)) z ∙ drop-append_seam Z (drop b X) ∙ ap (λ (k : ℕ). drop k X) y,
        ap (λ (k : ℕ). take k X) y,
      ))
      (λ h. let none : drop b X ≡ [] = drop_of_length-le X {i = b} (omega arith) in let all : Z ++ drop b X ≡ Z = ap (λ (l : List Float). Z ++ l) none ∙ append-nil Z in
      let y : b ≡ length X = omega arith in (
        ap (take n) all ∙ take_all n Z (omega (arith, long)),
        ap (drop n) all ∙ drop_of_length-le Z {i = n} (omega (arith, long)) ∙ sym (drop_of_length-le X {i = n} (omega arith)),
        ap (λ (k : ℕ). take k X) y ∙ take-length X ∙ sym (take_all n X (omega arith)),
      ))
      (le_or_lt n (length X))

pub run_solve : (p : Came) (h : Handle) (s : LinearSolverOptions) (R X Z : List Float) {v : List Float} {b : ℕ} {w : List ℕ} {F G : List Float} {S S' : List ℕ} {r : Result LinearSolveReport Refusal} → v ≡ run_vector p R
    → b ≡ min p.rows (length X) → length Z ≡ length (take b X) → SolveOver h w F G S S' v (take b X) Z s r
    → RunSolve p h s R X (Z ++ drop b X) w F G S S' r
run_solve p h s R X Z {v} {b} {w} {F} {G} {S} {S'} {r} e f same done =
    let t = part_written p.rows X Z f same in
    record { call = rw (t.0, ← e, ← t.2) done; rest = t.1 }
