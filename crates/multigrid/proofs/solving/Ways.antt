-- A solve of any stores: what it gives its call where the index check passes, and where it does not. No answer depends on a scratch word.
-- Assumes nothing.
use mathlib.Core.Path.{◌≡◌, refl, ap}
use mathlib.Core.Bool.{true, false}
use mathlib.Core.List.{List}
use Prim.Native.Nat.{ℕ}
use native.Mathlib.Omega.{arith}
use lib.ListN.{length}
use lib.Ieee.{Float}
use Rattle.store.specs.Region.{Kept}
use Rattle.store.proofs.store.Region.{kept_self}
use Rattle.pattern.proofs.pattern.Number.{not_both}
use Rattle.options.specs.declared.options.Handle.{Handle}
use Rattle.solver.specs.declared.solver.LinearSolverOptions.{LinearSolverOptions}
use Rattle.refusal.specs.Refusal.{unsound_stores}
use Rattle.refusal.proofs.Outcome.{never}
use Rattle.layout.specs.Layout.{view_of}
use Rattle.index_check.specs.Sound.{sound_of, scratch_start}
use Rattle.solver.specs.declared.answers.SolveRun.{SolveRun}
use Rattle.solve.specs.Solved.{solved_at}
use Rattle.solve.specs.Contract.{refused_run, SolveDone}
use Rattle.solve.specs.Steps.{SolveOk}
use Rattle.solve.proofs.Solving.{solve_ready}
use Rattle.update.proofs.shadow.Moving.{view_stays}
use Rattle.multigrid.specs.SolvingCall.{solved_of}
use Rattle.multigrid.specs.Contract.{SolveRan}

-- The hierarchy in the stores is as it was where nothing below the scratch changed.
view_same : (levels : ℕ) (w : List ℕ) {F G : List Float} → Kept (scratch_start levels w) F G → view_of levels w G 0 ≡ view_of levels w F 0
view_same levels w k = view_stays k levels w (omega arith)

-- What the index check tells a solve.
pub solve_opened : {h : Handle} {w : List ℕ} {size : ℕ} (records : ℕ) → sound_of h w size records ≡ true → SolveOk h w size
solve_opened {h} {w} {size} records e = solve_ready h w size records e

-- The index check passes: the solve of the hierarchy in the stores.
pub ran_sound : {h : Handle} {w : List ℕ} {F G : List Float} {records : ℕ} {rhs x y : List Float} {s : LinearSolverOptions} {run : SolveRun}
    → sound_of h w (length F) records ≡ true → SolveDone h w F G x y (solved_at h w F rhs x s) run
    → SolveRan h w F G records rhs x y s run
ran_sound {h} {w} e d = record { done = rw e d; view = view_same h.levels w d.floats; unsound = λ f. absurd (not_both e f) }

-- It does not: nothing is written, and nothing counted.
pub ran_unsound : {h : Handle} {w : List ℕ} {F : List Float} {records : ℕ} {rhs x : List Float} {s : LinearSolverOptions} {run : SolveRun}
    → sound_of h w (length F) records ≡ false → run ≡ refused_run unsound_stores → SolveRan h w F F records rhs x x s run
ran_unsound e is = record {
  done = rw e (record {
    answer = ap (λ (r : SolveRun). r.answer) is;
    solution = refl;
    levels = ap (λ (r : SolveRun). r.levels) is;
    counts = λ v yes. never refl yes;
    floats = kept_self;
  });
  view = refl;
  unsound = λ _. refl;
}

-- No solve depends on a scratch word: of two stores of one size with the same hierarchy, each gives the other's answer, solution and counts.
pub solve_free : (h : Handle) (w : List ℕ) (F G : List Float) (records : ℕ) (rhs x : List Float) (s : LinearSolverOptions)
    → length G ≡ length F → view_of h.levels w G 0 ≡ view_of h.levels w F 0
    → solved_of h w G records rhs x s ≡ solved_of h w F records rhs x s
solve_free h w F G records rhs x s size view = rw (size, view)
