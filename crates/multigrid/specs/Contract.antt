-- The calls up to their statistics, of which they know the number of records alone: what their functions require and ensure. Definitions only.
use Rattle.std.specs.Prelude.{◌≡◌, true, false, List, [], ◌∷◌, ℕ, zero, suc, ◌≤◌, length, Float}
use Rattle.store.specs.Region.{lay}
use Rattle.store.specs.Vector.{filled}
use Rattle.options.specs.declared.options.Handle.{Handle}
use Rattle.solver.specs.declared.solver.LinearSolverOptions.{LinearSolverOptions}
use Rattle.refusal.specs.Outcome.{Outcome, accepted, refused}
use Rattle.hierarchy.specs.Level.{Level, Hierarchy}
use Rattle.hierarchy.specs.Build.{Input, build_of}
use Rattle.layout.specs.Layout.{rows_at, words_end, words_fit, view_of}
use Rattle.index_check.specs.Sound.{sound_of}
use Rattle.solver.specs.declared.answers.BuildRun.{BuildRun}
use Rattle.solver.specs.declared.answers.SolveRun.{SolveRun}
use Rattle.build.specs.Built.{lent_of, BuildDone}
use Rattle.solve.specs.Contract.{SolveDone}
use Rattle.multigrid.specs.SolvingCall.{solved_of}

-- ---- a build

-- the rows of so many levels whose words start at a, as these tell them
unfoldable pub cells_at : ℕ → List ℕ → ℕ → List ℕ
cells_at zero w a = []
cells_at (suc more) w a = rows_at w a ∷ cells_at more w (words_end w a)

-- the rows of levels
unfoldable pub cells_of : List Level → List ℕ
cells_of [] = []
cells_of (l ∷ levels) = l.shape.pattern.rows ∷ cells_of levels

-- a table for the rows of 128 levels, the most that there are
abbrev pub table_of : List ℕ → List ℕ
table_of cells = lay cells (filled 128 0)

-- that of the levels of a build; zeros where it is refused
unfoldable pub table_built : Outcome Hierarchy → List ℕ
table_built (accepted h) = table_of (cells_of h.levels)
table_built (refused q) = filled 128 0

-- What reading the rows of so many levels requires: their words lie in the store, and the table has a place for each.
pub record CellsOk (w : List ℕ) (levels : ℕ) : Type 0 where
  pub fits : words_fit levels w 0 ≡ true
  pub few : levels ≤ 128

-- What a build in lent stores w and F with so many records leaves: z and G; and what it gives its call.
pub record BuildRan (w z : List ℕ) (F G : List Float) (records : ℕ) (x : Input) (run : BuildRun) : Type 0 where
  pub built : BuildDone w z F G x records run.answer
  pub cells : run.cells ≡ table_built (build_of (lent_of w F records) x)

-- ---- a solve

-- What a solve with the stores w and F and so many records leaves: G and, in place of x, y; and what it gives its call. The hierarchy in the
-- stores is as it was; refused by question 19, every float is.
pub record SolveRan (h : Handle) (w : List ℕ) (F G : List Float) (records : ℕ) (rhs x y : List Float) (s : LinearSolverOptions) (run : SolveRun) : Type 0 where
  pub done : SolveDone h w F G x y (solved_of h w F records rhs x s) run
  pub view : view_of h.levels w G 0 ≡ view_of h.levels w F 0
  pub unsound : sound_of h w (length F) records ≡ false → G ≡ F
