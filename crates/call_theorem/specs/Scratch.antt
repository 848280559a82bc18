-- What is scratch in the two stores, and what calls in stores that agree outside of it have in common. Definitions only.
-- The law that no answer depends on scratch is `scratch-unread` of proofs/Scratch.antt.
use Rattle.solver.specs.declared.solver.LinearSolveReport.{LinearSolveReport}
use Rattle.refusal.specs.declared.Refusal.{Refusal}
use Rattle.std.specs.Prelude.{◌≡◌, Bool, false, ◌&&◌, ◌||◌, List, ℕ, zero, suc, ◌+◌, leb, ltb, length, Float, Result}
use Rattle.store.specs.Region.{at, idx}
use Rattle.options.specs.declared.options.Handle.{Handle}
use Rattle.solver.specs.declared.solver.LinearSolverOptions.{LinearSolverOptions}
use Rattle.layout.specs.Layout.{locate, words_end, floats_end, words_to, image_of}
use Rattle.solver.specs.declared.statistics.MultigridLevelStatistics.{MultigridLevelStatistics}
use Rattle.multigrid.specs.UpdatingCall.{UpdateCall}
use Rattle.multigrid.specs.SolvingCall.{SolveCall}
use Rattle.multigrid.specs.CountingCall.{counted_of}

-- ---- scratch

-- whether word i is scratch: it lies past the last of so many levels
abbrev pub scratch_word : ℕ → List ℕ → ℕ → Bool
scratch_word levels w i = leb (words_to levels w 0) i

-- whether float i is one of the values of the level at a and b
abbrev pub own_value : List ℕ → ℕ → ℕ → ℕ → Bool
own_value w a b i = let p = locate w a b in leb p.values i && ltb i (p.values + p.entries)

-- whether it is one of those of so many levels from there on
unfoldable pub value_at : ℕ → List ℕ → ℕ → ℕ → ℕ → Bool
value_at zero w a b i = false
value_at (suc more) w a b i = own_value w a b i || value_at more w (words_end w a) (floats_end w a b) i

-- whether float i is scratch: one of a level's values, or past the image, where the shadow, a solve's vectors and what else is lent lie
abbrev pub scratch_float : ℕ → List ℕ → ℕ → Bool
scratch_float levels w i = value_at levels w 0 0 i || leb (image_of levels w) i

-- ---- stores that agree

-- The stores w' and F' have the sizes of w and F, and hold the same wherever w and F have no scratch.
pub record Agree (levels : ℕ) (w w' : List ℕ) (F F' : List Float) : Type 0 where
  pub wordsize : length w' ≡ length w
  pub words : (i : ℕ) → scratch_word levels w i ≡ false → idx w' i ≡ idx w i
  pub floatsize : length F' ≡ length F
  pub floats : (i : ℕ) → scratch_float levels w i ≡ false → at F' i ≡ at F i

-- What one call in w and F and one in w' and F' have in common, whatever the handle and the stores, if all else that they are given is
-- the same: the answer, the solution, the statistics, and all that the stores hold outside scratch. An update and a solve write no words.
pub record Unread (h : Handle) (w w' : List ℕ) (F F' : List Float) (t : List MultigridLevelStatistics) : Type 0 where
  pub update : {G G' : List Float} {offsets columns : List ℕ} {values : List Float} {r r' : Result Unit Refusal}
      → UpdateCall h w F G (length t) offsets columns values r → UpdateCall h w' F' G' (length t) offsets columns values r'
      → (r' ≡ r) × Agree h.levels w w' G G'
  pub solve : {G G' : List Float} {u u' : List MultigridLevelStatistics} {rhs x y y' : List Float} {s : LinearSolverOptions} {r r' : Result LinearSolveReport Refusal}
      → SolveCall h w F G t u rhs x y s r → SolveCall h w' F' G' t u' rhs x y' s r'
      → (r' ≡ r) × (y' ≡ y) × (u' ≡ u) × Agree h.levels w w' G G'
  pub statistics : counted_of h w' F' (length t) ≡ counted_of h w F (length t)
