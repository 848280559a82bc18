-- The levels that the build leaves, and its last level: what the functions require and ensure. Definitions only.
use Rattle.std.specs.Prelude.{◌≡◌, Bool, true, List, ℕ, ◌+◌, ◌≤◌, length, Float, Result, Ok, Err}
use Rattle.store.specs.Region.{Kept}
use Rattle.options.specs.declared.options.MultigridOptions.{MultigridOptions}
use Rattle.refusal.specs.declared.Refusal.{Refusal}
use Rattle.refusal.specs.Outcome.{Outcome, accepted, refused}
use Rattle.hierarchy.specs.Level.{Level}
use Rattle.hierarchy.specs.Build.{last_level}
use Rattle.layout.specs.declared.Place.{Place}
use Rattle.layout.specs.Layout.{levels_at, image_end, words_fit}
use Rattle.layout.specs.Headers.{heads_at, heads_of}
use Rattle.layout.specs.Placed.{coefficients_at}
use Rattle.coarsening.specs.declared.coarsen.Workspace.{Workspace}
use Rattle.coarsening.specs.CoarsenContract.{mesh_at}
use Rattle.build_level.specs.declared.laying.Frontier.{Frontier}
use Rattle.build_level.specs.LayingContract.{level_in, ControlsOk, ChooseOk}
use Rattle.build_level.specs.declared.coarsest.Growth.{Growth}

-- What the levels from level number `level` on leave, whose outcome is `out`: the answer, and where it accepts, the levels in the
-- stores from a and b on with their headers, which end before the temporaries with room for the row sums of the finest. Below them nothing changed.
pub record Levels (w z : List ℕ) (F G : List Float) (t : Workspace) (level a b : ℕ) (out : Outcome (List Level)) (r : Result Growth Refusal) : Type 0 where
  pub made : (ls : List Level) → out ≡ accepted ls → r ≡ Ok (record { levels = level + length ls; end = image_end (length ls) z a b })
  pub refusal : (q : Refusal) → out ≡ refused q → r ≡ Err q
  pub view : (ls : List Level) → out ≡ accepted ls → levels_at (length ls) z G a b ≡ ls
  pub fits : (ls : List Level) → out ≡ accepted ls → words_fit (length ls) z a ≡ true
  pub heads : (ls : List Level) → out ≡ accepted ls → heads_at (length ls) z a ≡ heads_of ls
  pub ends : (ls : List Level) → out ≡ accepted ls → image_end (length ls) z a b + t.rows ≤ t.values
  pub words : Kept a w z
  pub floats : Kept b F G

-- What the last level requires: the controls, a level that stands at p, and a count of levels that fits.
pub record LastOk (w : List ℕ) (size : ℕ) (o : MultigridOptions) (t : Workspace) (s : Frontier) (p : Place) : Type 0 where
  pub controls : ControlsOk o
  pub level : ChooseOk w size o t s p
  pub count : s.level + 1 ≤ 18446744073709551615

-- What it ensures: the level of questions 14 and 15.
pub record Ended (w z : List ℕ) (F G : List Float) (o : MultigridOptions) (given : Bool) (t : Workspace) (s : Frontier) (p : Place) (r : Result Growth Refusal) : Type 0 where
  pub levels : Levels w z F G t s.level s.a s.b (last_level o s.level (mesh_at w F given (level_in t p)) (coefficients_at F p)) r
