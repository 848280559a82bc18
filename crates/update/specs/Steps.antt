-- The steps of an update: what the inner functions require and ensure. Definitions only.
use Rattle.std.specs.Prelude.{◌≡◌, List, ℕ, ◌*◌, ◌≤◌, length, Float, Result, Ok}
use Rattle.store.specs.Region.{Kept}
use Rattle.options.specs.declared.options.Handle.{Handle}
use Rattle.options.specs.declared.options.MultigridOptions.{MultigridOptions}
use Rattle.refusal.specs.declared.Refusal.{Refusal}
use Rattle.refusal.specs.Outcome.{Outcome, refused, verdict_of}
use Rattle.hierarchy.specs.Level.{Hierarchy}
use Rattle.hierarchy.specs.First.{shapes_in}
use Rattle.layout.specs.Layout.{levels_at, view_of, image_of}
use Rattle.index_check.specs.Sound.{walk_of}
use Rattle.update_levels.specs.Update.{update_of}
use Rattle.update_levels.specs.Steps.{Chain}
use Rattle.update.specs.Updated.{hierarchy_of}

-- ---- the copy

-- The levels lie in the words, and the image and its shadow in the floats.
pub record CommitOk (levels : ℕ) (w : List ℕ) (size image : ℕ) : Type 0 where
  pub chain : Chain w size levels 0 0 0
  pub some : 1 ≤ levels
  pub is : image ≡ image_of levels w
  pub room : 2 * image ≤ size

-- The levels in the shadow are the levels.
pub record Committed (levels : ℕ) (w : List ℕ) (F G : List Float) (image : ℕ) : Type 0 where
  pub same : levels_at levels w G 0 0 ≡ levels_at levels w F 0 image
  pub size : length G ≡ length F

-- ---- the update

-- What an update of so many levels requires: the walk of question 19 went through them, and there is room for the image and its shadow.
pub record AttemptOk (levels : ℕ) (w : List ℕ) (size : ℕ) : Type 0 where
  pub some : 1 ≤ levels
  pub few : levels ≤ 128
  pub walk : walk_of levels w 0 0 ≡ Ok tt
  pub room : 2 * image_of levels w ≤ size
  pub fits : size ≤ 18446744073709551615

-- the update under these options, of the shapes of so many levels in the stores
abbrev pub attempt_of : MultigridOptions → ℕ → List ℕ → List Float → List ℕ → List ℕ → List Float → Outcome Hierarchy
attempt_of o levels w F offsets columns values = update_of o (shapes_in (view_of levels w F 0).levels) offsets columns values

-- What an update whose outcome is `out` ensures: its answer, and the hierarchy in the stores; refused, no word of the image changed.
pub record Attempted (levels : ℕ) (w : List ℕ) (F G : List Float) (out : Outcome Hierarchy) (r : Result Unit Refusal) : Type 0 where
  pub answer : r ≡ verdict_of out
  pub view : view_of levels w G 0 ≡ hierarchy_of (view_of levels w F 0) out
  pub kept : (q : Refusal) → out ≡ refused q → Kept (image_of levels w) F G
  pub size : length G ≡ length F

-- What an update requires: at most 128 levels, which the walk of question 19 went through, and room for the image and its shadow. Of no levels this
-- asks nothing.
pub record UpdateOk (h : Handle) (w : List ℕ) (size : ℕ) : Type 0 where
  pub few : h.levels ≤ 128
  pub walk : walk_of h.levels w 0 0 ≡ Ok tt
  pub room : 2 * image_of h.levels w ≤ size
