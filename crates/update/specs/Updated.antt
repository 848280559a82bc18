-- An update in lent stores: what it requires and ensures. Definitions only.
use Rattle.std.specs.Prelude.{◌≡◌, List, ℕ, length, Float, Result, Ok, Err}
use Rattle.store.specs.Region.{Kept}
use Rattle.options.specs.declared.options.Handle.{Handle}
use Rattle.refusal.specs.declared.Refusal.{Refusal}
use Rattle.refusal.specs.Outcome.{Outcome, accepted, refused}
use Rattle.hierarchy.specs.Level.{Hierarchy}
use Rattle.hierarchy.specs.First.{shapes_in}
use Rattle.layout.specs.Layout.{view_of, image_of}
use Rattle.update_levels.specs.Update.{update_of}

-- the update in stores that pass question 19, of the shapes that it finds there
abbrev pub updated_at : Handle → List ℕ → List Float → List ℕ → List ℕ → List Float → Outcome Hierarchy
updated_at h w F offsets columns values = update_of h.options (shapes_in (view_of h.levels w F 0).levels) offsets columns values

-- the answer
abbrev pub updated_answer : Outcome Hierarchy → Result Unit Refusal
updated_answer (accepted h) = Ok tt
updated_answer (refused q) = Err q

-- the hierarchy after it: as it was where the update is refused
abbrev pub hierarchy_of : Hierarchy → Outcome Hierarchy → Hierarchy
hierarchy_of old (accepted h) = h
hierarchy_of old (refused q) = old

-- What an update whose outcome is `out` ensures: its answer, and the hierarchy in the stores; refused, no word of the image changed.
pub record UpdateDone (h : Handle) (w : List ℕ) (F G : List Float) (out : Outcome Hierarchy) (r : Result Unit Refusal) : Type 0 where
  pub answer : r ≡ updated_answer out
  pub view : view_of h.levels w G 0 ≡ hierarchy_of (view_of h.levels w F 0) out
  pub kept : (q : Refusal) → out ≡ refused q → Kept (image_of h.levels w) F G
  pub size : length G ≡ length F
