-- `update_values` of mod.rs: what it ensures of any handle and any stores. Definitions only.
use Rattle.refusal.specs.declared.Refusal.{Refusal}
use Rattle.std.specs.Prelude.{◌≡◌, false, List, ℕ, length, Float, Result}
use Rattle.options.specs.declared.options.Handle.{Handle}
use Rattle.refusal.specs.Refusal.{unsound_stores}
use Rattle.refusal.specs.Outcome.{Outcome, ask}
use Rattle.hierarchy.specs.Level.{Hierarchy}
use Rattle.index_check.specs.Sound.{sound_of}
use Rattle.update.specs.Updated.{updated_at, UpdateDone}

-- an update: question 19, and then that of the hierarchy in the stores
abbrev pub updated_of : Handle → List ℕ → List Float → ℕ → List ℕ → List ℕ → List Float → Outcome Hierarchy
updated_of h w F records offsets columns values =
    ask (sound_of h w (length F) records) unsound_stores (updated_at h w F offsets columns values)

-- What an update with the stores w and F and so many records of statistics leaves: G, and its answer r. Refused by question 19, every float
-- is as it was.
pub record UpdateCall (h : Handle) (w : List ℕ) (F G : List Float) (records : ℕ) (offsets columns : List ℕ) (values : List Float) (r : Result Unit Refusal) : Type 0 where
  pub done : UpdateDone h w F G (updated_of h w F records offsets columns values) r
  pub unsound : sound_of h w (length F) records ≡ false → G ≡ F
