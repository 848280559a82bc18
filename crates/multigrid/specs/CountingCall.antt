-- `statistics` of mod.rs: what it ensures of any handle and any stores. Definitions only.
use Rattle.refusal.specs.declared.Refusal.{Refusal}
use Rattle.std.specs.Prelude.{Bool, true, false, List, ℕ, length, Float, Result, Ok, Err}
use Rattle.options.specs.declared.options.Handle.{Handle}
use Rattle.refusal.specs.Refusal.{unsound_stores}
use Rattle.index_check.specs.Sound.{sound_of}

-- how many records at the front of the statistics are the levels', or question 19's refusal
abbrev pub counted_if : Bool → ℕ → Result ℕ Refusal
counted_if true levels = Ok levels
counted_if false levels = Err unsound_stores

-- the answer of `statistics`, of so many records
abbrev pub counted_of : Handle → List ℕ → List Float → ℕ → Result ℕ Refusal
counted_of h w F records = counted_if (sound_of h w (length F) records) h.levels
