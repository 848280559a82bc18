-- An update of any stores: what it ensures where the index check passes, and where it does not. No answer depends on a scratch word.
-- Assumes nothing.
use Rattle.refusal.specs.declared.Refusal.{Refusal}
use Rattle.std.specs.Prelude.{Result, Err}
use mathlib.Core.Path.{◌≡◌, refl}
use mathlib.Core.Bool.{true, false}
use mathlib.Core.List.{List}
use Prim.Native.Nat.{ℕ}
use lib.ListN.{length}
use lib.Ieee.{Float}
use Rattle.store.proofs.store.Region.{kept_self}
use Rattle.pattern.proofs.pattern.Number.{not_both}
use Rattle.options.specs.declared.options.Handle.{Handle}
use Rattle.refusal.specs.Refusal.{unsound_stores}
use Rattle.layout.specs.Layout.{view_of}
use Rattle.index_check.specs.Sound.{sound_of}
use Rattle.update.specs.Updated.{updated_at, UpdateDone}
use Rattle.multigrid.specs.UpdatingCall.{updated_of, UpdateCall}

-- The index check passes: the update of the hierarchy in the stores.
pub update_sound : {h : Handle} {w : List ℕ} {F G : List Float} {records : ℕ} {offsets columns : List ℕ} {values : List Float} {r : Result Unit Refusal}
    → sound_of h w (length F) records ≡ true → UpdateDone h w F G (updated_at h w F offsets columns values) r
    → UpdateCall h w F G records offsets columns values r
update_sound e d = record { done = rw e d; unsound = λ f. absurd (not_both e f) }

-- It does not: nothing is written.
pub update_unsound : {h : Handle} {w : List ℕ} {F : List Float} {records : ℕ} {offsets columns : List ℕ} {values : List Float}
    → sound_of h w (length F) records ≡ false → UpdateCall h w F F records offsets columns values (Err unsound_stores)
update_unsound e = record { done = rw e (record { answer = refl; view = refl; kept = λ _ _. kept_self; size = refl }); unsound = λ _. refl }

-- No update depends on a scratch word: of two stores of one size with the same hierarchy, each gives the other's answer and hierarchy.
pub update_free : (h : Handle) (w : List ℕ) (F G : List Float) (records : ℕ) (offsets columns : List ℕ) (values : List Float)
    → length G ≡ length F → view_of h.levels w G 0 ≡ view_of h.levels w F 0
    → updated_of h w G records offsets columns values ≡ updated_of h w F records offsets columns values
update_free h w F G records offsets columns values size view = rw (size, view)
