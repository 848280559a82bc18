-- The faces of the matrix being formed: what each call needs, and what they leave together.
-- Assumes nothing.
use mathlib.Core.Path.{◌≡◌, ◌∙◌, sym, ap}
use mathlib.Core.Bool.{Bool, true}
use mathlib.Core.List.{List}
use Prim.Native.Nat.{ℕ, ◌≤◌}
use native.Mathlib.Omega.{arith}
use Rattle.store.specs.Region.{Kept}
use Rattle.store.proofs.store.Region.{wrote_off, kept_wrote, kept_on, kept_less, kept_self}
use Rattle.pattern.specs.Pattern.{entries}
use Rattle.faces.specs.declared.faces.Faces.{Faces}
use Rattle.faces.specs.Faces.{faces_of, uppers_of, lowers_of, mirrored_of}
use Rattle.faces.specs.Contract.{Standing, OffsetsOk, OffsetsDone, FillOk, Filled, MirrorsOk, MirrorsDone}
use Rattle.faces.proofs.faces.Laws.{mirrored_was, faces_few}
use Rattle.coarsening.specs.declared.coarsen.Workspace.{Workspace}
use Rattle.coarsening.specs.CoarsenContract.{pattern_at, formed_in, CoupleOk, Coupled}
use Rattle.coarsening.proofs.coarsen.Regions.{pattern_kept, entries_at}

-- where the faces stand
abbrev pub faces_in : Workspace → ℕ → ℕ → ℕ → Faces
faces_in t count entries faces = record {
  rows = count;
  entries = entries;
  faces = faces;
  offsets = t.coarse_offsets;
  columns = t.coarse_columns;
  starts = t.starts;
  diagonals = t.diagonals;
  neighbors = t.neighbors;
  uppers = t.uppers;
  lowers = t.lowers;
}

module _ {w : List ℕ} {count n : ℕ} {t : Workspace} (ok : CoupleOk w count n t) where
  -- In a store that has the pattern still it stands.
  standing : {z : List ℕ} (r : ℕ) → Kept t.starts w z → Standing z (faces_in t count n r)
  standing r k =
      let size = k.size in
      record {
        few = ok.few;
        less = ok.less;
        offsets = ok.offsets;
        columns = ok.columns;
        inside = omega arith;
        valid = rw (pattern_kept k (formed_in t count n) ok.offsets ok.columns) ok.valid;
      }

  -- The face offsets have room.
  pub offsets_ok_lem : OffsetsOk w (faces_in t count n 0)
  offsets_ok_lem = record { standing = standing 0 kept_self; room = omega arith }

  module _ {x : List ℕ} {r : ℕ} (counted : OffsetsDone w x (faces_in t count n 0) r) where
    -- There are no more faces than entries.
    few : r ≤ n
    few = omega (arith, counted.found, faces_few (pattern_at w (formed_in t count n)), entries_at w (formed_in t count n) (omega arith))

    -- Below the face offsets nothing changed.
    kept_x : Kept t.starts w x
    kept_x = kept_wrote counted.wrote (omega arith)

    -- So the pattern is the same.
    same_x : pattern_at x (formed_in t count n) ≡ pattern_at w (formed_in t count n)
    same_x = pattern_kept kept_x (formed_in t count n) ok.offsets ok.columns

    -- The faces have room.
    pub fill_ok : FillOk x (faces_in t count n r)
    fill_ok =
        let size = kept_x.size in
        let l = few in
        record {
          standing = standing r kept_x;
          count = counted.found ∙ sym (ap faces_of same_x);
          neighbors = omega arith;
          uppers = omega arith;
          room = omega arith;
        }

    module _ {y : List ℕ} (filled : Filled x y (faces_in t count n r)) where
      -- Nor by the faces.
      kept_y : Kept t.starts w y
      kept_y = kept_on kept_x (kept_less filled.kept (omega arith))

      -- The pattern is still the same.
      same_y : pattern_at y (formed_in t count n) ≡ pattern_at w (formed_in t count n)
      same_y = pattern_kept kept_y (formed_in t count n) ok.offsets ok.columns

      -- Their mirrors have room.
      pub mirrors_ok : MirrorsOk y (faces_in t count n r)
      mirrors_ok =
          let size = kept_y.size in
          let l = few in
          record {
            ordered = record { standing = standing r kept_y; rising = rw same_y ok.rising };
            count = counted.found ∙ sym (ap faces_of same_y);
            lowers = omega arith;
            room = omega arith;
          }

      -- The faces stand, each with its mirror.
      pub coupled : {z : List ℕ} {b : Bool} → MirrorsDone y z (faces_in t count n r) b → Coupled w z count n t r
      coupled {z} {b} done =
          let l = few in
          let all : b ≡ true = done.answer ∙ ap mirrored_of same_y ∙ mirrored_was ok.valid ok.mirrored in
          record {
            found = counted.found;
            uppers = wrote_off done.only t.uppers r (omega arith) ∙ filled.uppers ∙ ap uppers_of same_x;
            lowers = done.lowers all ∙ ap lowers_of same_y;
            kept = kept_on kept_y (kept_wrote done.only (omega arith));
          }
