-- The matrix being formed: what its pattern, faces, and values need, and what they leave together.
-- Assumes nothing.
use mathlib.Core.Path.{◌≡◌, ◌∙◌, ap}
use mathlib.Core.Bool.{Bool, false}
use mathlib.Core.List.{List}
use Prim.Native.Nat.{ℕ, ◌≤◌, ◌<◌}
use native.Mathlib.Omega.{arith}
use lib.ListN.{length}
use lib.Ieee.{Float}
use Rattle.store.specs.Region.{idx, part, Wrote, Kept}
use Rattle.store.proofs.store.Region.{wrote_at, kept_wrote, kept_on, kept_less, kept_part}
use Rattle.vector.specs.Finite.{all_finite}
use Rattle.pattern.specs.declared.pattern.Coarsening.{Coarsening}
use Rattle.pattern.specs.Pattern.{Pattern, entries, Mirrored, coarse, coarse_positions}
use Rattle.pattern.specs.Coarsening.{PatternOk, Patterned}
use Rattle.pattern.proofs.pattern.Coarse.{coarse_few, coarse_valid, coarse_rising, coarse_mirrored, position_below}
use Rattle.faces.specs.Faces.{faces_of, uppers_of, lowers_of}
use Rattle.galerkin.specs.Values.{sums_of, symmetrize_of}
use Rattle.faces.proofs.faces.Laws.{faces_few, upper_entry, lower_entry}
use Rattle.coarsening.specs.declared.coarsen.Held.{Held}
use Rattle.coarsening.specs.declared.coarsen.Workspace.{Workspace}
use Rattle.coarsening.specs.CoarsenContract.{pattern_at, formed_in, coarse_at, StepOk, CoupleOk, Coupled, TotalOk, Totaled, Formed}
use Rattle.coarsening.proofs.coarsen.Regions.{pattern_kept, entries_at}

-- ---- values

-- The sums, then half plus half, then the question.
pub totaled : {w : List ℕ} {F G H : List Float} {m : Held} {t : Workspace} {n faces : ℕ} {r : Bool} → TotalOk w (length F) m t n faces
    → Wrote t.coarse_values n (sums_of n m.entries (part t.positions m.entries w) (part m.values m.entries F)) F G
    → Wrote t.coarse_values n (symmetrize_of faces (part t.uppers faces w) (part t.lowers faces w)
    (part t.coarse_values n G)) G H
    → r ≡ all_finite n (part t.coarse_values n H) → Totaled w F H m t n faces r
totaled {w} {F} {G} {H} {m} {t} {n} {faces} {r} ok sums means finite =
    let size : length G ≡ length F = sums.size in
    record {
      values = wrote_at means (omega arith)
          ∙ ap (symmetrize_of faces (part t.uppers faces w) (part t.lowers faces w)) (wrote_at sums (omega arith));
      finite = finite;
      kept = kept_on (kept_wrote sums (omega arith)) (kept_wrote means (omega arith));
    }

-- ---- pattern, faces and values

-- where the coarse pattern is made
abbrev pub coarsening_in : Held → ℕ → ℕ → Workspace → Coarsening
coarsening_in m map count t = record {
  rows = m.rows;
  entries = m.entries;
  count = count;
  offsets = m.offsets;
  columns = m.columns;
  map = map;
  positions = t.positions;
  coarse_offsets = t.coarse_offsets;
  coarse_columns = t.coarse_columns;
  scratch = t.scratch;
}

-- the coarse pattern of m
abbrev pub coarse_in : List ℕ → Held → ℕ → ℕ → Pattern
coarse_in w m map count = coarse (pattern_at w m) (part map m.rows w) count

-- and where its entries stand in it
abbrev pub places_in : List ℕ → Held → ℕ → ℕ → List ℕ
places_in w m map count = coarse_positions (pattern_at w m) (part map m.rows w) count

module _ {w : List ℕ} {floats : ℕ} {m : Held} {map count : ℕ} {t : Workspace} (ok : StepOk w floats m map count t) where
  -- The coarse pattern has room.
  pub pattern_ok : PatternOk w (coarsening_in m map count t)
  pattern_ok =
      let l = ok.work in
      record {
        layout = record {
          few = omega arith;
          less = omega arith;
          fewer = ok.fewer;
          offsets = ok.offsets;
          columns = ok.columns;
          map = ok.above;
          positions = omega arith;
          starts = omega arith;
          targets = omega arith;
          scratch = omega arith;
        };
        valid = ok.proper.valid;
        mirrored = ok.proper.mirrored;
        maps = ok.maps;
      }

  -- The fine pattern has the entries of m.
  pub fine : entries (pattern_at w m) ≡ m.entries
  fine = let l = ok.work in entries_at w m (omega arith)

  -- Each position is that of a coarse entry.
  pub place_near : (x : List ℕ) {r : ℕ} → part t.positions m.entries x ≡ places_in w m map count
      → r ≡ entries (coarse_in w m map count) → (e : ℕ) → e < m.entries → idx (part t.positions m.entries x) e < r
  place_near x p n e h =
      rw (p, n) (position_below (pattern_at w m) (part map m.rows w) count ok.proper.valid ok.maps e (omega (arith, fine)))

  -- The coarse matrix has no more entries than there is room for.
  pub coarse_room : {r : ℕ} → r ≡ entries (coarse_in w m map count) → r ≤ t.entries
  coarse_room e = omega (arith, e, fine, coarse_few (pattern_at w m) (part map m.rows w) count, ok.most)

  -- The coarse pattern is mirrored.
  coarse_mirrors : Mirrored (coarse_in w m map count)
  coarse_mirrors = coarse_mirrored (pattern_at w m) (part map m.rows w) count ok.proper.valid ok.maps ok.proper.mirrored

  module _ {x : List ℕ} {r : ℕ} (made : Patterned w x (coarsening_in m map count t) r) where
    -- It stands where the matrix is formed.
    same_x : pattern_at x (formed_in t count r) ≡ coarse_in w m map count
    same_x = rw (made.offsets, made.columns)

    -- Its faces have room.
    pub couple_ok : CoupleOk x count r t
    couple_ok =
        let l = ok.work in
        let h = coarse_room made.found in
        let size = made.kept.size in
        record {
          few = omega arith;
          less = omega arith;
          offsets = omega arith;
          columns = omega arith;
          starts = omega arith;
          neighbors = omega arith;
          uppers = omega arith;
          lowers = omega arith;
          valid = rw same_x (coarse_valid (pattern_at w m) (part map m.rows w) count);
          rising = rw same_x (coarse_rising (pattern_at w m) (part map m.rows w) count);
          mirrored = rw same_x coarse_mirrors;
        }

    module _ {y : List ℕ} {faces : ℕ} (joined : Coupled x y count r t faces) where
      -- The positions stand, with the faces above them.
      positions_are : part t.positions m.entries y ≡ places_in w m map count
      positions_are = let l = ok.work in kept_part joined.kept t.positions m.entries (omega arith) ∙ made.positions

      -- So does the pattern.
      pattern_is : pattern_at y (formed_in t count r) ≡ coarse_in w m map count
      pattern_is =
          let l = ok.work in
          let h = coarse_room made.found in
          pattern_kept joined.kept (formed_in t count r) (omega arith) (omega arith) ∙ same_x

      -- The faces are those of the coarse pattern.
      faces_are : faces ≡ faces_of (coarse_in w m map count)
      faces_are = joined.found ∙ ap faces_of same_x

      -- Their entries.
      uppers_are : part t.uppers faces y ≡ uppers_of (coarse_in w m map count)
      uppers_are = joined.uppers ∙ ap uppers_of same_x

      -- And their mirrors.
      lowers_are : part t.lowers faces y ≡ lowers_of (coarse_in w m map count)
      lowers_are = joined.lowers ∙ ap lowers_of same_x

      -- There are no more faces than entries.
      few : faces ≤ r
      few = omega (arith, faces_are, faces_few (coarse_in w m map count), made.found)

      -- Below the positions nothing changed.
      kept_y : Kept t.positions w y
      kept_y = let l = ok.work in kept_on made.kept (kept_less joined.kept (omega arith))

      -- The sums and the symmetrisation have what they need.
      pub total_ok : TotalOk y floats m t r faces
      total_ok =
          let l = ok.work in
          let h = coarse_room made.found in
          let f = few in
          let size = kept_y.size in
          record {
            sums = record {
              table = omega arith;
              below = ok.values;
              room = omega arith;
              near = place_near y positions_are made.found;
            };
            pairs = record {
              uppers = omega arith;
              lowers = omega arith;
              room = omega arith;
              up = λ k i. rw (uppers_are, made.found) (upper_entry (coarse_in w m map count) k (omega (arith, faces_are)));
              low = λ k i. rw (lowers_are, made.found) (lower_entry (coarse_valid (pattern_at w m) (part map m.rows w) count)
                  (coarse_rising (pattern_at w m) (part map m.rows w) count) coarse_mirrors k (omega (arith, faces_are)));
            };
          }

      -- They make the values of the coarse matrix.
      values_are : {F G : List Float} {b : Bool} → Totaled y F G m t r faces b → part t.coarse_values r G
          ≡ (coarse_at w F false m map count).values
      values_are v = v.values ∙ rw (positions_are, uppers_are, lowers_are, ← faces_are, fine, ← made.found)

      -- The coarse matrix without its weights.
      pub formed : {F G : List Float} {b : Bool} → Totaled y F G m t r faces b
          → Formed w y F G m map count t (record { entries = r; finite = b })
      formed v = record {
        found = made.found;
        finite = v.finite ∙ ap (all_finite r) (values_are v);
        positions = positions_are;
        pattern = pattern_is;
        values = values_are v;
        words = kept_y;
        floats = v.kept;
      }
