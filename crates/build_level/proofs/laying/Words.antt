-- The words of a level up to its face offsets: header, pattern, face offsets.
-- Assumes nothing.
use mathlib.Core.Path.{◌≡◌, refl, sym, ap, ◌∙◌}
use mathlib.Core.List.{List, [], ◌∷◌}
use Prim.Native.Nat.{ℕ, ◌+◌}
use native.Mathlib.Omega.{arith}
use lib.ListN.{set}
use Rattle.store.specs.Region.{idx, part, splice, Wrote, Kept}
use Rattle.store.proofs.store.Region.{length_part, get_d_part, splice_nil, set_splice_end, wrote, wrote_at, wrote_off, kept_wrote, kept_on, kept_less, kept_part, kept_get}
use Rattle.pattern.specs.Pattern.{entries}
use Rattle.faces.specs.declared.faces.Faces.{Faces}
use Rattle.faces.specs.Faces.{faces_of, face_offsets_of}
use Rattle.faces.specs.Contract.{OffsetsOk, OffsetsDone}
use Rattle.faces.proofs.faces.Laws.{faces_half}
use Rattle.layout.specs.declared.Place.{Place}
use Rattle.layout.specs.Parts.{faces_in}
use Rattle.coarsening.specs.declared.coarsen.Workspace.{Workspace}
use Rattle.build_level.specs.declared.laying.Frontier.{Frontier}
use Rattle.build_level.specs.Inner.{new_pattern, place_in, WordsOk, PatternLaid, WordsLaid}

-- Three stores make the header.
pub header : (w : List ℕ) (a rows : ℕ) → Wrote a 3 (rows ∷ 0 ∷ 0 ∷ []) w (set (set (set w a rows) (a + 1) 0) (a + 2) 0)
header w a rows =
    let none : a + 0 ≡ a = omega arith in
    let first : set w a rows ≡ splice a (rows ∷ []) w = rw (splice_nil a w, none) at (set_splice_end a [] w rows) in
    let second : set (set w a rows) (a + 1) 0 ≡ splice a (rows ∷ 0 ∷ []) w = rw first (set_splice_end a (rows ∷ []) w 0) in
    wrote (rw second (set_splice_end a (rows ∷ 0 ∷ []) w 0)) refl

module _ {w x : List ℕ} {t : Workspace} {s : Frontier} (ok : WordsOk w t s)
    (h : Wrote s.a 3 (s.rows ∷ 0 ∷ 0 ∷ []) w x) where
  module _ {y : List ℕ} (o : Wrote (s.a + 3) (s.rows + 1) (part t.offsets (s.rows + 1) x) x y) where
    -- Then the pattern stands at its place.
    pub pattern_laid : {z : List ℕ} → Wrote (s.a + 3 + s.rows + 1) s.entries (part t.columns s.entries y) y z → PatternLaid w z t s
    pattern_laid {z} c =
        let none : s.a + 0 ≡ s.a = omega arith in
        let own : idx x s.a ≡ s.rows =
        rw none at (sym (get_d_part s.a 3 x 0 0 (omega arith)) ∙ ap (λ (l : List ℕ). idx l 0) (wrote_at h (omega arith))) in
        let above : Kept (s.a + 3) x z = kept_on (kept_wrote o (omega arith)) (kept_wrote c (omega arith)) in
        let offsets : part (s.a + 3) (s.rows + 1) z ≡ part t.offsets (s.rows + 1) w =
        wrote_off c (s.a + 3) (s.rows + 1) (omega arith) ∙ wrote_at o (omega arith) ∙ wrote_off h t.offsets (s.rows + 1) (omega arith) in
        let columns : part (s.a + 3 + s.rows + 1) s.entries z ≡ part t.columns s.entries w =
        wrote_at c (omega arith) ∙ wrote_off o t.columns s.entries (omega arith) ∙ wrote_off h t.columns s.entries (omega arith) in
        record {
          head = kept_get above s.a 0 (omega arith) ∙ own;
          pattern = rw (offsets, columns);
          kept = kept_on (kept_wrote h (omega arith)) (kept_less above (omega arith));
        }

module _ {w y : List ℕ} {t : Workspace} {s : Frontier} {p : Place} {u : Faces} (ok : WordsOk w t s) (l : PatternLaid w y t s)
    (at : p ≡ place_in s 0) (is : u ≡ faces_in p) where
  same : u ≡ faces_in (place_in s 0)
  same = is ∙ ap faces_in at

  -- The face offsets may be counted.
  pub offsets_ok_lem : OffsetsOk y u
  offsets_ok_lem =
      rw same (record {
        standing = record {
          few = ok.few;
          less = ok.less;
          offsets = omega arith;
          columns = omega arith;
          inside = omega arith;
          valid = rw l.pattern ok.valid;
        };
        room = omega arith;
      })

  -- Then the words stand up to them.
  pub words_laid : {z : List ℕ} {r : ℕ} → OffsetsDone y z u r → WordsLaid w z t s r
  words_laid {z} {r} d =
      let done : OffsetsDone y z (faces_in (place_in s 0)) r = rw same at d in
      let above : Kept (place_in s 0).starts y z = kept_wrote done.wrote (omega arith) in
      let found : r ≡ faces_of (new_pattern w t s) = rw l.pattern at done.found in
      let many : entries (new_pattern w t s) ≡ s.entries = length_part t.columns s.entries w ok.columns in
      let offsets : part (s.a + 3) (s.rows + 1) z ≡ part (s.a + 3) (s.rows + 1) y = kept_part above (s.a + 3) (s.rows + 1) (omega arith) in
      let columns : part (s.a + 3 + s.rows + 1) s.entries z ≡ part (s.a + 3 + s.rows + 1) s.entries y =
      kept_part above (s.a + 3 + s.rows + 1) s.entries (omega arith) in
      record {
        laid = record {
          head = kept_get above s.a 0 (omega arith) ∙ l.head;
          pattern = rw (offsets, columns) l.pattern;
          kept = kept_on l.kept (kept_less above (omega arith));
        };
        starts = wrote_at done.wrote (omega arith) ∙ ap face_offsets_of l.pattern;
        found = found;
        half = omega (arith, found, many, faces_half ok.valid ok.rising ok.mirrored);
      }
