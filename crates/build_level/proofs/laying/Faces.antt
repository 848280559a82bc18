-- The faces of a level and its diagonal entries: question 11.
-- Assumes nothing.
use Rattle.refusal.specs.declared.Refusal.{Refusal}
use Rattle.std.specs.Prelude.{Result}
use mathlib.Core.Path.{◌≡◌, sym, ap, ◌∙◌}
use mathlib.Core.Bool.{Bool, true}
use mathlib.Core.List.{List}
use Prim.Native.Nat.{ℕ}
use native.Mathlib.Omega.{arith}
use Rattle.store.specs.Region.{Kept}
use Rattle.store.proofs.store.Region.{wrote_off, kept_wrote, kept_on, kept_less}
use Rattle.refusal.specs.Outcome.{verdict_of}
use Rattle.faces.specs.declared.faces.Faces.{Faces}
use Rattle.faces.specs.Faces.{faces_of, mirrored_of, lowers_of, diagonals_asked, diagonals_of}
use Rattle.faces.specs.Contract.{FillOk, Filled, MirrorsOk, MirrorsDone, DiagonalsOk, DiagonalsDone}
use Rattle.faces.proofs.faces.Standing.{pattern_kept, ordered_on}
use Rattle.faces.proofs.faces.Laws.{mirrored_was}
use Rattle.layout.specs.declared.Place.{Place}
use Rattle.layout.specs.Parts.{faces_in}
use Rattle.coarsening.specs.declared.coarsen.Workspace.{Workspace}
use Rattle.build_level.specs.declared.laying.Frontier.{Frontier}
use Rattle.build_level.specs.Inner.{place_in, WordsOk, WordsLaid, pattern_in, FacesOk, FacesLaid}

-- A level whose words stand up to the face offsets is ready for its faces.
pub faces_ok : {w z : List ℕ} {t : Workspace} {s : Frontier} {p : Place} {n : ℕ} → WordsOk w t s → WordsLaid w z t s n → p ≡ place_in s n
    → FacesOk z p
faces_ok {w} {z} {t} {s} {p} {n} ok l at =
    rw at (record {
      ordered = record {
        standing = record {
          few = ok.few;
          less = ok.less;
          offsets = omega arith;
          columns = omega arith;
          inside = omega arith;
          valid = rw l.laid.pattern ok.valid;
        };
        rising = rw l.laid.pattern ok.rising;
      };
      mirrored = rw l.laid.pattern ok.mirrored;
      count = rw l.laid.pattern l.found;
      starts = omega arith;
      diagonals = omega arith;
      neighbors = omega arith;
      uppers = omega arith;
      lowers = omega arith;
    })

module _ {w : List ℕ} {p : Place} {u : Faces} (ok : FacesOk w p) (is : u ≡ faces_in p) where
  -- They may be filled,
  pub fill_ok : FillOk w u
  fill_ok = rw is (record {
    standing = ok.ordered.standing;
    count = ok.count;
    neighbors = omega arith;
    uppers = ok.neighbors;
    room = omega arith;
  })

  module _ {x : List ℕ} (filled : Filled w x u) where
    first : Kept p.starts w x
    first = kept_less (rw is at filled).kept (omega arith)

    -- then mirrored,
    pub mirrors_ok : MirrorsOk x u
    mirrors_ok =
        let size = first.size in
        rw is (record {
          ordered = ordered_on ok.ordered first;
          count = ok.count ∙ ap faces_of (sym (pattern_kept ok.ordered.standing first));
          lowers = omega arith;
          room = omega arith;
        })

    module _ {y : List ℕ} {b : Bool} (mirrors : MirrorsDone x y u b) where
      second : Kept p.starts w y
      second = kept_on first (kept_wrote (rw is at mirrors).only (omega arith))

      -- then the diagonal entries are found.
      pub diagonals_ok : DiagonalsOk y u
      diagonals_ok =
          let size = second.size in
          rw is (record { ordered = ordered_on ok.ordered second; below = omega arith; room = omega arith })

      pub faces_laid : {z : List ℕ} {level : ℕ} {r : Result Unit Refusal} → DiagonalsDone y z u level r → FacesLaid w z p level r
      faces_laid {z} {level} {r} diagonals =
          let f : Filled w x (faces_in p) = rw is at filled in
          let m : MirrorsDone x y (faces_in p) b = rw is at mirrors in
          let d : DiagonalsDone y z (faces_in p) level r = rw is at diagonals in
          let q = pattern_in w p in
          let one : pattern_in x p ≡ q = pattern_kept ok.ordered.standing first in
          let two : pattern_in y p ≡ q = pattern_kept ok.ordered.standing second in
          let all : b ≡ true = m.answer ∙ ap mirrored_of one ∙ mirrored_was ok.ordered.standing.valid ok.mirrored in
          record {
            verdict = d.verdict ∙ ap (λ q. verdict_of (diagonals_asked level q)) two;
            diagonals = λ t. d.diagonals t ∙ ap diagonals_of two;
            neighbors = wrote_off d.only p.neighbors p.faces (omega arith)
                ∙ wrote_off m.only p.neighbors p.faces (omega arith) ∙ f.neighbors;
            uppers = wrote_off d.only p.uppers p.faces (omega arith)
                ∙ wrote_off m.only p.uppers p.faces (omega arith) ∙ f.uppers;
            lowers = wrote_off d.only p.lowers p.faces (omega arith) ∙ m.lowers all ∙ ap lowers_of one;
            kept = kept_on (kept_on (kept_less f.kept (omega arith)) (kept_wrote m.only (omega arith)))
                (kept_wrote d.only (omega arith));
          }
