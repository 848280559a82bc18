-- Question 10 of the matrix in the temporaries: what its steps require, and its answer.
-- Assumes nothing.
use mathlib.Core.Path.{◌≡◌, sym, ap, ◌∙◌}
use mathlib.Core.Bool.{Bool, true, false, ◌&&◌}
use mathlib.Core.List.{List}
use Prim.Native.Nat.{ℕ, ◌+◌, ◌≤◌, ◌<◌}
use native.Mathlib.Omega.{arith}
use lib.ListN.{length}
use lib.Ieee.{Float}
use Rattle.store.specs.Region.{idx, part, Kept}
use Rattle.store.proofs.store.Region.{get_d_part, length_part, wrote_off, kept_wrote, kept_on, kept_less}
use Rattle.coefficients.specs.Mirrors.{mirrors_agree}
use Rattle.coefficients.specs.Contract as coefficients-contract
use Rattle.pattern.specs.Pattern.{Pattern, entries}
use Rattle.faces.specs.Faces.{faces_of, uppers_of, lowers_of, mirrored_of}
use Rattle.faces.specs.Contract.{Ordered, OffsetsOk, OffsetsDone, FillOk, Filled, MirrorsOk, MirrorsDone}
use Rattle.faces.proofs.faces.Standing.{pattern_kept, ordered_on}
use Rattle.faces.proofs.faces.Laws.{mirrored_is, faces_few, upper_entry, lower_entry}
use Rattle.hierarchy.specs.Build.{symmetric_of}
use Rattle.coarsening.specs.declared.coarsen.Workspace.{Workspace}
use Rattle.build.specs.Finest.{finest_at, faces_in, SymmetricOk, SymmetricDone}

module _ {w : List ℕ} {values : List Float} {t : Workspace} (ok : SymmetricOk w values t) where
  abbrev p : Pattern
  p = finest_at w t

  -- The pattern stands in order, whatever the number of faces.
  ordered : (faces : ℕ) → Ordered w (faces_in t faces)
  ordered faces = record {
    standing = record {
      few = ok.few;
      less = ok.less;
      offsets = ok.offsets;
      columns = ok.columns;
      inside = omega (arith, ok.starts, ok.neighbors, ok.uppers, ok.lowers);
      valid = ok.valid;
    };
    rising = ok.rising;
  }

  -- There are no more faces than the temporaries have room for.
  few_faces : faces_of p ≤ t.entries
  few_faces =
      let inside : t.columns + t.entries ≤ length w = omega (arith, ok.columns, ok.starts, ok.neighbors, ok.uppers, ok.lowers) in
      let size : entries p ≡ t.entries = length_part t.columns t.entries w inside in
      omega (arith, faces_few p)

  pub offsets_ok_lem : OffsetsOk w (faces_in t 0)
  offsets_ok_lem = record { standing = (ordered 0).standing; room = omega (arith, ok.starts, ok.neighbors, ok.uppers, ok.lowers) }

  module _ {u : List ℕ} {faces : ℕ} (offsets : OffsetsDone w u (faces_in t 0) faces) where
    first_kept : Kept t.starts w u
    first_kept = kept_wrote offsets.wrote (omega arith)

    count : faces ≡ faces_of p
    count = offsets.found

    pub fill_ok : FillOk u (faces_in t faces)
    fill_ok =
        let few = few_faces in
        let is = count in
        let size = first_kept.size in
        record {
          standing = (ordered_on (ordered faces) first_kept).standing;
          count = count ∙ ap faces_of (sym (pattern_kept (ordered faces).standing first_kept));
          neighbors = omega (arith, ok.starts);
          uppers = omega (arith, ok.neighbors);
          room = omega (arith, ok.uppers, ok.lowers);
        }

    module _ {v : List ℕ} (filled : Filled u v (faces_in t faces)) where
      second_kept : Kept t.starts w v
      second_kept = kept_on first_kept (kept_less filled.kept (omega (arith, ok.starts)))

      same : finest_at v t ≡ p
      same = pattern_kept (ordered faces).standing second_kept

      pub mirrors_ok : MirrorsOk v (faces_in t faces)
      mirrors_ok =
          let few = few_faces in
          let is = count in
          let size = second_kept.size in
          record {
            ordered = ordered_on (ordered faces) second_kept;
            count = count ∙ ap faces_of (sym same);
            lowers = omega (arith, ok.starts, ok.neighbors, ok.uppers);
            room = omega (arith, ok.lowers);
          }

      module _ {z : List ℕ} {r : Bool} (done : MirrorsDone v z (faces_in t faces) r) where
        last_kept : Kept t.starts w z
        last_kept = kept_on second_kept (kept_wrote done.only (omega (arith, ok.starts, ok.neighbors, ok.uppers)))

        told : r ≡ mirrored_of p
        told = done.answer ∙ ap mirrored_of same

        pub asymmetric : r ≡ false → SymmetricDone w z values t false
        unfolding symmetric_of
        asymmetric e = record {
          answer = sym (no (mirrored_of p) (mirrors_agree (faces_of p) (uppers_of p) (lowers_of p) values) (sym told ∙ e));
          words = last_kept;
        }
          where
            no : (a b : Bool) → a ≡ false → (a && b) ≡ false
            no a b e = rw e

        module _ (yes : r ≡ true) where
          uppers_at : part t.uppers faces z ≡ uppers_of p
          uppers_at =
              let few = few_faces in
              let is = count in
              wrote_off done.only t.uppers faces (omega (arith, ok.uppers)) ∙ filled.uppers
              ∙ ap uppers_of (pattern_kept (ordered faces).standing first_kept)

          lowers_at : part t.lowers faces z ≡ lowers_of p
          lowers_at = done.lowers yes ∙ ap lowers_of same

          -- What the comparison of the values requires.
          pub values_ok_lem : coefficients-contract.MirrorsOk z (length values) faces t.uppers t.lowers
          values_ok_lem =
              let few = few_faces in
              let is = count in
              let size = last_kept.size in
              let inside : t.columns + t.entries ≤ length w = omega (arith, ok.columns, ok.starts, ok.neighbors, ok.uppers, ok.lowers) in
              let many : entries p ≡ t.entries = length_part t.columns t.entries w inside in
              let counted = ok.counted in
              let mirrored = mirrored_is ok.valid ok.rising (sym told ∙ yes) in
              record {
                uppers = omega (arith, ok.uppers, ok.lowers);
                lowers = omega (arith, ok.lowers);
                up = λ k h.
                    let e : idx z (t.uppers + k) ≡ idx (uppers_of p) k = sym (get_d_part t.uppers faces z k 0 h)
                    ∙ ap (λ (l : List ℕ). idx l k) uppers_at in
                    let b : idx (uppers_of p) k < entries p = upper_entry p k (rw is at h) in
                    omega arith;
                low = λ k h.
                    let e : idx z (t.lowers + k) ≡ idx (lowers_of p) k = sym (get_d_part t.lowers faces z k 0 h)
                    ∙ ap (λ (l : List ℕ). idx l k) lowers_at in
                    let b : idx (lowers_of p) k < entries p = lower_entry ok.valid ok.rising mirrored k (rw is at h) in
                    omega arith;
              }

          pub compared : {a : Bool} → a ≡ mirrors_agree faces (part t.uppers faces z) (part t.lowers faces z) values
              → SymmetricDone w z values t a
          unfolding symmetric_of
          compared {a} e = record {
            answer = e ∙ rw (uppers_at, lowers_at, count)
                (sym (both (mirrored_of p) (mirrors_agree (faces_of p) (uppers_of p) (lowers_of p) values) (sym told ∙ yes)));
            words = last_kept;
          }
            where
              both : (a b : Bool) → a ≡ true → (a && b) ≡ b
              both a b e = rw e
