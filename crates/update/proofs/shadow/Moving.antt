-- The shapes in the stores are those of the words alone, and an image that is copied to another place is the same image.
-- Assumes nothing.
use mathlib.Core.Path.{◌≡◌, refl, sym, ap, ◌∙◌}
use mathlib.Core.List.{List, ◌∷◌}
use Prim.Native.Nat.{ℕ, zero, suc, ◌+◌, ◌-◌, ◌≤◌, ◌<◌}
use native.Mathlib.Omega.{arith}
use lib.ListN.{length}
use lib.Seq.{ext_get_or}
use lib.Ieee.{Float, nan}
use Rattle.store.specs.Region.{at, part, Wrote, Kept}
use Rattle.store.proofs.store.Region.{get_d_part, length_part, wrote_at, kept_part}
use Rattle.cholesky.specs.Triangle.{tri}
use Rattle.hierarchy.specs.Level.{Shape}
use Rattle.hierarchy.specs.First.{shapes_in}
use Rattle.layout.specs.Layout.{coupled_at, locate, level_at, words_end, floats_end, levels_at, image_end, finest_rows, view_of, image_of}
use Rattle.layout.proofs.Views.{floats_to}
use Rattle.index_check.specs.Sound.{shape_in}
use Rattle.update_levels.specs.Steps.{shapes_at}

-- The shapes of levels in the stores do not depend on the floats.
pub shapes_are : (k : ℕ) (w : List ℕ) (F : List Float) (a b : ℕ) → shapes_in (levels_at k w F a b) ≡ shapes_at k w a
unfolding levels_at shapes_at level_at
shapes_are zero w F a b = refl
shapes_are (suc k) w F a b = ap (λ (r : List Shape). shape_in w a ∷ r) (shapes_are k w F (words_end w a) (floats_end w a b))

-- The end of a level's floats moves with them,
pub floats_shift : (w : List ℕ) (a b by : ℕ) → floats_end w a (by + b) ≡ by + floats_end w a b
unfolding floats_end
floats_shift w a b by = omega arith

-- which is not below its numbers,
pub floats_own : (w : List ℕ) (a b : ℕ) → (locate w a b).coefficients ≤ floats_end w a b
unfolding floats_end
floats_own w a b = omega arith

-- and so does that of an image.
pub image_shift : (k : ℕ) (w : List ℕ) (a b by : ℕ) → image_end k w a (by + b) ≡ by + image_end k w a b
unfolding image_end
image_shift zero w a b by = refl
image_shift (suc k) w a b by =
    ap (image_end k w (words_end w a)) (floats_shift w a b by) ∙ image_shift k w (words_end w a) (floats_end w a b) by

-- Of F became G, in which each region between lo and hi is what stands `by` further on in F.
pub record Moved (lo hi by : ℕ) (F G : List Float) : Type 0 where
  pub same : (i m : ℕ) → lo ≤ i → i + m ≤ hi → part i m G ≡ part (by + i) m F

-- What is kept has not moved.
pub kept_moved : {p : ℕ} {F G : List Float} → Kept p F G → Moved 0 p 0 F G
kept_moved {p} {F} {G} k = record { same = λ i m _ h. kept_part k i m h ∙ ap (λ (j : ℕ). part j m F) (omega arith) }

-- A part of a part is a part.
part_part : (i m b n : ℕ) (F : List Float) → i + m ≤ n → b + n ≤ length F → part i m (part b n F) ≡ part (b + i) m F
part_part i m b n F h l =
    let z : length (part b n F) ≡ n = length_part b n F l in
    let y : length (part i m (part b n F)) ≡ m = length_part i m (part b n F) (omega arith) in
    let x : length (part (b + i) m F) ≡ m = length_part (b + i) m F (omega arith) in
    ext_get_or nan (part i m (part b n F)) (part (b + i) m F) (y ∙ sym x)
    (λ j q. let jm : j < m = omega arith in
    get_d_part i m (part b n F) j nan jm ∙ get_d_part b n F (i + j) nan (omega arith) ∙ ap (at F) (omega arith) ∙ sym (get_d_part (b + i) m F j nan jm))

-- What is copied down has moved.
pub copied_moved : {c n by : ℕ} {F G : List Float} → Wrote c n (part (by + c) n F) F G → by + c + n ≤ length F → c + n ≤ length F
    → Moved c (c + n) by F G
copied_moved {c} {n} {by} {F} {G} w h l =
    let size = w.size in
    record {
      same = λ i m o q.
          let is : i ≡ c + (i - c) = omega arith in
          let is' : by + c + (i - c) ≡ by + i = omega arith in
          ap (λ (k : ℕ). part k m G) is ∙ sym (part_part (i - c) m c n G (omega arith) (omega arith)) ∙ ap (part (i - c) m) (wrote_at w (omega arith))
          ∙ part_part (i - c) m (by + c) n F (omega arith) h ∙ ap (λ (k : ℕ). part k m F) is';
    }

module _ {lo p by : ℕ} {F G : List Float} (v : Moved lo p by F G) where
  -- A level moves with its numbers,
  pub level_moved : (w : List ℕ) (a b : ℕ) → lo ≤ (locate w a b).coefficients → floats_end w a b ≤ p → level_at w G a b ≡ level_at w F a (by + b)
  unfolding level_at floats_end
  level_moved w a b l h =
      let q = locate w a b in
      let r = locate w a (by + b) in
      let c = coupled_at w a in
      let v2 : part q.coefficients q.faces G ≡ part r.coefficients q.faces F =
      v.same q.coefficients q.faces (omega arith) (omega arith) ∙ ap (λ (j : ℕ). part j q.faces F) (omega arith) in
      let v3 : part q.diagonal q.rows G ≡ part r.diagonal q.rows F =
      v.same q.diagonal q.rows (omega arith) (omega arith) ∙ ap (λ (j : ℕ). part j q.rows F) (omega arith) in
      let v4 : part q.inverse q.rows G ≡ part r.inverse q.rows F =
      v.same q.inverse q.rows (omega arith) (omega arith) ∙ ap (λ (j : ℕ). part j q.rows F) (omega arith) in
      let v5 : part q.dic q.rows G ≡ part r.dic q.rows F =
      v.same q.dic q.rows (omega arith) (omega arith) ∙ ap (λ (j : ℕ). part j q.rows F) (omega arith) in
      let v6 : part q.factor (tri c) G ≡ part r.factor (tri c) F =
      v.same q.factor (tri c) (omega arith) (omega arith) ∙ ap (λ (j : ℕ). part j (tri c) F) (omega arith) in
      rw (v2, v3, v4, v5, v6)

  -- and so do levels.
  levels_moved : (k : ℕ) (w : List ℕ) (a b : ℕ) → lo ≤ b → image_end k w a b ≤ p → levels_at k w G a b ≡ levels_at k w F a (by + b)
  unfolding levels_at image_end
  levels_moved zero w a b l h = refl
  levels_moved (suc k) w a b l h =
      let own : (locate w a b).coefficients ≤ floats_end w a b = floats_own w a b in
      let up : floats_end w a b ≤ image_end k w (words_end w a) (floats_end w a b) = floats_to k w (words_end w a) (floats_end w a b) in
      let here : level_at w G a b ≡ level_at w F a (by + b) = level_moved w a b (omega arith) (omega arith) in
      let shift : floats_end w a (by + b) ≡ by + floats_end w a b = floats_shift w a b by in
      let deeper = levels_moved k w (words_end w a) (floats_end w a b) (omega arith) h in
      rw (here, deeper, shift)

-- Levels below what is written stay.
pub levels_stay : {p : ℕ} {F G : List Float} → Kept p F G → (k : ℕ) (w : List ℕ) (a b : ℕ) → image_end k w a b ≤ p
    → levels_at k w G a b ≡ levels_at k w F a b
levels_stay {p} {F} {G} kept k w a b h =
    levels_moved (kept_moved kept) k w a b (omega arith) h ∙ ap (levels_at k w F a) (omega arith)

-- So does the hierarchy.
pub view_stays : {p : ℕ} {F G : List Float} → Kept p F G → (k : ℕ) (w : List ℕ) → image_of k w ≤ p → view_of k w G 0 ≡ view_of k w F 0
unfolding view_of
view_stays kept k w h =
    let levels = levels_stay kept k w 0 0 (omega arith) in
    let sums = kept_part kept (image_end k w 0 0) (finest_rows k w) h in
    cc
