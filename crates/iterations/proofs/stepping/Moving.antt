-- The residual of the solution, and the solution moved by a correction.
-- Assumes nothing.
use Rattle.refusal.specs.declared.Refusal.{Refusal}
use Rattle.std.specs.Prelude.{Result, Ok}
use mathlib.Core.Path.{◌≡◌, sym, ap, ◌∙◌, subst}
use mathlib.Core.Bool.{true, false}
use mathlib.Core.List.{List, []}
use Prim.Native.Nat.{ℕ, ◌+◌, ◌*◌, ◌≤◌}
use native.Mathlib.Nat.{mul-le-mul_right}
use native.Mathlib.Omega.{arith}
use borrow.Author.Tests.{eq-eqb, ne_eqb}
use lib.Dec.{eqb}
use lib.ListN.{length, take}
use lib.Ieee.{Float}
use Rattle.store.specs.Region.{part, Wrote, Kept, CopyOk}
use Rattle.store.proofs.store.Region.{wrote_at, wrote_off, kept_wrote, kept_on, kept_less, kept_part}
use Rattle.refusal.specs.Outcome.{accepted}
use Rattle.refusal.proofs.Outcome.{accepted_one}
use Rattle.matrix.specs.Kernel.{KernelOk, kernel_at, apply_of}
use Rattle.matrix.proofs.matrix.Kernel.{kernel_above}
use Rattle.correction.specs.Correction.{SubtractOk, subtract_of, add_plain_of}
use Rattle.acceleration.specs.Gcr.{Corrections, correct_of}
use Rattle.acceleration.specs.DirectionsContract.{pair_at, memory_at}
use Rattle.acceleration.specs.AccelerationContract.{CorrectOk, CorrectedBy, corrected_of}
use Rattle.acceleration.proofs.directions.Passes.{memory_same}
use Rattle.iterations.specs.declared.stepping.Regions.{Regions}
use Rattle.iterations.specs.Steps.{VectorsOk, MoveOk, Renewed, Moved, move_at, product_at}

-- A region at the start is a prefix.
take_part : (p : ℕ) (F G : List Float) → part 0 p G ≡ part 0 p F → take p G ≡ take p F
unfolding part
take_part p F G e = e

-- The memory is as it was where nothing below `p` changed.
pub memory_kept : {F G : List Float} {p : ℕ} (used n directions images : ℕ) → Kept p F G → directions + used * n ≤ p → images + used * n ≤ p
    → memory_at used n directions images G ≡ memory_at used n directions images F
memory_kept {F} {G} used n directions images k d i =
    memory_same used n directions images F G (λ a m l u. kept_part k a m (omega arith)) (λ a m l u. kept_part k a m (omega arith))

-- ---- the residual

module _ {w : List ℕ} {size : ℕ} {g : Regions} (ok : VectorsOk w size g) where
  -- What the product requires.
  pub product_ok : KernelOk w g.solution g.matrix × ((g.solution + g.matrix.rows ≤ g.product) × (g.product + g.matrix.rows ≤ size))
  product_ok =
      let v = ok in
      let same = ok.same in
      (kernel_above ok.kernel (omega arith), (omega arith, omega arith))

  -- What the subtraction requires.
  pub subtract_ok : {other : ℕ} → other ≡ size → SubtractOk other g.rows g.rhs g.product g.residual
  subtract_ok e =
      let v = ok in
      record { rhss = omega arith; products = omega arith; outs = omega arith; clear_rhs = omega arith; clear_product = omega arith }

module _ {w : List ℕ} {F : List Float} {g : Regions} (ok : VectorsOk w (length F) g) where
  -- Product and residual of the solution.
  pub renewed : {G H : List Float}
      → Wrote g.product g.matrix.rows (apply_of (kernel_at g.matrix w F) (part g.solution g.matrix.rows F)) F G
      → Wrote g.residual g.rows (subtract_of g.rows (part g.rhs g.rows G) (part g.product g.rows G)) G H
      → Renewed w F H g
  renewed {G} {H} a b =
      let v = ok in
      let first : Wrote g.product g.rows (product_at w F g) F G =
      subst (λ (m : ℕ). Wrote g.product m (apply_of (kernel_at g.matrix w F) (part g.solution m F)) F G) ok.same a in
      let size : length G ≡ length F = a.size in
      let product : part g.product g.rows G ≡ product_at w F g = wrote_at first (omega arith) in
      let rhs : part g.rhs g.rows G ≡ part g.rhs g.rows F = wrote_off first _ _ (omega arith) in
      record {
        made = wrote_off b _ _ (omega arith) ∙ product;
        left = wrote_at b (omega arith) ∙ rw (rhs, product);
        floats = kept_on (kept_wrote first (omega arith)) (kept_wrote b (omega arith));
      }

-- ---- the solution

module _ {w : List ℕ} {size : ℕ} {g : Regions} {krylov used : ℕ} (ok : MoveOk w size g krylov used) where
  abbrev v : VectorsOk w size g
  v = ok.vectors

  -- What the plain sum requires.
  pub plain_ok : CopyOk size g.rows g.correction g.solution
  plain_ok = let l = v in record { source = omega arith; target = omega arith; clear = omega arith }

  -- What the correction's image requires.
  pub image_ok : KernelOk w g.correction g.matrix × ((g.correction + g.matrix.rows ≤ g.product) × (g.product + g.matrix.rows ≤ size))
  image_ok =
      let l = v in
      let same = v.same in
      (kernel_above v.kernel (omega arith), (omega arith, omega arith))

  -- What GCR requires.
  pub correct_ok : {other : ℕ} → (krylov ≡ 0 → ⊥) → other ≡ size
      → CorrectOk other g.rows krylov used g.solution g.directions g.images g.residual g.correction g.product
  correct_ok more same =
      let l = v in
      record {
        some = omega arith;
        fits = ok.fits;
        solutions = omega arith;
        first = ok.first;
        second = ok.second;
        residuals = omega arith;
        pairs = omega arith;
        within = omega arith;
      }

module _ {w : List ℕ} {F : List Float} {g : Regions} {krylov used : ℕ} (ok : MoveOk w (length F) g krylov used) where
  -- The correction as it is.
  pub moved_plain : {G : List Float} → krylov ≡ 0
      → Wrote g.solution g.rows (add_plain_of g.rows (part g.correction g.rows F) (part g.solution g.rows F)) F G
      → Moved krylov g (move_at w F g krylov used) F G (Ok used)
  unfolding memory_at
  moved_plain {G} e a =
      let l = ok.vectors in
      let fits = ok.fits in
      let none : used ≡ 0 = omega arith in
      let x = add_plain_of g.rows (part g.correction g.rows F) (part g.solution g.rows F) in
      let t : eqb krylov 0 ≡ true = eq-eqb krylov 0 e in
      let is : move_at w F g krylov used ≡ accepted (record { memory = []; solution = x }) = rw (t, none) in
      let at : part g.solution g.rows G ≡ x = wrote_at a (omega arith) in
      record {
        answer = ap Ok none ∙ sym (ap corrected_of is);
        fits = λ u r. let same : used ≡ u = cc in omega arith;
        solved = λ s r. at ∙ ap (λ (c : Corrections). c.solution) (accepted_one (sym is ∙ r));
        stored = λ s r.
            let m : [] ≡ s.memory = ap (λ (c : Corrections). c.memory) (accepted_one (sym is ∙ r)) in
            rw (← m);
        floats = kept_wrote a (omega arith);
      }

  -- By GCR.
  pub moved_gcr : {G H : List Float} {r : Result ℕ Refusal} → (krylov ≡ 0 → ⊥)
      → Wrote g.product g.matrix.rows (apply_of (kernel_at g.matrix w F) (part g.correction g.matrix.rows F)) F G
      → CorrectedBy g.rows krylov g.solution g.directions g.images g.correction g.product
      (correct_of g.rows krylov (memory_at used g.rows g.directions g.images G)
      (pair_at g.rows g.correction g.product G) (part g.residual g.rows G) (part g.solution g.rows G)) G H r
      → Moved krylov g (move_at w F g krylov used) F H r
  moved_gcr {G} {H} {r} more a b =
      let l = ok.vectors in
      let few = mul-le-mul_right g.rows ok.fits in
      let first = ok.first in
      let second = ok.second in
      let made : Wrote g.product g.rows (apply_of (kernel_at g.matrix w F) (part g.correction g.rows F)) F G =
      subst (λ (m : ℕ). Wrote g.product m (apply_of (kernel_at g.matrix w F) (part g.correction m F)) F G) ok.vectors.same a in
      let kept : Kept g.product F G = kept_wrote made (omega arith) in
      let image : part g.product g.rows G ≡ apply_of (kernel_at g.matrix w F) (part g.correction g.rows F) = wrote_at made (omega arith) in
      let correction : part g.correction g.rows G ≡ part g.correction g.rows F = kept_part kept _ _ (omega arith) in
      let residual : part g.residual g.rows G ≡ part g.residual g.rows F = kept_part kept _ _ (omega arith) in
      let solution : part g.solution g.rows G ≡ part g.solution g.rows F = kept_part kept _ _ (omega arith) in
      let memory = memory_kept used g.rows g.directions g.images kept (omega arith) (omega arith) in
      let t : eqb krylov 0 ≡ false = ne_eqb krylov 0 more in
      let is : correct_of g.rows krylov (memory_at used g.rows g.directions g.images G)
      (pair_at g.rows g.correction g.product G) (part g.residual g.rows G) (part g.solution g.rows G)
      ≡ move_at w F g krylov used = rw (t, image, correction, residual, solution, memory) in
      let below : take g.solution H ≡ take g.solution G = take_part g.solution G H (b.below 0 g.solution (omega arith) (omega arith)) in
      record {
        answer = b.answer ∙ ap corrected_of is;
        fits = b.fits;
        solved = λ s e. b.solved s (is ∙ e);
        stored = λ s e. b.stored s (is ∙ e);
        floats = kept_on (kept_less kept (omega arith)) (record { below = below; size = b.size });
      }
