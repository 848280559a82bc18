-- What the functions of one level do, said of the definitions.
-- Assumes nothing.
use Rattle.std.specs.Prelude.{Result, Ok, Err}
use mathlib.Core.Path.{◌≡◌, refl, sym, ap, ◌∙◌, subst}
use mathlib.Core.Bool.{Bool, true, false, cond}
use mathlib.Core.List.{List}
use Prim.Native.Nat.{ℕ, ◌+◌, ◌≤◌}
use native.Mathlib.Omega.{arith}
use lib.Dec.{eqb}
use lib.ListN.{length}
use lib.Ieee.{Float}
use borrow.Author.Tests.{eq-eqb, ne_eqb}
use Rattle.float.specs.Float.{zero64}
use Rattle.store.specs.Region.{part, Clear, Wrote, Kept}
use Rattle.store.specs.Vector.{filled}
use Rattle.store.proofs.store.Region.{wrote_at, kept_wrote, kept_on, kept_less, kept_self, kept_part}
use Rattle.options.specs.declared.options.MultigridSmoother.{MultigridSmoother}
use Rattle.refusal.specs.declared.Refusal.{Refusal}
use Rattle.refusal.specs.Refusal.{bad_smoother_output}
use Rattle.refusal.specs.Outcome.{Outcome, accepted, refused, ask}
use Rattle.refusal.proofs.Outcome.{verdict_passed, verdict_refused, refuses, never, accepts_it}
use Rattle.vector.specs.Finite.{all_finite}
use Rattle.matrix.specs.Kernel.{Kernel, kernel_at, apply_of, KernelOk}
use Rattle.matrix.proofs.matrix.Kernel.{kernel_above, kernel_kept}
use Rattle.gauss_seidel.specs.Contract.{SmoothOk}
use Rattle.smoother.specs.declared.LevelScratch.{LevelScratch}
use Rattle.smoother.specs.Smooth.{Smoothed, SmoothDone, swept_of, smooth_of}
use Rattle.correction.specs.Transfer.{RestrictOk, ProlongOk, restrict_of}
use Rattle.correction.specs.Scaling.{ProductsOk, correction_factor_of, factor_of}
use Rattle.correction.specs.Correction.{SubtractOk, subtract_of, add_plain_of}
use Rattle.correction.specs.Scaled.{ScaledOk, add_scaled_of}
use Rattle.cycle.specs.declared.visit.Inner.{Inner}
use Rattle.cycle.specs.Cycle.{residual_after, scaled_correction, corrected}
use Rattle.cycle.specs.Visit.{rhs_at, x_at, correction_at, residual_place, residual_at, matrix_at, residual_in}
use Rattle.cycle.specs.Visit.{smoothed_at, scaled_at, corrected_at, brought_at, raised_at}
use Rattle.cycle.specs.Visit.{InnerOk, Moved, Resided, Left, Restricted, Downed}

-- ---- outcomes

-- An outcome is accepted with one result.
pub same_accepted : {A : Type 0} {a b : A} {out : Outcome A} → out ≡ accepted a → out ≡ accepted b → a ≡ b
same_accepted e f = cc

-- A question before a result does not change it.
asked_is : {A : Type 0} (b c : Bool) (q : Refusal) (y v : A) → cond b (accepted y) (ask c q (accepted y)) ≡ accepted v → y ≡ v
asked_is true c q y v e = cc
asked_is false true q y v e = cc
asked_is false false q y v e = let none : ◌≡◌ {A = ℕ} 0 1 = cc in absurd (omega arith)

-- ---- the level under writes above it

-- What is required of a level holds in a store of the same size.
pub inner_on : {w : List ℕ} {m n : ℕ} {g : Inner} → InnerOk w m g → n ≡ m → InnerOk w n g
inner_on ok e = rw e ok

-- Its vectors end in the store.
inner_room : {w : List ℕ} {size : ℕ} {g : Inner} → InnerOk w size g → g.vectors.correction + g.matrix.rows ≤ size
inner_room ok = omega (arith, ok.products, ok.nexts, ok.coarses, ok.room)

-- ---- sweeps

-- A smoother changes nothing below x.
smoothed_kept : {n x work correction : ℕ} {v F G : List Float} → Smoothed n x work correction v F G → x ≤ work → x ≤ correction → Kept x F G
unfolding part
smoothed_kept {n} {x} h a b = record { below = h.kept 0 x (omega arith) (omega arith) (omega arith); size = h.size }

-- Where it accepts, x is what the sweeps leave.
smooth_is : (k : Kernel) (dic rhs x : List Float) (kind : MultigridSmoother) (sweeps : ℕ) (v : List Float)
    → smooth_of k dic rhs kind sweeps x ≡ accepted v → swept_of k dic rhs kind sweeps x ≡ v
unfolding smooth_of
smooth_is k dic rhs x kind sweeps v e =
    let y = swept_of k dic rhs kind sweeps x in asked_is (eqb sweeps 0) (all_finite k.rows y) bad_smoother_output y v e

-- What the smoother requires.
pub smooth_ok : {w : List ℕ} {size : ℕ} {g : Inner} → InnerOk w size g
    → SmoothOk w size g.matrix g.dic g.vectors.rhs g.vectors.x g.vectors.work g.vectors.correction
smooth_ok ok = record {
  kernel = ok.kernel;
  dics = ok.dics;
  given = ok.xs;
  xs = ok.works;
  works = ok.corrections;
  fits = omega (arith, ok.products, ok.nexts, ok.coarses, ok.room);
}

-- x is smoothed.
pub smooth_done : (w : List ℕ) (g : Inner) (kind : MultigridSmoother) (sweeps : ℕ) {F G : List Float} {r : Result Unit Refusal}
    → SmoothDone g.matrix.rows g.vectors.x g.vectors.work g.vectors.correction
    (smoothed_at w F g kind sweeps)
    (swept_of (matrix_at w F g) (part g.dic g.matrix.rows F) (rhs_at g.vectors g.matrix.rows F) kind sweeps (x_at g.vectors g.matrix.rows F)) F G r
    → InnerOk w (length F) g → Moved g.vectors.x g.matrix.rows (smoothed_at w F g kind sweeps) F G r
smooth_done w g kind sweeps {F} {G} {r} d ok = record {
  answer = d.verdict;
  is = λ v e. d.smoothed.is
      ∙ smooth_is (matrix_at w F g) (part g.dic g.matrix.rows F) (rhs_at g.vectors g.matrix.rows F) (x_at g.vectors g.matrix.rows F) kind sweeps v e;
  floats = smoothed_kept d.smoothed (omega (arith, ok.works)) (omega (arith, ok.works, ok.corrections));
}

-- ---- the residual

-- With no sweeps before, it is the right-hand side,
pub at_none : (v : LevelScratch) {sweeps : ℕ} → sweeps ≡ 0 → v.rhs ≡ residual_place v sweeps
at_none v {sweeps} e = rw (eq-eqb sweeps 0 e)

-- else it stands with the work.
pub at_some : (v : LevelScratch) {sweeps : ℕ} → (sweeps ≡ 0 → ⊥) → v.work ≡ residual_place v sweeps
at_some v {sweeps} e = rw (ne_eqb sweeps 0 e)

module _ {w : List ℕ} {size : ℕ} {g : Inner} (ok : InnerOk w size g) (sweeps : ℕ) where
  -- It ends below the correction,
  pub residual_ends : residual_place g.vectors sweeps + g.matrix.rows ≤ g.vectors.correction
  residual_ends = go (eqb sweeps 0)
    where
      go : (none : Bool) → cond none g.vectors.rhs g.vectors.work + g.matrix.rows ≤ g.vectors.correction
      go true = omega (arith, ok.xs, ok.works, ok.corrections)
      go false = ok.corrections

  -- and is clear of x.
  residual_clear : Clear (residual_place g.vectors sweeps) g.matrix.rows g.vectors.x g.matrix.rows
  residual_clear = go (eqb sweeps 0)
    where
      go : (none : Bool) → Clear (cond none g.vectors.rhs g.vectors.work) g.matrix.rows g.vectors.x g.matrix.rows
      go true = omega (arith, ok.xs)
      go false = omega (arith, ok.works)

-- The residual with no sweeps before.
pub resided_none : (w : List ℕ) (F : List Float) (g : Inner) {sweeps : ℕ} → sweeps ≡ 0 → Resided w F F g sweeps
unfolding residual_after
resided_none w F g {sweeps} e = record { is = rw (eq-eqb sweeps 0 e); floats = kept_self }

-- What the product of x requires.
pub product_ok : {w : List ℕ} {size : ℕ} {g : Inner} → InnerOk w size g
    → KernelOk w g.vectors.x g.matrix
    × ((g.vectors.x + g.matrix.rows ≤ g.vectors.product) × (g.vectors.product + g.matrix.rows ≤ size))
product_ok ok = (
  kernel_above ok.kernel (omega (arith, ok.xs)),
  (omega (arith, ok.works, ok.corrections, ok.products), omega (arith, ok.nexts, ok.coarses, ok.room)),
)

module _ {w : List ℕ} {F G : List Float} {g : Inner} (ok : InnerOk w (length F) g)
    (p : Wrote g.vectors.product g.matrix.rows (apply_of (matrix_at w F g) (part g.vectors.x g.matrix.rows F)) F G) where
  -- What the subtraction requires.
  pub subtract_ok : SubtractOk (length G) g.matrix.rows g.vectors.rhs g.vectors.product g.vectors.work
  subtract_ok =
      let xs = ok.xs in
      let works = ok.works in
      let corrections = ok.corrections in
      let products = ok.products in
      let room : g.vectors.product + g.matrix.rows ≤ length G = omega (arith, ok.nexts, ok.coarses, ok.room, p.size) in
      record { rhss = omega arith; products = omega arith; outs = omega arith; clear_rhs = omega arith; clear_product = omega arith }

  -- The residual after sweeps.
  pub resided_some : {H : List Float} {sweeps : ℕ} → (sweeps ≡ 0 → ⊥)
      → Wrote g.vectors.work g.matrix.rows
      (subtract_of g.matrix.rows (part g.vectors.rhs g.matrix.rows G) (part g.vectors.product g.matrix.rows G)) G H
      → Resided w F H g sweeps
  unfolding residual_after kernel_at
  resided_some {H} {sweeps} e h =
      let n = g.matrix.rows in
      let v = g.vectors in
      let xs = ok.xs in
      let works = ok.works in
      let corrections = ok.corrections in
      let products = ok.products in
      let room : v.product + n ≤ length F = omega (arith, ok.nexts, ok.coarses, ok.room) in
      let same = p.size in
      let a = wrote_at p (omega arith) in
      let b = kept_part (kept_wrote {p = v.work} p (omega arith)) v.rhs n (omega arith) in
      let c = wrote_at h (omega arith) in
      record {
        is = rw (ne_eqb sweeps 0 e) (c ∙ rw (a, b));
        floats = kept_on (kept_wrote p (omega arith)) (kept_wrote h (omega arith));
      }

-- ---- the way down

module _ {w : List ℕ} {F G : List Float} {sweeps : ℕ} {g : Inner} (ok : InnerOk w (length F) g) (d : Resided w F G g sweeps) {from : ℕ}
    (e : from ≡ residual_place g.vectors sweeps) where
  -- What the restriction requires.
  pub restrict_ok : RestrictOk w (length G) g.matrix.rows g.next g.links from g.below.rhs
  restrict_ok =
      let below = residual_ends ok sweeps in
      let products = ok.products in
      let nexts = ok.nexts in
      record {
        maps = ok.links;
        residuals = omega arith;
        outs = omega (arith, ok.coarses, ok.room, d.floats.size);
        near = ok.near;
      }

  module _ {H : List Float}
      (h : Wrote g.below.rhs g.next
      (restrict_of g.next g.matrix.rows (part g.links g.matrix.rows w) (part from g.matrix.rows G)) G H) where
    -- There is room for the next level's x.
    pub zeros_ok : g.below.x + g.next ≤ length H
    zeros_ok = omega (arith, ok.room, d.floats.size, h.size)

    -- The next level's right-hand side and x.
    pub restricted : {I : List Float} → Wrote g.below.x g.next (filled g.next zero64) H I → Restricted w F I g sweeps
    restricted {I} i =
        let n = g.matrix.rows in
        let v = g.vectors in
        let next = g.next in
        let corrections = ok.corrections in
        let products = ok.products in
        let nexts = ok.nexts in
        let coarses = ok.coarses in
        let room = ok.room in
        let ds = d.floats.size in
        let hs = h.size in
        let ends = residual_ends ok sweeps in
        let h' : Wrote g.below.rhs next (restrict_of next n (part g.links n w) (part (residual_place v sweeps) n G)) G H = rw e at h in
        let kh : Kept g.below.rhs G H = kept_wrote h' (omega arith) in
        let ki : Kept g.below.x H I = kept_wrote i (omega arith) in
        let r : residual_at v n sweeps I ≡ residual_at v n sweeps G =
        kept_part ki (residual_place v sweeps) n (omega arith) ∙ kept_part kh (residual_place v sweeps) n (omega arith) in
        record {
          left = record {
            residual = r ∙ d.is;
            rhs = kept_part ki g.below.rhs next (omega arith) ∙ wrote_at h' (omega arith) ∙ ap (restrict_of next n (part g.links n w)) d.is;
            zeros = wrote_at i (omega arith);
          };
          floats = kept_on d.floats (kept_on (kept_less kh (omega arith)) (kept_less ki (omega arith)));
        }

module _ {kind : MultigridSmoother} {w : List ℕ} {F G : List Float} {sweeps : ℕ} {g : Inner} {v : Result Unit Refusal} (ok : InnerOk w (length F) g)
    (m : Moved g.vectors.x g.matrix.rows (smoothed_at w F g kind sweeps) F G v) where
  -- Question 25 refuses.
  pub down_no : {q : Refusal} → v ≡ Err q → Downed kind w F G g sweeps (Err q)
  down_no {q} told =
      let out = smoothed_at w F g kind sweeps in
      let no : out ≡ refused q = refuses out m.answer told in
      record { moved = subst (Moved g.vectors.x g.matrix.rows out F G) told m; left = λ u e. never no e }

  -- The way down.
  pub down_yes : v ≡ Ok tt → {H : List Float} → Restricted w G H g sweeps → Downed kind w F H g sweeps (Ok tt)
  down_yes told {H} h =
      let n = g.matrix.rows in
      let v = g.vectors in
      let xs = ok.xs in
      let works = ok.works in
      let out = smoothed_at w F g kind sweeps in
      let kernel : matrix_at w G g ≡ matrix_at w F g = kernel_kept ok.kernel (kept_less m.floats (omega arith)) in
      let rhs : rhs_at v n G ≡ rhs_at v n F = kept_part m.floats v.rhs n (omega arith) in
      let x : x_at v n H ≡ x_at v n G = kept_part h.floats v.x n (omega arith) in
      let was : (u : List Float) → out ≡ accepted u → residual_in w G g sweeps (x_at v n G) ≡ residual_in w F g sweeps u =
      λ u e. rw (kernel, rhs, m.is u e) in
      record {
        moved = record {
          answer = sym told ∙ m.answer;
          is = λ u e. x ∙ m.is u e;
          floats = kept_on m.floats (kept_less h.floats (omega arith));
        };
        left = λ u e. subst (Left w H g sweeps) (was u e) h.left;
      }

-- ---- the correction

-- What the product of the correction requires.
pub image_ok : {w : List ℕ} {size : ℕ} {g : Inner} → InnerOk w size g
    → KernelOk w g.vectors.correction g.matrix
    × ((g.vectors.correction + g.matrix.rows ≤ g.vectors.product) × (g.vectors.product + g.matrix.rows ≤ size))
image_ok ok = (
  kernel_above ok.kernel (omega (arith, ok.xs, ok.works, ok.corrections)),
  (ok.products, omega (arith, ok.nexts, ok.coarses, ok.room)),
)

-- A refused factor was refused,
factor_no : {r : Result Float Refusal} {q : Refusal} (out : Outcome Float) → r ≡ factor_of out → r ≡ Err q → out ≡ refused q
factor_no (accepted a) e told = let none : ◌≡◌ {A = ℕ} 0 1 = cc in absurd (omega arith)
factor_no (refused p) e told = cc

-- and a factor was accepted.
factor_yes : {r : Result Float Refusal} {x : Float} (out : Outcome Float) → r ≡ factor_of out → r ≡ Ok x → out ≡ accepted x
factor_yes (accepted a) e told = cc
factor_yes (refused q) e told = let none : ◌≡◌ {A = ℕ} 0 1 = cc in absurd (omega arith)

module _ {w : List ℕ} {F G : List Float} {from : ℕ} (sweeps : ℕ) {g : Inner} (ok : InnerOk w (length F) g)
    (e : from ≡ residual_place g.vectors sweeps)
    (p : Wrote g.vectors.product g.matrix.rows (apply_of (matrix_at w F g) (part g.vectors.correction g.matrix.rows F)) F G) where
  -- the vectors, and their length
  abbrev v : LevelScratch
  v = g.vectors

  abbrev n : ℕ
  n = g.matrix.rows

  -- the level's vectors end in the store
  room : v.product + n ≤ length G
  room = omega (arith, ok.nexts, ok.coarses, ok.room, p.size)

  -- the residual ends below the correction
  below : from + n ≤ v.correction
  below = rw e (residual_ends ok sweeps)

  -- What the products require.
  pub products_ok : ProductsOk (length G) n v.correction from v.product
  products_ok =
      let a = room in
      let b = below in
      let works = ok.works in
      let corrections = ok.corrections in
      let products = ok.products in
      record { corrections = omega arith; residuals = omega arith; products = omega arith }

  -- What the scaled sum requires.
  pub scaled_ok : ScaledOk (length G) n v.correction from v.product g.matrix.inverse v.x
  scaled_ok =
      let a = room in
      let b = below in
      let works = ok.works in
      let corrections = ok.corrections in
      let products = ok.products in
      record {
        inverses = omega (arith, ok.kernel.recip, ok.xs);
        xs = omega arith;
        corrections = omega arith;
        products = omega arith;
        residuals = omega arith;
        clear = rw e (residual_clear ok sweeps);
      }

  -- below the product nothing changed
  kept : Kept v.product F G
  kept = kept_wrote p (omega arith)

  -- the regions that the factor and the sum read
  product_is : part v.product n G ≡ apply_of (matrix_at w F g) (correction_at v n F)
  product_is = let a = room in wrote_at p (omega (arith, p.size))

  correction_is : part v.correction n G ≡ correction_at v n F
  correction_is = kept_part kept v.correction n ok.products

  residual_is : part from n G ≡ residual_at v n sweeps F
  residual_is = let b = below in let products = ok.products in kept_part kept from n (omega arith) ∙ ap (λ (a : ℕ). part a n F) e

  -- the factor's outcome
  factor_is : Outcome Float
  factor_is = correction_factor_of n (correction_at v n F) (residual_at v n sweeps F) (apply_of (matrix_at w F g) (correction_at v n F))

  module _ {r : Result Float Refusal} (h : r ≡ factor_of (correction_factor_of n (part v.correction n G) (part from n G) (part v.product n G))) where
    -- the factor is told by what stood before
    told_by : r ≡ factor_of factor_is
    unfolding factor_is
    told_by = h ∙ rw (product_is, correction_is, residual_is)

    -- Questions 26 and 27 refuse.
    pub scaled_no : {q : Refusal} → r ≡ Err q → Moved v.x n (scaled_at w F g sweeps) F G (Err q)
    unfolding factor_is kernel_at
    scaled_no {q} t =
        let no = factor_no factor_is told_by t in
        let out = scaled_at w F g sweeps in
        let all : out ≡ refused q = rw no in
        record { answer = sym (verdict_refused out all); is = λ u y. never all y; floats = kept_less kept (omega (arith, ok.works, ok.corrections, ok.products)) }

    -- The correction is scaled and added.
    pub scaled_yes : {x : Float} {H : List Float} → r ≡ Ok x
        → Wrote v.x n (add_scaled_of n x (part v.correction n G) (part from n G) (part v.product n G) (part g.matrix.inverse n G) (part v.x n G)) G H
        → Moved v.x n (scaled_at w F g sweeps) F H (Ok tt)
    unfolding factor_is kernel_at
    scaled_yes {x} {H} t i =
        let yes = factor_yes factor_is told_by t in
        let a = room in
        let xs = ok.xs in
        let works = ok.works in
        let corrections = ok.corrections in
        let products = ok.products in
        let out = scaled_at w F g sweeps in
        let inv : part g.matrix.inverse n G ≡ part g.matrix.inverse n F = kept_part kept g.matrix.inverse n (omega (arith, ok.kernel.recip)) in
        let x_is : part v.x n G ≡ x_at v n F = kept_part kept v.x n (omega arith) in
        let sum = add_scaled_of n x (correction_at v n F) (residual_at v n sweeps F) (apply_of (matrix_at w F g) (correction_at v n F)) (part g.matrix.inverse n F) (x_at v n F) in
        let all : out ≡ accepted sum = rw yes in
        let at : x_at v n H ≡ sum = wrote_at i (omega arith) ∙ rw (product_is, correction_is, residual_is, inv, x_is) in
        record {
          answer = sym (verdict_passed out all);
          is = λ u y. at ∙ same_accepted all y;
          floats = kept_on (kept_less kept (omega arith)) (kept_wrote i (omega arith));
        }

-- What the prolongation requires.
pub prolong_ok : {w : List ℕ} {size : ℕ} {g : Inner} → InnerOk w size g
    → ProlongOk w size g.matrix.rows g.next g.links g.below.x g.vectors.correction
prolong_ok ok = record { maps = ok.links; outs = omega (arith, ok.products, ok.nexts, ok.coarses); coarses = ok.room; near = ok.near }

module _ {w : List ℕ} {F G : List Float} {g : Inner} (ok : InnerOk w (length F) g)
    (b : Wrote g.vectors.correction g.matrix.rows (brought_at w F g) F G) where
  -- below the correction nothing changed
  lifted : Kept g.vectors.correction F G
  lifted = kept_wrote b (omega arith)

  -- the correction is that of the next level's x
  scaled_is : (sweeps : ℕ)
      → scaled_at w G g sweeps
      ≡ scaled_correction (matrix_at w F g) (residual_at g.vectors g.matrix.rows sweeps F) (brought_at w F g) (x_at g.vectors g.matrix.rows F)
  scaled_is sweeps =
      let n = g.matrix.rows in
      let v = g.vectors in
      let xs = ok.xs in
      let works = ok.works in
      let corrections = ok.corrections in
      let k = lifted in
      let kernel : matrix_at w G g ≡ matrix_at w F g = kernel_kept ok.kernel (kept_less k (omega arith)) in
      let e : correction_at v n G ≡ brought_at w F g = wrote_at b (inner_room ok) in
      let r : residual_at v n sweeps G ≡ residual_at v n sweeps F = kept_part k (residual_place v sweeps) n (residual_ends ok sweeps) in
      let x : x_at v n G ≡ x_at v n F = kept_part k v.x n (omega arith) in
      rw (kernel, e, r, x)

  -- The next level's x comes up as the correction and is scaled, where that is asked for,
  pub correct_scaled : {scale : Bool} (sweeps : ℕ) {H : List Float} {r : Result Unit Refusal} → scale ≡ true
      → Moved g.vectors.x g.matrix.rows (scaled_at w G g sweeps) G H r
      → Moved g.vectors.x g.matrix.rows (corrected_at w F g scale sweeps) F H r
  unfolding corrected
  correct_scaled sweeps {H} {r} e m =
      let down = kept_on (kept_less lifted (omega (arith, ok.works, ok.corrections))) m.floats in
      rw e (subst (λ (z : Outcome (List Float)). Moved g.vectors.x g.matrix.rows z F H r) (scaled_is sweeps)
      (record { answer = m.answer; is = m.is; floats = down }))

-- What the plain sum requires.
pub plain_ok : {w : List ℕ} {size : ℕ} {g : Inner} → InnerOk w size g
    → ProlongOk w size g.matrix.rows g.next g.links g.below.x g.vectors.x
plain_ok ok = record {
  maps = ok.links;
  outs = omega (arith, ok.works, ok.corrections, ok.products, ok.nexts, ok.coarses);
  coarses = ok.room;
  near = ok.near;
}

-- and added as it is.
pub correct_plain : {w : List ℕ} {F G : List Float} {g : Inner} {scale : Bool} (sweeps : ℕ) → InnerOk w (length F) g → scale ≡ false
    → Wrote g.vectors.x g.matrix.rows (add_plain_of g.matrix.rows (brought_at w F g) (part g.vectors.x g.matrix.rows F)) F G
    → Moved g.vectors.x g.matrix.rows (corrected_at w F g scale sweeps) F G (Ok tt)
unfolding corrected kernel_at
correct_plain {w} {F} {G} {g} sweeps ok e h =
    rw e (record {
      answer = refl;
      is = λ v y. wrote_at h (omega (arith, ok.works, ok.corrections, inner_room ok)) ∙ same_accepted refl y;
      floats = kept_wrote h (omega arith);
    })

-- ---- the way up

module _ {w : List ℕ} {F : List Float} {g : Inner} (ok : InnerOk w (length F) g) (kind : MultigridSmoother) (scale : Bool) (pre : ℕ) {H : List Float}
    {v : Result Unit Refusal} (m : Moved g.vectors.x g.matrix.rows (corrected_at w F g scale pre) F H v) (post : ℕ) where
  -- Questions 26 and 27 refuse.
  pub up_no : {q : Refusal} → v ≡ Err q → Moved g.vectors.x g.matrix.rows (raised_at w F g kind scale pre post) F H (Err q)
  up_no {q} told =
      let out = raised_at w F g kind scale pre post in
      let no = refuses (corrected_at w F g scale pre) m.answer told in
      let all : out ≡ refused q = rw no in
      record { answer = sym (verdict_refused out all); is = λ u y. never all y; floats = m.floats }

  -- The sweeps after it.
  pub up_yes : v ≡ Ok tt → {I : List Float} {r : Result Unit Refusal} → Moved g.vectors.x g.matrix.rows (smoothed_at w H g kind post) H I r
      → Moved g.vectors.x g.matrix.rows (raised_at w F g kind scale pre post) F I r
  up_yes told {I} {r} i =
      let n = g.matrix.rows in
      let at = g.vectors in
      let xs = ok.xs in
      let yes = accepts_it (corrected_at w F g scale pre) m.answer told in
      let is = yes.1 in
      let low : Kept at.rhs F H = kept_less m.floats (omega arith) in
      let kernel : matrix_at w H g ≡ matrix_at w F g = kernel_kept ok.kernel low in
      let dic : part g.dic n H ≡ part g.dic n F = kept_part low g.dic n ok.dics in
      let rhs : rhs_at at n H ≡ rhs_at at n F = kept_part m.floats at.rhs n (omega arith) in
      let x : x_at at n H ≡ yes.0 = m.is yes.0 yes.1 in
      let out : raised_at w F g kind scale pre post ≡ smoothed_at w H g kind post = rw (is, kernel, dic, rhs, x) in
      subst (λ (z : Outcome (List Float)). Moved at.x n z F I r) (sym out) (record { answer = i.answer; is = i.is; floats = kept_on m.floats i.floats })
