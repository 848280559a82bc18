-- `smooth`: sweep after sweep, and its ways out.
-- Assumes nothing.
use Rattle.std.specs.Prelude.{Ok, Err}
use mathlib.Core.Path.{◌≡◌, refl, sym, ap, ◌∙◌}
use mathlib.Core.Bool.{Bool, true, false, cond}
use mathlib.Core.List.{List}
use Prim.Native.Nat.{ℕ, ◌+◌, ◌≤◌, ◌<◌}
use native.Mathlib.Omega.{arith}
use lib.ListN.{length}
use lib.Ieee.{Float}
use borrow.Author.Tests.{ne_eqb}
use Rattle.store.specs.Loop.{for}
use Rattle.store.specs.Region.{Clear, idx, part, splice}
use Rattle.store.proofs.store.Loop.{for_done, Left, left_start, left_on, left_end}
use Rattle.store.proofs.store.Region.{length_splice, part_splice, part_splice_below, part_splice_clear}
use Rattle.options.specs.declared.options.MultigridSmoother.{MultigridSmoother}
use Rattle.refusal.specs.Refusal.{bad_smoother_output}
use Rattle.vector.specs.Finite.{all_finite}
use Rattle.matrix.specs.declared.matrix.SymmetricMatrix.{SymmetricMatrix}
use Rattle.matrix.specs.Kernel.{Kernel, kernel_at}
use Rattle.gauss_seidel.specs.Sweep.{Swept, gauss_seidel_of, dic_sweep_of}
use Rattle.gauss_seidel.specs.Contract.{GaussSeidelOk, SmoothOk, Both}
use Rattle.options.specs.Options.{needs_dic}
use Rattle.smoother.specs.Smooth.{is_symmetric, dic_sweeps_of, gauss_seidels_of, swept_of, smooth_of, Smoothed, SmoothDone}

-- The layout holds in a store of the same size.
pub smooth_resize : {w : List ℕ} {size size' dic rhs x work correction : ℕ} {s : SymmetricMatrix} → SmoothOk w size s dic rhs x work correction → size' ≡ size
    → SmoothOk w size' s dic rhs x work correction
smooth_resize ok e = rw e ok

-- It is one of Gauss-Seidel.
pub smooth_sweep : {w : List ℕ} {size size' dic rhs x work correction : ℕ} {s : SymmetricMatrix} → SmoothOk w size s dic rhs x work correction → size' ≡ size
    → GaussSeidelOk w size' s rhs x work
smooth_sweep ok e = record { kernel = ok.kernel; given = ok.given; xs = ok.xs; fits = omega arith }

-- At the start nothing has changed.
pub smoothed_start : {n x work correction : ℕ} {F : List Float} → Smoothed n x work correction (part x n F) F F
smoothed_start = record { is = refl; kept = λ a m p q r. refl; size = refl }

module _ {n x beside : ℕ} {v : Swept} {G H : List Float} (b : Both n x beside v G H) where
  both_x : x + n ≤ beside → beside + n ≤ length G → part x n H ≡ v.x
  both_x h l = ap (part x n) b.is ∙ part_splice_below x n beside v.beside (splice x v.x G) h ∙ part_splice x n v.x G b.long_x (omega arith)

  both_kept : (a m : ℕ) → Clear a m x n → Clear a m beside n → part a m H ≡ part a m G
  both_kept a m p q =
      ap (part a m) b.is ∙ part_splice_clear a m beside v.beside (splice x v.x G) (rw b.long q) ∙ part_splice_clear a m x v.x G (rw b.long_x p)

  both_size : length H ≡ length G
  both_size = ap length b.is ∙ length_splice beside v.beside (splice x v.x G) ∙ length_splice x v.x G

module _ {w : List ℕ} {F : List Float} {s : SymmetricMatrix} {dic rhs x work correction : ℕ} (ok : SmoothOk w (length F) s dic rhs x work correction) where
  module _ {v G : List Float} (p : Smoothed s.rows x work correction v F G) where
    -- What lies below x is as it was.
    below : (a m : ℕ) → a + m ≤ x → part a m G ≡ part a m F
    below a m h = p.kept a m (omega arith) (omega (arith, ok.xs)) (omega (arith, ok.xs, ok.works))

    -- So is the matrix.
    same_kernel : kernel_at s w G ≡ kernel_at s w F
    unfolding kernel_at
    same_kernel =
        let k = ok.kernel in
        let g = ok.given in
        rw (below s.diagonal s.rows (omega arith), below s.inverse s.rows (omega arith), below s.coefficients (idx w (s.offsets + s.rows)) (omega arith))

    -- A DIC sweep more.
    pub dic_more : {H : List Float}
        → Both s.rows x correction (dic_sweep_of (kernel_at s w G) (part dic s.rows G) (part rhs s.rows G) (part x s.rows G)) G H
        → Smoothed s.rows x work correction (dic_sweep_of (kernel_at s w F) (part dic s.rows F) (part rhs s.rows F) v).x F H
    dic_more {H} b =
        let z = p.size in
        let d = ok.dics in
        record {
          is = both_x b (omega (arith, ok.xs, ok.works)) (omega (arith, ok.fits))
              ∙ rw (same_kernel, below dic s.rows (omega (arith, ok.given)), below rhs s.rows ok.given, p.is);
          kept = λ a m q r t. both_kept b a m q t ∙ p.kept a m q r t;
          size = both_size b ∙ p.size;
        }

    -- A Gauss-Seidel sweep more.
    pub gauss_seidel_more : (symmetric : Bool) {H : List Float}
        → Both s.rows x work (gauss_seidel_of (kernel_at s w G) symmetric (part rhs s.rows G) (part x s.rows G)) G H
        → Smoothed s.rows x work correction (gauss_seidel_of (kernel_at s w F) symmetric (part rhs s.rows F) v).x F H
    gauss_seidel_more symmetric {H} b =
        let z = p.size in
        record {
          is = both_x b ok.xs (omega (arith, ok.works, ok.fits)) ∙ rw (same_kernel, below rhs s.rows ok.given, p.is);
          kept = λ a m q r t. both_kept b a m q r ∙ p.kept a m q r t;
          size = both_size b ∙ p.size;
        }

-- ---- the loops

-- The invariant of the loop of DIC sweeps: x so far, of which what is left makes the whole.
pub record DicSweeping (w : List ℕ) (s : SymmetricMatrix) (dic rhs x work correction sweeps i : ℕ) (F G : List Float) : Type 0 where
  pub vector : List Float
  pub smoothed : Smoothed s.rows x work correction vector F G
  pub left : Left (λ _ y. (dic_sweep_of (kernel_at s w F) (part dic s.rows F) (part rhs s.rows F) y).x) i sweeps vector
      (dic_sweeps_of (kernel_at s w F) (part dic s.rows F) (part rhs s.rows F) sweeps (part x s.rows F))

-- The same of Gauss-Seidel.
pub record GaussSeideling (w : List ℕ) (s : SymmetricMatrix) (rhs x work correction : ℕ) (symmetric : Bool) (sweeps i : ℕ) (F G : List Float) : Type 0 where
  pub vector : List Float
  pub smoothed : Smoothed s.rows x work correction vector F G
  pub left : Left (λ _ y. (gauss_seidel_of (kernel_at s w F) symmetric (part rhs s.rows F) y).x) i sweeps vector
      (gauss_seidels_of (kernel_at s w F) (part rhs s.rows F) symmetric sweeps (part x s.rows F))

module _ {w : List ℕ} {s : SymmetricMatrix} {dic rhs x work correction sweeps : ℕ} {F : List Float} where
  -- At the start x is as it was.
  pub dic_start : DicSweeping w s dic rhs x work correction sweeps 0 F F
  unfolding dic_sweeps_of
  dic_start = record { vector = part x s.rows F; smoothed = smoothed_start; left = left_start }

  -- A sweep.
  pub dic_on : {i : ℕ} {G H : List Float} → SmoothOk w (length F) s dic rhs x work correction → DicSweeping w s dic rhs x work correction sweeps i F G → i < sweeps
      → Both s.rows x correction (dic_sweep_of (kernel_at s w G) (part dic s.rows G) (part rhs s.rows G) (part x s.rows G)) G H
      → DicSweeping w s dic rhs x work correction sweeps (i + 1) F H
  dic_on ok p h b = record { vector = _; smoothed = dic_more ok p.smoothed b; left = left_on p.left h refl }

  -- The last is done.
  pub dic_done : {i : ℕ} {G : List Float} → DicSweeping w s dic rhs x work correction sweeps i F G → sweeps ≤ i
      → Smoothed s.rows x work correction (dic_sweeps_of (kernel_at s w F) (part dic s.rows F) (part rhs s.rows F) sweeps (part x s.rows F)) F G
  dic_done p h = rw (left_end p.left h) at p.smoothed

module _ {w : List ℕ} {s : SymmetricMatrix} {rhs x work correction sweeps : ℕ} {symmetric : Bool} {F : List Float} where
  -- At the start x is as it was.
  pub gauss_seidel_start : GaussSeideling w s rhs x work correction symmetric sweeps 0 F F
  unfolding gauss_seidels_of
  gauss_seidel_start = record { vector = part x s.rows F; smoothed = smoothed_start; left = left_start }

  -- A sweep.
  pub gauss_seidel_on : {dic i : ℕ} {G H : List Float} → SmoothOk w (length F) s dic rhs x work correction
      → GaussSeideling w s rhs x work correction symmetric sweeps i F G → i < sweeps
      → Both s.rows x work (gauss_seidel_of (kernel_at s w G) symmetric (part rhs s.rows G) (part x s.rows G)) G H
      → GaussSeideling w s rhs x work correction symmetric sweeps (i + 1) F H
  gauss_seidel_on ok p h b = record { vector = _; smoothed = gauss_seidel_more ok p.smoothed symmetric b; left = left_on p.left h refl }

  -- The last is done.
  pub gauss_seidel_done : {i : ℕ} {G : List Float} → GaussSeideling w s rhs x work correction symmetric sweeps i F G → sweeps ≤ i
      → Smoothed s.rows x work correction (gauss_seidels_of (kernel_at s w F) (part rhs s.rows F) symmetric sweeps (part x s.rows F)) F G
  gauss_seidel_done p h = rw (left_end p.left h) at p.smoothed

-- ---- the ways out

module _ {w : List ℕ} {F G : List Float} {s : SymmetricMatrix} {dic rhs x work correction : ℕ} (sweeps : ℕ) (kind : MultigridSmoother) (d symmetric : Bool)
    (ok : SmoothOk w (length F) s dic rhs x work correction) (sy : symmetric ≡ is_symmetric kind) (e : d ≡ needs_dic kind) where
  -- DIC sweeps, then Gauss-Seidel.
  pub swept_dic : {H : List Float} → d ≡ true
      → Smoothed s.rows x work correction (dic_sweeps_of (kernel_at s w F) (part dic s.rows F) (part rhs s.rows F) sweeps (part x s.rows F)) F G
      → Smoothed s.rows x work correction (gauss_seidels_of (kernel_at s w G) (part rhs s.rows G) symmetric sweeps (part x s.rows G)) G H
      → Smoothed s.rows x work correction (swept_of (kernel_at s w F) (part dic s.rows F) (part rhs s.rows F) kind sweeps (part x s.rows F)) F H
  unfolding swept_of gauss_seidels_of dic_sweeps_of
  swept_dic {H} t p q =
      let dic? : needs_dic kind ≡ true = sym e ∙ t in
      record {
        is = q.is ∙ rw (same_kernel ok p, below ok p rhs s.rows ok.given, p.is, sy, dic?);
        kept = λ a m u r v. q.kept a m u r v ∙ p.kept a m u r v;
        size = q.size ∙ p.size;
      }

  -- Gauss-Seidel alone.
  pub swept_plain : d ≡ false
      → Smoothed s.rows x work correction (gauss_seidels_of (kernel_at s w F) (part rhs s.rows F) symmetric sweeps (part x s.rows F)) F G
      → Smoothed s.rows x work correction (swept_of (kernel_at s w F) (part dic s.rows F) (part rhs s.rows F) kind sweeps (part x s.rows F)) F G
  unfolding swept_of gauss_seidels_of dic_sweeps_of
  swept_plain t p =
      let dic? : needs_dic kind ≡ false = sym e ∙ t in
      record { is = p.is ∙ rw (sy, dic?); kept = p.kept; size = p.size }

-- No sweep leaves x.
swept_none : (k : Kernel) (dic rhs : List Float) (kind : MultigridSmoother) (v : List Float) → swept_of k dic rhs kind 0 v ≡ v
unfolding swept_of gauss_seidels_of dic_sweeps_of
swept_none k dic rhs kind v =
    for_done _ 0 0 _ (omega arith) ∙ go (needs_dic kind)
  where
    go : (b : Bool) → cond b (for (λ _ y. (dic_sweep_of k dic rhs y).x) 0 0 v) v ≡ v
    go true = for_done _ 0 0 v (omega arith)
    go false = refl

module _ (w : List ℕ) (F : List Float) (s : SymmetricMatrix) (dic rhs x work correction sweeps : ℕ) (kind : MultigridSmoother) where
  -- No sweep, no question.
  pub smooth_none : sweeps ≡ 0
      → SmoothDone s.rows x work correction (smooth_of (kernel_at s w F) (part dic s.rows F) (part rhs s.rows F) kind sweeps (part x s.rows F))
      (swept_of (kernel_at s w F) (part dic s.rows F) (part rhs s.rows F) kind sweeps (part x s.rows F)) F F (Ok tt)
  unfolding smooth_of
  smooth_none z =
      rw z (record { verdict = refl; smoothed = rw (swept_none (kernel_at s w F) (part dic s.rows F) (part rhs s.rows F) kind (part x s.rows F)) smoothed_start })

  module _ (G : List Float) (r : Bool) (z : sweeps ≡ 0 → ⊥)
      (p : Smoothed s.rows x work correction (swept_of (kernel_at s w F) (part dic s.rows F) (part rhs s.rows F) kind sweeps (part x s.rows F)) F G)
      (e : r ≡ all_finite s.rows (part x s.rows G)) where
    told : r ≡ all_finite s.rows (swept_of (kernel_at s w F) (part dic s.rows F) (part rhs s.rows F) kind sweeps (part x s.rows F))
    told = e ∙ ap (all_finite s.rows) p.is

    -- x is finite.
    pub smooth_yes : r ≡ true
        → SmoothDone s.rows x work correction (smooth_of (kernel_at s w F) (part dic s.rows F) (part rhs s.rows F) kind sweeps (part x s.rows F))
        (swept_of (kernel_at s w F) (part dic s.rows F) (part rhs s.rows F) kind sweeps (part x s.rows F)) F G (Ok tt)
    unfolding smooth_of kernel_at
    smooth_yes t = record { verdict = rw (ne_eqb sweeps 0 z, sym told ∙ t); smoothed = p }

    -- Question 25 refuses.
    pub smooth_no : r ≡ false
        → SmoothDone s.rows x work correction (smooth_of (kernel_at s w F) (part dic s.rows F) (part rhs s.rows F) kind sweeps (part x s.rows F))
        (swept_of (kernel_at s w F) (part dic s.rows F) (part rhs s.rows F) kind sweeps (part x s.rows F)) F G (Err bad_smoother_output)
    unfolding smooth_of kernel_at
    smooth_no t = record { verdict = rw (ne_eqb sweeps 0 z, sym told ∙ t); smoothed = p }
