-- The row sums under each norm.
-- Assumes nothing.
use mathlib.Core.Path.{◌≡◌, sym, ap, subst}
use mathlib.Core.Bool.{Bool, true, false, cond}
use mathlib.Core.List.{List}
use Prim.Native.Nat.{ℕ}
use lib.Ieee.{Float}
use Rattle.float.specs.Float.{zero64}
use Rattle.store.specs.Region.{Wrote}
use Rattle.store.specs.Vector.{filled}
use Rattle.options.specs.declared.options.MultigridResidualNorm.{MultigridResidualNorm}
use Rattle.matrix.specs.declared.matrix.SymmetricMatrix.{SymmetricMatrix}
use Rattle.matrix.specs.Kernel.{kernel_at, row_sums_of}
use Rattle.hierarchy.specs.Refresh.{needs_sums}
use Rattle.layout.specs.SumsContract.{sums_at}

-- A choice that fails,
cond_no : {A : Type 0} (b : Bool) (x y : A) → b ≡ false → cond b x y ≡ y
cond_no b x y e = rw e

-- and one that holds.
cond_yes : {A : Type 0} (b : Bool) (x y : A) → b ≡ true → cond b x y ≡ x
cond_yes b x y e = rw e

module _ (w : List ℕ) (s : SymmetricMatrix) {F G : List Float} {norm : MultigridResidualNorm} {to : ℕ} where
  -- Under a norm that needs no row sums zeros are written;
  pub sums_none : norm ≡ MultigridResidualNorm.AbsoluteL2 → Wrote to s.rows (filled s.rows zero64) F G
      → Wrote to s.rows (sums_at norm w F s) F G
  sums_none n wrote = subst (λ (v : List Float). Wrote to s.rows v F G) (sym (cond_no (needs_sums norm) _ _ (ap needs_sums n))) wrote

  -- under the other the row sums.
  pub sums_all : norm ≡ MultigridResidualNorm.NormalizedL1 → Wrote to s.rows (row_sums_of (kernel_at s w F)) F G
      → Wrote to s.rows (sums_at norm w F s) F G
  sums_all n wrote = subst (λ (v : List Float). Wrote to s.rows v F G) (sym (cond_yes (needs_sums norm) _ _ (ap needs_sums n))) wrote
