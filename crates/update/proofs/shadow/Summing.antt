-- The row sums of the finest level.
-- Assumes nothing.
use mathlib.Core.Path.{◌≡◌, sym, subst}
use mathlib.Core.List.{List}
use Prim.Native.Nat.{ℕ, ◌+◌, ◌-◌, ◌≤◌}
use native.Mathlib.Omega.{arith}
use lib.Ieee.{Float}
use Rattle.store.specs.Region.{Wrote}
use Rattle.options.specs.declared.options.MultigridResidualNorm.{MultigridResidualNorm}
use Rattle.matrix.specs.declared.matrix.SymmetricMatrix.{SymmetricMatrix}
use Rattle.matrix.specs.Kernel.{KernelOk}
use Rattle.layout.specs.declared.Place.{Place}
use Rattle.layout.specs.Layout.{locate}
use Rattle.layout.specs.Parts.{kernel_in}
use Rattle.layout.specs.SumsContract.{sums_at}
use Rattle.update.specs.ShadowContract.{SumOk, Summed}

module _ {w : List ℕ} {size image : ℕ} (ok : SumOk w size image) {p : Place} (is : p ≡ locate w 0 0) where
  -- The row sums are a part of the image,
  pub sums_part : p.rows ≤ image
  sums_part = rw is ok.within

  -- and lie in the store.
  pub sums_room : image - p.rows + p.rows ≤ size
  sums_room = let h = sums_part in let r = ok.room in omega arith

  -- What they require of a kernel.
  pub sum_ready : {k : SymmetricMatrix} → k ≡ kernel_in p → (KernelOk w (image - p.rows) k) × (image - p.rows + k.rows ≤ size)
  sum_ready {k} e =
      let room = sums_room in (
        subst (λ (q : SymmetricMatrix). KernelOk w (image - p.rows) q) (sym e)
            (subst (λ (q : Place). KernelOk w (image - q.rows) (kernel_in q)) (sym is) ok.kernel),
        rw e room,
      )

  -- What is written at p is written at the finest level.
  pub summed : {F G : List Float} {norm : MultigridResidualNorm} {k : SymmetricMatrix} → k ≡ kernel_in p
      → Wrote (image - p.rows) k.rows (sums_at norm w F k) F G → Summed w F G norm image
  summed {F} {G} {norm} e s =
      let a : Wrote (image - p.rows) p.rows (sums_at norm w F (kernel_in p)) F G =
      subst (λ (k : SymmetricMatrix). Wrote (image - p.rows) k.rows (sums_at norm w F k) F G) e s in
      record { wrote = subst (λ (q : Place). Wrote (image - q.rows) q.rows (sums_at norm w F (kernel_in q)) F G) is a }
