-- The row sums of the finest level: the place of its kernel, and what is written under each norm.
-- Assumes nothing.
use mathlib.Core.Path.{◌≡◌, sym, ap, ◌∙◌, subst}
use mathlib.Core.Bool.{cond}
use mathlib.Core.List.{List}
use Prim.Native.Nat.{ℕ, ◌+◌, ◌*◌, ◌≤◌}
use native.Mathlib.Omega.{arith}
use lib.Ieee.{Float}
use Rattle.store.specs.Region.{idx, Wrote}
use Rattle.float.specs.Float.{zero64}
use Rattle.store.specs.Vector.{filled}
use Rattle.options.specs.declared.options.MultigridOptions.{MultigridOptions}
use Rattle.matrix.specs.declared.matrix.SymmetricMatrix.{SymmetricMatrix}
use Rattle.matrix.specs.Kernel.{kernel_at, row_sums_of, KernelOk}
use Rattle.hierarchy.specs.Refresh.{needs_sums}
use Rattle.layout.specs.declared.Place.{Place}
use Rattle.layout.specs.Layout.{place_of, rows_at, entries_at, faces_at, locate}
use Rattle.layout.specs.Parts.{kernel_in}
use Rattle.layout.specs.SumsContract.{sums_at}
use Rattle.build.specs.Finest.{FirstOk, SumsOk, Summed}

-- ---- the place of the first level

same_place : {r r' e e' f f' : ℕ} → r ≡ r' → e ≡ e' → f ≡ f' → place_of 0 0 r e f ≡ place_of 0 0 r' e' f'
same_place a b c = rw (a, b, c)

-- The place of the first level, from its sizes.
pub first_place : {w : List ℕ} {rows entries faces : ℕ} {p : Place} {k : SymmetricMatrix} → FirstOk w rows entries
    → faces ≡ idx w (2 * rows + entries + 4)
    → p ≡ place_of 0 0 rows entries faces → k ≡ kernel_in p → k ≡ kernel_in (locate w 0 0)
first_place {w} {rows} {entries} {faces} ok f p k =
    let tall = ok.tall in
    let most = ok.most in
    let same : 2 * rows + entries + 4 ≡ 0 + 3 + rows_at w 0 + 1 + entries_at w 0 + rows_at w 0 = omega arith in
    k ∙ ap kernel_in (p ∙ same_place (sym tall) (sym most) (f ∙ ap (idx w) same))

-- The faces of the first level are few.
pub first_few : {w : List ℕ} {rows entries faces : ℕ} → FirstOk w rows entries → faces ≡ idx w (2 * rows + entries + 4) → faces ≤ 1048576
first_few {w} {rows} {entries} {faces} ok f =
    let tall = ok.tall in
    let most = ok.most in
    let same : 2 * rows + entries + 4 ≡ 0 + 3 + rows_at w 0 + 1 + entries_at w 0 + rows_at w 0 = omega arith in
    let is : faces ≡ faces_at w 0 = f ∙ ap (idx w) same in
    omega (arith, ok.faces)

-- The kernel of the first level, as the row sums require it.
pub first_kernel : {w : List ℕ} {size end rows entries : ℕ} {k : SymmetricMatrix} → SumsOk w size end rows entries
    → k ≡ kernel_in (locate w 0 0)
    → KernelOk w end k × (end + k.rows ≤ size)
first_kernel {w} {size} {end} {rows} {entries} ok e =
    let tall = ok.first.tall in
    rw e (ok.kernel, omega (arith, ok.room))

-- The row sums, as its matrix has them, are those of the finest level.
pub summed : {w : List ℕ} {F G : List Float} {o : MultigridOptions} {size end rows entries : ℕ} {k : SymmetricMatrix}
    → SumsOk w size end rows entries → k ≡ kernel_in (locate w 0 0)
    → Wrote end k.rows (sums_at o.residual_norm w F k) F G → Summed w F G o end rows
summed {w} {F} {G} {o} {size} {end} {rows} ok e s =
    let kernel = kernel_in (locate w 0 0) in
    let a = subst (λ (k : SymmetricMatrix). Wrote end k.rows (sums_at o.residual_norm w F k) F G) e s in
    record {
      wrote = subst (λ (n : ℕ). Wrote end n (cond (needs_sums o.residual_norm) (row_sums_of (kernel_at kernel w F)) (filled n zero64)) F G) ok.first.tall a;
    }
