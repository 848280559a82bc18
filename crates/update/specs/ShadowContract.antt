-- The row sums and the shadow of an update: what the functions require and ensure. Definitions only.
use Rattle.std.specs.Prelude.{◌≡◌, List, ℕ, ◌-◌, ◌*◌, ◌≤◌, Float}
use Rattle.store.specs.Region.{Wrote}
use Rattle.options.specs.declared.options.MultigridOptions.{MultigridOptions}
use Rattle.options.specs.declared.options.MultigridResidualNorm.{MultigridResidualNorm}
use Rattle.options.specs.declared.options.MultigridSmoother.{MultigridSmoother}
use Rattle.matrix.specs.Kernel.{KernelOk}
use Rattle.layout.specs.Layout.{rows_at, entries_at, locate, image_of}
use Rattle.layout.specs.Parts.{kernel_in}
use Rattle.layout.specs.SumsContract.{sums_at}
use Rattle.layout.specs.PlaceContract.{PlaceOk}
use Rattle.update_levels.specs.Steps.{Chain}

-- where the row sums of the finest level start: they end the image
abbrev pub sums_start : List ℕ → ℕ → ℕ
sums_start w image = image - rows_at w 0

-- What they require.
pub record SumOk (w : List ℕ) (size image : ℕ) : Type 0 where
  pub place : PlaceOk w 0 0
  pub kernel : KernelOk w (sums_start w image) (kernel_in (locate w 0 0))
  pub within : rows_at w 0 ≤ image
  pub room : image ≤ size

-- What they ensure.
pub record Summed (w : List ℕ) (F G : List Float) (norm : MultigridResidualNorm) (image : ℕ) : Type 0 where
  pub wrote : Wrote (sums_start w image) (rows_at w 0) (sums_at norm w F (kernel_in (locate w 0 0))) F G

-- What holds under all options with that smoother: of the options the levels need no more.
abbrev pub Smoothed : MultigridSmoother → (MultigridOptions → Type 0) → Type 0
Smoothed kind holds = (o : MultigridOptions) → o.smoother ≡ kind → holds o

-- What holds under all options with that smoother and that norm: of the options an update reads no more.
abbrev pub With : MultigridSmoother → MultigridResidualNorm → (MultigridOptions → Type 0) → Type 0
With kind norm holds = (o : MultigridOptions) → o.smoother ≡ kind → o.residual_norm ≡ norm → holds o

-- The levels lie in the words, and the image and its shadow in the floats; as many values as the finest level has entries.
pub record ShadowOk (levels : ℕ) (w : List ℕ) (size count image : ℕ) : Type 0 where
  pub chain : Chain w size levels 0 0 image
  pub some : 1 ≤ levels
  pub is : image ≡ image_of levels w
  pub room : 2 * image ≤ size
  pub many : count ≡ entries_at w 0
