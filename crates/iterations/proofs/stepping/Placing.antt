-- Where the vectors of a solve stand: what question 19 tells of the finest level and of the scratch, and the hierarchy under writes to it.
-- Assumes nothing.
use Rattle.std.specs.Prelude.{Ok}
use mathlib.Core.Path.{◌≡◌, refl, sym, ap, ◌∙◌, subst}
use mathlib.Core.List.{List}
use Prim.Native.Nat.{ℕ, suc, ◌+◌, ◌*◌, ◌-◌, ◌/◌, ◌≤◌, zero-le}
use native.Mathlib.Nat.{add-mul, mul_assoc}
use native.Mathlib.Omega.{arith}
use lib.ListN.{length}
use lib.Ieee.{Float}
use Rattle.store.specs.Region.{part, Kept}
use Rattle.store.proofs.store.Region.{kept_self, kept_part}
use Rattle.options.specs.declared.options.Handle.{Handle}
use Rattle.matrix.specs.declared.matrix.SymmetricMatrix.{SymmetricMatrix}
use Rattle.matrix.specs.Kernel.{Kernel, KernelOk, kernel_at}
use Rattle.layout.specs.Layout.{rows_at, locate, level_at, words_end, floats_end, levels_at, image_end, finest_rows, image_of, view_of}
use Rattle.layout.specs.Parts as parts
use Rattle.layout.proofs.Views.{floats_to, levels_kept, finest_rows_lem}
use Rattle.index_check.specs.Sound.{walk_of, scratch_start, scratch_end, cycle_start}
use Rattle.layout.specs.PlaceContract.{PlaceOk}
use Rattle.index_check.specs.SoundContract as index
use Rattle.index_check.proofs.sound.Facts.{Passed, passed}
use Rattle.index_check.proofs.sound.Sizes.{place_zero, first_head}
use Rattle.cycle.specs.Contract.{CycleOk}
use Rattle.cycle.proofs.Ways.{scratch_to, walk_to}
use Rattle.iterations.specs.declared.stepping.Regions.{Regions}
use Rattle.iterations.specs.Iteration.{kernel_first}
use Rattle.iterations.specs.System.{system_at}
use Rattle.iterations.specs.Steps.{regions_at, Opened, Ready, VectorsOk, MoveOk}

-- The scratch before the cycle's: two vectors, and those of the memory.
memory_is : (krylov n : ℕ) → (2 + 2 * krylov) * n ≡ 2 * n + 2 * (krylov * n)
memory_is krylov n = add-mul 2 (2 * krylov) n ∙ ap (λ (m : ℕ). 2 * n + m) (mul_assoc 2 krylov n)

-- the places as the code adds them up
abbrev placed : SymmetricMatrix → ℕ → ℕ → ℕ → ℕ → Regions
placed matrix n image krylov residual = record {
  matrix = matrix;
  rows = n;
  sums = image - n;
  rhs = 2 * image;
  solution = 2 * image + n;
  directions = 2 * image + 2 * n;
  images = 2 * image + 2 * n + krylov * n;
  residual = residual;
  correction = residual + n;
  product = residual + 2 * n;
}

module _ {h : Handle} {w : List ℕ} {size : ℕ} (o : Opened h w size) where
  abbrev k : ℕ
  k = h.levels - 1

  abbrev n : ℕ
  n = rows_at w 0

  some_is : h.levels ≡ suc k
  some_is = let some = o.some in omega arith

  -- The finest level, as the index check passed it.
  first : Passed k w 0 0
  first = passed k (subst (λ (l : ℕ). walk_of l w 0 0 ≡ Ok tt) some_is o.sound)

  -- The row sums are as many as its rows.
  sums_count : finest_rows h.levels w ≡ n
  sums_count = finest_rows_lem h.levels w o.some

  -- Its floats end in the image,
  image_first : floats_end w 0 0 ≤ image_end h.levels w 0 0
  unfolding image_end
  image_first =
      let e : image_end h.levels w 0 0 ≡ image_end k w (words_end w 0) (floats_end w 0 0) = ap (λ (l : ℕ). image_end l w 0 0) some_is in
      omega (arith, floats_to k w (words_end w 0) (floats_end w 0 0))

  -- and its scratch in the store.
  room_first : cycle_start h.options.krylov_dimension h.levels w + 5 * n ≤ size
  unfolding scratch_end
  room_first =
      let s = cycle_start h.options.krylov_dimension h.levels w in
      let room = o.room in
      let e : scratch_end h.levels w 0 s ≡ scratch_end k w (words_end w 0) (s + 5 * n) = ap (λ (l : ℕ). scratch_end l w 0 s) some_is in
      let up = scratch_to k w (words_end w 0) (s + 5 * n) in
      omega arith

  -- What the places of the scratch require, and that of the finest level.
  pub levels_ok : index.LevelsOk w h.levels
  levels_ok = record { sound = o.sound; some = o.some; few = o.deep }

  pub memory_ok : index.MemoryOk w h.levels h.options.krylov_dimension
  memory_ok = record { walked = levels_ok; directions = o.krylov }

  pub first_ok : PlaceOk w 0 0
  first_ok = place_zero w 0 (first_head levels_ok)

  -- No sum of the places wraps where the store's size does not.
  pub places_fit : {image residual : ℕ} → image ≡ image_of h.levels w → residual ≡ cycle_start h.options.krylov_dimension h.levels w
      → (2 * image + 2 * h.rows + 2 * (h.options.krylov_dimension * h.rows) ≡ residual) × (residual + 5 * h.rows ≤ size)
      × (h.rows ≤ image)
  places_fit {image} {residual} s r =
      let room = room_first in
      let rows = o.rows in
      let count = sums_count in
      let memory : (2 + 2 * h.options.krylov_dimension) * rows_at w 0 ≡ 2 * h.rows + 2 * (h.options.krylov_dimension * h.rows) =
      ap (λ (n : ℕ). (2 + 2 * h.options.krylov_dimension) * n) rows ∙ memory_is h.options.krylov_dimension h.rows in
      (omega arith, omega arith, omega arith)

  -- The places are those of the definition.
  pub places_are : {image residual : ℕ} {matrix : SymmetricMatrix} → image ≡ image_of h.levels w
      → residual ≡ cycle_start h.options.krylov_dimension h.levels w → matrix ≡ parts.kernel_in (locate w 0 0)
      → placed matrix h.rows image h.options.krylov_dimension residual ≡ regions_at h w
  places_are {image} {residual} {matrix} s r m =
      let rows = o.rows in
      let count = sums_count in
      let sums : image - h.rows ≡ image_end h.levels w 0 0 = omega arith in
      rw (sums, m, r, s, ← rows)

  -- The finest matrix lies below the row sums.
  kernel_ok : KernelOk w (image_end h.levels w 0 0) (parts.kernel_in (locate w 0 0))
  unfolding floats_end
  kernel_ok =
      let here = first.here in
      let heads = here.heads in
      let image = image_first in
      record {
        starts = omega arith;
        columns = omega arith;
        own = omega arith;
        recip = omega arith;
        faces = omega arith;
        falls = here.starts;
        near = here.neighbors;
      }

  -- The vectors stand in their order.
  vectors_at : VectorsOk w size (regions_at h w)
  vectors_at =
      let room = room_first in
      let count = sums_count in
      let memory = memory_is h.options.krylov_dimension n in
      record {
        kernel = kernel_ok;
        same = refl;
        summed = omega arith;
        given = omega arith;
        solved = omega arith;
        stored = omega arith;
        left = omega arith;
        corrected = omega arith;
        room = omega arith;
      }

  -- The memory stands between the solution and the residual.
  move_at : {used : ℕ} → used ≤ h.options.krylov_dimension → MoveOk w size (regions_at h w) h.options.krylov_dimension used
  move_at fits =
      let memory = memory_is h.options.krylov_dimension n in
      record { vectors = vectors_at; first = omega arith; second = omega arith; fits = fits }

  -- The image ends below the cycle's scratch, so the cycle may run there.
  cycle_at_lem : CycleOk h.levels w size 0 0 0 (regions_at h w).residual
  cycle_at_lem = record { some = o.some; sound = o.sound; image = omega arith; scratch = o.room; deep = let deep = o.deep in omega arith }

  -- Writes to the scratch leave the hierarchy as it was.
  system_at_lem : {F G : List Float} {p : ℕ} → Kept p F G → scratch_start h.levels w ≤ p → p ≤ length F → system_at h w G ≡ system_at h w F
  unfolding view_of
  system_at_lem {F} {G} {p} kept above fits =
      let words = walk_to h.levels w 0 0 zero-le o.sound in
      let levels = (levels_kept h.levels 0 0 {e = length w} (kept_self {F = w}) kept words (omega arith) (omega arith) fits).0 in
      let rows = finest_rows h.levels w in
      let sums : part (image_end h.levels w 0 0) rows G ≡ part (image_end h.levels w 0 0) rows F = kept_part kept _ _ (omega arith) in
      rw (levels, sums)

  -- The kernel of the hierarchy is the one that stands at the finest level's place.
  kernel_at_lem : (F : List Float) → (system_at h w F).kernel ≡ kernel_at (parts.kernel_in (locate w 0 0)) w F
  unfolding view_of levels_at level_at kernel_at
  kernel_at_lem F = ap (λ (l : ℕ). kernel_first (levels_at l w F 0 0)) some_is

module _ {h : Handle} {w : List ℕ} {size : ℕ} {g : Regions} (r : Ready h w size g) where
  -- What the vectors ask of the stores.
  pub vectors : VectorsOk w size g
  vectors = rw r.regions (vectors_at r.opened)

  -- What a move of the solution asks.
  pub move_ok : {used : ℕ} → used ≤ h.options.krylov_dimension → MoveOk w size g h.options.krylov_dimension used
  move_ok fits = rw r.regions (move_at r.opened fits)

  -- What a cycle on the residual asks.
  pub cycle_ok : CycleOk h.levels w size 0 0 0 g.residual
  cycle_ok = rw r.regions (cycle_at_lem r.opened)

  -- The vectors have the rows of the finest level, and the cycle's x is the correction.
  pub rows_is : g.rows ≡ rows_at w 0
  rows_is = ap (λ (g : Regions). g.rows) r.regions

  pub correction_is : g.correction ≡ g.residual + rows_at w 0
  correction_is = rw r.regions

  -- Writes from the right-hand side on leave the hierarchy as it was.
  pub system_kept : {F G : List Float} {p : ℕ} → Kept p F G → g.rhs ≤ p → p ≤ length F → system_at h w G ≡ system_at h w F
  system_kept kept above fits = system_at_lem r.opened kept (let e = ap (λ (g : Regions). g.rhs) r.regions in omega arith) fits

  -- The kernel of the hierarchy.
  pub kernel_is : (F : List Float) → (system_at h w F).kernel ≡ kernel_at g.matrix w F
  kernel_is F = kernel_at_lem r.opened F ∙ ap (λ (g : Regions). kernel_at g.matrix w F) (sym r.regions)

  -- and its rows
  pub kernel_rows : (F : List Float) → (system_at h w F).kernel.rows ≡ g.rows
  unfolding kernel_at
  kernel_rows F = ap (λ (k : Kernel). k.rows) (kernel_is F) ∙ ap (λ (g : Regions). g.matrix.rows) r.regions ∙ sym rows_is

  -- Its row sums stand at their place.
  pub sums_is : (F : List Float) → part g.sums g.rows F ≡ (system_at h w F).sums
  unfolding view_of
  sums_is F = rw (r.regions, finest_rows_lem h.levels w r.opened.some)
