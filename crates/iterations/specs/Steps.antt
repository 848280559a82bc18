-- The steps of an iteration: what its functions require and ensure. Definitions only.
use Rattle.std.specs.Prelude.{◌≡◌, cond, List, ℕ, ◌+◌, ◌*◌, ◌≤◌, eqb, Float, length, Result, Ok, Err}
use Rattle.store.specs.Region.{part, Kept}
use Rattle.options.specs.declared.options.Handle.{Handle}
use Rattle.refusal.specs.declared.Refusal.{Refusal}
use Rattle.refusal.specs.Outcome.{Outcome, accepted, refused, ◌>>=◌}
use Rattle.matrix.specs.Kernel.{Kernel, KernelOk, kernel_at, apply_of}
use Rattle.correction.specs.Correction.{subtract_of, add_plain_of}
use Rattle.acceleration.specs.Directions.{Pair}
use Rattle.acceleration.specs.Gcr.{Corrections, correct_of}
use Rattle.acceleration.specs.DirectionsContract.{memory_at}
use Rattle.acceleration.specs.AccelerationContract.{corrected_of}
use Rattle.layout.specs.Layout.{rows_at, entries_at, image_end, locate}
use Rattle.layout.specs.Parts.{kernel_in}
use Rattle.index_check.specs.Sound.{walk_of, scratch_start, scratch_end, cycle_start}
use Rattle.iterations.specs.declared.stepping.Regions.{Regions}
use Rattle.iterations.specs.declared.stepping.Stepped.{Stepped}
use Rattle.iterations.specs.Iteration.{State, after_of, step_of}
use Rattle.iterations.specs.System.{system_at}

-- ---- places

-- where the finest matrix and the vectors of a solve stand: the row sums end the image; right-hand side, solution, directions and images
-- start the scratch; the residual and the correction are the finest level's right-hand side and x, and the product is its work
abbrev pub regions_of : ℕ → ℕ → List ℕ → Regions
regions_of krylov levels w =
    let n = rows_at w 0 in
    let start = scratch_start levels w in
    let s = cycle_start krylov levels w in
    record {
      matrix = kernel_in (locate w 0 0);
      rows = n;
      sums = image_end levels w 0 0;
      rhs = start;
      solution = start + n;
      directions = start + 2 * n;
      images = start + 2 * n + krylov * n;
      residual = s;
      correction = s + n;
      product = s + 2 * n;
    }

-- those of a handle
abbrev pub regions_at : Handle → List ℕ → Regions
regions_at h w = regions_of h.options.krylov_dimension h.levels w

-- What question 19 tells of a handle, the words and a float store of that size.
pub record Opened (h : Handle) (w : List ℕ) (size : ℕ) : Type 0 where
  pub some : 1 ≤ h.levels
  pub deep : h.levels ≤ 128
  pub krylov : h.options.krylov_dimension ≤ 16
  pub sound : walk_of h.levels w 0 0 ≡ Ok tt
  pub rows : rows_at w 0 ≡ h.rows
  pub entries : entries_at w 0 ≡ h.entries
  pub room : scratch_end h.levels w 0 (cycle_start h.options.krylov_dimension h.levels w) ≤ size

-- The stores with the places of a solve.
pub record Ready (h : Handle) (w : List ℕ) (size : ℕ) (g : Regions) : Type 0 where
  pub opened : Opened h w size
  pub regions : g ≡ regions_at h w

-- What the matrix and the vectors ask of the stores: the matrix stands below the row sums; row sums, right-hand side, solution, memory,
-- residual, correction and product follow in this order.
pub record VectorsOk (w : List ℕ) (size : ℕ) (g : Regions) : Type 0 where
  pub kernel : KernelOk w g.sums g.matrix
  pub same : g.matrix.rows ≡ g.rows
  pub summed : g.sums + g.rows ≤ g.rhs
  pub given : g.rhs + g.rows ≤ g.solution
  pub solved : g.solution + g.rows ≤ g.directions
  pub stored : g.directions ≤ g.residual
  pub left : g.residual + g.rows ≤ g.correction
  pub corrected : g.correction + g.rows ≤ g.product
  pub room : g.product + g.rows ≤ size

-- ---- the residual

-- A x of the solution x
abbrev pub product_at : List ℕ → List Float → Regions → List Float
product_at w F g = apply_of (kernel_at g.matrix w F) (part g.solution g.rows F)

-- Product and residual of the solution stand in G; below the residual nothing changed.
pub record Renewed (w : List ℕ) (F G : List Float) (g : Regions) : Type 0 where
  pub made : part g.product g.rows G ≡ product_at w F g
  pub left : part g.residual g.rows G ≡ subtract_of g.rows (part g.rhs g.rows F) (product_at w F g)
  pub floats : Kept g.residual F G

-- ---- the solution

-- the solution moved, as `movedOf` says, by a matrix of n rows
abbrev pub move_of : ℕ → Kernel → ℕ → List Pair → List Float → List Float → List Float → Outcome Corrections
move_of n k krylov memory correction residual x =
    cond (eqb krylov 0) (accepted (record { memory = memory; solution = add_plain_of n correction x }))
    (correct_of n krylov memory (record { direction = correction; image = apply_of k correction }) residual x)

-- the same of the vectors in the store
abbrev pub move_at : List ℕ → List Float → Regions → ℕ → ℕ → Outcome Corrections
move_at w F g krylov used =
    move_of g.rows (kernel_at g.matrix w F) krylov (memory_at used g.rows g.directions g.images F)
    (part g.correction g.rows F) (part g.residual g.rows F) (part g.solution g.rows F)

-- The memory has room for so many pairs, of which some are used.
pub record MoveOk (w : List ℕ) (size : ℕ) (g : Regions) (krylov used : ℕ) : Type 0 where
  pub vectors : VectorsOk w size g
  pub first : g.directions + krylov * g.rows ≤ g.images
  pub second : g.images + krylov * g.rows ≤ g.residual
  pub fits : used ≤ krylov

-- The answer is that of `out`; accepted, its solution and its memory stand in G. Below the solution nothing changed.
pub record Moved (krylov : ℕ) (g : Regions) (out : Outcome Corrections) (F G : List Float) (r : Result ℕ Refusal) : Type 0 where
  pub answer : r ≡ corrected_of out
  pub fits : (used : ℕ) → r ≡ Ok used → used ≤ krylov
  pub solved : (s : Corrections) → out ≡ accepted s → part g.solution g.rows G ≡ s.solution
  pub stored : (s : Corrections) → out ≡ accepted s → memory_at (length s.memory) g.rows g.directions g.images G ≡ s.memory
  pub floats : Kept g.solution F G

-- ---- one iteration

-- the state of an iteration in the stores
abbrev pub state_at : Regions → ℕ → List Float → List ℕ → Float → State
state_at g used F t last = record {
  x = part g.solution g.rows F;
  residual = part g.residual g.rows F;
  memory = memory_at used g.rows g.directions g.images F;
  counts = t;
  last = last;
}

-- an iteration after its cycle, of the vectors in the store
abbrev pub after_at : Handle → List ℕ → List Float → Regions → ℕ → Float → List ℕ → Outcome State
after_at h w F g used factor counts =
    after_of (system_at h w F) (part g.rhs g.rows F) factor (memory_at used g.rows g.directions g.images F)
    (part g.correction g.rows F) (part g.residual g.rows F) (part g.solution g.rows F) counts

-- an iteration from the state in the stores
abbrev pub step_at : Handle → List ℕ → List Float → List ℕ → Regions → ℕ → Float → Float → Outcome State
step_at h w F t g used factor last =
    step_of (system_at h w F) (part g.rhs g.rows F) factor (state_at g used F t last)

-- what an iteration leaves
abbrev pub stepped : ℕ → Float → Stepped
stepped used last = record { used = used; last = last }

-- What an iteration requires: the stores, and a memory with room for the pairs that it counts.
pub record StepOk (h : Handle) (w : List ℕ) (size : ℕ) (g : Regions) (used : ℕ) : Type 0 where
  pub ready : Ready h w size g
  pub fits : used ≤ h.options.krylov_dimension

-- What it ensures after its cycle, whatever the counters are: the state, or its refusal. Below the solution nothing changed.
pub record AdvanceDone (h : Handle) (w : List ℕ) (F G : List Float) (g : Regions) (used : ℕ) (factor : Float) (r : Result Stepped Refusal) : Type 0 where
  pub done : (stored : ℕ) (norm : Float) (counts : List ℕ) → r ≡ Ok (stepped stored norm)
      → after_at h w F g used factor counts ≡ accepted (state_at g stored G counts norm)
  pub fits : (stored : ℕ) (norm : Float) → r ≡ Ok (stepped stored norm) → stored ≤ h.options.krylov_dimension
  pub refusal : (q : Refusal) (counts : List ℕ) → r ≡ Err q → after_at h w F g used factor counts ≡ refused q
  pub floats : Kept g.solution F G

-- What it ensures as a whole; the norm before it does not matter.
pub record StepDone (h : Handle) (w : List ℕ) (F G : List Float) (t u : List ℕ) (g : Regions) (used : ℕ) (factor : Float) (r : Result Stepped Refusal) : Type 0 where
  pub done : (stored : ℕ) (norm last : Float) → r ≡ Ok (stepped stored norm)
      → step_at h w F t g used factor last ≡ accepted (state_at g stored G u norm)
  pub fits : (stored : ℕ) (norm : Float) → r ≡ Ok (stepped stored norm) → stored ≤ h.options.krylov_dimension
  pub refusal : (q : Refusal) (last : Float) → r ≡ Err q → step_at h w F t g used factor last ≡ refused q
  pub floats : Kept g.solution F G
