-- One iteration of `solve` of mod.rs over lists, with questions 23 to 30 in the order of the Rust. Definitions only.
use Rattle.std.specs.Prelude.{cond, List, [], ◌∷◌, ℕ, eqb, Float}
use Rattle.float.specs.Float.{zero64}
use Rattle.store.specs.Vector.{filled}
use Rattle.options.specs.declared.options.MultigridOptions.{MultigridOptions}
use Rattle.refusal.specs.Refusal.{bad_residual}
use Rattle.refusal.specs.Outcome.{Outcome, accepted, ◌>>=◌}
use Rattle.matrix.specs.Kernel.{Kernel, apply_of}
use Rattle.correction.specs.Correction.{subtract_of, add_plain_of}
use Rattle.acceleration.specs.Directions.{Pair, finite}
use Rattle.acceleration.specs.Gcr.{Corrections, correct_of}
use Rattle.residual_norm.specs.Measure.{measure_of}
use Rattle.hierarchy.specs.Level.{Level, Hierarchy, kernel_in}
use Rattle.cycle.specs.Cycle.{cycle_of}

-- where an iteration stands: solution, residual, the stored pairs of GCR, the counters, and the measured residual
pub record State : Type 0 where
  pub x : List Float
  pub residual : List Float
  pub memory : List Pair
  pub counts : List ℕ
  pub last : Float

-- the hierarchy as a solve has it: controls, levels, the finest level's kernel and its row sums
pub record System : Type 0 where
  pub options : MultigridOptions
  pub levels : List Level
  pub kernel : Kernel
  pub sums : List Float

module _ (y : System) (rhs : List Float) (factor : Float) where
  -- the residual of x
  abbrev pub true_residual_of : List Float → List Float
  true_residual_of x = subtract_of y.kernel.rows rhs (apply_of y.kernel x)

  -- its norm, `measure(..)?`: question 23
  abbrev pub measured_of : List Float → Outcome Float
  measured_of residual = finite bad_residual (measure_of y.options.residual_norm y.kernel.rows residual factor)

  -- the solution moved by a correction: as it is where the controls ask for no directions, else by GCR (28 to 30)
  unfoldable pub moved_of : List Pair → List Float → List Float → List Float → Outcome Corrections
  moved_of memory correction residual x =
      cond (eqb y.options.krylov_dimension 0)
      (accepted (record { memory = memory; solution = add_plain_of y.kernel.rows correction x }))
      (correct_of y.kernel.rows y.options.krylov_dimension memory
      (record { direction = correction; image = apply_of y.kernel correction }) residual x)

  -- an iteration after its cycle, which gave the correction and the counters: the solution moved, and its true residual
  abbrev pub after_of : List Pair → List Float → List Float → List Float → List ℕ → Outcome State
  after_of memory correction residual x counts = do
    m ← moved_of memory correction residual x
    last ← measured_of (true_residual_of m.solution)
    accepted (record {
      x = m.solution;
      residual = true_residual_of m.solution;
      memory = m.memory;
      counts = counts;
      last = last;
    })

  -- one iteration: a cycle on the residual (24 to 27), and what follows
  unfoldable pub step_of : State → Outcome State
  step_of s = do
    c ← cycle_of y.options y.levels 0 s.residual (filled y.kernel.rows zero64) s.counts
    after_of s.memory c.x s.residual s.x c.counts

-- ---- the hierarchy

-- the kernel of the first of the levels; that of no levels has no rows
abbrev pub kernel_first : List Level → Kernel
kernel_first [] = record { rows = 0; diagonal = []; inverse = []; offsets = []; neighbors = []; coefficients = [] }
kernel_first (l ∷ rest) = kernel_in l

-- a hierarchy with its controls, as a solve has it
abbrev pub system_of : MultigridOptions → Hierarchy → System
system_of o h = record { options = o; levels = h.levels; kernel = kernel_first h.levels; sums = h.sums }
