-- `cycle` of cycle.rs over lists: one visit of each level, with questions 24 to 27 in the order of the Rust. Definitions only.
use Rattle.std.specs.Prelude.{Bool, cond, List, [], ◌∷◌, ℕ, ◌+◌, ◌*◌, eqb, Float, length, set}
use Rattle.float.specs.Float.{zero64}
use Rattle.float.specs.Saturating.{saturating_sum}
use Rattle.store.specs.Region.{idx}
use Rattle.store.specs.Vector.{filled}
use Rattle.options.specs.declared.options.MultigridOptions.{MultigridOptions}
use Rattle.options.specs.Counts.{pre_sweeps_of, post_sweeps_of}
use Rattle.refusal.specs.Outcome.{Outcome, accepted, ◌>>=◌}
use Rattle.matrix.specs.Kernel.{Kernel, apply_of}
use Rattle.smoother.specs.Smooth.{smooth_of}
use Rattle.coarse.specs.Terminal.{terminal_of}
use Rattle.correction.specs.Transfer.{restrict_of, prolong_of}
use Rattle.correction.specs.Correction.{subtract_of, add_plain_of}
use Rattle.correction.specs.Scaled.{add_scaled_of}
use Rattle.correction.specs.Scaling.{correction_factor_of}
use Rattle.hierarchy.specs.Level.{Level, kernel_in}

-- ---- counters: four numbers to a level, its visits, its sweeps before and after the correction, its coarse iterations

-- number i of the counters with so many added
unfoldable pub count_of : ℕ → ℕ → List ℕ → List ℕ
count_of i more t = set t i (saturating_sum (idx t i) more)

-- one visit more of the level at that depth
abbrev pub visited : ℕ → List ℕ → List ℕ
visited depth t = count_of (4 * depth) 1 t

-- so many sweeps more before the correction of a visit, and so many after it
abbrev pub swept : ℕ → ℕ → ℕ → List ℕ → List ℕ
swept depth pre post t = count_of (4 * depth + 2) post (count_of (4 * depth + 1) pre t)

-- so many iterations of the coarse solver more: Cholesky makes none
abbrev pub iterated : ℕ → ℕ → List ℕ → List ℕ
iterated depth iterations t = count_of (4 * depth + 3) iterations t

-- ---- one level

-- the rows of a level
abbrev pub rows_in : Level → ℕ
rows_in l = l.shape.pattern.rows

-- the rows of the first of the levels
abbrev pub rows_first : List Level → ℕ
rows_first [] = 0
rows_first (l ∷ rest) = rows_in l

-- so many sweeps on a level: question 25
abbrev pub smoothed : MultigridOptions → Level → ℕ → List Float → List Float → Outcome (List Float)
smoothed o l sweeps rhs x = smooth_of (kernel_in l) l.numbers.dic rhs o.smoother sweeps x

-- the terminal solve of the last level: question 24
abbrev pub ended : Level → List Float → Outcome (List Float)
ended l rhs =
    terminal_of (rows_in l) l.numbers.inverse (length l.shape.links) l.shape.links l.numbers.factor rhs

-- `residual` of cycle.rs, after so many sweeps: with none, x is zero and the residual is the right-hand side itself
unfoldable pub residual_after : Kernel → ℕ → List Float → List Float → List Float
residual_after k sweeps rhs x = cond (eqb sweeps 0) rhs (subtract_of k.rows rhs (apply_of k x))

-- x with the scaled correction e and the Jacobi step: questions 26 and 27
abbrev pub scaled_correction : Kernel → List Float → List Float → List Float → Outcome (List Float)
scaled_correction k residual e x = do
  let product = apply_of k e
  factor ← correction_factor_of k.rows e residual product
  accepted (add_scaled_of k.rows factor e residual product k.inverse x)

-- x with the correction e, scaled or as it is
unfoldable pub corrected : Bool → Kernel → List Float → List Float → List Float → Outcome (List Float)
corrected scale k residual e x = cond scale (scaled_correction k residual e x) (accepted (add_plain_of k.rows e x))

-- ---- the levels

-- x and the counters after a cycle
pub record Cycled : Type 0 where
  pub x : List Float
  pub counts : List ℕ

-- such a pair
abbrev pub cycled : List Float → List ℕ → Cycled
cycled x counts = record { x = x; counts = counts }

module _ (o : MultigridOptions) where
  -- the last level
  unfoldable pub end_of : Level → ℕ → List Float → List ℕ → Outcome Cycled
  end_of l depth rhs t = do
    x ← ended l rhs
    accepted (cycled x (iterated depth 0 t))

  -- the way up: the correction d of the levels below is brought to the level's rows, added to x, and smoothed
  unfoldable pub up_of : Level → ℕ → List Float → List Float → List Float → Cycled → Outcome Cycled
  up_of l depth rhs residual x d = do
    y ← corrected o.scale_correction (kernel_in l) residual (prolong_of (rows_in l) l.shape.links d.x) x
    z ← smoothed o l (post_sweeps_of o depth) rhs y
    accepted (cycled z (swept depth (pre_sweeps_of o depth) (post_sweeps_of o depth) d.counts))

  -- `cycle`: from the right-hand side and x of the first level, at that depth
  unfoldable pub cycle_of : List Level → ℕ → List Float → List Float → List ℕ → Outcome Cycled
  cycle_of [] depth rhs x t = accepted (cycled x t)
  cycle_of (l ∷ deeper) depth rhs x t =
      cond l.shape.terminal (end_of l depth rhs (visited depth t))
      (do
        let pre = pre_sweeps_of o depth
        y ← smoothed o l pre rhs x
        let residual = residual_after (kernel_in l) pre rhs y
        let n = rows_first deeper
        d ← cycle_of deeper (depth + 1) (restrict_of n (rows_in l) l.shape.links residual) (filled n zero64) (visited depth t)
        up_of l depth rhs residual y d)
