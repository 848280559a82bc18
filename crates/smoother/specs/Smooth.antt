-- `smooth` of smoother.rs, over lists, and the frame of its functions. Definitions only.
use Rattle.refusal.specs.declared.Refusal.{Refusal}
use Rattle.std.specs.Prelude.{Bool, true, false, cond, List, ◌≡◌, ℕ, eqb, Float, length, Result}
use Rattle.store.specs.Loop.{for}
use Rattle.store.specs.Region.{Clear, part}
use Rattle.options.specs.declared.options.MultigridSmoother.{MultigridSmoother}
use Rattle.options.specs.Options.{needs_dic}
use Rattle.refusal.specs.Refusal.{bad_smoother_output}
use Rattle.refusal.specs.Outcome.{Outcome, accepted, ask, verdict_of}
use Rattle.vector.specs.Finite.{all_finite}
use Rattle.matrix.specs.Kernel.{Kernel}
use Rattle.gauss_seidel.specs.Sweep.{gauss_seidel_of, dic_sweep_of}

-- whether a Gauss-Seidel sweep goes back
abbrev pub is_symmetric : MultigridSmoother → Bool
is_symmetric MultigridSmoother.GaussSeidel = false
is_symmetric MultigridSmoother.SymmetricGaussSeidel = true
is_symmetric MultigridSmoother.DicGaussSeidel = false

-- x after that many Gauss-Seidel sweeps
unfoldable pub gauss_seidels_of : Kernel → List Float → Bool → ℕ → List Float → List Float
gauss_seidels_of k rhs symmetric sweeps x = for (λ _ y. (gauss_seidel_of k symmetric rhs y).x) 0 sweeps x

module _ (k : Kernel) (dic rhs : List Float) where
  -- x after that many DIC sweeps
  unfoldable pub dic_sweeps_of : ℕ → List Float → List Float
  dic_sweeps_of sweeps x = for (λ _ y. (dic_sweep_of k dic rhs y).x) 0 sweeps x

  -- x after the sweeps: all DIC sweeps first, then as many of Gauss-Seidel
  unfoldable pub swept_of : MultigridSmoother → ℕ → List Float → List Float
  swept_of kind sweeps x =
      for (λ _ y. (gauss_seidel_of k (is_symmetric kind) rhs y).x) 0 sweeps (cond (needs_dic kind) (for (λ _ y. (dic_sweep_of k dic rhs y).x) 0 sweeps x) x)

  -- `smooth`: question 25 is asked where there was a sweep
  unfoldable pub smooth_of : MultigridSmoother → ℕ → List Float → Outcome (List Float)
  smooth_of kind sweeps x =
      let v = swept_of kind sweeps x in
      cond (eqb sweeps 0) (accepted v) (ask (all_finite k.rows v) bad_smoother_output (accepted v))

-- ---- what the functions ensure

-- x is v, and every region clear of x, work and correction is as it was
pub record Smoothed (n x work correction : ℕ) (v F G : List Float) : Type 0 where
  pub is : part x n G ≡ v
  pub kept : (a m : ℕ) → Clear a m x n → Clear a m work n → Clear a m correction n → part a m G ≡ part a m F
  pub size : length G ≡ length F

-- the answer of `smooth`, and x as the sweeps leave it
pub record SmoothDone (n x work correction : ℕ) (o : Outcome (List Float)) (v F G : List Float) (r : Result Unit Refusal) : Type 0 where
  pub verdict : r ≡ verdict_of o
  pub smoothed : Smoothed n x work correction v F G
