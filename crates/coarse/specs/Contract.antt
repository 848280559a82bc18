-- What the functions of the terminal solve require and ensure. Definitions only.
use Rattle.refusal.specs.declared.Refusal.{Refusal}
use Rattle.std.specs.Prelude.{◌≡◌, List, ℕ, ◌+◌, ◌≤◌, ◌<◌, Float, length, Result}
use Rattle.refusal.specs.Outcome.{verdict_of}
use Rattle.store.specs.Region.{idx, part, Clear}
use Rattle.cholesky.specs.Triangle.{tri}
use Rattle.cholesky.specs.declared.Terminal.{Terminal}
use Rattle.cholesky.specs.Contract.{coupled_at, factor_at}
use Rattle.cholesky.specs.TriangularFactor.{solve_factor_of}
use Rattle.coarse.specs.Terminal.{terminal_solution, terminal_of}
use Rattle.coarse.specs.Turns.{gather_of, scatter_of}

-- so many coupled rows, each below n, with n elements at x and as many as there are coupled rows at u
pub record SpreadOk (w : List ℕ) (size n count coupled x u : ℕ) : Type 0 where
  pub rows : coupled + count ≤ length w
  pub near : (k : ℕ) → k < count → idx w (coupled + k) < n
  pub xs : x + n ≤ u
  pub us : u + count ≤ size

-- reciprocals and right-hand side below x
pub record DiagonalOk (size n inverse rhs x : ℕ) : Type 0 where
  pub inverses : inverse + n ≤ x
  pub rhss : rhs + n ≤ x
  pub xs : x + n ≤ size

-- the factor below the right-hand side, then x, then two compact vectors of scratch
pub record CoupledOk (w : List ℕ) (size : ℕ) (t : Terminal) (rhs x work : ℕ) : Type 0 where
  pub rows : t.coupled + t.size ≤ length w
  pub near : (k : ℕ) → k < t.size → idx w (t.coupled + k) < t.rows
  pub factors : t.factor + tri t.size ≤ rhs
  pub rhss : rhs + t.rows ≤ x
  pub xs : x + t.rows ≤ work
  pub works : work + t.size + t.size ≤ size

-- and the reciprocals
pub record SolutionOk (w : List ℕ) (size : ℕ) (t : Terminal) (inverse rhs x work : ℕ) : Type 0 where
  pub coupled : CoupledOk w size t rhs x work
  pub inverses : inverse + t.rows ≤ rhs

-- x and scratch apart, nothing has changed
pub record Outside (n x lo hi : ℕ) (F G : List Float) : Type 0 where
  pub below : (a m : ℕ) → Clear a m x n → a + m ≤ lo → part a m G ≡ part a m F
  pub above : (a m : ℕ) → hi ≤ a → part a m G ≡ part a m F
  pub size : length G ≡ length F

-- the coupled rows of x by the factor
pub record CoupledSolved (t : Terminal) (w : List ℕ) (rhs x work : ℕ) (F G : List Float) : Type 0 where
  pub solution : part x t.rows G
      ≡ scatter_of t.size (coupled_at t w)
      (solve_factor_of t.size (factor_at t F) (gather_of t.size (coupled_at t w) (part rhs t.rows F))) (part x t.rows F)
  pub frame : Outside t.rows x work (work + t.size + t.size) F G

-- the verdict, and x whether passed or refused
pub record Solved (t : Terminal) (w : List ℕ) (inverse rhs x work : ℕ) (F G : List Float) (v : Result Unit Refusal) : Type 0 where
  pub answer : v
      ≡ verdict_of (terminal_of t.rows (part inverse t.rows F) t.size (coupled_at t w) (factor_at t F) (part rhs t.rows F))
  pub solution : part x t.rows G
      ≡ terminal_solution t.rows (part inverse t.rows F) t.size (coupled_at t w) (factor_at t F) (part rhs t.rows F)
  pub frame : Outside t.rows x work (work + t.size + t.size) F G
