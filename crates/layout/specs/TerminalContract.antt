-- The last level's factor at its place: what the function that makes it requires and ensures. Definitions only.
use Rattle.refusal.specs.declared.Refusal.{Refusal}
use Rattle.std.specs.Prelude.{◌≡◌, List, ℕ, ◌+◌, ◌≤◌, Float, Result, Ok}
use Rattle.float.specs.Float.{zero64}
use Rattle.store.specs.Region.{part, Kept}
use Rattle.store.specs.Vector.{filled}
use Rattle.refusal.specs.Outcome.{Outcome, accepted, verdict_of}
use Rattle.cholesky.specs.Factor.{cholesky_of}
use Rattle.cholesky.specs.Contract.{csr_at, coupled_at, factor_at, TerminalOk}
use Rattle.layout.specs.declared.Place.{Place}
use Rattle.layout.specs.Parts.{terminal_in}

-- The values of the level end below its DIC data, and these below the factor, for which there is room.
pub record FactorOk (w : List ℕ) (size : ℕ) (p : Place) (coupled : ℕ) : Type 0 where
  pub terminal : TerminalOk w size (terminal_in p coupled)
  pub values : p.values + p.entries ≤ p.dic
  pub dic : p.dic + p.rows ≤ p.factor

-- the factor of the coupled rows
abbrev pub factor_of : List ℕ → List Float → Place → ℕ → ℕ → Outcome (List Float)
factor_of w F p coupled level = cholesky_of level (csr_at (terminal_in p coupled) w F) coupled (coupled_at (terminal_in p coupled) w)

-- Question 15's answer; where it passes, the factor; zeros for the DIC data. Below these nothing changed.
pub record FactorDone (w : List ℕ) (F G : List Float) (p : Place) (coupled level : ℕ) (v : Result Unit Refusal) : Type 0 where
  pub answer : v ≡ verdict_of (factor_of w F p coupled level)
  pub factor : v ≡ Ok tt → factor_of w F p coupled level ≡ accepted (factor_at (terminal_in p coupled) G)
  pub dic : part p.dic p.rows G ≡ filled p.rows zero64
  pub kept : Kept p.dic F G
