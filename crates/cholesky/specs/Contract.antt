-- The terminal level in the stores, and what the functions that factor it require and ensure. Definitions only.
use Rattle.std.specs.Prelude.{◌≡◌, List, ℕ, ◌+◌, ◌≤◌, ◌<◌, Float, length, Result, Ok}
use Rattle.refusal.specs.declared.Refusal.{Refusal}
use Rattle.refusal.specs.Outcome.{Outcome, accepted, verdict_of}
use Rattle.store.specs.Region.{idx, part, Wrote}
use Rattle.cholesky.specs.Triangle.{tri}
use Rattle.cholesky.specs.declared.Terminal.{Terminal}
use Rattle.cholesky.specs.Factor.{Csr}
use Rattle.cholesky.specs.Turns.{compact_of}

-- the level's matrix
abbrev pub csr_at : Terminal → List ℕ → List Float → Csr
csr_at t w F =
    record {
      offsets = part t.offsets (t.rows + 1) w;
      columns = part t.columns t.entries w;
      values = part t.values t.entries F;
    }

-- the coupled rows
abbrev pub coupled_at : Terminal → List ℕ → List ℕ
coupled_at t w = part t.coupled t.size w

-- the packed factor
abbrev pub factor_at : Terminal → List Float → List Float
factor_at t F = part t.factor (tri t.size) F

-- an entry of the compact matrix
abbrev pub entry_at : Terminal → List ℕ → List Float → ℕ → ℕ → Float
entry_at t w F = compact_of (csr_at t w F) (coupled_at t w)

-- what is read lies in the stores, below the factor, and in range
pub record TerminalOk (w : List ℕ) (size : ℕ) (t : Terminal) : Type 0 where
  pub offsets : t.offsets + (t.rows + 1) ≤ length w
  pub columns : t.columns + t.entries ≤ length w
  pub coupled : t.coupled + t.size ≤ length w
  pub values : t.values + t.entries ≤ t.factor
  pub factor : t.factor + tri t.size ≤ size
  pub near : (k : ℕ) → k < t.size → idx w (t.coupled + k) < t.rows
  pub ends : (r : ℕ) → r < t.rows → idx w (t.offsets + r + 1) ≤ t.entries

-- the entries up to `to` lie in the stores
pub record SeekOk (words floats : ℕ) (t : Terminal) (to : ℕ) : Type 0 where
  pub columns : t.columns + t.entries ≤ words
  pub values : t.values + t.entries ≤ floats
  pub within : to ≤ t.entries

-- a coupled row in the words
pub record PivotOk (w : List ℕ) (t : Terminal) (row : ℕ) : Type 0 where
  pub coupled : t.coupled + t.size ≤ length w
  pub within : row < t.size

-- the verdict; where it passed, the factor; nothing but the factor has changed
pub record Factored (t : Terminal) (outcome : Outcome (List Float)) (F G : List Float) (v : Result Unit Refusal) : Type 0 where
  pub answer : v ≡ verdict_of outcome
  pub factor : v ≡ Ok tt → outcome ≡ accepted (factor_at t G)
  pub frame : Wrote t.factor (tri t.size) (factor_at t G) F G
