-- Questions 12 and 13, row by row.
-- Assumes nothing.
use Rattle.std.specs.Prelude.{Result, Ok, Err}
use mathlib.Core.Path.{◌≡◌, refl, ◌∙◌}
use mathlib.Core.Bool.{Bool, true, false}
use mathlib.Core.List.{List}
use Prim.Native.Nat.{ℕ, ◌+◌, ◌≤◌, ◌<◌}
use native.Mathlib.Omega.{arith}
use lib.ListN.{length}
use lib.Ieee.{Float}
use Rattle.float.specs.Float.{div64, one64, is_finite, is_positive}
use Rattle.refusal.specs.declared.Refusal.{Refusal}
use Rattle.refusal.specs.Refusal.{bad_diagonal, bad_reciprocal}
use Rattle.refusal.specs.Outcome.{Outcome, passed, ask_from, ask_each, verdict_of}
use Rattle.refusal.proofs.Outcome.{each_step, each_stop, each_done, passes, refuses}
use Rattle.store.specs.Region.{at, idx}
use Rattle.store.proofs.store.Region.{get_d_part}
use Rattle.coefficients.specs.Update.{diagonal_asked, Coefficients}
use Rattle.coefficients.specs.Contract.{diagonal_at, after}
use Rattle.coarsening.specs.Steps.{RowsOk, RowsAsked}

-- ---- one row

module _ (level row : ℕ) (d : Float) {p : Bool} (e : p ≡ is_positive d) where
  -- Question 12 refuses.
  pub row_bad : p ≡ false → Err (bad_diagonal level row) ≡ verdict_of (diagonal_asked level row d)
  unfolding diagonal_asked
  row_bad t = rw (← e, t)

  module _ (yes : p ≡ true) {q : Bool} (i : q ≡ is_finite (div64 one64 d)) where
    -- Question 13 refuses.
    pub row_bad_reciprocal : q ≡ false → Err (bad_reciprocal level row) ≡ verdict_of (diagonal_asked level row d)
    unfolding diagonal_asked
    row_bad_reciprocal t = rw (← e, yes, ← i, t)

    -- Both pass.
    pub row_good : q ≡ true → (Ok tt) ≡ verdict_of (diagonal_asked level row d)
    unfolding diagonal_asked
    row_good t = rw (← e, yes, ← i, t)

-- ---- every row

-- A diagonal entry is one of the entries.
pub entry_near : {w : List ℕ} {floats rows entries places values k : ℕ} → RowsOk w floats rows entries places values
    → k < rows → idx w (places + k) < entries
entry_near {k = k} ok h = ok.near k h

-- The invariant: the questions from `row` on are what is left.
pub record Asking (level : ℕ) (w : List ℕ) (F : List Float) (rows entries places values row : ℕ) : Type 0 where
  pub asked : (rest : Outcome Coefficients)
      → ask_each rows (λ r. diagonal_asked level r (diagonal_at w rows entries places values F r)) rest
      ≡ ask_from row rows (λ r. diagonal_asked level r (diagonal_at w rows entries places values F r)) rest
  pub reach : row ≤ rows

pub asking_start : {level : ℕ} {w : List ℕ} {F : List Float} {rows entries places values : ℕ} → Asking level w F rows entries places values 0
asking_start = record { asked = λ rest. refl; reach = omega arith }

module _ {level : ℕ} {w : List ℕ} {F : List Float} {rows entries places values row : ℕ}
    (a : Asking level w F rows entries places values row) where
  abbrev asks : ℕ → Outcome Unit
  asks r = diagonal_asked level r (diagonal_at w rows entries places values F r)

  module _ {entry : ℕ} {v : Result Unit Refusal} (ok : RowsOk w (length F) rows entries places values) (h : row < rows)
      (i : entry ≡ idx w (places + row)) (e : v ≡ verdict_of (diagonal_asked level row (at F (values + entry)))) where
    read : at F (values + entry) ≡ diagonal_at w rows entries places values F row
    read =
        let near : idx w (places + row) < entries = ok.near row h in
        rw i (simp get_d_part)

    -- The row passes: the next one.
    pub asking_on : v ≡ Ok tt → Asking level w F rows entries places values (row + 1)
    asking_on t =
        let good : asks row ≡ passed = rw read at (passes (diagonal_asked level row (at F (values + entry))) e t) in
        record { asked = λ rest. a.asked rest ∙ each_step row rows asks rest h good; reach = omega arith }

    -- The row is refused.
    pub asking_stop : {q : Refusal} → v ≡ Err q → RowsAsked w F rows entries places values level (Err q)
    unfolding after
    asking_stop {q} t =
        let bad = rw read at (refuses (diagonal_asked level row (at F (values + entry))) e t) in
        record { asked = λ rest. a.asked rest ∙ each_stop row rows asks rest h bad }

  -- Every row has passed.
  pub asking_done : rows ≤ row → RowsAsked w F rows entries places values level (Ok tt)
  unfolding after
  asking_done h = record { asked = λ rest. a.asked rest ∙ each_done row rows asks rest h }
