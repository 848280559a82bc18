-- Questions 20 and 21: a law for each way out, and what their answer tells.
-- Assumes nothing.
use Rattle.std.specs.Prelude.{Ok, Err}
use mathlib.Core.Path.{◌≡◌, refl, ◌∙◌}
use mathlib.Core.Bool.{Bool, true, false, ◌&&◌}
use mathlib.Core.List.{List}
use Prim.Native.Nat.{ℕ}
use native.Mathlib.Omega.{arith}
use borrow.Author.Tests.{eq-eqb, ne_eqb}
use lib.Dec.{leb}
use lib.ListN.{length}
use lib.Seq.{take-length}
use lib.Ieee.{Float}
use Rattle.store.specs.Region.{part}
use Rattle.solver.specs.declared.solver.LinearSolverOptions.{LinearSolverOptions}
use Rattle.options.specs.Options.{tolerable}
use Rattle.refusal.specs.declared.Refusal.{Refusal}
use Rattle.refusal.specs.Refusal.{wrong_length, bad_input}
use Rattle.refusal.specs.Outcome.{Outcome, accepted, refused, ask, verdict_of}
use Rattle.refusal.proofs.Outcome.{ask_yes}
use Rattle.vector.specs.Finite.{all_finite}
use Rattle.solve.specs.Input.{input_ok}
use Rattle.solve.specs.Steps.{asked_of}

-- Two questions before a result: what refuses it refuses the whole,
pub asked_no : {A : Type 0} {q : Refusal} (a b : Bool) (y : List Float) (out : Outcome A)
    → ask a wrong_length (ask b bad_input (accepted y)) ≡ refused q → ask a wrong_length (ask b bad_input out) ≡ refused q
asked_no true true y out e = let none : ◌≡◌ {A = ℕ} 0 1 = cc in absurd (omega arith)
asked_no true false y out e = cc
asked_no false b y out e = cc

-- and where it is accepted, both hold.
pub both_asked : {v : List Float} (a b : Bool) (y : List Float) → ask a wrong_length (ask b bad_input (accepted y)) ≡ accepted v
    → (a ≡ true) × (b ≡ true)
both_asked true true y e = (refl, refl)
both_asked true false y e = let none : ◌≡◌ {A = ℕ} 0 1 = cc in absurd (omega arith)
both_asked false b y e = let none : ◌≡◌ {A = ℕ} 0 1 = cc in absurd (omega arith)

pub asked_yes : {A : Type 0} {v : List Float} (a b : Bool) (y : List Float) (out : Outcome A)
    → ask a wrong_length (ask b bad_input (accepted y)) ≡ accepted v → ask a wrong_length (ask b bad_input out) ≡ out
asked_yes a b y out e = let t = both_asked a b y e in ask_yes _ _ _ t.0 ∙ ask_yes _ _ _ t.1

module _ (n : ℕ) (s : LinearSolverOptions) (rhs x : List Float) where
  -- Question 20 of the right-hand side,
  pub ask_rhs : (length rhs ≡ n → ⊥) → Err wrong_length ≡ verdict_of (asked_of n s rhs x)
  ask_rhs other = rw (ne_eqb (length rhs) n other)

  module _ (long : length rhs ≡ n) where
    -- and of the solution.
    pub ask_x : (length x ≡ n → ⊥) → Err wrong_length ≡ verdict_of (asked_of n s rhs x)
    ask_x other = rw (eq-eqb (length rhs) n long, ne_eqb (length x) n other)

    module _ (wide : length x ≡ n) {b : Bool} (is : b ≡ input_ok s rhs x) where
      -- Question 21.
      pub ask_bad : b ≡ false → Err bad_input ≡ verdict_of (asked_of n s rhs x)
      ask_bad fails = rw (eq-eqb (length rhs) n long, eq-eqb (length x) n wide, ← is, fails)

      -- Both pass.
      pub ask_good : b ≡ true → (Ok tt) ≡ verdict_of (asked_of n s rhs x)
      ask_good holds = rw (eq-eqb (length rhs) n long, eq-eqb (length x) n wide, ← is, holds)

-- A vector is the region of its length.
part_whole : (v : List Float) → part 0 (length v) v ≡ v
unfolding part
part_whole v = take-length v

-- The tests of question 21, as the code makes them.
pub input_is : (s : LinearSolverOptions) (rhs x : List Float) {a r b c : Bool} → a ≡ tolerable s.absolute_tolerance
    → r ≡ tolerable s.relative_tolerance → b ≡ all_finite (length rhs) (part 0 (length rhs) rhs) → c ≡ all_finite (length x) (part 0 (length x) x)
    → leb 1 s.max_iterations && a && r && b && c
    ≡ input_ok s rhs x
unfolding input_ok
input_is s rhs x ea er eb ec = rw (ea, er, eb, ec, part_whole rhs, part_whole x)
