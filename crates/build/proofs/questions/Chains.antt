-- Chains of questions: the answers of the functions that ask them.
-- Assumes nothing.
use Rattle.std.specs.Prelude.{Result, Ok, Err}
use mathlib.Core.Path.{◌≡◌, refl, sym, ap, ◌∙◌}
use mathlib.Core.Bool.{Bool, true, false, ◌&&◌, ◌||◌}
use mathlib.Core.List.{List}
use Prim.Native.Nat.{ℕ, ◌+◌, ◌*◌}
use native.Mathlib.Omega.{arith}
use lib.Dec.{eqb, leb}
use lib.ListN.{length}
use lib.Ieee.{Float}
use Rattle.options.specs.declared.options.MultigridOptions.{MultigridOptions}
use Rattle.refusal.specs.declared.Refusal.{Refusal}
use Rattle.refusal.specs.Refusal.{store_too_small}
use Rattle.options.specs.Options.{controls_asked}
use Rattle.refusal.specs.Outcome.{Outcome, accepted, refused, passed, ask, verdict_of, ◌>>=◌}
use Rattle.csr.specs.Questions.{matrix_asked}
use Rattle.csr.specs.Weights.{weights_asked}
use Rattle.hierarchy.specs.Build.{Lent, Input}
use Rattle.build.specs.AskingContract.{weighed_asked, arrays_asked, room_asked, asked_of, lending, WeightsAsked, ArraysAsked, RoomAsked, Asked, Vectors, Squared}

-- A chain whose first part passed is the rest.
pub passed_then : {A : Type 0} (o : Outcome Unit) (rest : Outcome A) → verdict_of o ≡ Ok tt → ◌>>=◌ o (λ _. rest) ≡ rest
passed_then (accepted _) rest e = refl
passed_then (refused q) rest e = absurd (let none : ◌≡◌ {A = ℕ} 0 1 = cc in omega arith)

-- A chain whose first part refused refuses so.
pub refused_then : {A : Type 0} (o : Outcome Unit) (rest : Outcome A) (q : Refusal) → verdict_of o ≡ Err q
    → ◌>>=◌ o (λ _. rest) ≡ refused q
refused_then (accepted _) rest q e = absurd (let none : ◌≡◌ {A = ℕ} 0 1 = cc in omega arith)
refused_then (refused q') rest q e = cc

-- Both parts of a chain that passed have passed.
pub then_passed : (o rest : Outcome Unit) → verdict_of (◌>>=◌ o (λ _. rest)) ≡ Ok tt
    → (verdict_of o ≡ Ok tt) × (verdict_of rest ≡ Ok tt)
then_passed (accepted _) rest e = (refl, e)
then_passed (refused q) rest e = absurd (let none : ◌≡◌ {A = ℕ} 0 1 = cc in omega arith)

-- ---- questions 4 to 7

module _ {entries : ℕ} {weights : List Float} {o : MultigridOptions} where
  pub weighed_none : {given : Bool} {r : Result Unit Refusal} → given ≡ false → r ≡ verdict_of (controls_asked o) → WeightsAsked entries given weights o r
  weighed_none e c = record { answer = rw e c }

  pub weighed_on : {given : Bool} {v r : Result Unit Refusal} → given ≡ true → v ≡ verdict_of (weights_asked entries weights) → v ≡ Ok tt
      → r ≡ verdict_of (controls_asked o) → WeightsAsked entries given weights o r
  weighed_on e a p c =
      record { answer = rw e (c ∙ sym (ap verdict_of (passed_then (weights_asked entries weights) (controls_asked o) (sym a ∙ p)))) }

  pub weighed_no : {given : Bool} {v : Result Unit Refusal} {q : Refusal} → given ≡ true → v ≡ verdict_of (weights_asked entries weights)
      → v ≡ Err q → WeightsAsked entries given weights o (Err q)
  weighed_no {given} {v} {q} e a p =
      record { answer = rw e (sym (ap verdict_of (refused_then (weights_asked entries weights) (controls_asked o) q (sym a ∙ p)))) }

-- ---- questions 1 to 7

module _ (x : Input) {v : Result Unit Refusal} (a : v ≡ verdict_of (matrix_asked x.rows x.offsets x.columns x.values)) where
  abbrev matrix : Outcome Unit
  matrix = matrix_asked x.rows x.offsets x.columns x.values

  abbrev others : Outcome Unit
  others = weighed_asked (length x.columns) x.given x.weights x.options

  pub arrays_on : {r : Result Unit Refusal} → v ≡ Ok tt → WeightsAsked (length x.columns) x.given x.weights x.options r
      → ArraysAsked x r
  unfolding arrays_asked
  arrays_on p c = record { answer = c.answer ∙ sym (ap verdict_of (passed_then matrix others (sym a ∙ p))) }

  pub arrays_no : {q : Refusal} → v ≡ Err q → ArraysAsked x (Err q)
  unfolding arrays_asked
  arrays_no {q} p = record { answer = sym (ap verdict_of (refused_then matrix others q (sym a ∙ p))) }

-- ---- question 9

-- two questions with one refusal
abbrev two : Bool → Bool → Outcome Unit
two a b = ask a store_too_small (ask b store_too_small passed)

module _ (rows entries : ℕ) (o : MultigridOptions) (words floats records : ℕ) {v q : ℕ} (vectors : Vectors rows o.krylov_dimension v)
    (factor : Squared o.coarsest_cells q) where
  -- the two questions of the stores, as the code asks them
  abbrev paid : Bool
  paid = leb (16 * rows + 12 * entries + 64) words && leb (v + 8 * entries + q) floats && leb o.max_levels records

  abbrev finest : Bool
  finest = eqb rows 0 || (leb (16 * rows + 12 * entries + 64 + (5 * rows + 4 * entries + 8)) words && leb (v + 8 * entries + q + (20 * rows + 4 * entries)) floats)

  room_is : room_asked o (lending words floats records) rows entries ≡ two paid finest
  unfolding room_asked
  room_is = rw (vectors.is, factor.is)

  pub room_short : paid && finest ≡ false → RoomAsked rows entries o (lending words floats records) (Err store_too_small)
  room_short e = record { answer = sym (ap verdict_of room_is ∙ none paid finest e) }
    where
      none : (a b : Bool) → a && b ≡ false → verdict_of (two a b) ≡ Err store_too_small
      none true b e = rw e
      none false b e = refl

  pub room_enough : paid && finest ≡ true → RoomAsked rows entries o (lending words floats records) (Ok tt)
  room_enough e = record { answer = sym (ap verdict_of room_is ∙ all paid finest e) }
    where
      all : (a b : Bool) → a && b ≡ true → verdict_of (two a b) ≡ Ok tt
      all true b e = rw e
      all false b e = let none : ◌≡◌ {A = ℕ} 0 1 = cc in absurd (omega arith)

-- ---- questions 1 to 9

module _ {l : Lent} {x : Input} {v : Result Unit Refusal} (a : ArraysAsked x v) where
  pub asked_on : {r : Result Unit Refusal} → v ≡ Ok tt → RoomAsked x.rows (length x.columns) x.options l r → Asked l x r
  unfolding asked_of
  asked_on p c =
      record {
        answer = c.answer
            ∙ sym (ap verdict_of (passed_then (arrays_asked x) (room_asked x.options l x.rows (length x.columns)) (sym a.answer ∙ p)));
      }

  pub asked_no : {q : Refusal} → v ≡ Err q → Asked l x (Err q)
  unfolding asked_of
  asked_no {q} p =
      record {
        answer = sym (ap verdict_of (refused_then (arrays_asked x) (room_asked x.options l x.rows (length x.columns)) q (sym a.answer ∙ p)));
      }
