-- How a chain of questions goes on, and how it ends. Assumes nothing.
use Rattle.std.specs.Prelude.{Result, Ok, Err, IsErrAnd}
use Rattle.std.proofs.lemmas.Result.{err_from_is_err_and}
use mathlib.Core.Path.{◌≡◌, refl}
use mathlib.Core.Bool.{Bool, true, false}
use Prim.Native.Nat.{ℕ, zero, suc, ◌+◌, ◌-◌, ◌≤◌, ◌<◌}
use native.Mathlib.Omega.{arith}
use Rattle.refusal.specs.declared.Refusal.{Refusal}
use Rattle.refusal.specs.Outcome.{Outcome, accepted, refused, passed, ask, ◌>>=◌, ask_rows, ask_from, ask_each, verdict_of, is_refused}

module _ {A : Type 0} (holds : Bool) (q : Refusal) (rest : Outcome A) where
  -- a question that holds goes on
  pub ask_yes : holds ≡ true → ask holds q rest ≡ rest
  ask_yes e = rw e

  -- a question that does not hold ends the chain
  pub ask_no : holds ≡ false → ask holds q rest ≡ refused q
  ask_no e = rw e

module _ {A B : Type 0} (o : Outcome A) (rest : A → Outcome B) where
  -- an accepted computation hands its result on
  pub then_accepted : {a : A} → o ≡ accepted a → ◌>>=◌ o rest ≡ rest a
  then_accepted e = rw e

  -- a refused computation ends the chain
  pub then_refused : {q : Refusal} → o ≡ refused q → ◌>>=◌ o rest ≡ refused q
  then_refused e = rw e

-- chains follow one another
pub then_then : {A B C : Type 0} (o : Outcome A) (f : A → Outcome B) (g : B → Outcome C) → ◌>>=◌ (◌>>=◌ o f) g ≡ ◌>>=◌ o (λ a. ◌>>=◌ (f a) g)
then_then (accepted a) f g = refl
then_then (refused q) f g = refl

-- nothing is refused and accepted
pub never : {A B : Type 0} {o : Outcome A} {q : Refusal} {a : A} → o ≡ refused q → o ≡ accepted a → B
never e f = absurd (let none : ◌≡◌ {A = ℕ} 0 1 = cc in omega arith)

-- what is accepted is one thing
pub accepted_one : {A : Type 0} {a b : A} → accepted a ≡ accepted b → a ≡ b
accepted_one e = cc

module _ {A : Type 0} (row rows : ℕ) (asked : ℕ → Outcome Unit) (rest : Outcome A) where
  -- a row that passes leaves the rows after it
  pub each_step : row < rows → asked row ≡ passed → ask_from row rows asked rest ≡ ask_from (row + 1) rows asked rest
  unfolding ask_rows
  each_step h e = let more : rows - row ≡ suc (rows - (row + 1)) = omega arith in rw (more, e)

  -- a row that refuses ends the chain
  pub each_stop : {q : Refusal} → row < rows → asked row ≡ refused q → ask_from row rows asked rest ≡ refused q
  unfolding ask_rows
  each_stop h e = let more : rows - row ≡ suc (rows - (row + 1)) = omega arith in rw (more, e)

  -- past the last row comes the rest
  pub each_done : rows ≤ row → ask_from row rows asked rest ≡ rest
  unfolding ask_rows
  each_done h = let none : rows - row ≡ 0 = omega arith in rw none

module _ {A : Type 0} (asked : ℕ → Outcome Unit) (rest : Outcome A) where
  all_from : (fuel row : ℕ) → ((k : ℕ) → row ≤ k → k < row + fuel → asked k ≡ passed) → ask_rows fuel row asked rest ≡ rest
  unfolding ask_rows
  all_from zero row e = refl
  all_from (suc fuel) row e = rw (e row (omega arith) (omega arith)) (all_from fuel (row + 1) (λ k l h. e k (omega arith) (omega arith)))

  -- where every row passes, the rest follows
  pub each_all : (rows : ℕ) → ((row : ℕ) → row < rows → asked row ≡ passed) → ask_each rows asked rest ≡ rest
  each_all rows e = all_from (rows - 0) 0 (λ k l h. e k (omega arith))

  same_from : (others : ℕ → Outcome Unit) (fuel row : ℕ) → ((k : ℕ) → row ≤ k → k < row + fuel → asked k ≡ others k)
      → ask_rows fuel row asked rest ≡ ask_rows fuel row others rest
  unfolding ask_rows
  same_from others zero row e = refl
  same_from others (suc fuel) row e =
      rw (e row (omega arith) (omega arith), same_from others fuel (row + 1) (λ k l h. e k (omega arith) (omega arith)))

  -- the same questions have the same outcome
  pub each_alike : (others : ℕ → Outcome Unit) (rows : ℕ) → ((row : ℕ) → row < rows → asked row ≡ others row)
      → ask_each rows asked rest ≡ ask_each rows others rest
  each_alike others rows e = same_from others (rows - 0) 0 (λ k l h. e k (omega arith))

module _ {A : Type 0} (o : Outcome A) where
  -- an accepted outcome passes
  pub verdict_passed : {a : A} → o ≡ accepted a → verdict_of o ≡ Ok tt
  verdict_passed e = rw e

  -- a refused outcome is that refusal
  pub verdict_refused : {q : Refusal} → o ≡ refused q → verdict_of o ≡ Err q
  verdict_refused e = rw e

-- where the verdict is `Passed`, the questions have passed
pub passes : {v : Result Unit Refusal} (o : Outcome Unit) → v ≡ verdict_of o → v ≡ Ok tt → o ≡ passed
passes (accepted a) e told = refl
passes (refused q) e told = let none : ◌≡◌ {A = ℕ} 0 1 = cc in absurd (omega arith)

-- what passed was accepted
pub accepts_it : {A : Type 0} {v : Result Unit Refusal} (out : Outcome A) → v ≡ verdict_of out → v ≡ Ok tt → (a : A) × (out ≡ accepted a)
accepts_it (accepted a) e told = (a, refl)
accepts_it (refused q) e told = let none : ◌≡◌ {A = ℕ} 0 1 = cc in absurd (omega arith)

-- where the verdict is a refusal, the outcome is that refusal
pub refuses : {A : Type 0} {v : Result Unit Refusal} {q : Refusal} (o : Outcome A) → v ≡ verdict_of o → v ≡ Err q → o ≡ refused q
refuses (accepted a) e told = let none : ◌≡◌ {A = ℕ} 0 1 = cc in absurd (omega arith)
refuses (refused p) e told = cc

-- An answer that is no refusal has passed,
pub went_on_lem : (v : Result Unit Refusal) → is_refused v ≡ false → v ≡ Ok tt
went_on_lem (Ok tt) e = refl
went_on_lem (Err q) e = let none : ◌≡◌ {A = ℕ} 0 1 = cc in absurd (omega arith)

-- and another has refused.
pub stopped : (v : Result Unit Refusal) → is_refused v ≡ true → (q : Refusal) × (v ≡ Err q)
stopped (Ok tt) e = let none : ◌≡◌ {A = ℕ} 0 1 = cc in absurd (omega arith)
stopped (Err q) e = (q, refl)

-- What a `?` returns where its call failed: that error.
pub passed_up : {T E : Type 0} {q : E} (r : Result T E) → IsErrAnd r (λ x. x ≡ q) → r ≡ Err q
passed_up r e = let p = err_from_is_err_and r e in rw (p.1, p.2) refl
