-- Verdicts and the outcomes behind them.
-- Assumes nothing.
use Rattle.std.specs.Prelude.{Result, Err}
use mathlib.Core.Path.{◌≡◌, refl}
use mathlib.Core.Bool.{true, false}
use Rattle.refusal.specs.declared.Refusal.{Refusal}
use Rattle.refusal.specs.Outcome.{Outcome, accepted, refused, verdict_of, is_refused, ◌>>=◌}
use Rattle.refusal.proofs.Outcome.{accepts_it, refuses, went_on_lem, stopped}

-- What only makes something of a result has its verdict.
pub verdict_then : {A B : Type 0} (o : Outcome A) (f : A → B) → verdict_of (◌>>=◌ o (λ a. accepted (f a))) ≡ verdict_of o
verdict_then (accepted a) f = refl
verdict_then (refused q) f = refl

module _ {A : Type 0} {v : Result Unit Refusal} (o : Outcome A) (is : v ≡ verdict_of o) where
  -- An answer that is no refusal is of an accepted outcome,
  pub told_accepted : is_refused v ≡ false → (a : A) × (o ≡ accepted a)
  told_accepted e = accepts_it o is (went_on_lem v e)

  -- and a refusal of a refused one.
  pub told_refused : is_refused v ≡ true → (q : Refusal) × (o ≡ refused q) × (v ≡ Err q)
  told_refused e = let s = stopped v e in (s.0, refuses o is s.1, s.1)
