-- The ways through the descent, over the definitions alone.
-- Assumes nothing.
use Rattle.std.specs.Prelude.{Result, Ok, Err}
use mathlib.Core.Path.{◌≡◌, refl, sym, ap, ◌∙◌}
use mathlib.Core.Bool.{Bool, true, false, not}
use mathlib.Core.List.{List}
use Prim.Native.Nat.{ℕ, ◌+◌, ◌-◌}
use native.Mathlib.Omega.{arith}
use lib.Ieee.{Float}
use Rattle.options.specs.declared.options.MultigridOptions.{MultigridOptions}
use Rattle.refusal.specs.declared.Refusal.{Refusal}
use Rattle.refusal.specs.Outcome.{Outcome, accepted, refused, ◌>>=◌}
use Rattle.refusal.proofs.Outcome.{then_accepted, then_refused, then_then}
use Rattle.coefficients.specs.Update.{Coefficients}
use Rattle.dic.specs.Dic.{settled}
use Rattle.pattern.specs.Pattern.{entries}
use Rattle.hierarchy.specs.Level.{Numbers}
use Rattle.hierarchy.specs.Refresh.{inner_numbers}
use Rattle.hierarchy.specs.Build.{Mesh, Merged, merged, inner_shape, coarsened_asked, merge_of}
use Rattle.coarsening.specs.declared.merging.Merging.{Merging}
use Rattle.coarsening.specs.MergingContract.{merging_of}
use Rattle.build_levels.specs.DescentContract.{Descent, descent_of}
use Rattle.build_levels.specs.Steps.{steps_of}

-- ---- answers

-- The test of the values passed,
pub finite_is : (b : Bool) → not b ≡ false → b ≡ true
finite_is true e = refl
finite_is false e = sym e

-- or it did not.
pub no_finite : (b : Bool) → not b ≡ true → b ≡ false
no_finite true e = sym e
no_finite false e = refl

-- A refused verdict refuses.
pub settled_no : {v : Result Unit Refusal} {q : Refusal} (l : List Float) → v ≡ Err q → settled v l ≡ refused q
unfolding settled
settled_no l e = rw e

-- A verdict that passes accepts what was made.
pub settled_yes : {v : Result Unit Refusal} (l : List Float) → v ≡ Ok tt → settled v l ≡ accepted l
unfolding settled
settled_yes l e = rw e

-- A refusal of merged steps is theirs.
pub merging_no : {r : Result Merging Refusal} {q : Refusal} (x : Outcome Merged) → r ≡ merging_of x → r ≡ Err q → x ≡ refused q
merging_no (accepted s) e told = absurd (let none : ◌≡◌ {A = ℕ} 0 1 = cc in omega arith)
merging_no (refused p) e told = cc

-- Merged steps that are done were accepted: what they made.
pub record Made (x : Outcome Merged) (rows stage : ℕ) : Type 0 where
  pub steps : Merged
  pub is : x ≡ accepted steps
  pub counted : steps.mesh.pattern.rows ≡ rows
  pub staged : steps.stage ≡ stage

pub merging_yes : {r : Result Merging Refusal} {d : Merging} (x : Outcome Merged) → r ≡ merging_of x → r ≡ Ok d
    → Made x d.count d.stage
merging_yes {r} {d} (accepted s) e told =
    let same : record { count = s.mesh.pattern.rows; entries = entries s.mesh.pattern; stage = s.stage } ≡ d = cc in
    record {
      steps = s;
      is = refl;
      counted = ap (λ (m : Merging). m.count) same;
      staged = ap (λ (m : Merging). m.stage) same;
    }
merging_yes (refused q) e told = absurd (let none : ◌≡◌ {A = ℕ} 0 1 = cc in omega arith)

-- ---- the chain

module _ (o : MultigridOptions) (given : Bool) (level stage : ℕ) (m : Mesh) (c : Coefficients) (map : List ℕ) (count : ℕ) where
  -- The level's numbers are refused.
  pub way_numbers : {q : Refusal} → inner_numbers o level (inner_shape m.pattern map count) c ≡ refused q
      → descent_of o given level stage m c map count ≡ refused q
  way_numbers e = then_refused (inner_numbers o level (inner_shape m.pattern map count) c) _ e

  module _ {n : Numbers} (made : inner_numbers o level (inner_shape m.pattern map count) c ≡ accepted n) where
    -- the matrix summed afresh, once the steps are made
    abbrev afresh : Merged → Outcome Descent
    afresh s = do
      next ← coarsened_asked given m s.map s.mesh.pattern.rows
      accepted (record { numbers = n; steps = s; next = next })

    onward : descent_of o given level stage m c map count ≡ ◌>>=◌ (steps_of o given level stage m map count) afresh
    onward =
        then_accepted (inner_numbers o level (inner_shape m.pattern map count) c) _ made
        ∙ sym (then_then (coarsened_asked given m map count)
        (λ first. merge_of o given (o.merge_levels - 1) (level + 1) (merged first map (stage + 1))) afresh)

    -- The steps are refused.
    pub way_steps : {q : Refusal} → steps_of o given level stage m map count ≡ refused q
        → descent_of o given level stage m c map count ≡ refused q
    way_steps e = onward ∙ then_refused (steps_of o given level stage m map count) afresh e

    -- The matrix summed afresh is asked.
    pub way_afresh : {s : Merged} → steps_of o given level stage m map count ≡ accepted s
        → descent_of o given level stage m c map count ≡ afresh s
    way_afresh e = onward ∙ then_accepted (steps_of o given level stage m map count) afresh e
