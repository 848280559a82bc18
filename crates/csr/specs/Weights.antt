-- Questions 4 and 5 of document 01, of the weights of a matrix as they are lent: an array of any length. Definitions only.
use Rattle.std.specs.Prelude.{Bool, List, ℕ, eqb, length, Float}
use Rattle.store.specs.Region.{at}
use Rattle.store.specs.Vector.{each}
use Rattle.options.specs.Options.{tolerable}
use Rattle.refusal.specs.Outcome.{Outcome, passed, ask, ◌>>◌}
use Rattle.refusal.specs.Refusal.{weight_count, bad_weight}

-- question 5: each weight is finite and not below zero; minus zero passes, a NaN does not
unfoldable pub weights_ok : List Float → Bool
weights_ok weights = each (λ k. tolerable (at weights k)) (length weights)

-- questions 4 and 5
abbrev pub weights_asked : ℕ → List Float → Outcome Unit
weights_asked entries weights = do
  ask (eqb (length weights) entries) weight_count
  ask (weights_ok weights) bad_weight
  passed
