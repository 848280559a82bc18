-- What weights have where their questions passed.
-- Assumes nothing.
use Rattle.std.specs.Prelude.{Ok}
use mathlib.Core.Path.{◌≡◌}
use mathlib.Core.List.{List}
use Prim.Native.Nat.{ℕ}
use lib.Ieee.{Float}
use lib.ListN.{length}
use borrow.Author.Tests.{eqb-true}
use Rattle.refusal.specs.Refusal.{weight_count, bad_weight}
use Rattle.refusal.specs.Outcome.{passed, ask, verdict_of}
use Rattle.csr.proofs.csr.Laws.{asked_yes}
use Rattle.csr.specs.Weights.{weights_ok, weights_asked}
use Rattle.csr.specs.Turns.{weights_counted}

-- Weights that passed are as many as the entries.
pub weights_length : (entries : ℕ) (weights : List Float) → verdict_of (weights_asked entries weights) ≡ Ok tt → length weights ≡ entries
weights_length entries weights v =
    let a = asked_yes (weights_counted entries weights) weight_count (ask (weights_ok weights) bad_weight passed) v in
    eqb-true (length weights) entries a.0
