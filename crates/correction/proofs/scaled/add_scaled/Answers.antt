-- `scaled::add_scaled` meets its contract. The loop's invariant: what is left to do from here gives what the whole gives.
use mathlib.Core.Path.{refl}
use Rattle.store.proofs.store.Loop.{left_start, left_on}
use Rattle.correction.proofs.scaled.Scaled.{scaled_step, scaled_done, scaled_at}
use borrow.Author.Rules.{rules}
use Rattle.correction.proofs.scaled.add_scaled.Goals as goal

pub loop-row-init : goal.loop-row-init
loop-row-init c = (refl, left_start)

pub loop-row-preserved : goal.loop-row-preserved
unfolding scaled_step scaled_at
loop-row-preserved c = search (left_on, rules)

pub returns : goal.returns
returns c = search (scaled_done)
