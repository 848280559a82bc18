-- `packed::less` meets its contract. The loop's invariant: what is left to do from here gives what the whole gives.
use mathlib.Core.Path.{refl}
use native.Mathlib.Omega.{arith}
use Rattle.store.proofs.store.Loop.{left_start, left_on}
use Rattle.cholesky.specs.Turns.{less_of}
use Rattle.cholesky.proofs.packed.Sums.{less_done}
use Rattle.cholesky.proofs.packed.less.Goals as goal

pub loop-k-init : goal.loop-k-init
loop-k-init c = left_start

pub loop-k-preserved : goal.loop-k-preserved
unfolding less_of
loop-k-preserved c = left_on c.loop-k.invariant (omega arith) refl

pub returns : goal.returns
returns c = search (less_done)
