-- `vector::dot_blocks` meets its contract.
use native.Mathlib.Omega.{arith}
use Rattle.vector.proofs.vector.Laws.{sides_start, sides_on, sides_end}
use Rattle.vector.proofs.vector.dot_blocks.Goals as goal

pub loop-k-init : goal.loop-k-init
loop-k-init c = sides_start _ _ _

pub loop-k-preserved : goal.loop-k-preserved
loop-k-preserved c = sides_on (omega arith) c.loop-k.invariant

pub returns : goal.returns
returns c = search (sides_end)
