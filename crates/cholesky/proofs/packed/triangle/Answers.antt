-- `packed::triangle` meets its contract. The loop's invariant: `end` is where the next row starts.
use native.Mathlib.Omega.{arith}
use Rattle.cholesky.proofs.packed.Triangles.{up_start, up_on, up_end}
use Rattle.cholesky.proofs.packed.triangle.Goals as goal

pub loop-row-init : goal.loop-row-init
loop-row-init c = (up_start _, omega arith)

pub loop-row-preserved : goal.loop-row-preserved
loop-row-preserved c = (search (up_on), omega arith)

pub returns : goal.returns
returns c = search (up_end)
