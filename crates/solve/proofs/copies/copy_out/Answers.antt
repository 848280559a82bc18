-- `copies::copy_out` meets its contract. The loop's invariant: what is left to copy gives the whole.
use mathlib.Core.Path.{refl}
use native.Mathlib.Omega.{arith}
use lib.ListN.{length, length-set}
use lib.Ieee.{nan}
use Rattle.store.proofs.store.Loop.{left_start, left_on}
use Rattle.solve.proofs.copies.Copying.{out_turn, out_done}
use Rattle.solve.proofs.copies.copy_out.Goals as goal

pub loop-k-init : goal.loop-k-init
loop-k-init c = (refl, left_start)

pub loop-k-preserved : goal.loop-k-preserved
unfolding out_turn
loop-k-preserved c = (simp length-set (omega arith), left_on c.loop-k.invariant.1 (omega arith) refl)

pub returns : goal.returns
returns c = out_done c.args.f.now c.args.x.now c.args.from nan c.requires c.loop-k.invariant.1 (omega arith)
