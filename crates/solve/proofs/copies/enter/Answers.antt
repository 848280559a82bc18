-- `copies::enter` meets its contract.
use native.Mathlib.Omega.{arith}
use Rattle.solve.proofs.copies.Copying.{entered, second_fits}
use Rattle.solve.proofs.copies.enter.Goals as goal

pub load-requires : goal.load-requires
load-requires c = omega (arith, c.requires.given, c.requires.room)

pub load-requires-2 : goal.load-requires-2
load-requires-2 c = second_fits c.requires c.load.ensures

pub returns : goal.returns
returns c = entered c.requires c.load.ensures c.load-2.ensures
