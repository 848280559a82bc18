-- `coarsest::mark` meets its contract.
use native.Mathlib.Omega.{arith}
use lib.ListN.{length-set}
use Rattle.build_level.proofs.coarsest.Words.{mark_done}
use Rattle.build_level.proofs.coarsest.mark.Goals as goal

pub bounds-w-a-2 : goal.bounds-w-a-2
bounds-w-a-2 c = simp length-set (omega arith)

pub returns : goal.returns
returns c = mark_done _ _ _
