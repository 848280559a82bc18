-- `laying::lay_header` meets its contract.
use native.Mathlib.Omega.{arith}
use lib.ListN.{length-set}
use Rattle.build_level.proofs.laying.Words.{header}
use Rattle.build_level.proofs.laying.lay_header.Goals as goal

pub bounds-w-a-2 : goal.bounds-w-a-2
bounds-w-a-2 c = simp length-set (omega arith)

pub bounds-w-a-3 : goal.bounds-w-a-3
bounds-w-a-3 c = simp length-set (omega arith)

pub returns : goal.returns
returns c = header _ _ _
