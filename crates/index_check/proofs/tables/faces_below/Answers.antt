-- `tables::faces_below` meets its contract. The loop's invariant: the answer so far is that of the faces passed.
use mathlib.Core.Path.{refl}
use Rattle.store.proofs.store.Each.{tested_start, tested_on}
use Rattle.index_check.proofs.tables.Laws.{faces_tested}
use native.Mathlib.Omega.{arith}
use Rattle.index_check.proofs.tables.faces_below.Goals as goal

pub loop-k-init : goal.loop-k-init
loop-k-init c = tested_start _ _

pub loop-k-preserved : goal.loop-k-preserved
loop-k-preserved c = tested_on c.loop-k.invariant (omega arith) refl

pub returns : goal.returns
returns c = faces_tested _ _ c.requires refl refl c.loop-k.invariant c.loop-k-test.false
