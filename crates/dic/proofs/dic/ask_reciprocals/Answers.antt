-- `dic::ask_reciprocals` meets its contract. The loop's invariant: the questions left give the answer.
use Rattle.dic.proofs.dic.Dic.{asking_start, asking_on, asking_no, asking_done}
use Rattle.dic.proofs.dic.ask_reciprocals.Goals as goal

pub loop-row-init : goal.loop-row-init
loop-row-init c = asking_start _ _ _ _

pub loop-row-preserved : goal.loop-row-preserved
loop-row-preserved c = search (asking_on)

pub returns-then-not-is_finite : goal.returns-then-not-is_finite
returns-then-not-is_finite c = search (asking_no)

pub returns : goal.returns
returns c = search (asking_done)
