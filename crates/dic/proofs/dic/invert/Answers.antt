-- `dic::invert` meets its contract. The loop's invariant: the reciprocals passed are written, and the answer so far is theirs.
use mathlib.Core.Path.{refl}
use Rattle.dic.proofs.dic.Dic.{inverting_start, invert_on, inverted}
use borrow.Author.Rules.{rules}
use Rattle.dic.proofs.dic.invert.Goals as goal

pub loop-row-init : goal.loop-row-init
loop-row-init c = (refl, inverting_start _ _ _)

pub loop-row-preserved : goal.loop-row-preserved
loop-row-preserved c = (search rules, search (invert_on))

pub returns : goal.returns
returns c = search (inverted)
