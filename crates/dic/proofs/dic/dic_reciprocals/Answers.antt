-- `dic::dic_reciprocals` meets its contract: every reciprocal is finite, or the questions one by one give the verdict.
use borrow.Author.Rules.{rules}
use Rattle.dic.proofs.dic.Dic.{reciprocals_good, reciprocals_asked}
use Rattle.dic.proofs.dic.dic_reciprocals.Goals as goal

pub returns-then-invert : goal.returns-then-invert
returns-then-invert c = search (reciprocals_good, rules)

pub returns : goal.returns
returns c = search (reciprocals_asked, rules)
