-- `decimal::power_of` meets its contract: by the table's rule.
use borrow.Author.Rules.{rules}
use Rattle.decimal.proofs.Table.{power_exact}
use Rattle.decimal.proofs.power_of.Goals as goal

pub returns : goal.returns
returns c = power_exact c.args.k (search rules)
