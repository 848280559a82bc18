-- `cholesky::one_row` meets its contract.
use borrow.Author.Rules.{rules}
use Rattle.cholesky.proofs.Rows.{ok_wrote, pivot_ok, row_good, row_bad}
use Rattle.cholesky.proofs.one_row.Goals as goal

pub pivot-value-requires : goal.pivot-value-requires
pivot-value-requires c = search (ok_wrote, rules)

pub bad_pivot-requires : goal.bad_pivot-requires
bad_pivot-requires c = pivot_ok c.requires.terminal_ok c.requires.row_at.within

pub returns : goal.returns
returns c = search (row_good)

pub returns-then-not-is_positive : goal.returns-then-not-is_positive
returns-then-not-is_positive c =
    rw c.bad_pivot.ensures (row_bad _ c.requires.terminal_ok c.requires.row_at c.columns.ensures c.pivot-value.ensures c.is_positive.ensures c.if-not-is_positive.true)
