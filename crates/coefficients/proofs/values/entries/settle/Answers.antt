-- `values::entries::settle` meets its contract: every row is good, or the questions one by one give the verdict.
use Rattle.coefficients.proofs.values.UpdateLaws.{rows_good, rows_asked}
use Rattle.coefficients.proofs.values.entries.settle.Goals as goal

pub returns-then-invert : goal.returns-then-invert
returns-then-invert c =
    rows_good c.requires.rows_bound c.invert.ensures _ c.if-invert.true

pub returns-else-invert : goal.returns-else-invert
returns-else-invert c =
    rows_asked c.requires.rows_bound c.invert.ensures c.ask_rows.ensures
