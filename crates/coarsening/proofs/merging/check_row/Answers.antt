-- `merging::check_row` meets its contract.
use Rattle.coarsening.proofs.merging.Questions.{row_bad, row_bad_reciprocal, row_good}
use Rattle.coarsening.proofs.merging.check_row.Goals as goal

pub returns-then-is_finite : goal.returns-then-is_finite
returns-then-is_finite c =
    row_good _ _ _ c.is_positive.ensures c.if-is_positive.true
    c.is_finite.ensures c.if-is_finite.true

pub returns-then-is_positive : goal.returns-then-is_positive
returns-then-is_positive c =
    row_bad_reciprocal _ _ _ c.is_positive.ensures c.if-is_positive.true
    c.is_finite.ensures c.if-is_finite.false

pub returns : goal.returns
returns c = row_bad _ _ _ c.is_positive.ensures c.if-is_positive.false
