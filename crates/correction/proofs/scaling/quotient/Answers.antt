-- `scaling::quotient` meets its contract: its test is the definition's.
use Rattle.correction.specs.Scaling.{quotient_of}
use Rattle.correction.proofs.scaling.quotient.Goals as goal

pub returns-then-denominator : goal.returns-then-denominator
unfolding quotient_of
returns-then-denominator c = rw c.if-denominator.true

pub returns-else-denominator : goal.returns-else-denominator
unfolding quotient_of
returns-else-denominator c = rw c.if-denominator.false
