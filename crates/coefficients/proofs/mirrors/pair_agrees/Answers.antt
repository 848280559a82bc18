-- `mirrors::pair_agrees` meets its contract.
use Rattle.coefficients.proofs.mirrors.Mirrors.{finite_within}
use Rattle.coefficients.proofs.mirrors.pair_agrees.Goals as goal

pub returns : goal.returns
returns c = rw c.abs.ensures (finite_within _ _)
