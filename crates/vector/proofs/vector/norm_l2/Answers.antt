-- `vector::norm_l2` meets its contract.
use Rattle.std.proofs.Common.{◌≡◌, Some}
use Rattle.vector.proofs.vector.Laws.{norm_yes, norm_no}
use Rattle.vector.proofs.vector.norm_l2.Goals as goal

pub returns : goal.returns
returns c = let e : c.dot.result ≡ Some c.in_ok-squared.squared = c.in_ok-squared.was in search (norm_yes)

pub returns-in_err-squared : goal.returns-in_err-squared
returns-in_err-squared c = rw c.from_residual.ensures (norm_no _ _ c.dot.ensures c.in_err-squared.was)
