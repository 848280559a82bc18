-- `vector::finite` meets its contract.
use Rattle.vector.proofs.vector.Laws.{product_yes, product_no}
use Rattle.vector.proofs.vector.finite.Goals as goal

pub returns-then-is_finite : goal.returns-then-is_finite
returns-then-is_finite c = search (product_yes)

pub returns-else-is_finite : goal.returns-else-is_finite
returns-else-is_finite c = search (product_no)
