-- `vector::dot` meets its contract.
use Rattle.vector.proofs.vector.Laws.{dot_done}
use Rattle.vector.proofs.vector.dot.Goals as goal

pub returns : goal.returns
returns c = dot_done _ _ _ _ c.requires.n_in_bounds c.dot_sum.ensures c.finite.ensures
