-- `sweep::scale` meets its contract.
use Rattle.gauss_seidel.proofs.Turns.{scaled}
use Rattle.dic.proofs.sweep.scale.Goals as goal

pub returns : goal.returns
returns c = scaled _ _ _ _ _ c.requires.start_value
