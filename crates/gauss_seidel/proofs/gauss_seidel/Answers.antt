-- `gauss_seidel::gauss_seidel` meets its contract.
use Rattle.gauss_seidel.proofs.Sweeps.{sweep_copied, sweep_forward, swept_once, swept_back}
use Rattle.gauss_seidel.proofs.gauss_seidel.Goals as goal

pub forward-requires : goal.forward-requires
forward-requires c = search (sweep_copied)

pub backward-requires : goal.backward-requires
backward-requires c =
    sweep_forward c.requires c.copy.ensures c.forward.ensures

pub returns-then-symmetric : goal.returns-then-symmetric
returns-then-symmetric c = search (swept_back)

pub returns-else-symmetric : goal.returns-else-symmetric
returns-else-symmetric c = search (swept_once)
