-- `terminal::factor` meets its contract.
use Rattle.layout.proofs.terminal.Floats.{factor_ready, factor_done}
use Rattle.layout.proofs.terminal.factor.Goals as goal

pub cholesky-requires : goal.cholesky-requires
cholesky-requires c =
    factor_ready c.requires
    c.fill.ensures c.terminal_in-terminal.ensures

pub returns : goal.returns
returns c =
    factor_done c.requires
    c.fill.ensures
    c.terminal_in-terminal.ensures
    c.cholesky.ensures
