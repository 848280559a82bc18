-- `coupled::is_coupled` meets its contract.
use Rattle.faces.proofs.faces.Coupling.{coupled_test}
use Rattle.faces.proofs.coupled.is_coupled.Goals as goal

pub returns : goal.returns
returns c = coupled_test c.requires.coupled_ok c.requires.row_lt_rows
    c.wide-start.ensures c.wide-end.ensures
