-- `coarsest::list_coupled` meets its contract.
use Rattle.build_level.proofs.coarsest.Words.{list_ready, list_done}
use Rattle.build_level.proofs.coarsest.list_coupled.Goals as goal

pub coupled_rows-requires : goal.coupled_rows-requires
coupled_rows-requires c =
    list_ready c.requires c.mark.ensures
    c.faces_in-level.ensures

pub returns : goal.returns
returns c =
    list_done c.requires
    c.mark.ensures
    c.faces_in-level.ensures
    c.coupled_rows.ensures
