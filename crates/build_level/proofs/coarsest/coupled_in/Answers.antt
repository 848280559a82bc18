-- `coarsest::coupled_in` meets its contract.
use Rattle.build_level.proofs.coarsest.Words.{count_ready, count_is}
use Rattle.build_level.proofs.coarsest.coupled_in.Goals as goal

pub coupled_count-requires : goal.coupled_count-requires
coupled_count-requires c = count_ready c.requires c.faces_in-level.ensures

pub returns : goal.returns
returns c = count_is c.coupled_count.ensures c.faces_in-level.ensures
