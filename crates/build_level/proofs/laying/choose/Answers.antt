-- `laying::choose` meets its contract.
use Rattle.build_level.proofs.laying.Choosing.{coupled_ok, graph_ok, chosen_last, chosen_pairs}
use Rattle.build_level.proofs.laying.choose.Goals as goal

pub coupled_count-coupled-requires : goal.coupled_count-coupled-requires
coupled_count-coupled-requires c = coupled_ok c.requires c.faces_in-level.ensures

pub returns-then-ends_at : goal.returns-then-ends_at
returns-then-ends_at c =
    chosen_last c.requires c.faces_in-level.ensures
    c.coupled_count-coupled.ensures c.ends_at.ensures c.if-ends_at.true

pub pairs-requires : goal.pairs-requires
pairs-requires c =
    graph_ok c.requires
    c.args.x.given c.graph_in-g.ensures

pub returns : goal.returns
returns c =
    chosen_pairs c.requires
    c.faces_in-level.ensures
    c.coupled_count-coupled.ensures
    c.ends_at.ensures
    c.if-ends_at.false c.graph_in-g.ensures
    c.pairs.ensures
