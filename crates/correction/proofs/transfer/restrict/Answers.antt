-- `transfer::restrict` meets its contract: zeros, and then a gather.
use Rattle.correction.proofs.transfer.Transfer.{restrict_done}
use Rattle.correction.proofs.transfer.restrict.Goals as goal

pub returns : goal.returns
returns c =
    let at-gather = c in
    let at_fill_lem = at-gather in
    let start = at_fill_lem in
    restrict_done start.requires at_fill_lem.fill.ensures at-gather.gather.ensures
