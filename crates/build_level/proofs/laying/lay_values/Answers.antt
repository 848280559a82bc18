-- `laying::lay_values` meets its contract.
use Rattle.build_level.proofs.laying.Values.{update_ok, values_laid}
use Rattle.build_level.proofs.laying.lay_values.Goals as goal

pub update-requires : goal.update-requires
update-requires c =
    update_ok c.requires
    c.kernel_in-kernel.ensures c.entries_in-image.ensures
    c.copy.ensures

pub returns : goal.returns
returns c =
    values_laid c.requires
    c.kernel_in-kernel.ensures
    c.entries_in-image.ensures
    c.copy.ensures c.update.ensures
