-- `finest::sums` meets its contract: the row sums are those of the first level's kernel.
use Rattle.build.proofs.finest.First.{first_kernel, summed}
use Rattle.build.proofs.finest.sums.Goals as goal

pub row_sums-requires : goal.row_sums-requires
row_sums-requires c =
    let pair = first_kernel c.requires c.first_kernel-kernel.ensures in
    record { kernel_ok = pair.0; rows_in_bounds = pair.1 }

pub returns : goal.returns
returns c = summed c.requires c.first_kernel-kernel.ensures c.row_sums.ensures
