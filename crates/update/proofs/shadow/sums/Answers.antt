-- `shadow::sums` meets its contract: the row sums are those of the finest level's kernel.
use Rattle.update.proofs.shadow.Summing.{sums_part, sum_ready, summed}
use Rattle.update.proofs.shadow.sums.Goals as goal

pub place_at-p-requires : goal.place_at-p-requires
place_at-p-requires c = c.requires.place

pub overflow_sub-start : goal.overflow_sub-start
overflow_sub-start c = sums_part c.requires c.place_at-p.ensures

pub row_sums-requires : goal.row_sums-requires
row_sums-requires c =
    let pair = sum_ready c.requires c.place_at-p.ensures c.kernel_in.ensures in
    record { kernel_ok = pair.0; rows_in_bounds = pair.1 }

pub returns : goal.returns
returns c =
    summed c.requires c.place_at-p.ensures
    c.kernel_in.ensures c.row_sums.ensures
