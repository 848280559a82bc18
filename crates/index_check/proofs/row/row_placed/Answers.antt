-- `row::row_placed` meets its contract.
use Rattle.index_check.proofs.row.Laws.{placed_told}
use Rattle.index_check.proofs.row.row_placed.Goals as goal

pub returns : goal.returns
returns c = placed_told _ _ c.requires
    c.word_at.ensures
