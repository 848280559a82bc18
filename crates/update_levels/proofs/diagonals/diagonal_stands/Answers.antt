-- `diagonals::diagonal_stands` meets its contract.
use Rattle.update_levels.proofs.diagonals.Standing.{stands_is}
use Rattle.update_levels.proofs.diagonals.diagonal_stands.Goals as goal

pub returns : goal.returns
returns c =
    stands_is c.requires c.index_at-entry.ensures.value c.word_at-first.ensures c.word_at-end.ensures c.word_at-column.ensures
