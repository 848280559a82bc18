-- `gathering::gather` meets its contract: with no mark and no column the walk starts.
use Rattle.pattern.proofs.pattern.Gathering.{gathered_on, rows_start}
use Rattle.pattern.proofs.gathering.gather.Goals as goal

pub gather_rows-requires : goal.gather_rows-requires
gather_rows-requires c = (rows_start c.requires
    c.fill.ensures).state

pub returns : goal.returns
returns c = gathered_on (rows_start
    c.requires
    c.fill.ensures) c.gather_rows.ensures
