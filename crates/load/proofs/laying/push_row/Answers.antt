-- `load::laying::push_row` meets its contract.
use Rattle.load.proofs.laying.Pushes.{pushed_row}
use Rattle.load.proofs.laying.push_row.Goals as goal

pub returns : goal.returns
returns c = pushed_row c.push_behind-q.ensures c.push-r.ensures c.push_ahead.ensures c.own-diagonal.ensures
