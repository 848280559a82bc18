-- `load::laying::push_behind` meets its contract.
use Rattle.std.proofs.Common.{◌*◌}
use Rattle.load.proofs.laying.Pushes.{behind_column, pushed_three}
use Rattle.load.proofs.laying.push_behind.Goals as goal

pub returns : goal.returns
returns c =
    let a = c.args in
    let f = a.row.faces in
    pushed_three c.push-q.ensures c.push-r.ensures c.push.ensures (behind_column f.shallower a.row.number (a.row.extents.width * a.row.extents.height) c.behind-shallower.result c.behind-shallower.ensures) (behind_column f.up a.row.number a.row.extents.width c.behind-up.result c.behind-up.ensures) (behind_column f.left a.row.number 1 c.behind-left.result c.behind-left.ensures)
