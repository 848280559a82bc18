-- `load::drawing::draw_all` meets its contract.
use Rattle.load.proofs.drawing.Drawing.{drew_all}
use Rattle.load.proofs.drawing.draw_all.Goals as goal

pub returns : goal.returns
returns c = drew_all c.draw-right.ensures c.draw-down.ensures c.draw-deeper.ensures
