-- `load::drawing::draw` meets its contract.
use Rattle.load.proofs.drawing.Drawing.{drew}
use Rattle.load.proofs.drawing.draw.Goals as goal

pub returns-then-face : goal.returns-then-face
returns-then-face c = search (drew)
