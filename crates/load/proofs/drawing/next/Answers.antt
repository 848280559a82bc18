-- `load::drawing::next` meets its contract.
use Rattle.std.proofs.Common.{refl}
use Rattle.load.specs.Draw.{next_of}
use Rattle.load.proofs.drawing.next.Goals as goal

pub returns : goal.returns
unfolding next_of
returns c = refl
