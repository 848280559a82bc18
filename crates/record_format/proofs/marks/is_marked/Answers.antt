use Rattle.record_format.specs.Format.{marked}
use Rattle.record_format.proofs.marks.is_marked.Goals as goal

pub returns : goal.returns
unfolding marked
returns c = cc
