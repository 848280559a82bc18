use Rattle.record_format.specs.Format.{matrix_ok}
use Rattle.record_format.proofs.matrix.matrix_ok.Goals as goal

pub returns : goal.returns
unfolding matrix_ok
returns c = cc
