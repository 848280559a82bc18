-- `matrix_reader::head::head_of` meets its contract: the kind, then the sizes.
use Rattle.refusal.proofs.Outcome.{passed_up}
use Rattle.matrix_reader.proofs.Opening.{head_refused, head_read}
use Rattle.matrix_reader.proofs.head.head_of.Goals as goal

pub returns-in_err-symmetric : goal.returns-in_err-symmetric
returns-in_err-symmetric c = rw (passed_up _ c.from_residual.ensures.1) (head_refused c.args.text.now c.kind_of.ensures _ c.in_err-symmetric.was)

pub returns : goal.returns
returns c = head_read c.args.text.now c.kind_of.ensures _ c.in_ok-symmetric.was c.size_line.ensures
