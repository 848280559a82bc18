-- `matrix_reader::head::size_line` meets its contract: by whether there is a line, and what it says.
use Rattle.refusal.proofs.Outcome.{passed_up}
use Rattle.matrix_reader.proofs.Opening.{size_refused, size_read}
use Rattle.matrix_reader.proofs.head.size_line.Goals as goal

pub returns-in_err-rows : goal.returns-in_err-rows
returns-in_err-rows c = rw (passed_up _ c.from_residual.ensures.1) (size_refused c.args.text.now c.args.symmetric c.in-Some.ensures c.sizes_of.ensures _ c.in_err-rows.was)

pub returns : goal.returns
returns c = size_read c.args.text.now c.args.symmetric c.in-Some.ensures c.sizes_of.ensures _ c.in_ok-rows.was
