-- `matrix_writer::questions::never_fall` meets its contract: the loop's invariant: no row passed ends before it starts.
use Rattle.store.proofs.store.Each.{passed_start, passed_yes}
use Rattle.matrix_writer.proofs.Asking.{fall_on, fall_no}
use Rattle.csr.specs.Questions.{never_fall}
use Rattle.csr.specs.Turns.{step_ok}
use Rattle.matrix_writer.proofs.questions.never_fall.Goals as goal

pub loop-row-init : goal.loop-row-init
loop-row-init c = passed_start _ _

pub loop-row-preserved : goal.loop-row-preserved
loop-row-preserved c = search (fall_on)

pub returns-then-first-last : goal.returns-then-first-last
returns-then-first-last c = search (fall_no)

pub returns : goal.returns
unfolding never_fall step_ok
returns c = search (passed_yes)
