-- `matrix_writer::questions::columns_rise` meets its contract: the loop's invariant: the columns of each row passed fit.
use Rattle.store.proofs.store.Each.{passed_start, passed_yes}
use Rattle.matrix_writer.proofs.Asking.{range_on, range_no}
use Rattle.csr.specs.Questions.{columns_ok}
use Rattle.csr.specs.Turns.{row_at}
use Rattle.matrix_writer.proofs.questions.columns_rise.Goals as goal

pub loop-row-init : goal.loop-row-init
loop-row-init c = passed_start _ _

pub loop-row-preserved : goal.loop-row-preserved
loop-row-preserved c = range_on _ c.loop-row.invariant c.loop-row-test.true c.range_at-first.ensures c.row_rises.ensures c.if-not-row_rises.false

pub returns-then-not-row_rises : goal.returns-then-not-row_rises
returns-then-not-row_rises c = range_no _ _ c.loop-row-test.true c.range_at-first.ensures c.row_rises.ensures c.if-not-row_rises.true

pub returns : goal.returns
unfolding columns_ok row_at
returns c = search (passed_yes)
