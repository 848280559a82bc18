-- `csr::columns_rise` meets its contract. The loop's invariant: the columns of each row passed fit.
use Rattle.store.proofs.store.Each.{passed_start, passed_yes}
use Rattle.csr.specs.Questions.{columns_ok}
use Rattle.csr.specs.Turns.{row_at}
use Rattle.csr.proofs.csr.Walk.{row_ok_lem, row_on, row_no}
use Rattle.csr.proofs.csr.columns_rise.Goals as goal

pub loop-row-init : goal.loop-row-init
loop-row-init c = passed_start _ _

pub row_rises-requires : goal.row_rises-requires
row_rises-requires c =
    let pair = row_ok_lem c.requires
    c.loop-row-test.true c.wide-first.ensures c.wide-last.ensures in
    record { first_le_last = pair.0; last_in_bounds = pair.1 }

pub loop-row-preserved : goal.loop-row-preserved
loop-row-preserved c =
    row_on _ _ c.loop-row.invariant
    c.loop-row-test.true
    c.wide-first.ensures c.wide-last.ensures
    c.row_rises.ensures c.if-not-row_rises.false

pub returns-then-not-row_rises : goal.returns-then-not-row_rises
returns-then-not-row_rises c =
    row_no _ _ _ _ _ _ _
    c.loop-row-test.true
    c.wide-first.ensures c.wide-last.ensures
    c.row_rises.ensures c.if-not-row_rises.true

pub returns : goal.returns
unfolding columns_ok row_at
returns c = search (passed_yes)
