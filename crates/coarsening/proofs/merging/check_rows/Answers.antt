-- `merging::check_rows` meets its contract. The loop's invariant: the questions left give the answer.
use borrow.Author.Rules.{rules}
use Rattle.std.proofs.Common.{◌≡◌, Ok}
use Rattle.refusal.proofs.Outcome.{passed_up}
use Rattle.coarsening.proofs.merging.Questions.{asking_start, entry_near, asking_on, asking_stop, asking_done}
use Rattle.coarsening.proofs.merging.check_rows.Goals as goal

pub loop-row-init : goal.loop-row-init
loop-row-init c = asking_start

pub index_at-entry-requires : goal.index_at-entry-requires
index_at-entry-requires c = search (entry_near, rules)

pub loop-row-preserved : goal.loop-row-preserved
loop-row-preserved c = let e : c.check_row.result ≡ Ok tt = c.in_ok-check_row.was in search (asking_on)

pub returns-in_err-check_row : goal.returns-in_err-check_row
returns-in_err-check_row c =
    let e = c.in_err-check_row.was in
    rw (passed_up _ c.from_residual.ensures.1) (search (asking_stop))

pub returns : goal.returns
returns c = search (asking_done)
