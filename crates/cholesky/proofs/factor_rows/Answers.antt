-- `cholesky::factor_rows` meets its contract. The loop's invariant: the rows that are left give what all of them give.
use Rattle.std.proofs.Common.{◌≡◌, Ok}
use Rattle.refusal.proofs.Outcome.{passed_up}
use Rattle.cholesky.proofs.packed.Triangles.{up_start, up_on, up_row}
use Rattle.cholesky.proofs.Rows.{factoring_start, factoring_ok, factoring_on, factoring_no, factoring_end}
use Rattle.cholesky.proofs.factor_rows.Goals as goal

pub loop-row-init : goal.loop-row-init
loop-row-init c = (up_start _, search (factoring_start))

pub one_row-requires : goal.one_row-requires
one_row-requires c = search (factoring_ok, up_row)

pub loop-row-preserved : goal.loop-row-preserved
loop-row-preserved c = let e : c.one_row.result ≡ Ok tt = c.in_ok-one_row.was in search (up_on, factoring_on)

pub returns-in_err-one_row : goal.returns-in_err-one_row
returns-in_err-one_row c =
    let e = c.in_err-one_row.was in
    rw (passed_up _ c.from_residual.ensures.1) (search (factoring_no))

pub returns : goal.returns
returns c = search (factoring_end)
