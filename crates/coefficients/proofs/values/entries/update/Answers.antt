-- `values::entries::update` meets its contract.
use Rattle.std.proofs.Common.{◌≡◌, Ok}
use Rattle.refusal.proofs.Outcome.{passed_up}
use Rattle.coefficients.proofs.values.UpdateLaws.{rows_entries, faces_entries, update_no, update_yes}
use borrow.Author.Rules.{rules}
use Rattle.coefficients.proofs.values.entries.update.Goals as goal

pub pick-requires : goal.pick-requires
pick-requires c = search (rows_entries, rules)

pub pick-requires-2 : goal.pick-requires-2
pick-requires-2 c =
    faces_entries c.requires c.wide-faces.ensures
    c.pick.ensures c.settle.ensures

pub returns : goal.returns
returns c = let e : c.settle.result ≡ Ok tt = c.in_ok-settle.was in search (update_yes)

pub returns-in_err-settle : goal.returns-in_err-settle
returns-in_err-settle c =
    let e = c.in_err-settle.was in
    rw (passed_up _ c.from_residual.ensures.1) (search (update_no))
