-- `matrix_writer::questions::row_rises` meets its contract: the test of its chain is that of each entry of the row.
use mathlib.Core.Path.{◌≡◌, refl}
use mathlib.Core.Bool.{true, false}
use borrow.Author.Tests.{tests}
use Rattle.std.proofs.Common.{rules}
use Rattle.std.proofs.lemmas.Iterator.{cases_from_all, YieldsList-from_range}
use Rattle.csr.specs.Questions.{row_ok, entry_ok}
use Rattle.csr.proofs.csr.Chains.{each_from}
use Rattle.matrix_writer.specs.Sized.{matrix_in}
use Rattle.matrix_writer.proofs.questions.row_rises.Goals as goal

pub returns : goal.returns
unfolding row_ok
returns c =
    let test = entry_ok c.args.arrays.now.rows (matrix_in c.args.arrays.now).columns c.args.last in
    let by_call = cases_from_all _ _ _ (λ x. test x ≡ true) (λ x. test x ≡ false) c.all.ensures.ran (YieldsList-from_range _ _ _ refl refl)
    (λ x q k. search (rules, tests)) (λ x q k. search (rules, tests)) in
    each_from test _ _ _ _ (λ k. refl) by_call
