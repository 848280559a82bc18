-- `weights::weights_fit` meets its contract: the test of its chain is that of each weight.
use mathlib.Core.Path.{◌≡◌, refl}
use mathlib.Core.Bool.{true, false}
use borrow.Author.Tests.{tests}
use Rattle.std.proofs.Common.{rules}
use Rattle.std.proofs.lemmas.Iterator.{cases_from_all, YieldsList-from_slice}
use Rattle.options.specs.Options.{tolerable}
use Rattle.csr.specs.Weights.{weights_ok}
use Rattle.csr.proofs.csr.Chains.{each_item}
use Rattle.csr.proofs.weights.weights_fit.Goals as goal

pub returns : goal.returns
unfolding weights_ok
returns c =
    let xs = c.args.weights.now in
    let by_call = cases_from_all _ _ _ (λ x. tolerable x ≡ true) (λ x. tolerable x ≡ false) c.all.ensures.ran (YieldsList-from_slice xs cc)
    (λ x q k. search (rules, tests)) (λ x q k. search (rules, tests)) in
    each_item tolerable _ _ xs _ (λ k. refl) by_call
