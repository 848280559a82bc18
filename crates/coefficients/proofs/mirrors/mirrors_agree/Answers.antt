-- `mirrors::mirrors_agree` meets its contract. The loop's invariant: the answer so far is that of the pairs passed.
use Rattle.coefficients.proofs.mirrors.Mirrors.{up_of_lem, low_of, agreed_start, agreed_on, agreed_done}
use borrow.Author.Rules.{rules}
use Rattle.coefficients.proofs.mirrors.mirrors_agree.Goals as goal

pub loop-face-init : goal.loop-face-init
loop-face-init c = agreed_start _ _ _ _ _

pub index_at-a-requires : goal.index_at-a-requires
index_at-a-requires c = search (up_of_lem, rules)

pub index_at-b-requires : goal.index_at-b-requires
index_at-b-requires c = search (low_of, rules)

pub loop-face-preserved : goal.loop-face-preserved
loop-face-preserved c =
    agreed_on c.loop-face.invariant c.loop-face-test.true c.index_at-a.ensures.value c.index_at-b.ensures.value c.pair_agrees-ok.ensures

pub returns : goal.returns
returns c = search (agreed_done)
