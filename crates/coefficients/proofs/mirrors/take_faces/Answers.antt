-- `mirrors::take_faces` meets its contract. The loop's invariant: what is left to copy gives what the whole gives, and the answer so far is that of the pairs passed.
use mathlib.Core.Path.{refl}
use lib.ListN.{length-set}
use Rattle.coefficients.proofs.mirrors.Mirrors.{up_of_lem, low_of, taking_start, taking_on, taking_done}
use borrow.Author.Rules.{rules}
use Rattle.coefficients.proofs.mirrors.take_faces.Goals as goal

pub loop-face-init : goal.loop-face-init
loop-face-init c = (refl, taking_start _ _ _ _ _ _ _)

pub index_at-a-requires : goal.index_at-a-requires
index_at-a-requires c = search (up_of_lem, rules)

pub index_at-b-requires : goal.index_at-b-requires
index_at-b-requires c = search (low_of, rules)

pub loop-face-preserved : goal.loop-face-preserved
loop-face-preserved c = (
  simp length-set c.loop-face.invariant.0,
  taking_on c.loop-face.invariant.1 c.loop-face-test.true c.index_at-a.ensures.value c.index_at-b.ensures.value c.pair_agrees-ok.ensures,
)

pub returns : goal.returns
returns c = search (taking_done)
