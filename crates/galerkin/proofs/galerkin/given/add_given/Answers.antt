-- `galerkin::given::add_given` meets its contract. The loop's invariant: what is left to add gives the whole sums.
use borrow.Author.Rules.{rules}
use Rattle.galerkin.proofs.galerkin.Region.{going_start, going_end}
use Rattle.galerkin.proofs.galerkin.Turns.{given_near, given_on}
use Rattle.galerkin.proofs.galerkin.given.add_given.Goals as goal

pub loop-e-init : goal.loop-e-init
loop-e-init c = search (going_start, rules)

pub index_at-i-requires : goal.index_at-i-requires
index_at-i-requires c = search (given_near, rules)

pub loop-e-preserved : goal.loop-e-preserved
loop-e-preserved c = given_on _ c.requires c.loop-e.invariant c.loop-e-test.true c.index_at-i.ensures.value

pub returns : goal.returns
returns c = search (going_end, rules)
