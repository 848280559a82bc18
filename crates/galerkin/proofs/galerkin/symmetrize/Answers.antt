-- `galerkin::symmetrize` meets its contract. The loop's invariant: what is left of the faces gives the whole.
use borrow.Author.Rules.{rules}
use Rattle.galerkin.specs.Values.{symmetrize_of}
use Rattle.galerkin.proofs.galerkin.Region.{going_start, going_end}
use Rattle.galerkin.proofs.galerkin.Turns.{upper_near, lower_near, face_on}
use Rattle.galerkin.proofs.galerkin.symmetrize.Goals as goal

pub loop-k-init : goal.loop-k-init
unfolding symmetrize_of
loop-k-init c = search (going_start, rules)

pub index_at-i-requires : goal.index_at-i-requires
index_at-i-requires c = search (upper_near, rules)

pub index_at-j-requires : goal.index_at-j-requires
index_at-j-requires c = search (lower_near, rules)

pub loop-k-preserved : goal.loop-k-preserved
loop-k-preserved c = face_on c.requires c.loop-k.invariant c.loop-k-test.true c.index_at-i.ensures.value c.index_at-j.ensures.value

pub returns : goal.returns
returns c = search (going_end, rules)
