-- `pattern::compose` meets its contract. The loop's invariant: what is left to do from here gives what the whole gives.
use Rattle.pattern.proofs.pattern.Composing.{compose_index, compose_on, compose_end}
use native.Mathlib.Omega.{arith}
use Rattle.pattern.proofs.pattern.compose.Goals as goal

pub index_at-a-requires : goal.index_at-a-requires
index_at-a-requires c =
    let h = compose_index c.requires c.loop-i.invariant
    c.loop-i-test.true in
    record { k_in_bounds = h.0; k_bound = h.1 }

pub loop-i-preserved : goal.loop-i-preserved
loop-i-preserved c = compose_on c.requires
    c.loop-i.invariant c.loop-i-test.true
    c.index_at-a.ensures.value

pub returns : goal.returns
returns c = compose_end c.requires c.loop-i.invariant (omega arith)
