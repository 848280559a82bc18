-- `growing::grow` meets its contract. The loop's invariant: the levels from the frontier on make those from the first one on. The measure
-- is the number of levels that may follow.
use Rattle.refusal.proofs.Outcome.{passed_up}
use Rattle.build_levels.proofs.growing.Growing.{left_start, next_fewer, left_ended, left_refused, left_next, then_is}
use Rattle.build_levels.proofs.growing.grow.Goals as goal

pub loop-g-init : goal.loop-g-init
loop-g-init c = left_start c.requires

pub returns-in_err-g : goal.returns-in_err-g
returns-in_err-g c =
    rw (passed_up _ c.from_residual.ensures.1) (left_refused c.loop-g.invariant c.advance.ensures c.in_err-g.was)

pub returns-in-Break : goal.returns-in-Break
returns-in-Break c = left_ended c.loop-g.invariant c.advance.ensures (then_is c.in_ok-g.was c.in-Break.is)

pub loop-g-smaller : goal.loop-g-smaller
loop-g-smaller c = next_fewer c.advance.ensures (then_is c.in_ok-g.was c.in-Continue.is)

pub loop-g-preserved : goal.loop-g-preserved
loop-g-preserved c = left_next c.loop-g.invariant c.advance.ensures (then_is c.in_ok-g.was c.in-Continue.is)
