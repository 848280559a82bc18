-- `decimal::reach` meets its contract: the bisection keeps `Between`, and the distance of its ends falls.
use native.Mathlib.Omega.{arith}
use borrow.Author.Rules.{rules}
use Rattle.decimal.proofs.Search.{between_start, between_up, between_down, between_done}
use Rattle.decimal.proofs.reach.Goals as goal

pub loop-low-init : goal.loop-low-init
loop-low-init c = between_start

pub loop-low-preserved-then-read-v : goal.loop-low-preserved-then-read-v
loop-low-preserved-then-read-v c =
    let b = c.loop-low.invariant in
    between_up b (omega arith) c.read.ensures c.if-read-v.true

pub loop-low-preserved : goal.loop-low-preserved
loop-low-preserved c =
    let b = c.loop-low.invariant in
    between_down b (omega arith) (omega arith) c.read.ensures c.if-read-v.false

pub returns : goal.returns
returns c = between_done c.loop-low.invariant (search rules)
