-- `root::root` meets its contract: the loop keeps `Digits`, and the turns left fall.
use Prim.Native.Nat.{◌<◌}
use native.Mathlib.Omega.{arith}
use Rattle.float.proofs.root.Digit.{start, bounded, one, none, floor, same}
use Rattle.float.proofs.root.root.Goals as goal
use Rattle.float.proofs.root.root.Goals.{then-step-rest, else-step-rest}

pub loop-i-init : goal.loop-i-init
loop-i-init c = start c.args.m c.requires

pub overflow_mul-rest : goal.overflow_mul-rest
overflow_mul-rest c = omega (arith, bounded c.loop-i.invariant)

pub overflow_add-rest : goal.overflow_add-rest
overflow_add-rest c = omega (arith, bounded c.loop-i.invariant)

pub overflow_mul-step : goal.overflow_mul-step
overflow_mul-step c = omega (arith, bounded c.loop-i.invariant)

pub overflow_add-step : goal.overflow_add-step
overflow_add-step c = omega (arith, bounded c.loop-i.invariant)

pub overflow_mul-root : goal.overflow_mul-root
overflow_mul-root c = omega (arith, bounded c.loop-i.invariant)

pub overflow_add-root : goal.overflow_add-root
overflow_add-root c = omega (arith, bounded c.loop-i.invariant)

pub loop-i-preserved : goal.loop-i-preserved
loop-i-preserved c =
    let at = c.loop-i.invariant in
    let on : c.loop-i.i < 54 = omega arith in
    elim c.if-step-rest.branch [
      | then-step-rest w ↦ same w.root-is w.rest-is (one at on w.if-step-rest.true)
      | else-step-rest w ↦ same w.root-is w.rest-is (none at on w.if-step-rest.false)
    ]

pub returns : goal.returns
returns c = floor c.loop-i.invariant (omega arith)
