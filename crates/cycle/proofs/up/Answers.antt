-- `cycle::up` meets its contract: one law for each way out.
use Rattle.refusal.proofs.Outcome.{passed_up}
use native.Mathlib.Omega.{arith}
use Rattle.cycle.proofs.Steps.{visit_ok, up_no, up_yes}
use Rattle.cycle.proofs.up.Goals as goal

pub inner_at-g-requires : goal.inner_at-g-requires
inner_at-g-requires c = c.requires.next

pub up-requires : goal.up-requires
up-requires c =
    let at-inner-at = c in
    let start = at-inner-at in
    visit_ok start.requires at-inner-at.inner_at-g.ensures

pub count-requires : goal.count-requires
count-requires c = omega (arith, c.requires.deep)

pub count-requires-2 : goal.count-requires-2
count-requires-2 c = omega (arith, c.requires.deep)

pub returns-in_err-up : goal.returns-in_err-up
returns-in_err-up c =
    rw (passed_up _ c.from_residual.ensures.1)
    (up_no c.args.o c.args.w.now c.args.t.now _ _ _ _ c.inner_at-g.ensures c.pre_sweeps_at-pre.ensures c.post_sweeps_at-post.ensures c.up.ensures _ c.in_err-up.was)

pub returns : goal.returns
returns c =
    up_yes c.args.o c.args.w.now c.args.t.now _ _ _ _ c.inner_at-g.ensures c.pre_sweeps_at-pre.ensures c.post_sweeps_at-post.ensures c.up.ensures c.in_ok-up.was c.count.ensures c.count-2.ensures
