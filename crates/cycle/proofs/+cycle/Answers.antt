-- `cycle::cycle` meets its contract. The measure is the number of levels left.
use Rattle.refusal.proofs.Outcome.{passed_up}
use mathlib.Core.Path.{◌∙◌}
use native.Mathlib.Omega.{arith}
use Rattle.cycle.proofs.Ways.{place_ok, deep_enough, end_ok, step_ok_lem, after_within, scratch_within, deep_on, step_on}
use Rattle.cycle.proofs.Ways.{done_last, done_down, done_deep, done_up}
use Rattle.cycle.proofs.+cycle.Goals as goal

pub count-requires : goal.count-requires
count-requires t c =
    let start = c in
    omega (arith, deep_enough start.requires)

pub work-requires : goal.work-requires
work-requires t c =
    let at-if1 = c in
    let start = at-if1 in
    end_ok start.requires at-if1.if-left-eq1.true (omega (arith, start.ranges))

pub returns-then-left-eq1 : goal.returns-then-left-eq1
returns-then-left-eq1 t c =
    let at-work = c in
    let at-if1 = at-work in
    let at_count = at-if1 in
    let start = at_count in
    done_last _ _ _ _ _ _ _ _ _ start.requires at_count.count.ensures at-if1.if-left-eq1.true at-work.work.ensures

pub work-requires-2 : goal.work-requires-2
work-requires-2 t c =
    let at-if1 = c in
    let start = at-if1 in
    step_ok_lem start.requires at-if1.if-left-eq1.false (omega (arith, start.ranges))

pub place_at-p-requires : goal.place_at-p-requires
place_at-p-requires t c =
    let start = c in
    place_ok start.requires (omega (arith, start.ranges))

pub overflow_add-deeper : goal.overflow_add-deeper
overflow_add-deeper t c =
    let at-place-at = c in
    let at-if1 = at-place-at in
    let start = at-if1 in
    omega (arith, start.well_formed, after_within start.requires at-if1.if-left-eq1.false at-place-at.place_at-p.ensures)

pub overflow_sub-left : goal.overflow_sub-left
overflow_sub-left t c =
    let start = c in
    omega (arith, start.requires.some)

pub overflow_add-depth : goal.overflow_add-depth
overflow_add-depth t c =
    let start = c in
    omega (arith, deep_enough start.requires)

pub overflow_mul-scratch : goal.overflow_mul-scratch
overflow_mul-scratch t c =
    let at-place-at = c in
    let at-if1 = at-place-at in
    let start = at-if1 in
    omega (arith, start.well_formed, scratch_within start.requires at-if1.if-left-eq1.false at-place-at.place_at-p.ensures)

pub overflow_add-scratch : goal.overflow_add-scratch
overflow_add-scratch t c =
    let at-place-at = c in
    let at-if1 = at-place-at in
    let start = at-if1 in
    omega (arith, start.well_formed, scratch_within start.requires at-if1.if-left-eq1.false at-place-at.place_at-p.ensures)

pub cycle-requires : goal.cycle-requires
cycle-requires t c =
    let at-place-at = c in
    let at-work2 = at-place-at in
    let at-if1 = at-work2 in
    let start = at-if1 in
    (omega (arith, start.requires.some), deep_on start.requires at-if1.if-left-eq1.false at-place-at.place_at-p.ensures at-work2.work-2.ensures.down.visit.moved.floats.size)

pub work-requires-3 : goal.work-requires-3
work-requires-3 t c =
    let at-cycle = c in
    let at-work2 = at-cycle in
    let at-if1 = at-work2 in
    let start = at-if1 in
    step_on start.requires at-if1.if-left-eq1.false (omega (arith, start.ranges)) (at-cycle.cycle.ensures.floats.size ∙ at-work2.work-2.ensures.down.visit.moved.floats.size)

pub returns-in_err-work : goal.returns-in_err-work
returns-in_err-work t c =
    rw (passed_up _ c.from_residual.ensures.1)
    (done_down _ _ _ _ _ _ _ _ _ c.requires c.count.ensures c.if-left-eq1.false c.work-2.ensures c.in_err-work.was)

pub returns-in_err-cycle : goal.returns-in_err-cycle
returns-in_err-cycle t c =
    rw (passed_up _ c.from_residual-in_err-cycle.ensures.1)
    (done_deep _ _ _ _ _ _ _ _ _ c.requires c.count.ensures c.if-left-eq1.false c.work-2.ensures c.in_ok-work.was c.place_at-p.ensures c.cycle.ensures c.in_err-cycle.was)

pub returns : goal.returns
returns t c =
    done_up _ _ _ _ _ _ _ _ _ c.requires c.count.ensures c.if-left-eq1.false c.work-2.ensures c.in_ok-work.was c.place_at-p.ensures c.cycle.ensures c.in_ok-cycle.was c.work-3.ensures
