-- `solve::begin` meets its contract: copies in, the solve on them, and a copy out where it is accepted.
use mathlib.Core.Path.{refl}
use native.Mathlib.Omega.{arith}
use Rattle.solve.proofs.Solving.{opened_ok, attempt_ok, enter_ok, leave_ok, begin_yes, begin_no}
use Rattle.solve.proofs.begin.Goals as goal

pub regions-g-requires : goal.regions-g-requires
regions-g-requires c = opened_ok c.requires (omega arith)

pub enter-requires : goal.enter-requires
enter-requires c = enter_ok c.requires c.regions-g.ensures refl

pub attempt-requires : goal.attempt-requires
attempt-requires c = attempt_ok c.requires c.regions-g.ensures c.enter.ensures.floats.size refl

pub copy_out-requires : goal.copy_out-requires
copy_out-requires c = omega (arith, leave_ok _ _ _ _ c.requires c.regions-g.ensures c.enter.ensures c.attempt.ensures)

pub returns-in-Ok : goal.returns-in-Ok
returns-in-Ok c = begin_yes _ _ _ _ c.requires c.regions-g.ensures c.enter.ensures c.attempt.ensures c.in-Ok.is c.copy_out.ensures

pub returns-in-Err : goal.returns-in-Err
returns-in-Err c =
    let at-q = c in
    let at-attempt = at-q in
    let at-enter = at-attempt in
    let at-regions = at-enter in
    let start = at-regions in
    begin_no _ _ _ _ start.requires at-regions.regions-g.ensures at-enter.enter.ensures at-attempt.attempt.ensures at-q.in-Err.is c.refused.ensures
