-- `cycle::down` meets its contract.
use Rattle.cycle.proofs.Steps.{visit_ok, down_done}
use Rattle.cycle.proofs.down.Goals as goal

pub inner_at-g-requires : goal.inner_at-g-requires
inner_at-g-requires c = c.requires.next

pub down-requires : goal.down-requires
down-requires c =
    let at-inner-at = c in
    let start = at-inner-at in
    visit_ok start.requires at-inner-at.inner_at-g.ensures

pub returns : goal.returns
returns c =
    let at-down = c in
    let at-pre-sweeps-at = at-down in
    let at-inner-at = at-pre-sweeps-at in
    let start = at-inner-at in
    down_done start.args.o start.args.w.now _ _ _ _ at-inner-at.inner_at-g.ensures at-pre-sweeps-at.pre_sweeps_at.ensures at-down.down.ensures
