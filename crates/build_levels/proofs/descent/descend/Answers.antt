-- `descent::descend` meets its contract.
use Rattle.refusal.proofs.Outcome.{passed_up}
use Rattle.build_levels.proofs.descent.Ways.{finite_is, no_finite}
use Rattle.build_levels.proofs.descent.Levels as laws
use Rattle.build_levels.proofs.descent.Arriving as ways
use Rattle.build_levels.proofs.descent.descend.Goals as goal

pub fill-requires : goal.fill-requires
fill-requires c = laws.header_fits c.requires

pub smoother_data-requires : goal.smoother_data-requires
smoother_data-requires c = laws.smoother_requires (ways.opened c.requires c.fill.ensures)

pub first_steps-requires : goal.first_steps-requires
first_steps-requires c = ways.settled_on c.requires c.fill.ensures c.needs_dic.ensures c.smoother_data.ensures

pub repair-next-requires : goal.repair-next-requires
repair-next-requires c =
    ways.repair_requires c.requires c.fill.ensures c.needs_dic.ensures c.smoother_data.ensures
    c.in_ok-smoother_data.was c.first_steps.ensures c.in_ok-merged.was c.level_in-m.ensures

pub returns : goal.returns
returns c =
    ways.descend_done c.requires c.fill.ensures c.needs_dic.ensures c.smoother_data.ensures
    c.in_ok-smoother_data.was c.first_steps.ensures c.in_ok-merged.was
    c.level_in-m.ensures c.repair-next.ensures (finite_is _ c.if-not-next.false)

pub returns-in_err-smoother_data : goal.returns-in_err-smoother_data
returns-in_err-smoother_data c =
    rw (passed_up _ c.from_residual.ensures.1)
    (ways.descend_numbers c.requires c.fill.ensures c.needs_dic.ensures c.smoother_data.ensures
    c.args.x.given c.in_err-smoother_data.was)

pub returns-in_err-merged : goal.returns-in_err-merged
returns-in_err-merged c =
    rw (passed_up _ c.from_residual-in_err-merged.ensures.1)
    (ways.descend_steps c.requires c.fill.ensures c.needs_dic.ensures c.smoother_data.ensures
    c.in_ok-smoother_data.was c.first_steps.ensures c.in_err-merged.was)

pub returns-then-not-next : goal.returns-then-not-next
returns-then-not-next c =
    ways.descend_bad c.requires c.fill.ensures c.needs_dic.ensures c.smoother_data.ensures
    c.in_ok-smoother_data.was c.first_steps.ensures c.in_ok-merged.was
    c.level_in-m.ensures c.repair-next.ensures (no_finite _ c.if-not-next.true)
