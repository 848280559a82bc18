-- `visit::correct_scaled` meets its contract: questions 26 and 27 refuse, or the correction is scaled and added.
use Rattle.refusal.proofs.Outcome.{passed_up}
use Rattle.cycle.proofs.visit.Laws.{image_ok, products_ok, scaled_ok, scaled_no, scaled_yes}
use Rattle.cycle.proofs.visit.correct_scaled.Goals as goal

pub apply-requires : goal.apply-requires
apply-requires c =
    let pair = image_ok c.requires in
    record { kernel_ok = pair.0; rows_bound = pair.1.0; rows_in_bounds = pair.1.1 }

pub correction_factor-requires : goal.correction_factor-requires
correction_factor-requires c = products_ok c.args.sweeps c.requires c.residual_at-from.ensures c.apply.ensures

pub add_scaled-requires : goal.add_scaled-requires
add_scaled-requires c = scaled_ok c.args.sweeps c.requires c.residual_at-from.ensures c.apply.ensures

pub returns-in_err-factor : goal.returns-in_err-factor
returns-in_err-factor c =
    rw (passed_up _ c.from_residual.ensures.1)
    (scaled_no c.args.sweeps c.requires c.residual_at-from.ensures c.apply.ensures c.correction_factor.ensures c.in_err-factor.was)

pub returns : goal.returns
returns c = scaled_yes c.args.sweeps c.requires c.residual_at-from.ensures c.apply.ensures c.correction_factor.ensures c.in_ok-factor.was c.add_scaled.ensures
