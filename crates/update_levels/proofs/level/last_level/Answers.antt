-- `level::last_level` meets its contract: one law for each way out.
use Rattle.refusal.proofs.Outcome.{passed_up}
use mathlib.Core.Path.{refl, sym, ◌∙◌}
use Rattle.store.specs.Region.{part}
use Rattle.update_levels.proofs.level.Levels.{none_given, ready_last, coefficients_ready, factor_room, level_size}
use Rattle.update_levels.proofs.level.Numbers.{level_no, level_last}
use Rattle.update_levels.proofs.level.last_level.Goals as goal

pub coefficients-requires : goal.coefficients-requires
coefficients-requires c = record { coefficients_ok = coefficients_ready c.requires; many = none_given _; faces_ready = none_given _ }

pub returns-in_err-coefficients : goal.returns-in_err-coefficients
returns-in_err-coefficients c o =
    let start = c in
    rw (passed_up _ c.from_residual.ensures.1 ∙ sym c.in_err-coefficients.was)
    (level_no start.args.f.now (ready_last start.requires) o start.args.level (part start.args.p.values start.args.p.entries start.args.f.now) c.coefficients.ensures (rw c.in_err-coefficients.was refl))

pub factor-requires : goal.factor-requires
factor-requires c = factor_room (level_size c.requires c.coefficients.auto.f)

pub returns : goal.returns
returns c o =
    let start = c in
    level_last start.args.f.now (ready_last start.requires) o start.args.level (part start.args.p.values start.args.p.entries start.args.f.now) c.coefficients.ensures (rw c.in_ok-coefficients.was refl) refl refl
    c.factor.ensures
