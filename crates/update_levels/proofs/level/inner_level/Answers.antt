-- `level::inner_level` meets its contract: one law for each way out.
use Rattle.refusal.proofs.Outcome.{passed_up}
use mathlib.Core.Path.{refl, sym, ◌∙◌}
use Rattle.std.specs.Prelude.{option_copied, unwrap_or}
use Rattle.store.specs.Region.{part}
use Rattle.update_levels.proofs.level.Levels.{coefficients_ready, smoother_ready, level_size}
use Rattle.update_levels.proofs.level.Numbers.{level_no, level_inner}
use Rattle.update_levels.proofs.level.inner_level.Goals as goal

pub coefficients-requires : goal.coefficients-requires
coefficients-requires c = record { coefficients_ok = coefficients_ready c.requires.level_ok; many = c.requires.many; faces_ready = c.requires.faces_ready }

pub returns-in_err-coefficients : goal.returns-in_err-coefficients
returns-in_err-coefficients c o by =
    let start = c in
    rw (passed_up _ c.from_residual.ensures.1 ∙ sym c.in_err-coefficients.was)
    (level_no start.args.f.now (record { level = start.requires.level_ok; none = λ _. refl }) o start.args.level
    (unwrap_or (option_copied start.args.given) (part start.args.p.values start.args.p.entries start.args.f.now))
    c.coefficients.ensures (rw c.in_err-coefficients.was refl))

pub smoother_data-requires : goal.smoother_data-requires
smoother_data-requires c = smoother_ready (level_size c.requires.level_ok c.coefficients.auto.f)

pub returns : goal.returns
returns c o by =
    let start = c in
    level_inner start.args.f.now (record { level = start.requires.level_ok; none = λ _. refl }) o start.args.level
    (unwrap_or (option_copied start.args.given) (part start.args.p.values start.args.p.entries start.args.f.now))
    c.coefficients.ensures (rw c.in_ok-coefficients.was refl) refl by
    c.smoother_data.ensures
