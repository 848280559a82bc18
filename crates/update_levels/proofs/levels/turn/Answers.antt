-- `levels::turn` meets its contract: one law for each way out.
use Rattle.refusal.proofs.Outcome.{passed_up}
use mathlib.Core.Path.{refl, sym, ap, ◌∙◌}
use mathlib.Core.List.{List}
use lib.Ieee.{Float}
use Rattle.std.specs.Prelude.{option_copied, unwrap_or}
use Rattle.update_levels.proofs.levels.Turning.{turn_coarse, values_stay, turned_no, turned_coarse_no, turned_yes}
use Rattle.store.specs.Region.{part}
use Rattle.update_levels.proofs.levels.turn.Goals as goal

pub inner_level-requires : goal.inner_level-requires
inner_level-requires c = record { level_ok = c.requires.turn_ok.level; many = c.requires.many; faces_ready = c.requires.faces_ready }

pub returns-in_err-inner_level : goal.returns-in_err-inner_level
returns-in_err-inner_level c o by =
    rw (passed_up _ c.from_residual.ensures.1 ∙ sym c.in_err-inner_level.was)
    (turned_no c.args.t c.requires.turn_ok.level c.requires.turn_ok.after o _ (unwrap_or (option_copied c.args.given) (part c.args.p.values c.args.p.entries c.args.f.now)) (c.inner_level.ensures o by) (rw c.in_err-inner_level.was refl))

pub coarse_values-requires : goal.coarse_values-requires
coarse_values-requires c = record { coarse_ok = turn_coarse c.requires.turn_ok c.inner_level.auto.f; many = c.requires.many }

pub returns : goal.returns
returns c o by =
    let stay = ap (λ (v : List Float). unwrap_or (option_copied c.args.given) v) (values_stay c.requires.turn_ok.level (c.inner_level.ensures o by)) in
    rw c.in_ok-inner_level.was at (turned_yes c.args.t c.requires.turn_ok.level c.requires.turn_ok.after o _ (unwrap_or (option_copied c.args.given) (part c.args.p.values c.args.p.entries c.args.f.now)) (c.inner_level.ensures o by) (rw c.in_ok-inner_level.was refl) c.coarse_values.ensures stay c.if-not-coarse_values.false)

pub returns-then-not-coarse_values : goal.returns-then-not-coarse_values
returns-then-not-coarse_values c o by =
    let stay = ap (λ (v : List Float). unwrap_or (option_copied c.args.given) v) (values_stay c.requires.turn_ok.level (c.inner_level.ensures o by)) in
    turned_coarse_no c.args.t c.requires.turn_ok.level c.requires.turn_ok.after o _ (unwrap_or (option_copied c.args.given) (part c.args.p.values c.args.p.entries c.args.f.now)) (c.inner_level.ensures o by) (rw c.in_ok-inner_level.was refl) c.coarse_values.ensures stay c.if-not-coarse_values.true
