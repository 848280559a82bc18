-- `level::coarse_values` meets its contract.
use Rattle.update_levels.proofs.level.Levels.{means_ready, finite_ready, coarse_done}
use Rattle.std.specs.Prelude.{option_copied, unwrap_or}
use Rattle.store.specs.Region.{part}
use native.Mathlib.Omega.{arith}
use Rattle.update_levels.proofs.level.coarse_values.Goals as goal

pub symmetrize-requires : goal.symmetrize-requires
symmetrize-requires c =
    means_ready (unwrap_or (option_copied c.args.given) (part c.args.p.values c.args.p.entries c.args.f.now)) c.args.p c.args.t c.requires.coarse_ok.faces c.sum_values.ensures

pub all_finite-requires : goal.all_finite-requires
all_finite-requires c =
    omega
    (arith, finite_ready (unwrap_or (option_copied c.args.given) (part c.args.p.values c.args.p.entries c.args.f.now)) c.args.p c.args.t c.requires.coarse_ok.faces c.sum_values.ensures c.symmetrize.ensures)

pub returns : goal.returns
returns c =
    coarse_done (unwrap_or (option_copied c.args.given) (part c.args.p.values c.args.p.entries c.args.f.now)) c.args.p c.args.t c.requires.coarse_ok.faces
    c.sum_values.ensures
    c.symmetrize.ensures c.all_finite.ensures
