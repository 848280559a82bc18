-- `floats_for` adds up the floats.
use mathlib.Core.Path.{◌≡◌}
use Prim.Native.Nat.{◌+◌, ◌*◌}
use native.Mathlib.Omega.{arith}
use Rattle.charge.specs.Charge.{capped, floats_for}
use Rattle.charge.proofs.Caps.{cut_levels, cut_price}
use Rattle.charge.proofs.floats_for.Goals as goal

pub returns : goal.returns
unfolding floats_for
returns c =
    let doubled = c.saturating_mul.ensures in
    let added = c.saturating_add-vectors.ensures in
    let vectors : c.saturating_add-vectors.result
    ≡ capped (12 + 2 * c.args.options.krylov_dimension) = omega arith in
    let fixed = cut_price _ _ _ _ vectors c.saturating_mul-factor.ensures c.priced-fixed.ensures in
    let args = c.args in
    let priced = c.priced-level.ensures in
    let level : c.priced-level.result ≡ capped (20 * args.rows + 4 * args.entries) = omega arith in
    cut_levels _ _ _ fixed level c.with_levels.ensures
