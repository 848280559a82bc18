-- `sound::scratch::floats_end` meets its contract.
use Rattle.index_check.proofs.sound.Sizes.{place_ok, triangle_fits, factor_fits, floats_told}
use native.Mathlib.Omega.{arith}
use Rattle.index_check.proofs.sound.scratch.floats_end.Goals as goal

pub place_at-p-requires : goal.place_at-p-requires
place_at-p-requires c = place_ok c.requires

pub coupled_at-requires : goal.coupled_at-requires
coupled_at-requires c = record { head = c.requires.head }

pub triangle-requires : goal.triangle-requires
triangle-requires c = triangle_fits _ _ c.requires.head c.coupled_at.ensures

pub overflow_add-result : goal.overflow_add-result
overflow_add-result c = omega (
  arith,
  factor_fits _ _ _ c.place_at-p.ensures c.coupled_at.ensures
      c.requires c.triangle.ensures,
)

pub returns : goal.returns
returns c = floats_told _ _ _ c.place_at-p.ensures c.coupled_at.ensures
    c.triangle.ensures
