-- `sound::scratch::scratch_start` meets its contract.
use Rattle.index_check.proofs.sound.Sizes.{start_bound}
use native.Mathlib.Omega.{arith}
use Rattle.index_check.proofs.sound.scratch.scratch_start.Goals as goal

pub overflow_mul-result : goal.overflow_mul-result
overflow_mul-result c = omega (arith, start_bound c.requires, c.shadow_start.ensures)
