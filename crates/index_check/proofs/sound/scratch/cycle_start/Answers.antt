-- `sound::scratch::cycle_start` meets its contract.
use mathlib.Core.Path.{refl}
use Rattle.index_check.proofs.sound.Laws.{head_told, head_sizes}
use Rattle.index_check.proofs.sound.Sizes.{first_head, start_bound, memory_most, cycle_told}
use native.Mathlib.Omega.{arith}
use Rattle.index_check.proofs.sound.scratch.cycle_start.Goals as goal

pub word_at-requires : goal.word_at-requires
word_at-requires c = omega (arith, (head_sizes _ _ refl refl refl (head_told _ _ (first_head c.requires.walked))).0)

pub overflow_mul-result-2 : goal.overflow_mul-result-2
overflow_mul-result-2 c = omega (
  arith,
  memory_most c.requires.walked c.args.krylov
      c.requires.directions c.word_at.ensures.is,
)

pub overflow_add-result-2 : goal.overflow_add-result-2
overflow_add-result-2 c = omega (
  arith,
  start_bound c.requires.walked,
  c.scratch_start.ensures,
  memory_most
      c.requires.walked c.args.krylov c.requires.directions
      c.word_at.ensures.is,
)

pub returns : goal.returns
returns c = cycle_told c.requires.walked _ c.scratch_start.ensures c.word_at.ensures.is
