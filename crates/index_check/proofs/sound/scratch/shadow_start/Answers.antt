-- `sound::scratch::shadow_start` meets its contract.
use mathlib.Core.Path.{refl}
use Rattle.index_check.proofs.sound.Laws.{head_told, head_sizes}
use Rattle.index_check.proofs.sound.Sizes.{first_head, image_bound, shadow_told}
use native.Mathlib.Omega.{arith}
use Rattle.index_check.proofs.sound.scratch.shadow_start.Goals as goal

pub word_at-requires : goal.word_at-requires
word_at-requires c = omega (arith, (head_sizes _ _ refl refl refl (head_told _ _ (first_head c.requires))).0)

pub overflow_add-result : goal.overflow_add-result
overflow_add-result c = omega (arith, image_bound _ _ c.requires, c.image_end.ensures, c.word_at.ensures.small)

pub returns : goal.returns
returns c = shadow_told c.requires c.image_end.ensures c.word_at.ensures.is
