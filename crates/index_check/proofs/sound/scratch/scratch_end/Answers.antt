-- `sound::scratch::scratch_end` meets its contract. The loop's invariant: the scratch of the levels that are left ends where all does.
use mathlib.Core.Path.{refl}
use Rattle.index_check.proofs.sound.Laws.{head_sizes}
use Rattle.index_check.proofs.sound.Sizes.{scratching, scratching_few, going_words, scratching_on, scratching_end}
use native.Mathlib.Omega.{arith}
use Rattle.index_check.proofs.sound.scratch.scratch_end.Goals as goal

pub loop-level-init : goal.loop-level-init
loop-level-init c = scratching c.requires

pub word_at-requires : goal.word_at-requires
word_at-requires c = omega (arith, (head_sizes _ _ refl refl refl (going_words c.loop-level.invariant.going c.loop-level-test.true)).0)

pub overflow_mul-end : goal.overflow_mul-end
overflow_mul-end c = omega (arith, c.word_at.ensures.small)

pub overflow_add-end : goal.overflow_add-end
overflow_add-end c = omega
    (arith, scratching_few c.loop-level.invariant c.requires, c.word_at.ensures.small)

pub words_end-a-requires : goal.words_end-a-requires
words_end-a-requires c = (going_words c.loop-level.invariant.going c.loop-level-test.true).ends

pub loop-level-preserved : goal.loop-level-preserved
loop-level-preserved c = scratching_on c.loop-level.invariant c.loop-level-test.true c.word_at.ensures.is
    c.words_end-a.ensures

pub returns : goal.returns
returns c = scratching_end c.loop-level.invariant c.loop-level-test.false
