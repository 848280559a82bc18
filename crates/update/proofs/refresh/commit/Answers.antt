-- `refresh::commit` meets its contract. The loop's invariant: once the levels left are those of the shadow, all are. The measure is the number
-- of levels left.
use Rattle.update.proofs.refresh.Copying.{commit_place, commit_sums, copying_start, copying_few, copying_fits, copying_copy, copying_words, copying_next, copying_on, last_fits, last_copy, committed}
use native.Mathlib.Omega.{arith}
use borrow.Author.Rules.{rules}
use Rattle.update.proofs.refresh.commit.Goals as goal

pub place_at-p-requires : goal.place_at-p-requires
place_at-p-requires c = search (commit_place, rules)

pub overflow_sub-end : goal.overflow_sub-end
overflow_sub-end c = search (commit_sums, rules)

pub loop-level-init : goal.loop-level-init
loop-level-init c = search (copying_start, rules)

pub overflow_add-level : goal.overflow_add-level
overflow_add-level c = omega (arith, copying_few c.loop-level.invariant)

pub overflow_sub-p : goal.overflow_sub-p
overflow_sub-p c = omega (arith, copying_fits c.loop-level.invariant c.loop-level-test.true)

pub overflow_add-image : goal.overflow_add-image
overflow_add-image c = omega (arith, copying_fits c.loop-level.invariant c.loop-level-test.true)

pub copy-requires : goal.copy-requires
copy-requires c = search (copying_copy, rules)

pub words_end-a-requires : goal.words_end-a-requires
words_end-a-requires c = search (copying_words, rules)

pub place_at-p-requires-in-loop-level : goal.place_at-p-requires-in-loop-level
place_at-p-requires-in-loop-level c = search (copying_next, rules)

pub overflow_add-level-in-loop-level : goal.overflow_add-level-in-loop-level
overflow_add-level-in-loop-level c = omega (arith, copying_few c.loop-level.invariant)

pub loop-level-preserved : goal.loop-level-preserved
loop-level-preserved c = search (copying_on, rules)

pub overflow_sub-end-2 : goal.overflow_sub-end-2
overflow_sub-end-2 c = omega (arith, last_fits c.loop-level.invariant c.loop-level-test.false)

pub overflow_add-image-2 : goal.overflow_add-image-2
overflow_add-image-2 c = omega (arith, last_fits c.loop-level.invariant c.loop-level-test.false)

pub copy-requires-2 : goal.copy-requires-2
copy-requires-2 c = search (last_copy, rules)

pub shape_of-f : goal.shape_of-f
shape_of-f c = omega (arith, c.loop-level.invariant.size)

pub returns : goal.returns
returns c = search (committed, rules)
