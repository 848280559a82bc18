-- `check::walk_heads` meets its contract. The loop's invariant: what is left of the heads gives the answer of all.
use mathlib.Core.Path.{◌∙◌}
use Rattle.index_check.proofs.check.Walking.{heads_start, heads_finish, heads_stop, heads_words, heads_next}
use Rattle.index_check.proofs.check.walk_heads.Goals as goal

pub loop-level-init : goal.loop-level-init
loop-level-init c = heads_start _ _

pub returns-then-not-head_fits : goal.returns-then-not-head_fits
returns-then-not-head_fits c = c.stopped.ensures ∙ heads_stop c.loop-level.invariant c.loop-level-test.true
    c.head_fits.ensures c.if-not-head_fits.true

pub words_end-a-requires : goal.words_end-a-requires
words_end-a-requires c = (heads_words c.loop-level.invariant c.loop-level-test.true
    c.head_fits.ensures c.if-not-head_fits.false).ends

pub loop-level-preserved : goal.loop-level-preserved
loop-level-preserved c = heads_next c.loop-level.invariant c.loop-level-test.true
    c.head_fits.ensures c.if-not-head_fits.false c.words_end-a.ensures

pub returns : goal.returns
returns c = heads_finish c.loop-level.invariant c.loop-level-test.false
