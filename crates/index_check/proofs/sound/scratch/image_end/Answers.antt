-- `sound::scratch::image_end` meets its contract. The loop's invariant: the floats of the levels that are left end where all do.
use Rattle.index_check.proofs.sound.Sizes.{imaging, imaging_ok, going_words, imaging_on, imaging_end}
use Rattle.index_check.proofs.sound.scratch.image_end.Goals as goal

pub loop-level-init : goal.loop-level-init
loop-level-init c = imaging c.requires

pub floats_end-b-requires : goal.floats_end-b-requires
floats_end-b-requires c = imaging_ok c.loop-level.invariant c.requires c.loop-level-test.true

pub words_end-a-requires : goal.words_end-a-requires
words_end-a-requires c = (going_words c.loop-level.invariant.going c.loop-level-test.true).ends

pub loop-level-preserved : goal.loop-level-preserved
loop-level-preserved c = imaging_on c.loop-level.invariant c.loop-level-test.true c.floats_end-b.ensures
    c.words_end-a.ensures

pub returns : goal.returns
returns c = imaging_end c.loop-level.invariant c.loop-level-test.false
