-- `check::sizes_sound` meets its contract.
use Rattle.index_check.proofs.sound.Sizes.{place_zero, first_head}
use Rattle.index_check.proofs.check.Question.{levels_ok, cycle_ok, scratch_ok, sizes_are}
use Rattle.index_check.proofs.check.sizes_sound.Goals as goal

pub place_at-p-requires : goal.place_at-p-requires
place_at-p-requires c = place_zero _ _ (first_head (levels_ok c.requires))

pub cycle_start-start-requires : goal.cycle_start-start-requires
cycle_start-start-requires c = cycle_ok c.requires

pub scratch_end-requires : goal.scratch_end-requires
scratch_end-requires c = scratch_ok c.requires c.cycle_start-start.ensures

pub returns : goal.returns
returns c = sizes_are c.args.h
    c.args.w.now c.args.floats
    c.place_at-p.ensures c.cycle_start-start.ensures c.scratch_end.ensures
