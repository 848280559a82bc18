-- `descent::first_steps` meets its contract.
use Rattle.build_levels.proofs.descent.Ways.{finite_is, no_finite}
use Rattle.build_levels.proofs.descent.Levels as laws
use Rattle.build_levels.proofs.descent.first_steps.Goals as goal

pub step-first-requires : goal.step-first-requires
step-first-requires c = laws.step_requires c.requires c.level_in-m.ensures

pub merge-requires : goal.merge-requires
merge-requires c = laws.merge_requires c.requires c.level_in-m.ensures c.step-first.ensures

pub returns : goal.returns
returns c =
    laws.steps_on c.requires c.level_in-m.ensures c.step-first.ensures (finite_is _ c.if-not-first.false)
    c.merge.ensures

pub returns-then-not-first : goal.returns-then-not-first
returns-then-not-first c =
    laws.steps_bad c.requires c.level_in-m.ensures c.step-first.ensures (no_finite _ c.if-not-first.true)
