-- `check::walk_rows` meets its contract. Its loops' invariants: what is left to walk gives the whole walk's answer, and the rows before this one passed.
use mathlib.Core.Path.{refl, ◌∙◌}
use Rattle.store.proofs.store.Each.{passed_start, passed_on}
use Rattle.index_check.proofs.sound.Laws.{head_told}
use Rattle.index_check.proofs.sound.Sizes.{place_zero}
use Rattle.index_check.proofs.check.Walking.{start, finish, level_head, targets_ok, tables_ok, row_ok, hit, astray, next}
use Rattle.index_check.proofs.check.walk_rows.Goals as goal

pub walk-init : goal.walk-init
walk-init c = (start _ _ c.requires, refl)

pub place_at-p-requires : goal.place_at-p-requires
place_at-p-requires c = place_zero _ _ (level_head c.walk.invariant.0 c.walk-test.true)

pub targets_at-t-requires : goal.targets_at-t-requires
targets_at-t-requires c = targets_ok c.walk.invariant.0 c.walk-test.true

pub level_sound-requires : goal.level_sound-requires
level_sound-requires c = tables_ok c.walk.invariant.0 c.walk-test.true
    c.place_at-p.ensures c.targets_at-t.ensures

pub loop-row-init : goal.loop-row-init
loop-row-init c = passed_start _ _

pub row_sound-requires : goal.row_sound-requires
row_sound-requires c = row_ok c.walk.invariant.0
    c.walk-test.true
    c.place_at-p.ensures c.targets_at-t.ensures
    c.loop-row-test.true

pub loop-row-preserved : goal.loop-row-preserved
loop-row-preserved c = passed_on c.loop-row.invariant c.loop-row-test.true c.row_sound.ensures
    c.if-not-row_sound.false

pub words_end-a-requires : goal.words_end-a-requires
words_end-a-requires c = (head_told _ _
    (level_head c.walk.invariant.0 c.walk-test.true)).ends

pub walk-preserved : goal.walk-preserved
walk-preserved c = (next c.walk.invariant.0 c.walk-test.true c.place_at-p.ensures c.targets_at-t.ensures c.level_sound.ensures c.if-not-level_sound.false c.words_end-a.ensures, c.walk.invariant.1)

pub returns-after-walk : goal.returns-after-walk
returns-after-walk c = c.walk.invariant.1 ∙ finish c.walk.invariant.0 c.walk-test.false

pub returns-then-not-row_sound : goal.returns-then-not-row_sound
returns-then-not-row_sound c = c.stopped-at.ensures ∙ hit
    c.walk.invariant.0
    c.walk-test.true
    c.place_at-p.ensures
    c.targets_at-t.ensures
    c.loop-row.invariant c.loop-row-test.true c.row_sound.ensures
    c.if-not-row_sound.true

pub returns-after-loop-row : goal.returns-after-loop-row
returns-after-loop-row c = c.stopped-at-then-not-level_sound.ensures ∙ astray c.walk.invariant.0
    c.walk-test.true
    c.place_at-p.ensures
    c.targets_at-t.ensures
    c.level_sound.ensures c.if-not-level_sound.true
    c.loop-row.invariant c.loop-row-test.false
