-- `levels::renew_rest` meets its contract. The loop's invariant: the levels left make all of them. The measure is the number of levels left.
use Rattle.refusal.proofs.Outcome.{passed_up}
use mathlib.Core.Path.{refl, sym, ◌∙◌}
use Rattle.update_levels.proofs.levels.Renewing.{underway_start, underway_few, underway_header, underway_words, underway_next, underway_turn, underway_no, underway_on, underway_last, underway_end}
use Rattle.update_levels.proofs.level.Levels.{none_given}
use native.Mathlib.Omega.{arith}
use borrow.Author.Rules.{rules}
use Rattle.update_levels.proofs.levels.renew_rest.Goals as goal

pub loop-level-init : goal.loop-level-init
loop-level-init c = search (underway_start, rules)

pub overflow_add-level : goal.overflow_add-level
overflow_add-level c = omega (arith, underway_few c.loop-level.invariant)

pub words_end-a-requires : goal.words_end-a-requires
words_end-a-requires c = underway_words c.loop-level.invariant c.loop-level-test.true

pub place_at-t-requires : goal.place_at-t-requires
place_at-t-requires c = underway_next c.loop-level.invariant c.loop-level-test.true c.words_end-a.ensures

pub turn-requires : goal.turn-requires
turn-requires c =
    record {
      turn_ok = underway_turn c.loop-level.invariant c.loop-level-test.true c.words_end-a.ensures c.place_at-t.ensures;
      many = none_given _;
      faces_ready = none_given _;
    }

pub returns-in_err-turn : goal.returns-in_err-turn
returns-in_err-turn c =
    let gone = c in
    rw (passed_up _ c.from_residual.ensures.1 ∙ sym c.in_err-turn.was)
    (underway_no gone.loop-level.invariant gone.loop-level-test.true gone.words_end-a.ensures gone.place_at-t.ensures
    gone.turn.ensures (rw c.in_err-turn.was refl))

pub overflow_add-level-in-loop-level : goal.overflow_add-level-in-loop-level
overflow_add-level-in-loop-level c = omega (arith, underway_few c.loop-level.invariant)

pub loop-level-preserved : goal.loop-level-preserved
loop-level-preserved c =
    let gone = c in
    underway_on gone.loop-level.invariant gone.loop-level-test.true gone.words_end-a.ensures gone.place_at-t.ensures
    gone.turn.ensures (rw c.in_ok-turn.was refl) gone.turn.auto.f

pub overflow_add-a : goal.overflow_add-a
overflow_add-a c = omega (arith, underway_header c.loop-level.invariant)

pub offset_bounds-w-a : goal.offset_bounds-w-a
offset_bounds-w-a c = omega (arith, underway_header c.loop-level.invariant)

pub bounds-w-a : goal.bounds-w-a
bounds-w-a c = omega (arith, underway_header c.loop-level.invariant)

pub last_level-requires : goal.last_level-requires
last_level-requires c = underway_last c.loop-level.invariant c.loop-level-test.false c.wide-coupled.ensures

pub returns : goal.returns
returns c = underway_end c.loop-level.invariant c.loop-level-test.false c.wide-coupled.ensures c.last_level.ensures
