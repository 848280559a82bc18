-- `levels::renew` meets its contract: the finest level from the values that are given, and the levels after it.
use Rattle.refusal.proofs.Outcome.{passed_up}
use mathlib.Core.Path.{refl, sym, ◌∙◌}
use Rattle.update_levels.proofs.levels.Renewing.{start_place, load_room, loaded_rest, loaded_done, first_words, first_next, first_turn, first_many, faces_ready, first_no, first_rest, first_on}
use Rattle.update_levels.proofs.level.Levels.{one_given}
use Rattle.update_levels.proofs.levels.renew.Goals as goal

pub place_at-p-requires : goal.place_at-p-requires
place_at-p-requires c = let start = c in start_place start.args.given.now start.args.f.now start.requires.start_ok

pub load-requires : goal.load-requires
load-requires c = let start = c in load_room start.args.given.now start.args.f.now start.requires.start_ok c.place_at-p.ensures

pub renew_rest-requires : goal.renew_rest-requires
renew_rest-requires c = let start = c in loaded_rest start.args.given.now start.args.f.now start.requires.start_ok c.place_at-p.ensures c.load.ensures

pub returns-then-levels-lt2 : goal.returns-then-levels-lt2
returns-then-levels-lt2 c o by =
    let start = c in
    loaded_done start.args.given.now start.args.f.now start.requires.start_ok c.place_at-p.ensures c.load.ensures c.renew_rest.ensures o by

pub words_end-a-requires : goal.words_end-a-requires
words_end-a-requires c = let start = c in first_words start.args.given.now start.args.f.now start.requires.start_ok c.place_at-p.ensures c.if-levels-lt2.false

pub place_at-t-requires : goal.place_at-t-requires
place_at-t-requires c = let start = c in first_next start.args.given.now start.args.f.now start.requires.start_ok c.place_at-p.ensures c.if-levels-lt2.false c.words_end-a.ensures

pub turn-requires : goal.turn-requires
turn-requires c =
    let start = c in
    let given = start.args.given.now in
    record {
      turn_ok = first_turn given start.args.f.now start.requires.start_ok c.place_at-p.ensures c.if-levels-lt2.false c.words_end-a.ensures c.place_at-t.ensures;
      many = one_given _ (first_many given start.args.f.now start.requires.start_ok c.place_at-p.ensures);
      faces_ready = one_given _ (faces_ready given start.args.f.now start.requires.start_ok c.place_at-p.ensures start.requires.faces_ready);
    }

pub returns-in_err-turn : goal.returns-in_err-turn
returns-in_err-turn c o by =
    let start = c in
    rw (passed_up _ c.from_residual.ensures.1 ∙ sym c.in_err-turn.was)
    (first_no start.args.given.now start.args.f.now start.requires.start_ok c.place_at-p.ensures c.if-levels-lt2.false c.words_end-a.ensures c.place_at-t.ensures
    c.turn.ensures (rw c.in_err-turn.was refl) o by)

pub renew_rest-requires-2 : goal.renew_rest-requires-2
renew_rest-requires-2 c =
    let start = c in
    first_rest start.args.given.now start.args.f.now start.requires.start_ok c.place_at-p.ensures c.if-levels-lt2.false c.words_end-a.ensures c.place_at-t.ensures
    c.turn.ensures c.turn.auto.f

pub returns : goal.returns
returns c o by =
    let start = c in
    first_on start.args.given.now start.args.f.now start.requires.start_ok c.place_at-p.ensures c.if-levels-lt2.false c.words_end-a.ensures c.place_at-t.ensures
    c.turn.ensures (rw c.in_ok-turn.was refl) c.renew_rest-2.ensures o by
