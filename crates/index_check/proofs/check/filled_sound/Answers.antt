-- `check::filled_sound` meets its contract.
use Rattle.index_check.proofs.check.Question.{check_handle, check_records, check_stopped, check_sizes, check_told}
use Rattle.index_check.proofs.check.filled_sound.Goals as goal

pub returns-then-not-handle_sound : goal.returns-then-not-handle_sound
returns-then-not-handle_sound c = check_handle c.args.h c.args.w.now
    c.args.floats c.args.records c.handle_sound.ensures
    c.if-not-handle_sound.true

pub returns-then-records-h : goal.returns-then-records-h
returns-then-records-h c = check_records c.args.h c.args.w.now
    c.args.floats c.args.records
    c.handle_sound.ensures c.if-not-handle_sound.false c.if-records-h.true

pub sizes_sound-requires : goal.sizes_sound-requires
sizes_sound-requires c = check_sizes c.args.h
    c.args.w.now
    c.args.floats
    c.args.records
    c.handle_sound.ensures
    c.if-not-handle_sound.false c.if-records-h.false
    c.walk.ensures c.in-Ok.is

pub returns-in-Ok : goal.returns-in-Ok
returns-in-Ok c = check_told c.args.h
    c.args.w.now
    c.args.floats
    c.args.records
    c.handle_sound.ensures
    c.if-not-handle_sound.false c.if-records-h.false
    c.walk.ensures c.in-Ok.is c.sizes_sound.ensures

pub returns-in-Err : goal.returns-in-Err
returns-in-Err c = check_stopped c.args.h
    c.args.w.now
    c.args.floats
    c.args.records
    c.handle_sound.ensures
    c.if-not-handle_sound.false c.if-records-h.false
    c.walk.ensures _ c.in-Err.is
