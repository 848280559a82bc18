-- `questions::asked` meets its contract: question 31, then 10.
use Rattle.update.proofs.questions.Questions.{pattern_ready, mirrors_ready, asked_other, asked_asymmetric, asked_passed}
use Rattle.update.proofs.questions.asked.Goals as goal

pub place_at-p-requires : goal.place_at-p-requires
place_at-p-requires c = c.requires.place

pub same_pattern-requires : goal.same_pattern-requires
same_pattern-requires c = pattern_ready c.requires c.place_at-p.ensures

pub take_faces-requires : goal.take_faces-requires
take_faces-requires c =
    let at_same = c in
    let start = at_same in
    let pair = mirrors_ready start.args.f.now start.args.x.offsets.now start.args.x.columns.now start.args.x.values.now start.requires
    at_same.place_at-p.ensures at_same.same_pattern.ensures c.if-not-same_pattern.false in
    record { mirrors_ok = pair.0; faces_in_bounds = pair.1 }

pub returns : goal.returns
returns c =
    let at_take = c in
    let at_same = at_take in
    let start = at_same in
    asked_passed start.args.f.now start.args.x.offsets.now start.args.x.columns.now start.args.x.values.now start.requires
    at_same.place_at-p.ensures at_same.same_pattern.ensures at_take.if-not-same_pattern.false
    at_take.take_faces.ensures c.if-not-take_faces.false

pub returns-then-not-take_faces : goal.returns-then-not-take_faces
returns-then-not-take_faces c =
    let at_take = c in
    let at_same = at_take in
    let start = at_same in
    asked_asymmetric start.args.f.now start.args.x.offsets.now start.args.x.columns.now start.args.x.values.now start.requires
    at_same.place_at-p.ensures at_same.same_pattern.ensures at_take.if-not-same_pattern.false
    at_take.take_faces.ensures c.if-not-take_faces.true

pub returns-then-not-same_pattern : goal.returns-then-not-same_pattern
returns-then-not-same_pattern c =
    let at_same = c in
    let start = at_same in
    asked_other start.args.f.now start.args.x.offsets.now start.args.x.columns.now start.args.x.values.now start.requires
    at_same.place_at-p.ensures at_same.same_pattern.ensures c.if-not-same_pattern.true
