-- `laying::lay` meets its contract: one law for each way out, in the order of the questions.
use native.Mathlib.Omega.{arith}
use Rattle.refusal.proofs.Outcome.{passed_up}
use Rattle.build_level.proofs.laying.Faces.{faces_ok}
use Rattle.build_level.proofs.laying.Levels.{words_ok, place_room, values_ok_lem, laid_incomplete, laid_refused, laid_done}
use Rattle.build_level.proofs.laying.lay.Goals as goal

pub lay_words-faces-requires : goal.lay_words-faces-requires
lay_words-faces-requires c = words_ok c.requires (omega arith)

pub place_of-p-requires : goal.place_of-p-requires
place_of-p-requires c =
    let pair = place_room c.requires (omega arith) (omega arith) c.lay_words-faces.ensures in
    record { faces_bound = pair.0; faces_bound_2 = pair.1 }

pub lay_faces-requires : goal.lay_faces-requires
lay_faces-requires c =
    faces_ok (words_ok c.requires (omega arith))
    c.lay_words-faces.ensures c.place_of-p.ensures

pub lay_values-requires : goal.lay_values-requires
lay_values-requires c =
    values_ok_lem c.requires (omega (arith, c.well_formed.1.0)) c.lay_words-faces.ensures c.place_of-p.ensures c.lay_faces.ensures
    c.in_ok-lay_faces.was

pub returns : goal.returns
returns c =
    laid_done c.requires (omega (arith, c.well_formed.1.0)) c.lay_words-faces.ensures c.place_of-p.ensures c.lay_faces.ensures
    _ c.in_ok-lay_faces.was c.lay_values.ensures c.in_ok-lay_values.was

pub returns-in_err-lay_values : goal.returns-in_err-lay_values
returns-in_err-lay_values c =
    rw (passed_up _ c.from_residual-in_err-lay_values.ensures.1)
    (laid_refused c.requires (omega (arith, c.well_formed.1.0)) c.lay_words-faces.ensures c.place_of-p.ensures c.lay_faces.ensures
    _ c.in_ok-lay_faces.was c.lay_values.ensures c.in_err-lay_values.was)

pub returns-in_err-lay_faces : goal.returns-in_err-lay_faces
returns-in_err-lay_faces c =
    rw (passed_up _ c.from_residual.ensures.1)
    (laid_incomplete c.requires (omega (arith, c.well_formed.1.0)) c.lay_words-faces.ensures c.place_of-p.ensures c.lay_faces.ensures
    c.in_err-lay_faces.was)
