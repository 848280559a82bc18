-- `growing::advance` meets its contract: the questions of the level refuse, or it stands at its place and is led on.
use Rattle.refusal.proofs.Outcome.{passed_up}
use Rattle.build_levels.proofs.growing.Growing.{laid_no, place_ok, lead_ok, laid_led}
use borrow.Author.Rules.{rules}
use Rattle.build_levels.proofs.growing.advance.Goals as goal

pub place_of-p-requires : goal.place_of-p-requires
place_of-p-requires c =
    let pair = place_ok c.requires c.lay.ensures c.in_ok-faces.was (search rules) (search rules) in
    record { faces_bound = pair.0; faces_bound_2 = pair.1 }

pub lead-requires : goal.lead-requires
lead-requires c = lead_ok c.requires c.lay.ensures c.in_ok-faces.was c.place_of-p.ensures

pub returns-in_err-faces : goal.returns-in_err-faces
returns-in_err-faces c =
    rw (passed_up _ c.from_residual.ensures.1) (laid_no c.requires c.lay.ensures c.in_err-faces.was)

pub returns : goal.returns
returns c = laid_led c.requires c.lay.ensures c.in_ok-faces.was c.place_of-p.ensures c.lead.ensures
