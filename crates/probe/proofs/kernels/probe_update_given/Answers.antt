-- `probe_update_given` tells the verdict of `coefficients::update_given`, after the faces' values were picked.
use Rattle.coefficients.proofs.values.UpdateLaws.{faces_given, faces_stand, stand_ok, stand_updated}
use Rattle.probe.proofs.kernels.probe_update_given.Goals as goal

pub pick_given-requires : goal.pick_given-requires
pick_given-requires c =
    let at_wide = c in
    let start = at_wide in
    faces_given start.requires.update_ok start.requires.entries_in_bounds at_wide.wide-count.ensures

pub update_given-requires : goal.update_given-requires
update_given-requires c =
    let at-pick = c in
    let at_wide = at-pick in
    let start = at_wide in
    record { update_ok = stand_ok start.requires.update_ok at-pick.pick_given.ensures.size; entries_in_bounds = start.requires.entries_in_bounds; faces_taken = faces_stand start.args.given.now start.requires.update_ok at_wide.wide-count.ensures at-pick.pick_given.ensures }

pub returns : goal.returns
returns c =
    let at-answer = c in
    let at-update = at-answer in
    let at-pick = at-update in
    let at_wide = at-pick in
    let start = at_wide in
    let told = at-update.update_given.ensures in
    record { told = rw told.verdict at at-answer.answer.ensures; updated = stand_updated start.args.given.now start.requires.update_ok at_wide.wide-count.ensures at-pick.pick_given.ensures (rw told.verdict at told) }
