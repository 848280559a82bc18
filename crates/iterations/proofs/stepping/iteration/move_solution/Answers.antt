-- `stepping::iteration::move_solution` meets its contract: the plain sum, or GCR with the correction's image.
use Rattle.iterations.proofs.stepping.Moving.{plain_ok, moved_plain, image_ok, correct_ok, moved_gcr}
use Rattle.iterations.proofs.stepping.iteration.move_solution.Goals as goal

pub add_plain-requires : goal.add_plain-requires
add_plain-requires c = plain_ok c.requires

pub returns-then-krylov-eq0 : goal.returns-then-krylov-eq0
returns-then-krylov-eq0 c = moved_plain c.requires c.if-krylov-eq0.true c.add_plain.ensures

pub apply-requires : goal.apply-requires
apply-requires c =
    let pair = image_ok c.requires in
    record { kernel_ok = pair.0; rows_bound = pair.1.0; rows_in_bounds = pair.1.1 }

pub correct-requires : goal.correct-requires
correct-requires c = correct_ok c.requires c.if-krylov-eq0.false c.apply.ensures.size

pub returns : goal.returns
returns c = moved_gcr c.requires c.if-krylov-eq0.false c.apply.ensures c.correct.ensures
