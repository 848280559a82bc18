-- `probe_correct` tells the answer of `acceleration::correct`.
use Rattle.probe.proofs.corrections.probe_correct.Goals as goal

pub returns : goal.returns
returns c =
    record { counted = rw c.correct.ensures.answer at c.counted.ensures; corrected_by = rw c.correct.ensures.answer at c.correct.ensures }
