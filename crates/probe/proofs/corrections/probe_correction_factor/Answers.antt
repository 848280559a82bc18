-- `probe_correction_factor` tells the answer of `correction::correction_factor`.
use Rattle.probe.proofs.corrections.probe_correction_factor.Goals as goal

pub returns : goal.returns
returns c =
    rw c.correction_factor.ensures at c.scaled.ensures
