-- `counted` gives zero and writes what there is, or gives the number of the refusal.
use mathlib.Core.Path.{refl}
use Rattle.probe.proofs.corrections.counted.Goals as goal

pub returns-in-Ok : goal.returns-in-Ok
returns-in-Ok c =
    rw c.in-Ok.is (record { is = refl; count = refl })

pub returns-in-Err : goal.returns-in-Err
returns-in-Err c =
    rw c.in-Err.is (record { is = refl; count = refl })
