-- `smoother::smooth` meets its contract.
use Rattle.smoother.proofs.Smoothing.{smooth_none, smooth_yes, smooth_no}
use Rattle.smoother.proofs.smooth.Goals as goal

pub returns-then-sweeps-eq0 : goal.returns-then-sweeps-eq0
returns-then-sweeps-eq0 c = search (smooth_none)

pub returns-then-all_finite : goal.returns-then-all_finite
returns-then-all_finite c = search (smooth_yes)

pub returns-else-all_finite : goal.returns-else-all_finite
returns-else-all_finite c = search (smooth_no)
