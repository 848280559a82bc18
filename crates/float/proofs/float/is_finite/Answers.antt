-- `float::is_finite` meets its contract: both comparisons together are `is_finite`.
use lib.Ieee.{of_bits, div, neg}
use Rattle.float.proofs.float.Compare.{between}
use Rattle.float.proofs.float.is_finite.Goals as goal

pub returns : goal.returns
unfolding of_bits div neg
returns c = between c.args.x
