-- `csr::size_fits` meets its contract.
use mathlib.Core.Path.{refl}
use Rattle.csr.specs.Questions.{size_ok}
use Rattle.csr.proofs.csr.size_fits.Goals as goal

pub returns : goal.returns
unfolding size_ok
returns c = refl
