-- `input::input_fits` meets its contract: the tests are the definition's.
use Rattle.solve.proofs.input.Asked.{input_is}
use Rattle.solve.proofs.input.input_fits.Goals as goal

pub returns : goal.returns
returns c = input_is _ _ _ c.is_tolerable.ensures c.is_tolerable-2.ensures c.all_finite.ensures c.all_finite-2.ensures
