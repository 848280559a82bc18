-- `MultigridOptions::validate` tests the ranges in the order of the definition.
use Rattle.options.specs.Options.{valid_of}
use Rattle.options.proofs.options.MultigridOptions.validate.Goals as goal

pub returns : goal.returns
unfolding valid_of
returns c = rw (c.is_tolerable-2.ensures, c.is_tolerable.ensures)
