-- `MultigridOptions::default` gives the defaults; each decimal of the code is the f64 nearest to it.
use mathlib.Core.Path.{refl}
use lib.Ieee.{round, of_bits}
use Rattle.options.specs.Options.{default_options}
use Rattle.options.proofs.options.MultigridOptionsDefault.default.Goals as goal

pub returns : goal.returns
unfolding default_options round of_bits
returns c = refl
