-- `default_options` gives the defaults as numbers; each decimal of the code is the f64 nearest to it.
use mathlib.Core.Path.{refl}
use lib.Ieee.{round, of_bits}
use Rattle.options.specs.Options.{default_options}
use Rattle.export.specs.Structs.{struct_of, default_struct}
use Rattle.export.proofs.telling.default_options.Goals as goal

pub returns : goal.returns
unfolding default_struct struct_of default_options round of_bits
returns c = refl
