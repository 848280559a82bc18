-- `load::laying::count` meets its contract.
use Rattle.std.proofs.Common.{◌∙◌}
use Rattle.load.proofs.laying.Pushes.{byte_one}
use Rattle.load.proofs.laying.count.Goals as goal

pub returns : goal.returns
returns c = c.from.ensures ∙ byte_one c.args.there
