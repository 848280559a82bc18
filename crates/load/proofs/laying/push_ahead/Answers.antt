-- `load::laying::push_ahead` meets its contract.
use Rattle.std.proofs.Common.{refl}
use Rattle.load.proofs.laying.Pushes.{pushed_three}
use Rattle.load.proofs.laying.push_ahead.Goals as goal

pub returns : goal.returns
returns c = pushed_three c.push-q.ensures c.push-r.ensures c.push.ensures refl refl refl
