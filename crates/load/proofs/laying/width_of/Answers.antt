-- `load::laying::width_of` meets its contract.
use Rattle.std.proofs.Common.{refl}
use Rattle.load.proofs.Cell.{width_is}
use Rattle.load.proofs.laying.width_of.Goals as goal

pub returns-clause-value : goal.returns-clause-value
returns-clause-value c =
    (width_is c.faces-f.ensures c.count.result c.count-2.result c.count-3.result c.count-4.result c.count-5.result c.count-6.result _ c.count.ensures c.count-2.ensures c.count-3.ensures c.count-4.ensures c.count-5.ensures c.count-6.ensures refl).0
