-- `load::loading::cells_of` meets its contract.
use Rattle.std.proofs.Common.{◌∙◌}
use Rattle.load.proofs.loading.Asking.{capped_three}
use Rattle.load.proofs.loading.cells_of.Goals as goal

pub returns : goal.returns
returns c = c.product.ensures ∙ capped_three c.args.e.width c.args.e.height c.args.e.depth c.product-layer.result c.product-layer.ensures
