-- `load::laying::lay_cells` meets its contract. The loop's invariant: the rows of the cells passed are laid.
use Rattle.std.proofs.Common.{arith}
use Rattle.load.proofs.Walk.{laying_start, cell_ok, laying_on}
use Rattle.load.proofs.laying.lay_cells.Goals as goal

pub loop-i-init : goal.loop-i-init
loop-i-init c = laying_start c.requires c.first-place.ensures.extents_kept c.first-place.ensures.number_value

pub lay_cell-reached-requires : goal.lay_cell-reached-requires
lay_cell-reached-requires c = cell_ok c.requires c.loop-i.invariant (omega arith)

pub loop-i-preserved : goal.loop-i-preserved
loop-i-preserved c = laying_on c.requires c.loop-i.invariant (omega arith) c.lay_cell-reached.ensures c.following-place.ensures.extents_kept c.following-place.ensures.number_value
