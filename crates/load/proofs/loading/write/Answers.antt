-- `load::loading::write` meets its contract.
use Rattle.std.proofs.Common.{arith}
use Rattle.load.proofs.loading.Asking.{cells_ok, end_small, written}
use Rattle.load.proofs.loading.write.Goals as goal

pub lay_cells-reached-requires : goal.lay_cells-reached-requires
lay_cells-reached-requires c = cells_ok c.requires

pub overflow_cast-offsets : goal.overflow_cast-offsets
overflow_cast-offsets c = omega (arith, end_small c.lay_cells-reached.ensures (omega (arith, c.requires.all, c.requires.few.cells)))

pub returns : goal.returns
returns c = written c.lay_cells-reached.ensures
