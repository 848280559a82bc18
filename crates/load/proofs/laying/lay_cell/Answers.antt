-- `load::laying::lay_cell` meets its contract.
use Rattle.load.proofs.Cell.{row_ok, mirrors_ok, room_ok_lem, cell_done}
use Rattle.load.proofs.laying.lay_cell.Goals as goal

pub invariant_of-row : goal.invariant_of-row
invariant_of-row c = record { ok = row_ok c.requires c.faces-faces.ensures }

pub mirrors_of-m-requires : goal.mirrors_of-m-requires
mirrors_of-m-requires c = mirrors_ok c.requires c.faces-faces.ensures

pub push_row-end-requires-clause-room_for : goal.push_row-end-requires-clause-room_for
push_row-end-requires-clause-room_for c = room_ok_lem c.requires c.faces-faces.ensures

pub returns : goal.returns
returns c = cell_done c.requires c.faces-faces.ensures c.draw_all-d.ensures c.mirrors_of-m.ensures c.push_row-end.ensures
