-- `faces::fill_faces` meets its contract. The loop's invariant: the faces among the entries before e are written.
use Rattle.faces.proofs.faces.Walking.{walking_seek, walking_column, filling_start, filling_room, filling_room_2, filling_on, filling_done}
use Rattle.faces.proofs.faces.fill_faces.Goals as goal

pub loop-e-init : goal.loop-e-init
loop-e-init c = filling_start c.requires

pub row_from-row-requires : goal.row_from-row-requires
row_from-row-requires c = walking_seek c.loop-e.invariant.walking c.loop-e-test.true

pub index_at-column-requires : goal.index_at-column-requires
index_at-column-requires c =
    let pair = walking_column c.loop-e.invariant.walking
    c.loop-e-test.true in
    record { k_in_bounds = pair.0; k_bound = pair.1 }

pub push_if-requires : goal.push_if-requires
push_if-requires c = filling_room c.loop-e.invariant
    c.loop-e-test.true c.row_from-row.ensures
    c.index_at-column.ensures.value

pub push_if-face-requires : goal.push_if-face-requires
push_if-face-requires c = filling_room_2 c.loop-e.invariant c.loop-e-test.true
    c.row_from-row.ensures
    c.index_at-column.ensures.value c.push_if.ensures

pub loop-e-preserved : goal.loop-e-preserved
loop-e-preserved c = filling_on c.loop-e.invariant c.loop-e-test.true c.row_from-row.ensures
    c.index_at-column.ensures.value
    c.push_if.ensures c.push_if-face.ensures

pub returns : goal.returns
returns c = filling_done c.loop-e.invariant c.loop-e-test.false
