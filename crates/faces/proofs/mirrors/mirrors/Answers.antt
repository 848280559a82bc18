-- `mirrors::mirrors` meets its contract. The loop's invariant: the entries before e have their mirrors.
use Rattle.faces.proofs.faces.Walking.{walking_seek, walking_column, mirroring_start, mirroring_entry, mirroring_room, mirroring_on, mirroring_no, mirroring_done}
use Rattle.faces.proofs.mirrors.mirrors.Goals as goal

pub loop-e-init : goal.loop-e-init
loop-e-init c = mirroring_start c.requires

pub row_from-row-requires : goal.row_from-row-requires
row_from-row-requires c = walking_seek c.loop-e.invariant.walking c.loop-e-test.true

pub index_at-column-requires : goal.index_at-column-requires
index_at-column-requires c =
    let pair = walking_column c.loop-e.invariant.walking
    c.loop-e-test.true in
    record { k_in_bounds = pair.0; k_bound = pair.1 }

pub mirror_at-requires : goal.mirror_at-requires
mirror_at-requires c = mirroring_entry c.loop-e.invariant
    c.loop-e-test.true c.row_from-row.ensures
    c.index_at-column.ensures.value

pub push_if-face-requires : goal.push_if-face-requires
push_if-face-requires c = mirroring_room c.loop-e.invariant
    c.loop-e-test.true
    c.row_from-row.ensures
    c.index_at-column.ensures.value c.in-Some.ensures

pub loop-e-preserved : goal.loop-e-preserved
loop-e-preserved c = mirroring_on c.loop-e.invariant c.loop-e-test.true
    c.row_from-row.ensures
    c.index_at-column.ensures.value
    c.in-Some.ensures
    c.push_if-face.ensures

pub returns-in_default : goal.returns-in_default
returns-in_default c = mirroring_no c.loop-e.invariant
    c.loop-e-test.true
    c.row_from-row.ensures c.index_at-column.ensures.value c.in_default.ensures

pub returns : goal.returns
returns c = mirroring_done c.loop-e.invariant c.loop-e-test.false
