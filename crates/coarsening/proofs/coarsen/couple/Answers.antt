-- `coarsen::couple` meets its contract.
use Rattle.coarsening.proofs.coarsen.Coupling.{offsets_ok_lem, fill_ok, mirrors_ok, coupled}
use Rattle.coarsening.proofs.coarsen.couple.Goals as goal

pub face_offsets-faces-requires : goal.face_offsets-faces-requires
face_offsets-faces-requires c = offsets_ok_lem c.requires

pub fill_faces-requires : goal.fill_faces-requires
fill_faces-requires c =
    fill_ok c.requires c.face_offsets-faces.ensures

pub mirrors-requires : goal.mirrors-requires
mirrors-requires c =
    mirrors_ok c.requires
    c.face_offsets-faces.ensures c.fill_faces.ensures

pub returns : goal.returns
returns c =
    coupled c.requires
    c.face_offsets-faces.ensures
    c.fill_faces.ensures c.mirrors.ensures

pub shape_of-w : goal.shape_of-w
shape_of-w c = (returns c).kept.size
