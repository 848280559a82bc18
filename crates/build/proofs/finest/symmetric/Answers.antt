-- `finest::symmetric` meets its contract: faces, mirrors, and the values of both.
use Rattle.build.proofs.finest.Mirroring.{offsets_ok_lem, fill_ok, mirrors_ok, values_ok_lem, compared, asymmetric}
use Rattle.build.proofs.finest.symmetric.Goals as goal

pub face_offsets-faces-requires : goal.face_offsets-faces-requires
face_offsets-faces-requires c = rw c.faces_of.ensures (offsets_ok_lem c.requires)

pub fill_faces-requires : goal.fill_faces-requires
fill_faces-requires c = rw c.faces_of-s.ensures (fill_ok c.requires (rw c.faces_of.ensures at c.face_offsets-faces.ensures))

pub mirrors-requires : goal.mirrors-requires
mirrors-requires c = rw c.faces_of-s.ensures (mirrors_ok c.requires (rw c.faces_of.ensures at c.face_offsets-faces.ensures) (rw c.faces_of-s.ensures at c.fill_faces.ensures))

pub mirrors_agree-requires : goal.mirrors_agree-requires
mirrors_agree-requires c = values_ok_lem c.requires (rw c.faces_of.ensures at c.face_offsets-faces.ensures) (rw c.faces_of-s.ensures at c.fill_faces.ensures) (rw c.faces_of-s.ensures at c.mirrors.ensures) c.if-mirrors.true

pub returns-then-mirrors : goal.returns-then-mirrors
returns-then-mirrors c = compared c.requires (rw c.faces_of.ensures at c.face_offsets-faces.ensures) (rw c.faces_of-s.ensures at c.fill_faces.ensures) (rw c.faces_of-s.ensures at c.mirrors.ensures) c.if-mirrors.true c.mirrors_agree.ensures

pub returns-else-mirrors : goal.returns-else-mirrors
returns-else-mirrors c =
    rw c.if-mirrors.false
    (asymmetric c.requires (rw c.faces_of.ensures at c.face_offsets-faces.ensures) (rw c.faces_of-s.ensures at c.fill_faces.ensures) (rw c.faces_of-s.ensures at c.mirrors.ensures) c.if-mirrors.false)
