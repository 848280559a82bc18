-- `laying::lay_faces` meets its contract.
use Rattle.build_level.proofs.laying.Faces.{fill_ok, mirrors_ok, diagonals_ok, faces_laid}
use Rattle.build_level.proofs.laying.lay_faces.Goals as goal

pub fill_faces-requires : goal.fill_faces-requires
fill_faces-requires c = fill_ok c.requires c.faces_in-s.ensures

pub mirrors-requires : goal.mirrors-requires
mirrors-requires c =
    mirrors_ok c.requires
    c.faces_in-s.ensures c.fill_faces.ensures

pub diagonals-requires : goal.diagonals-requires
diagonals-requires c =
    diagonals_ok c.requires
    c.faces_in-s.ensures
    c.fill_faces.ensures c.mirrors.ensures

pub returns : goal.returns
returns c =
    faces_laid c.requires
    c.faces_in-s.ensures
    c.fill_faces.ensures
    c.mirrors.ensures c.diagonals.ensures
