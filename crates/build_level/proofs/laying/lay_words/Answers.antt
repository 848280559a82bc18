-- `laying::lay_words` meets its contract.
use Rattle.build_level.proofs.laying.Words.{offsets_ok_lem, words_laid}
use Rattle.build_level.proofs.laying.lay_words.Goals as goal

pub face_offsets-requires : goal.face_offsets-requires
face_offsets-requires c =
    offsets_ok_lem c.requires
    c.lay_pattern.ensures c.place_of-p.ensures c.faces_in-bare.ensures

pub returns : goal.returns
returns c =
    words_laid c.requires
    c.lay_pattern.ensures
    c.place_of-p.ensures c.faces_in-bare.ensures
    c.face_offsets.ensures
