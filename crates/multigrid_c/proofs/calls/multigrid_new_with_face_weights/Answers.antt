-- `multigrid_new_with_face_weights` reads its struct, builds and tells the answer.
use Rattle.multigrid_c.proofs.Telling.{build_exported}
use Rattle.multigrid_c.proofs.calls.multigrid_new_with_face_weights.Goals as goal

pub returns : goal.returns
returns c = build_exported c.read_options-controls.ensures c.new_with_face_weights-built.ensures c.tell_built.ensures
