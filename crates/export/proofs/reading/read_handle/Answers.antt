-- `read_handle` reads the controls and keeps the rest.
use Rattle.export.specs.Structs.{handle_of}
use Rattle.export.proofs.reading.read_handle.Goals as goal

pub returns : goal.returns
unfolding handle_of
returns c = rw c.read_options.ensures
