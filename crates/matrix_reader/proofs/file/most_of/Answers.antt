-- `matrix_reader::file::most_of` meets its contract: by the kind.
use mathlib.Core.Path.{sym, ap}
use mathlib.Core.Bool.{Bool}
use Rattle.matrix_reader.specs.File.{most_of}
use Rattle.matrix_reader.proofs.file.most_of.Goals as goal

pub returns-then-symmetric : goal.returns-then-symmetric
returns-then-symmetric c = ap (λ (b : Bool). most_of b c.args.entries) (sym c.if-symmetric.true)
