-- What a conversion ensures, and its answer told as a struct, are what its export ensures.
-- Assumes nothing.
use Rattle.refusal.specs.declared.Refusal.{Refusal}
use Rattle.std.specs.Prelude.{Result}
use mathlib.Core.Path.{◌≡◌}
use mathlib.Core.List.{List}
use Prim.Native.Nat.{ℕ}
use Rattle.refusal.specs.Outcome.{Outcome}
use Rattle.record_format.specs.Format.{Matrix}
use Rattle.matrix_reader.specs.File.{ConvertedIs}
use Rattle.matrix_writer.specs.Contract.{WriteDone}
use Rattle.matrix_market_c.specs.declared.files.ConvertedForC.{ConvertedForC}
use Rattle.matrix_market_c.specs.Files.{converted_struct, ReadExported, WriteExported}

-- A reading.
pub read_exported : {o : Outcome Matrix} {F G : List ℕ} {b : Result ℕ Refusal} {r : ConvertedForC}
    → ConvertedIs o F G b → r ≡ converted_struct b → ReadExported o F G r
read_exported done told = record { done = rw done.answer at done; told = rw done.answer at told }

-- A writing.
pub write_exported : {o : Outcome (List ℕ)} {F G : List ℕ} {b : Result ℕ Refusal} {r : ConvertedForC}
    → WriteDone o F G b → r ≡ converted_struct b → WriteExported o F G r
write_exported done told = record { done = rw done.answer at done; told = rw done.answer at told }
