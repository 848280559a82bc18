-- What the exported conversions ensure: what the call ensures, and its answer as a struct. Definitions only.
use Rattle.refusal.specs.declared.Refusal.{Refusal}
use Rattle.std.specs.Prelude.{◌≡◌, Bool, not, List, ℕ, eqb, Result, Ok, Err}
use Rattle.refusal.specs.Outcome.{Outcome}
use Rattle.export.specs.Structs.{nothing_refused, refused_by}
use Rattle.record_format.specs.Format.{Matrix}
use Rattle.matrix_reader.specs.File.{converted_answer, ConvertedIs}
use Rattle.matrix_writer.specs.Writing.{file_answer}
use Rattle.matrix_writer.specs.Contract.{WriteDone}
use Rattle.matrix_market_c.specs.declared.files.ConvertedForC.{ConvertedForC}

-- the answer of a conversion: the length of the record or of the text; where it is refused, 0
abbrev pub converted_struct : Result ℕ Refusal → ConvertedForC
converted_struct (Ok size) = record { answer = nothing_refused; length = size }
converted_struct (Err q) = record { answer = refused_by q; length = 0 }

-- What a reading ensures: what the call ensures, and its answer as a struct.
pub record ReadExported (o : Outcome Matrix) (F G : List ℕ) (r : ConvertedForC) : Type 0 where
  pub done : ConvertedIs o F G (converted_answer o)
  pub told : r ≡ converted_struct (converted_answer o)

-- a number as yes or no: 0 is no
abbrev pub yes_of : ℕ → Bool
yes_of n = not (eqb n 0)

-- What a writing ensures: what the call ensures, and its answer as a struct.
pub record WriteExported (o : Outcome (List ℕ)) (F G : List ℕ) (r : ConvertedForC) : Type 0 where
  pub done : WriteDone o F G (file_answer o)
  pub told : r ≡ converted_struct (file_answer o)
