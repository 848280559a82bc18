-- The turns of the loops, by the names that proofs have for them. Definitions only.
use Rattle.std.specs.Prelude.{Bool, List, ℕ, ◌+◌}
use Rattle.refusal.specs.Outcome.{Outcome}
use Rattle.store.specs.Region.{idx}
use Rattle.record_format.specs.Format.{Matrix}
use Rattle.matrix_writer.specs.Text.{Triplet, written_at}
use Rattle.matrix_writer.specs.Writing.{mirrors, entry_asked}

-- the k-th entry of row r, where it is written
unfoldable pub written_from : Bool → Matrix → ℕ → ℕ → List Triplet
written_from symmetric m r k = written_at symmetric m r (idx m.offsets r + k)

-- whether the k-th entry of row c is the mirror of entry e, which stands in row r
unfoldable pub mirrors_from : Matrix → ℕ → ℕ → ℕ → ℕ → Bool
mirrors_from m r e c k = mirrors m r e (idx m.offsets c + k)

-- what is asked of the k-th entry of row r
unfoldable pub asked_from : Bool → Matrix → ℕ → ℕ → Outcome Unit
asked_from symmetric m r k = entry_asked symmetric m r (idx m.offsets r + k)
