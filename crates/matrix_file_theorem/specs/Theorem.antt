-- What reading a file gives that was written: the matrix, zero signs apart; and what it needs of lent slices. Definitions only.
use Rattle.std.specs.Prelude.{◌≡◌, Bool, true, cond, map, ◌≤◌, length, Float}
use Rattle.std.specs.Float.{binary64}
use Rattle.std.specs.Float.Ieee.{of_bits, eq}
use Rattle.record_format.specs.Format.{Matrix, matrix_length}
use Rattle.matrix_reader.specs.File.{Slices, has_room}
use Rattle.matrix_writer.specs.Text.{triplets}

-- v, with +0 in the place of -0
abbrev pub positive_zero : Float → Float
positive_zero v = cond (eq v (of_bits binary64 0)) (of_bits binary64 0) v

-- a matrix with +0 in the place of each -0
abbrev pub with_positive_zeros : Matrix → Matrix
with_positive_zeros m = record {
  rows = m.rows;
  entries = m.entries;
  offsets = m.offsets;
  columns = m.columns;
  values = map positive_zero m.values;
}

-- Slices that have room for the entries of a matrix's file, and an output that has room for its record.
pub record FileRoom (l : Slices) (symmetric : Bool) (m : Matrix) : Type 0 where
  pub entries : has_room l symmetric (record { rows = m.rows; entries = length (triplets symmetric m) }) ≡ true
  pub out : matrix_length m.rows m.entries ≤ l.out
