-- The matrix that the code reads in the bytes of a record. Definitions only.
use Rattle.record_format.specs.Format.{Matrix}
use Rattle.matrix_writer.specs.declared.arrays.Arrays.{Arrays}
use Rattle.matrix_writer.specs.Contract.{sized_matrix}

-- the matrix of these arrays
abbrev pub matrix_in : Arrays → Matrix
matrix_in a = sized_matrix a.bytes.now a.rows a.entries
