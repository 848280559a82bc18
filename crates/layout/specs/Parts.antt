-- A level's place as the float kernels, the faces and the terminal solve take it. Definitions only.
use Rattle.std.specs.Prelude.{ℕ}
use Rattle.matrix.specs.declared.matrix.SymmetricMatrix.{SymmetricMatrix}
use Rattle.coefficients.specs.declared.values.entries.Entries.{Entries}
use Rattle.cholesky.specs.declared.Terminal.{Terminal}
use Rattle.faces.specs.declared.faces.Faces.{Faces}
use Rattle.layout.specs.declared.Place.{Place}

-- the kernel
abbrev pub kernel_in : Place → SymmetricMatrix
kernel_in p = record {
  rows = p.rows;
  diagonal = p.diagonal;
  inverse = p.inverse;
  offsets = p.starts;
  neighbors = p.neighbors;
  coefficients = p.coefficients;
}

-- the entries that it is updated from
abbrev pub entries_in : Place → Entries
entries_in p = record { entries = p.entries; values = p.values; diagonals = p.diagonals; faces = p.uppers }

-- the pattern and its faces
abbrev pub faces_in : Place → Faces
faces_in p = record {
  rows = p.rows;
  entries = p.entries;
  faces = p.faces;
  offsets = p.offsets;
  columns = p.columns;
  starts = p.starts;
  diagonals = p.diagonals;
  neighbors = p.neighbors;
  uppers = p.uppers;
  lowers = p.lowers;
}

-- the terminal solve of so many coupled rows
abbrev pub terminal_in : Place → ℕ → Terminal
terminal_in p coupled = record {
  rows = p.rows;
  entries = p.entries;
  offsets = p.offsets;
  columns = p.columns;
  values = p.values;
  size = coupled;
  coupled = p.links;
  factor = p.factor;
}
