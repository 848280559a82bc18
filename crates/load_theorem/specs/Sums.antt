-- The kernel of a pattern with values: what a build makes of its finest matrix. Definitions only.
use Rattle.std.specs.Prelude.{List, Float}
use Rattle.store.specs.Region.{at, idx}
use Rattle.store.specs.Vector.{tab}
use Rattle.matrix.specs.Kernel.{Kernel}
use Rattle.pattern.specs.Pattern.{Pattern}
use Rattle.faces.specs.Faces.{faces_of, uppers_of, face_offsets_of, neighbors_of, diagonals_of}

-- the diagonal entries and the faces, as `kernelUpdateOf` takes them; row sums read no reciprocals
abbrev pub kernel_for : Pattern → List Float → List Float → Kernel
kernel_for p values inverse = record {
  rows = p.rows;
  diagonal = tab (λ r. at values (idx (diagonals_of p) r)) p.rows;
  inverse = inverse;
  offsets = face_offsets_of p;
  neighbors = neighbors_of p;
  coefficients = tab (λ k. at values (idx (uppers_of p) k)) (faces_of p);
}
