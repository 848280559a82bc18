-- What the matrices of a build are: of every level, and of every merged step between two. Definitions only.
use Rattle.std.specs.Prelude.{◌≡◌}
use Rattle.pattern.specs.Pattern.{Pattern, Valid, Rising, Mirrored, Diagonal, coarse, Maps, Onto}
use Rattle.hierarchy.specs.Build.{Merged}

-- Valid compressed rows with rising columns, in which each entry has its mirror and each row its diagonal entry.
pub record Proper (p : Pattern) : Type 0 where
  pub valid : Valid p
  pub rising : Rising p
  pub mirrored : Mirrored p
  pub diagonal : Diagonal p

-- What merged steps have made of a level of pattern p: a proper pattern, a map of the level's rows onto its rows, and it is the
-- pattern that this map makes of p itself.
pub record Joined (p : Pattern) (s : Merged) : Type 0 where
  pub proper : Proper s.mesh.pattern
  pub maps : Maps s.map p.rows s.mesh.pattern.rows
  pub onto : Onto s.map p.rows s.mesh.pattern.rows
  pub is : s.mesh.pattern ≡ coarse p s.map s.mesh.pattern.rows
