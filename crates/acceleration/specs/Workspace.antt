-- Where the stored pairs of a workspace stand. Definitions only.
use Rattle.std.specs.Prelude.{ℕ, ◌+◌, ◌*◌}
use Rattle.acceleration.specs.declared.workspace.GcrWorkspace.{GcrWorkspace}
use Rattle.acceleration.specs.declared.workspace.PairPlace.{PairPlace}

-- the place of the pair that has so many before it
abbrev pub pair_of : GcrWorkspace → ℕ → PairPlace
pair_of g before = record { direction = g.directions + before * g.rows; image = g.images + before * g.rows }
