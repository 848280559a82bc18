-- Where the counters of a level stand among its four. Definitions only.
use Rattle.std.specs.Prelude.{ℕ}
use Rattle.cycle.specs.declared.Counter.{Counter}

abbrev pub place_of : Counter → ℕ
place_of Counter.Visits = 0
place_of Counter.PreSweeps = 1
place_of Counter.PostSweeps = 2
place_of Counter.CoarseIterations = 3
