-- Below the level the records are as a build leaves them.
use Rattle.std.proofs.Common.{length}
use Rattle.statistics.proofs.Records.{Fresh}
use Rattle.statistics.proofs.publish.Given as goal

abbrev pub invariant-loop-level : goal.invariant-loop-level
invariant-loop-level l = Fresh l.run.cells (length l.initial.statistics) l.level l.statistics
