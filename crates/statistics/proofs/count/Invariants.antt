-- Below the depth the records have what the solve counted, from there on they are as they were.
use Rattle.statistics.proofs.Records.{Counting}
use Rattle.statistics.proofs.count.Given as goal

abbrev pub invariant-loop-depth : goal.invariant-loop-depth
invariant-loop-depth l = Counting l.run.counts l.run.levels l.initial.statistics l.depth l.statistics
