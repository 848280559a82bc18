use Rattle.roots.proofs.Replay.{Lines}
use Rattle.roots.proofs.differences.Given as goal

abbrev pub invariant-loop-line : goal.invariant-loop-line
invariant-loop-line l = Lines l.s l.count l.line
