use Rattle.float.proofs.root.Digit.{Digits}
use Rattle.float.proofs.root.root.Given as goal

abbrev pub invariant-loop-i : goal.invariant-loop-i
invariant-loop-i l = Digits l.m l.root l.rest l.a l.i
