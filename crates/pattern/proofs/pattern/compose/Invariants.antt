use Rattle.pattern.proofs.pattern.Composing.{Composing}
use Rattle.pattern.proofs.pattern.compose.Given as goal

abbrev pub invariant-loop-i : goal.invariant-loop-i
invariant-loop-i l = Composing l.initial.w l.w l.n l.map l.next l.i
