use mathlib.Core.Path.{◌≡◌}
use lib.ListN.{length}
use Rattle.smoother.proofs.Smoothing.{DicSweeping}
use Rattle.smoother.proofs.dic_sweeps.Given as goal

abbrev pub invariant-loop-i : goal.invariant-loop-i
invariant-loop-i l = (length l.f ≡ length l.initial.f) × DicSweeping l.w l.s l.dic l.v.rhs l.v.x l.v.work l.v.correction l.sweeps l._i l.initial.f l.f
