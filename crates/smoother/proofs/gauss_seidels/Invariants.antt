use mathlib.Core.Path.{◌≡◌}
use lib.ListN.{length}
use Rattle.smoother.proofs.Smoothing.{GaussSeideling}
use Rattle.smoother.proofs.gauss_seidels.Given as goal

abbrev pub invariant-loop-i : goal.invariant-loop-i
invariant-loop-i l = (length l.f ≡ length l.initial.f) × GaussSeideling l.w l.s l.v.rhs l.v.x l.v.work l.v.correction l.symmetric l.sweeps l._i l.initial.f l.f
