-- `smoother::gauss_seidels` meets its contract. The loop's invariant: x so far, of which what is left makes the whole.
use mathlib.Core.Path.{refl}
use Rattle.smoother.proofs.Smoothing.{smooth_sweep, gauss_seidel_start, gauss_seidel_on, gauss_seidel_done}
use borrow.Author.Rules.{rules}
use Rattle.smoother.proofs.gauss_seidels.Goals as goal

pub loop-i-init : goal.loop-i-init
loop-i-init c = (refl, gauss_seidel_start)

pub gauss_seidel-requires : goal.gauss_seidel-requires
gauss_seidel-requires c = search (smooth_sweep, rules)

pub loop-i-preserved : goal.loop-i-preserved
loop-i-preserved c = search (gauss_seidel_on, rules)

pub returns : goal.returns
returns c = search (gauss_seidel_done)
