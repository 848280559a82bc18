-- `smoother::dic_sweeps` meets its contract. The loop's invariant: x so far, of which what is left makes the whole.
use mathlib.Core.Path.{refl}
use Rattle.smoother.proofs.Smoothing.{smooth_resize, dic_start, dic_on, dic_done}
use borrow.Author.Rules.{rules}
use Rattle.smoother.proofs.dic_sweeps.Goals as goal

pub loop-i-init : goal.loop-i-init
loop-i-init c = (refl, dic_start)

pub dic_sweep-requires : goal.dic_sweep-requires
dic_sweep-requires c = search (smooth_resize, rules)

pub loop-i-preserved : goal.loop-i-preserved
loop-i-preserved c = search (dic_on, rules)

pub returns : goal.returns
returns c = search (dic_done)
