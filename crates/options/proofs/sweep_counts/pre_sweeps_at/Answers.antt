-- `pre_sweeps_at` is the definition's count: saturating does not show under the maximum.
use borrow.Author.Tests.{eq-eqb, ne_eqb}
use native.Mathlib.Omega.{arith}
use Rattle.options.specs.Counts.{pre_sweeps_of}
use Rattle.options.proofs.sweep_counts.pre_sweeps_at.Goals as goal
use Rattle.options.proofs.sweep_counts.pre_sweeps_at.Goals.{then-o-eq0, else-o-eq0}

pub returns-then-depth-eq0 : goal.returns-then-depth-eq0
unfolding pre_sweeps_of
returns-then-depth-eq0 c = rw c.if-depth-eq0.true

pub returns : goal.returns
unfolding pre_sweeps_of
returns c =
    rw (ne_eqb _ _ c.if-depth-eq0.false)
    (elim c.if-o-eq0.branch [
      | then-o-eq0 w ↦ rw (eq-eqb _ _ w.if-o-eq0.true) (omega arith)
      | else-o-eq0 w ↦ rw (ne_eqb _ _ w.if-o-eq0.false) (omega arith)
    ])
