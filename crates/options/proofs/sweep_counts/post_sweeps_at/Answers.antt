-- `post_sweeps_at` is the definition's count: saturating does not show under the maximum.
use borrow.Author.Tests.{ne_eqb}
use native.Mathlib.Omega.{arith}
use Rattle.options.specs.Counts.{post_sweeps_of}
use Rattle.options.proofs.sweep_counts.post_sweeps_at.Goals as goal

pub returns-then-depth-eq0 : goal.returns-then-depth-eq0
unfolding post_sweeps_of
returns-then-depth-eq0 c = rw c.if-depth-eq0.true

pub returns : goal.returns
unfolding post_sweeps_of
returns c = rw (ne_eqb _ _ c.if-depth-eq0.false) (omega arith)
