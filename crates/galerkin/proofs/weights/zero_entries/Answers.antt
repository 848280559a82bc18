-- `weights::zero_entries` meets its contract. The loop's invariant: what is left of the entries gives the whole.
use borrow.Author.Rules.{rules}
use Rattle.galerkin.specs.Turns.{zero_entries}
use Rattle.galerkin.proofs.galerkin.Region.{going_start, going_end}
use Rattle.galerkin.proofs.galerkin.Turns.{zero_on, zero_off}
use Rattle.galerkin.proofs.weights.zero_entries.Goals as goal
use Rattle.galerkin.proofs.weights.zero_entries.Goals.{then-wide-row, else-wide-row}

pub loop-e-init : goal.loop-e-init
unfolding zero_entries
loop-e-init c = search (going_start, rules)

pub loop-e-preserved : goal.loop-e-preserved
loop-e-preserved c = elim c.if-wide-row.branch [ then-wide-row w ↦ search (zero_on, rules) | else-wide-row w ↦ search (zero_off, rules) ]

pub returns : goal.returns
returns c = search (going_end, rules)
