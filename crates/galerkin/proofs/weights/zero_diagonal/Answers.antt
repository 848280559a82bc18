-- `weights::zero_diagonal` meets its contract. The loop's invariant: what is left of the rows gives the whole.
use native.Mathlib.Omega.{arith}
use borrow.Author.Rules.{rules}
use Rattle.galerkin.specs.Values.{zero_diagonal_of}
use Rattle.galerkin.specs.Turns.{zero_entries}
use Rattle.galerkin.proofs.galerkin.Region.{going_start, going_end}
use Rattle.galerkin.proofs.galerkin.Turns.{row_ok, row_on}
use Rattle.galerkin.proofs.weights.zero_diagonal.Goals as goal

pub loop-row-init : goal.loop-row-init
unfolding zero_diagonal_of zero_entries
loop-row-init c = search (going_start, rules)

pub zero_entries-requires : goal.zero_entries-requires
zero_entries-requires c = search (row_ok, rules)

pub loop-row-preserved : goal.loop-row-preserved
loop-row-preserved c = row_on c.requires c.loop-row.invariant (omega arith) c.wide-lo.ensures c.wide-hi.ensures c.zero_entries.ensures

pub returns : goal.returns
returns c = search (going_end, rules)
