-- `gathering::gather_row` meets its contract. The loop's invariant: row i of the chain comes next.
use Rattle.pattern.proofs.pattern.Gathering.{row_start_lem, row_entries_lem, row_later, row_on}
use native.Mathlib.Omega.{arith}
use Rattle.pattern.proofs.gathering.gather_row.Goals as goal

pub loop-i-init : goal.loop-i-init
loop-i-init c = row_start_lem c.requires c.wide-i.ensures

pub gather_entries-found-requires : goal.gather_entries-found-requires
gather_entries-found-requires c = row_entries_lem c.loop-i.invariant
    c.loop-i-test.true c.wide-lo.ensures
    c.wide-hi.ensures

pub loop-i-smaller : goal.loop-i-smaller
loop-i-smaller c = omega (
  arith,
  row_later c.loop-i.invariant
      c.loop-i-test.true
      c.wide-hi.ensures
      c.gather_entries-found.ensures c.wide-i-in-loop-i.ensures,
)

pub loop-i-preserved : goal.loop-i-preserved
loop-i-preserved c =
    row_on c.loop-i.invariant
    c.loop-i-test.true
    c.wide-hi.ensures
    c.gather_entries-found.ensures c.wide-i-in-loop-i.ensures
