-- `coupled::coupled_rows` meets its contract. The loop's invariant: the coupled rows before `row` have been pushed.
use Rattle.faces.proofs.faces.Coupling.{listing_start, listing_coupled, listing_room, listing_on, listing_done}
use Rattle.faces.proofs.coupled.coupled_rows.Goals as goal

pub loop-row-init : goal.loop-row-init
loop-row-init c = listing_start c.requires

pub is_coupled-coupled-requires : goal.is_coupled-coupled-requires
is_coupled-coupled-requires c =
    record { coupled_ok = listing_coupled c.loop-row.invariant; row_lt_rows = c.loop-row-test.true }

pub push_if-count-requires : goal.push_if-count-requires
push_if-count-requires c = listing_room c.loop-row.invariant c.loop-row-test.true
    c.is_coupled-coupled.ensures

pub loop-row-preserved : goal.loop-row-preserved
loop-row-preserved c = listing_on c.loop-row.invariant
    c.loop-row-test.true c.is_coupled-coupled.ensures
    c.push_if-count.ensures

pub returns : goal.returns
returns c = listing_done c.loop-row.invariant c.loop-row-test.false
