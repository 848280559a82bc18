-- `load::cells::Place::following` meets its contract.
use Rattle.load.proofs.cells.Places.{placed_layer}
use Rattle.load.proofs.cells.Place.following.Goals as goal

pub invariant_of-result-2 : goal.invariant_of-result-2
invariant_of-result-2 c =
    let s = c.args.self in
    record { few = s.few; placed = placed_layer s.few s.placed c.requires.number_bound c.if-c-extents.false c.if-c-extents-2.false }
