-- `gathering::gather_entries` meets its contract. The loop's invariant: the entries before e have been walked over.
use Rattle.pattern.proofs.pattern.Gathering.{entries_meet}
use Rattle.pattern.proofs.gathering.gather_entries.Goals as goal

pub meet-found-requires : goal.meet-found-requires
meet-found-requires c = entries_meet c.requires c.loop-e.invariant
    c.loop-e.auto.e c.loop-e-test.true
