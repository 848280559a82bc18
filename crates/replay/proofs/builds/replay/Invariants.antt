-- No more builds differ than were made.
use Rattle.std.proofs.Common.{◌≤◌}
use Rattle.replay.proofs.builds.replay.Given as goal

abbrev pub invariant-loop : goal.invariant-loop
invariant-loop g l = (l.differences ≤ l.counter) × (l.counter ≤ l.builds)
