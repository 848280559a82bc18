use Rattle.std.proofs.Common.{◌≡◌, length}
use Rattle.store.specs.Loop.{for}
use Rattle.store.proofs.store.Loop.{Left}
use Rattle.lists.specs.Numbers.{record_back}
use Rattle.lists.proofs.lent.write_back.Given as goal

abbrev pub invariant-loop-k : goal.invariant-loop-k
invariant-loop-k l = (length l.numbers ≡ length l.initial.numbers) × Left (record_back l.records) l.k 128 l.numbers (for (record_back l.records) 0 128 l.initial.numbers)
