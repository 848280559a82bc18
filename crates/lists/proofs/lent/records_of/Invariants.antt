use Rattle.std.proofs.Common.{◌≡◌, length}
use Rattle.store.specs.Loop.{for}
use Rattle.store.proofs.store.Loop.{Left}
use Rattle.lists.proofs.lent.Numbering.{read_turn}
use Rattle.lists.proofs.lent.records_of.Given as goal

abbrev pub invariant-loop-k : goal.invariant-loop-k
invariant-loop-k l = (length l.records ≡ 128) × (length l.initial.records ≡ 128) × Left (read_turn l.numbers) l.k 128 l.records (for (read_turn l.numbers) 0 128 l.initial.records)
