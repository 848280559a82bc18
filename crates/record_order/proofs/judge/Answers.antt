-- `judge` meets its contract.
use Rattle.record_order.proofs.Ways.{next_short, next_sized, next_misplaced, next_unknown}
use Rattle.record_order.proofs.judge.Goals as goal

pub returns-then-b-lt2 : goal.returns-then-b-lt2
returns-then-b-lt2 c = search (next_short)

pub returns-in-Some : goal.returns-in-Some
returns-in-Some c = search (next_sized)

pub returns-in_default : goal.returns-in_default
returns-in_default c = search (next_misplaced)

pub returns-in_default-2 : goal.returns-in_default-2
returns-in_default-2 c = search (next_unknown)
