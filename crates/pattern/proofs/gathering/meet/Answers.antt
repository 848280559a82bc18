-- `gathering::meet` meets its contract: the aggregate is new in this row or not.
use Rattle.pattern.proofs.pattern.Gathering.{meet_room, meet_old, meet_new}
use native.Mathlib.Omega.{arith}
use Rattle.pattern.proofs.gathering.meet.Goals as goal

pub returns-then-last-stamp : goal.returns-then-last-stamp
returns-then-last-stamp c = meet_old c.requires c.index_at-j.ensures.value c.index_at-b.ensures.value c.fill_slot.ensures c.if-last-stamp.true

pub overflow_add-result : goal.overflow_add-result
overflow_add-result c = omega (arith, meet_room c.requires c.index_at-j.ensures.value c.index_at-b.ensures.value c.if-last-stamp.false)

pub returns-else-last-stamp : goal.returns-else-last-stamp
returns-else-last-stamp c = meet_new c.requires c.index_at-j.ensures.value c.index_at-b.ensures.value c.fill_slot.ensures c.if-last-stamp.false
