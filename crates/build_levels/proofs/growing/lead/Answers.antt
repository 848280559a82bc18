-- `growing::lead` meets its contract: one law for each way out.
use Rattle.refusal.proofs.Outcome.{passed_up}
use Rattle.build_levels.proofs.growing.Growing.{last_ok, led_last, led_last_no, descend_ok, led_refused, charged_ok, led_charged, led_short}
use Rattle.build_levels.proofs.growing.lead.Goals as goal

pub last-requires : goal.last-requires
last-requires c = last_ok c.requires c.choose-count.ensures

pub returns-in_err-g : goal.returns-in_err-g
returns-in_err-g c =
    rw (passed_up _ c.from_residual.ensures.1)
    (led_last_no c.requires c.choose-count.ensures c.if-count-s.true c.last.ensures c.in_err-g.was)

pub returns-then-count-s : goal.returns-then-count-s
returns-then-count-s c = led_last c.requires c.choose-count.ensures c.if-count-s.true c.last.ensures c.in_ok-g.was

pub descend-requires : goal.descend-requires
descend-requires c = descend_ok c.requires c.choose-count.ensures c.if-count-s.false

pub charged-requires : goal.charged-requires
charged-requires c = charged_ok c.requires c.choose-count.ensures c.if-count-s.false c.descend.ensures c.in_ok-down.was

pub returns-in_err-down : goal.returns-in_err-down
returns-in_err-down c =
    rw (passed_up _ c.from_residual-in_err-down.ensures.1)
    (led_refused c.requires c.choose-count.ensures c.if-count-s.false c.descend.ensures c.in_err-down.was)

pub returns-in_err-next : goal.returns-in_err-next
returns-in_err-next c =
    rw (passed_up _ c.from_residual-in_err-next.ensures.1)
    (led_short c.requires c.choose-count.ensures c.if-count-s.false c.descend.ensures c.in_ok-down.was
    c.charged.ensures c.in_err-next.was)

pub returns : goal.returns
returns c =
    led_charged c.requires c.choose-count.ensures c.if-count-s.false c.descend.ensures c.in_ok-down.was
    c.charged.ensures c.in_ok-next.was
