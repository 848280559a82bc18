-- `matrix_market::lines::three_fields` meets its contract: four fields are looked for.
use Rattle.matrix_market.proofs.Fields.{three_are, three_no}
use Rattle.matrix_market.proofs.lines.three_fields.Goals as goal

pub next_field-second-requires : goal.next_field-second-requires
next_field-second-requires c = c.next_field-first.ensures.within

pub next_field-third-requires : goal.next_field-third-requires
next_field-third-requires c = c.next_field-second.ensures.within

pub next_field-fourth-requires : goal.next_field-fourth-requires
next_field-fourth-requires c = c.next_field-third.ensures.within

pub returns-then-start-line : goal.returns-then-start-line
returns-then-start-line c = three_are c.next_field-first.ensures c.next_field-second.ensures c.next_field-third.ensures c.next_field-fourth.ensures c.if-start-line.true

pub returns-else-start-line : goal.returns-else-start-line
returns-else-start-line c = three_no c.next_field-first.ensures c.next_field-second.ensures c.next_field-third.ensures c.next_field-fourth.ensures c.if-start-line.false
