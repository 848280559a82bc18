-- `matrix_reader::head::three_sizes` meets its contract: three numbers, then a square, then the limits.
use Rattle.matrix_reader.proofs.Opening.{first_number, third_number, digits_two, sizes_other, sizes_uneven, sizes_large, sizes_read}
use Rattle.matrix_reader.proofs.head.three_sizes.Goals as goal

pub same_number-requires : goal.same_number-requires
same_number-requires c = digits_two c.args.a.now c.args.b.now c.args.c.now c.is_number-first.ensures c.is_number-second.ensures c.is_number-third.ensures c.if-first-second.true

pub number_of-rows-requires : goal.number_of-rows-requires
number_of-rows-requires c = first_number c.args.a.now c.args.b.now c.args.c.now c.is_number-first.ensures c.is_number-second.ensures c.is_number-third.ensures c.if-first-second.true

pub number_of-entries-requires : goal.number_of-entries-requires
number_of-entries-requires c = third_number c.args.a.now c.args.b.now c.args.c.now c.is_number-first.ensures c.is_number-second.ensures c.is_number-third.ensures c.if-first-second.true

pub returns-then-rows-entries : goal.returns-then-rows-entries
returns-then-rows-entries c = sizes_read c.args.a.now c.args.b.now c.args.c.now c.is_number-first.ensures c.is_number-second.ensures c.is_number-third.ensures c.if-first-second.true c.same_number.ensures c.if-same_number.true c.number_of-rows.ensures c.number_of-entries.ensures c.if-rows-entries.true

pub returns-then-same_number : goal.returns-then-same_number
returns-then-same_number c = sizes_large c.args.a.now c.args.b.now c.args.c.now c.is_number-first.ensures c.is_number-second.ensures c.is_number-third.ensures c.if-first-second.true c.same_number.ensures c.if-same_number.true c.number_of-rows.ensures c.number_of-entries.ensures c.if-rows-entries.false

pub returns-then-first-second : goal.returns-then-first-second
returns-then-first-second c = sizes_uneven c.args.a.now c.args.b.now c.args.c.now c.is_number-first.ensures c.is_number-second.ensures c.is_number-third.ensures c.if-first-second.true c.same_number.ensures c.if-same_number.false

pub returns : goal.returns
returns c = sizes_other c.args.a.now c.args.b.now c.args.c.now c.is_number-first.ensures c.is_number-second.ensures c.is_number-third.ensures c.if-first-second.false
