-- `matrix_reader::head::kind_of` meets its contract: by the two headers.
use mathlib.Core.Path.{sym}
use lib.Seq.{length-take-le}
use Rattle.matrix_reader.proofs.Opening.{kind_symmetric, kind_general, kind_other}
use Rattle.matrix_reader.proofs.head.kind_of.Goals as goal

pub slice_bounds-line-end : goal.slice_bounds-line-end
slice_bounds-line-end c = sym (length-take-le c.first_line-n.result c.args.text.now c.first_line-n.ensures.within)

pub returns-then-same_bytes : goal.returns-then-same_bytes
returns-then-same_bytes c = kind_symmetric c.args.text.now c.first_line-n.ensures c.same_bytes.ensures c.if-same_bytes.true

pub returns-then-same_bytes-2 : goal.returns-then-same_bytes-2
returns-then-same_bytes-2 c = kind_general c.args.text.now c.first_line-n.ensures c.same_bytes.ensures c.if-same_bytes.false c.same_bytes-2.ensures c.if-same_bytes-2.true

pub returns : goal.returns
returns c = kind_other c.args.text.now c.first_line-n.ensures c.same_bytes.ensures c.if-same_bytes.false c.same_bytes-2.ensures c.if-same_bytes-2.false
