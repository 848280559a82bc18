-- `matrix_writer::lines::put_file` meets its contract: the pieces of the text, one behind another.
use native.Mathlib.Omega.{arith}
use Rattle.matrix_writer.proofs.Laying.{kind_length, size_length, file_laid}
use Rattle.matrix_writer.proofs.lines.put_file.Goals as goal

pub put_size-first-requires : goal.put_size-first-requires
put_size-first-requires c = omega (arith, c.put_bytes-kind.ensures.next, c.put_kind-size.ensures.next, kind_length c.args.source.now.symmetric)

pub put_rows-requires : goal.put_rows-requires
put_rows-requires c =
    omega (arith, c.put_bytes-kind.ensures.next, c.put_kind-size.ensures.next, c.put_size-first.ensures.next, kind_length c.args.source.now.symmetric, size_length c.args.source.now.arrays.rows c.count_written-count.result)

pub returns : goal.returns
returns c = file_laid _ _ c.count_written-count.ensures c.put_bytes-kind.ensures c.put_kind-size.ensures c.put_size-first.ensures c.put_rows.ensures
