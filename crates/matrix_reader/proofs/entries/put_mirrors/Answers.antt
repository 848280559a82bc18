-- `matrix_reader::entries::put_mirrors` meets its contract: the mirrors of the entries passed stand behind all.
use Rattle.matrix_reader.proofs.Stored.{mirroring_start, mirroring_ok, mirroring_on, mirroring_done}
use native.Mathlib.Omega.{arith}
use Rattle.matrix_reader.proofs.entries.put_mirrors.Goals as goal

pub loop-k-init : goal.loop-k-init
loop-k-init c = mirroring_start c.args.m c.args.rows.now c.args.columns.now c.args.values.now

pub put_mirror-total-requires : goal.put_mirror-total-requires
put_mirror-total-requires c = mirroring_ok c.requires c.loop-k.invariant (omega arith)

pub loop-k-preserved : goal.loop-k-preserved
loop-k-preserved c = mirroring_on c.requires c.loop-k.invariant (omega arith) (omega arith) (omega arith) (omega arith) c.put_mirror-total.ensures

pub returns : goal.returns
returns c = mirroring_done c.requires c.loop-k.invariant (omega arith)
