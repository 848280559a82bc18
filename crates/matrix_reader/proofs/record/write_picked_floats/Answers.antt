-- `matrix_reader::record::write_picked_floats` meets its contract: the first k of them are written.
use mathlib.Core.Path.{refl}
use mathlib.Core.List.{map}
use lib.ListN.{length-map}
use lib.Ieee.{nan}
use Rattle.store.specs.Region.{at}
use Rattle.record_format.specs.Bytes.{float_bytes}
use Rattle.record_format.proofs.Written.{flat_start, flat_on, flat_end}
use Rattle.matrix_reader.proofs.Recorded.{picked, picked_end}
use native.Mathlib.Omega.{arith}
use Rattle.matrix_reader.proofs.record.write_picked_floats.Goals as goal

pub loop-k-init : goal.loop-k-init
loop-k-init c = (omega arith, flat_start float_bytes nan 8 _ (map (at c.args.floats.now) c.args.order.now))

pub offset_bounds-floats-i : goal.offset_bounds-floats-i
offset_bounds-floats-i c = omega (arith, c.wide-i.ensures, c.requires.below c.loop-k.k (omega arith))

pub bounds-floats-i : goal.bounds-floats-i
bounds-floats-i c = omega (arith, c.wide-i.ensures, c.requires.below c.loop-k.k (omega arith))

pub loop-k-preserved : goal.loop-k-preserved
loop-k-preserved c = (omega arith, flat_on float_bytes nan 8 _ (map (at c.args.floats.now) c.args.order.now) c.loop-k.invariant.1 (omega (arith, length-map c.args.order.now (at c.args.floats.now))) (picked float_bytes (at c.args.floats.now) nan 8 _ c.args.order.now c.loop-k.k (omega arith) c.wide-i.ensures refl c.put_f64.ensures))

pub returns : goal.returns
returns c = picked_end float_bytes (at c.args.floats.now) 8 _ c.args.order.now (flat_end float_bytes nan 8 _ (map (at c.args.floats.now) c.args.order.now) c.loop-k.invariant.1 (omega (arith, length-map c.args.order.now (at c.args.floats.now))) (omega (arith, length-map c.args.order.now (at c.args.floats.now))))
