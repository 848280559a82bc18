-- `matrix_reader::record::write_picked` meets its contract: the first k of them are written.
use mathlib.Core.List.{map}
use lib.ListN.{length-map}
use Rattle.store.specs.Region.{idx}
use Rattle.record_format.specs.Bytes.{bytes4}
use Rattle.record_format.proofs.Written.{flat_start, flat_on, flat_end}
use Rattle.matrix_reader.proofs.Recorded.{picked, picked_end}
use native.Mathlib.Omega.{arith}
use Rattle.matrix_reader.proofs.record.write_picked.Goals as goal

pub loop-k-init : goal.loop-k-init
loop-k-init c = (omega arith, flat_start bytes4 0 4 _ (map (idx c.args.words.now) c.args.order.now))

pub offset_bounds-words-i : goal.offset_bounds-words-i
offset_bounds-words-i c = omega (arith, c.wide-i.ensures, c.requires.below c.loop-k.k (omega arith))

pub bounds-words-i : goal.bounds-words-i
bounds-words-i c = omega (arith, c.wide-i.ensures, c.requires.below c.loop-k.k (omega arith))

pub loop-k-preserved : goal.loop-k-preserved
loop-k-preserved c = (omega arith, flat_on bytes4 0 4 _ (map (idx c.args.words.now) c.args.order.now) c.loop-k.invariant.1 (omega (arith, length-map c.args.order.now (idx c.args.words.now))) (picked bytes4 (idx c.args.words.now) 0 4 _ c.args.order.now c.loop-k.k (omega arith) c.wide-i.ensures c.from.ensures c.put_u32.ensures))

pub returns : goal.returns
returns c = picked_end bytes4 (idx c.args.words.now) 4 _ c.args.order.now (flat_end bytes4 0 4 _ (map (idx c.args.words.now) c.args.order.now) c.loop-k.invariant.1 (omega (arith, length-map c.args.order.now (idx c.args.words.now))) (omega (arith, length-map c.args.order.now (idx c.args.words.now))))
