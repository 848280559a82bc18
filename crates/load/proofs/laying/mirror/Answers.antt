-- `load::laying::mirror` meets its contract.
use Rattle.std.proofs.Common.{arith}
use Rattle.load.proofs.laying.Pushes.{mirror_in_lem, mirror_is}
use Rattle.load.proofs.laying.mirror.Goals as goal

pub overflow_sub-i : goal.overflow_sub-i
overflow_sub-i c = let m = mirror_in_lem c.requires c.if-there.true in omega arith

pub overflow_add-i : goal.overflow_add-i
overflow_add-i c = let m = mirror_in_lem c.requires c.if-there.true in omega arith

pub offset_bounds-offsets-i : goal.offset_bounds-offsets-i
offset_bounds-offsets-i c = let m = mirror_in_lem c.requires c.if-there.true in omega arith

pub bounds-offsets-i : goal.bounds-offsets-i
bounds-offsets-i c = let m = mirror_in_lem c.requires c.if-there.true in omega arith

pub overflow_sub-result : goal.overflow_sub-result
overflow_sub-result c = let m = mirror_in_lem c.requires c.if-there.true in omega arith

pub offset_bounds-values-end : goal.offset_bounds-values-end
offset_bounds-values-end c = let m = mirror_in_lem c.requires c.if-there.true in omega arith

pub bounds-values-end : goal.bounds-values-end
bounds-values-end c = let m = mirror_in_lem c.requires c.if-there.true in omega arith

pub returns-then-there : goal.returns-then-there
returns-then-there c =
    let a = c.args in
    mirror_is a.i a.stride a.back c.wide-end.result a.offsets.now a.values.now c.if-there.true c.wide-end.ensures
