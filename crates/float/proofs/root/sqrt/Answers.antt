-- `root::sqrt` meets its contract: the special values by the tests, any other by its bits, which `packed` takes.
use mathlib.Core.Path.{sym, ◌∙◌, subst}
use Prim.Native.Nat.{◌%◌, ◌^◌}
use native.Mathlib.Omega.{arith}
use lib.Dec.{T}
use lib.Ieee.{binary64, to_bits, of_bits, div}
use Rattle.float.proofs.root.Split.{of_negative, of_rest, of_inf, is_above, above_no_nan, Shift, split_root}
use Rattle.float.proofs.root.Split.{field_lt, at_top, at_sub, at_normal}
use Rattle.float.proofs.root.sqrt.Goals as goal

pub returns-then-x : goal.returns-then-x
unfolding of_bits div
returns-then-x c = of_negative c.args.x c.if-x.true

pub returns-then-not-x : goal.returns-then-not-x
returns-then-not-x c = of_rest c.args.x c.if-x.false c.if-not-x.true

pub float_to_bits-bits : goal.float_to_bits-bits
float_to_bits-bits c = above_no_nan c.args.x (is_above c.args.x c.if-not-x.false)

pub returns-then-field-eq2047 : goal.returns-then-field-eq2047
returns-then-field-eq2047 c = of_inf c.args.x (at_top c.args.x (subst T (sym c.well_formed.0.1) tt) (is_above c.args.x c.if-not-x.false) c.if-field-eq2047.true)

-- A subnormal is shifted up.
shift : (c : goal.After-from-up) → Shift c.args.x (to_bits binary64 c.args.x % 2 ^ 52) c.from-up.result
shift c = rw c.from-up.ensures (at_sub c.args.x (subst T (sym c.well_formed.0.1) tt) (is_above c.args.x c.if-not-x.false) c.if-field-eq0.true)

pub packed-requires : goal.packed-requires
packed-requires c = (shift c).split.packs

pub returns-then-field-eq0 : goal.returns-then-field-eq0
returns-then-field-eq0 c =
    let is = at_sub c.args.x (subst T (sym c.well_formed.0.1) tt) (is_above c.args.x c.if-not-x.false) c.if-field-eq0.true in
    c.packed.ensures ∙ sym (split_root (rw c.from-up.ensures is.split))

pub overflow_sub-up : goal.overflow_sub-up
overflow_sub-up c = let h = (shift c).over in omega arith

pub overflow_shl-digits : goal.overflow_shl-digits
overflow_shl-digits c = let h = (shift c).few in omega arith

pub overflow_sub-up-then-field-eq0 : goal.overflow_sub-up-then-field-eq0
overflow_sub-up-then-field-eq0 c = let h = (shift c).few in omega arith

pub returns-else-field-eq0 : goal.returns-else-field-eq0
returns-else-field-eq0 c =
    c.packed-else-field-eq0.ensures
    ∙ sym (split_root (at_normal c.args.x (subst T (sym c.well_formed.0.1) tt) (is_above c.args.x c.if-not-x.false) c.if-field-eq2047.false c.if-field-eq0.false))

pub overflow_add-field : goal.overflow_add-field
overflow_add-field c = let h = field_lt c.args.x (subst T (sym c.well_formed.0.1) tt) (is_above c.args.x c.if-not-x.false) in omega arith

pub packed-requires-else-field-eq0 : goal.packed-requires-else-field-eq0
packed-requires-else-field-eq0 c =
    (at_normal c.args.x (subst T (sym c.well_formed.0.1) tt) (is_above c.args.x c.if-not-x.false) c.if-field-eq2047.false c.if-field-eq0.false).packs
