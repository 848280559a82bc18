-- `sweep::upper` meets its contract. The loop's invariant: what is left to do from here gives what the whole gives, and the correction
-- of the row before is held.
use mathlib.Core.Path.{◌≡◌, refl, sym, ap, ◌∙◌}
use Prim.Native.Nat.{◌+◌, ◌-◌, ◌<◌}
use lib.ListN.{length, length-set}
use lib.Seq.{get_or-set_same}
use lib.Ieee.{nan}
use Rattle.store.proofs.store.Loop.{left_start, left_on}
use Rattle.matrix.proofs.matrix.Turns.{vectors_resize}
use Rattle.gauss_seidel.proofs.Turns.{upper_on, stored}
use native.Mathlib.Omega.{arith}
use Rattle.dic.proofs.sweep.upper.Goals as goal

pub loop-i-init : goal.loop-i-init
loop-i-init c =
    let a = c.args in
    let first : a.correction + a.s.rows ≡ a.correction + (a.s.rows - 0) = omega arith in
    (refl, left_start, record { is = λ _. rw first at c.float_at-held.ensures })

pub upper_value-value-requires : goal.upper_value-value-requires
upper_value-value-requires c =
    let at-loop = c in
    let start = at-loop in
    record { vectors_ok = vectors_resize start.requires.vectors_ok at-loop.loop-i.invariant.0; row_lt_rows = omega arith; held = at-loop.loop-i.invariant.2 }

pub put-held-requires : goal.put-held-requires
put-held-requires c =
    let at-loop = c in
    let start = at-loop in
    let a = start.args in
    let row = a.s.rows - 1 - at-loop.loop-i.i in
    let inside : a.correction + row < length at-loop.loop-i.f = omega arith in
    record { i_in_bounds = simp length-set (omega arith); held = record { is = λ _. sym (get_or-set_same at-loop.loop-i.f (a.correction + row) _ nan inside) } }

pub loop-i-preserved : goal.loop-i-preserved
loop-i-preserved c =
    let at-upper-value = c in
    let at-if1 = at-upper-value in
    let at-loop = at-if1 in
    let start = at-loop in
    let a = start.args in
    let i = at-loop.loop-i.i in
    let next : a.correction + (a.s.rows - 1 - i) ≡ a.correction + (a.s.rows - (i + 1)) = omega arith in (
      ap length c.put-held.ensures.is ∙ simp length-set at-loop.loop-i.invariant.0,
      left_on at-loop.loop-i.invariant.1 at-if1.loop-i-test.true (upper_on _ _ _ _ _ _ _ _ _ _ _ _ _ at-upper-value.upper_value-value.ensures refl c.put-held.ensures),
      rw next at c.put-held.ensures.held,
    )

pub returns : goal.returns
returns c = stored c.loop-i.invariant.0 c.loop-i.invariant.1 c.loop-i-test.false
