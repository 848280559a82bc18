-- `dic::dic_pivots` meets its contract. The loop's invariant: the pivots so far, of which what is left makes the whole.
use mathlib.Core.Path.{refl}
use Rattle.gauss_seidel.proofs.Turns.{first_at}
use Rattle.dic.proofs.dic.Turns.{dic_resize}
use Rattle.dic.proofs.dic.Dic.{pivots_start, pivots_on, pivots_no, pivots_done}
use native.Mathlib.Omega.{arith}
use borrow.Author.Rules.{rules}
use Rattle.dic.proofs.dic.dic_pivots.Goals as goal

pub few_faces-near-requires : goal.few_faces-near-requires
few_faces-near-requires c = omega (arith, c.requires.dic_ok.kernel.starts)

pub loop-row-init : goal.loop-row-init
loop-row-init c =
    let start = c in
    (refl, pivots_start start.requires.dic_ok start.requires.f_value, search (first_at, rules))

pub pivot_row-pivot-requires : goal.pivot_row-pivot-requires
pivot_row-pivot-requires c =
    let at-if1 = c in
    let at-loop = at-if1 in
    let start = at-loop in
    record { dic_ok = dic_resize start.requires.dic_ok at-loop.loop-row.invariant.0; row_lt_rows = at-if1.loop-row-test.true }

pub loop-row-preserved : goal.loop-row-preserved
loop-row-preserved c =
    let at-if2 = c in
    let at-is-pivot = at-if2 in
    let at-if1 = at-is-pivot in
    let at-loop = at-if1 in
    let start = at-loop in (
      search rules,
      pivots_on _ start.requires.dic_ok at-loop.loop-row.invariant.1 at-if1.loop-row-test.true c.pivot_row-pivot.ensures at-loop.loop-row.invariant.2 at-is-pivot.is_pivot.ensures at-if2.if-not-is_pivot.false,
      c.pivot_row-pivot.ensures.next,
    )

pub returns-then-not-is_pivot : goal.returns-then-not-is_pivot
returns-then-not-is_pivot c =
    let at-loop = c in
    let start = at-loop in
    pivots_no _ start.requires.dic_ok at-loop.loop-row.invariant.1 c.loop-row-test.true at-loop.loop-row.invariant.2 c.is_pivot.ensures c.if-not-is_pivot.true

pub returns : goal.returns
returns c = pivots_done c.loop-row.invariant.1 c.loop-row-test.false
