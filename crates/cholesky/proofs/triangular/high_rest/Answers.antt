-- `triangular::high_rest` meets its contract. The loop's invariant: the products that are left give what all of them give.
use native.Mathlib.Omega.{arith}
use Rattle.store.proofs.store.Loop.{left_start, left_on}
use Rattle.cholesky.proofs.packed.Triangles.{up_next, up_on}
use Rattle.cholesky.proofs.triangular.Substitution.{up_row, cross_on, high_done}
use Rattle.cholesky.proofs.triangular.high_rest.Goals as goal

pub loop-k-init : goal.loop-k-init
loop-k-init c = (up_next c.requires.row_at, omega arith, left_start)

pub loop-k-preserved : goal.loop-k-preserved
loop-k-preserved c = (up_on c.loop-k.invariant.0, omega (arith, c.loop-k.invariant.1), left_on c.loop-k.invariant.2 c.loop-k-test.true (cross_on _ _ _ _ _ _ _ _ c.loop-k.invariant.0))

pub returns : goal.returns
returns c = high_done c.requires.solve_ok c.requires.row_at c.loop-k.invariant.2 c.loop-k-test.false

pub overflow_add-value-in-loop-k : goal.overflow_add-value-in-loop-k
overflow_add-value-in-loop-k c = omega (arith, up_row c.loop-k.invariant.0 c.loop-k-test.true, c.loop-k.invariant.1, c.loop-k-test.true, c.requires.solve_ok, c.well_formed.0)

pub overflow_add-value-in-loop-k-2 : goal.overflow_add-value-in-loop-k-2
overflow_add-value-in-loop-k-2 c = omega (arith, up_row c.loop-k.invariant.0 c.loop-k-test.true, c.loop-k.invariant.1, c.loop-k-test.true, c.requires.solve_ok, c.well_formed.0)

pub offset_bounds-f-l : goal.offset_bounds-f-l
offset_bounds-f-l c = omega (arith, up_row c.loop-k.invariant.0 c.loop-k-test.true, c.loop-k.invariant.1, c.loop-k-test.true, c.requires.solve_ok, c.well_formed.0)

pub bounds-f-l : goal.bounds-f-l
bounds-f-l c = omega (arith, up_row c.loop-k.invariant.0 c.loop-k-test.true, c.loop-k.invariant.1, c.loop-k-test.true, c.requires.solve_ok, c.well_formed.0)

pub overflow_add-value-in-loop-k-3 : goal.overflow_add-value-in-loop-k-3
overflow_add-value-in-loop-k-3 c = omega (arith, up_row c.loop-k.invariant.0 c.loop-k-test.true, c.loop-k.invariant.1, c.loop-k-test.true, c.requires.solve_ok, c.well_formed.0)

pub offset_bounds-f-x-in-loop-k : goal.offset_bounds-f-x-in-loop-k
offset_bounds-f-x-in-loop-k c = omega (arith, up_row c.loop-k.invariant.0 c.loop-k-test.true, c.loop-k.invariant.1, c.loop-k-test.true, c.requires.solve_ok, c.well_formed.0)

pub bounds-f-x-in-loop-k : goal.bounds-f-x-in-loop-k
bounds-f-x-in-loop-k c = omega (arith, up_row c.loop-k.invariant.0 c.loop-k-test.true, c.loop-k.invariant.1, c.loop-k-test.true, c.requires.solve_ok, c.well_formed.0)

pub overflow_add-own-in-loop-k : goal.overflow_add-own-in-loop-k
overflow_add-own-in-loop-k c = omega (arith, up_row c.loop-k.invariant.0 c.loop-k-test.true, c.loop-k.invariant.1, c.loop-k-test.true, c.requires.solve_ok, c.well_formed.0)

pub overflow_add-own-in-loop-k-2 : goal.overflow_add-own-in-loop-k-2
overflow_add-own-in-loop-k-2 c = omega (arith, up_row c.loop-k.invariant.0 c.loop-k-test.true, c.loop-k.invariant.1, c.loop-k-test.true, c.requires.solve_ok, c.well_formed.0)

pub overflow_add-value : goal.overflow_add-value
overflow_add-value c = omega (arith, c.requires.solve_ok, c.requires.row_at.fits, c.requires.row_at.within, c.well_formed.0)

pub offset_bounds-f-x : goal.offset_bounds-f-x
offset_bounds-f-x c = omega (arith, c.requires.solve_ok, c.requires.row_at.fits, c.requires.row_at.within, c.well_formed.0)

pub bounds-f-x : goal.bounds-f-x
bounds-f-x c = omega (arith, c.requires.solve_ok, c.requires.row_at.fits, c.requires.row_at.within, c.well_formed.0)

pub overflow_add-own : goal.overflow_add-own
overflow_add-own c = omega (arith, c.requires.solve_ok, c.requires.row_at.fits, c.requires.row_at.within, c.well_formed.0)

pub overflow_add-own-2 : goal.overflow_add-own-2
overflow_add-own-2 c = omega (arith, c.requires.solve_ok, c.requires.row_at.fits, c.requires.row_at.within, c.well_formed.0)
