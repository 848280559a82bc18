-- `triangular::lower_solve` meets its contract. The loop's invariant: the rows that are left give what all of them give.
use native.Mathlib.Omega.{arith}
use mathlib.Core.Path.{refl}
use lib.ListN.{length-set}
use Rattle.store.proofs.store.Loop.{left_start, left_on}
use Rattle.cholesky.proofs.packed.Triangles.{up_start, up_on}
use Rattle.cholesky.proofs.triangular.Substitution.{up_row, low_ok, low_on, lowered}
use Rattle.cholesky.proofs.triangular.lower_solve.Goals as goal

pub loop-row-init : goal.loop-row-init
loop-row-init c = (refl, up_start _, omega arith, left_start)

pub less-value-requires : goal.less-value-requires
less-value-requires c = low_ok c.requires c.loop-row.invariant.0 c.loop-row.invariant.1 c.loop-row-test.true

pub loop-row-preserved : goal.loop-row-preserved
loop-row-preserved c = (simp length-set c.loop-row.invariant.0, up_on c.loop-row.invariant.1, omega (arith, c.loop-row-test.true), left_on c.loop-row.invariant.3 c.loop-row-test.true (low_on _ _ _ _ _ _ _ c.loop-row.invariant.1 c.less-value.ensures))

pub returns : goal.returns
returns c = lowered c.requires c.loop-row.invariant.1 c.loop-row.invariant.2 c.loop-row.invariant.3 c.loop-row-test.false

pub overflow_add-own : goal.overflow_add-own
overflow_add-own c = omega (arith, up_row c.loop-row.invariant.1 c.loop-row-test.true, c.loop-row-test.true, c.requires, c.loop-row.invariant.0, c.well_formed.0)

pub offset_bounds-f-x : goal.offset_bounds-f-x
offset_bounds-f-x c = omega (arith, up_row c.loop-row.invariant.1 c.loop-row-test.true, c.loop-row-test.true, c.requires, c.loop-row.invariant.0, c.well_formed.0)

pub bounds-f-x : goal.bounds-f-x
bounds-f-x c = omega (arith, up_row c.loop-row.invariant.1 c.loop-row-test.true, c.loop-row-test.true, c.requires, c.loop-row.invariant.0, c.well_formed.0)

pub overflow_add-l : goal.overflow_add-l
overflow_add-l c = omega (arith, up_row c.loop-row.invariant.1 c.loop-row-test.true, c.loop-row-test.true, c.requires, c.loop-row.invariant.0, c.well_formed.0)

pub overflow_add-f : goal.overflow_add-f
overflow_add-f c = omega (arith, up_row c.loop-row.invariant.1 c.loop-row-test.true, c.loop-row-test.true, c.requires, c.loop-row.invariant.0, c.well_formed.0)

pub overflow_add-f-in-loop-row : goal.overflow_add-f-in-loop-row
overflow_add-f-in-loop-row c = omega (arith, up_row c.loop-row.invariant.1 c.loop-row-test.true, c.loop-row-test.true, c.requires, c.loop-row.invariant.0, c.well_formed.0)

pub offset_bounds-f-l : goal.offset_bounds-f-l
offset_bounds-f-l c = omega (arith, up_row c.loop-row.invariant.1 c.loop-row-test.true, c.loop-row-test.true, c.requires, c.loop-row.invariant.0, c.well_formed.0)

pub bounds-f-l : goal.bounds-f-l
bounds-f-l c = omega (arith, up_row c.loop-row.invariant.1 c.loop-row-test.true, c.loop-row-test.true, c.requires, c.loop-row.invariant.0, c.well_formed.0)

pub overflow_add-f-in-loop-row-2 : goal.overflow_add-f-in-loop-row-2
overflow_add-f-in-loop-row-2 c = omega (arith, up_row c.loop-row.invariant.1 c.loop-row-test.true, c.loop-row-test.true, c.requires, c.loop-row.invariant.0, c.well_formed.0)

pub offset_bounds-f-x-in-loop-row : goal.offset_bounds-f-x-in-loop-row
offset_bounds-f-x-in-loop-row c = omega (arith, up_row c.loop-row.invariant.1 c.loop-row-test.true, c.loop-row-test.true, c.requires, c.loop-row.invariant.0, c.well_formed.0)

pub bounds-f-x-in-loop-row : goal.bounds-f-x-in-loop-row
bounds-f-x-in-loop-row c = omega (arith, up_row c.loop-row.invariant.1 c.loop-row-test.true, c.loop-row-test.true, c.requires, c.loop-row.invariant.0, c.well_formed.0)

pub overflow_add-start : goal.overflow_add-start
overflow_add-start c = omega (arith, up_row c.loop-row.invariant.1 c.loop-row-test.true, c.loop-row-test.true, c.requires, c.loop-row.invariant.0, c.well_formed.0)

pub overflow_add-start-in-loop-row : goal.overflow_add-start-in-loop-row
overflow_add-start-in-loop-row c = omega (arith, up_row c.loop-row.invariant.1 c.loop-row-test.true, c.loop-row-test.true, c.requires, c.loop-row.invariant.0, c.well_formed.0)

pub shape_of-f : goal.shape_of-f
shape_of-f c = c.loop-row.invariant.0
