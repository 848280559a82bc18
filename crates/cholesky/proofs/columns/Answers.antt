-- `cholesky::columns` meets its contract. The loop's invariant: the columns that are left give what all of them give.
use native.Mathlib.Omega.{arith}
use mathlib.Core.Path.{refl}
use lib.ListN.{length-set}
use Rattle.store.proofs.store.Loop.{left_start, left_on}
use Rattle.cholesky.proofs.Rows.{col_start, col_on, ok_resize, less_ok, column_on, columns_done}
use Rattle.cholesky.proofs.columns.Goals as goal

pub loop-column-init : goal.loop-column-init
loop-column-init c = (refl, col_start _ _, left_start)

pub entry-a-requires : goal.entry-a-requires
entry-a-requires c =
    record { terminal_ok = ok_resize c.requires.terminal_ok c.loop-column.invariant.0; row_lt_size = c.requires.row_at.within; column_le_row = omega (arith, c.loop-column-test.true) }

pub less-value-requires : goal.less-value-requires
less-value-requires c = less_ok c.requires.terminal_ok c.requires.row_at c.loop-column.invariant.0 c.loop-column.invariant.1 c.loop-column-test.true

pub loop-column-preserved : goal.loop-column-preserved
loop-column-preserved c = (simp length-set c.loop-column.invariant.0, col_on c.requires.row_at c.loop-column.invariant.1 c.loop-column-test.true, left_on c.loop-column.invariant.2 c.loop-column-test.true (column_on _ _ _ _ _ _ _ _ _ c.requires.row_at c.loop-column.invariant.1 c.entry-a.ensures c.less-value.ensures))

pub returns : goal.returns
returns c = columns_done c.requires.terminal_ok c.requires.row_at c.loop-column.invariant.2 c.loop-column-test.false

pub overflow_add-l : goal.overflow_add-l
overflow_add-l c = omega (arith, c.loop-column-test.true, c.loop-column.invariant.1.below, c.requires.row_at.fits, c.requires.terminal_ok.factor, c.loop-column.invariant.0, c.well_formed.1.0)

pub overflow_add-l-in-loop-column : goal.overflow_add-l-in-loop-column
overflow_add-l-in-loop-column c = omega (arith, c.loop-column-test.true, c.loop-column.invariant.1.below, c.requires.row_at.fits, c.requires.terminal_ok.factor, c.loop-column.invariant.0, c.well_formed.1.0)

pub overflow_add-f : goal.overflow_add-f
overflow_add-f c = omega (arith, c.loop-column-test.true, c.loop-column.invariant.1.below, c.requires.row_at.fits, c.requires.terminal_ok.factor, c.loop-column.invariant.0, c.well_formed.1.0)

pub overflow_add-f-in-loop-column : goal.overflow_add-f-in-loop-column
overflow_add-f-in-loop-column c = omega (arith, c.loop-column-test.true, c.loop-column.invariant.1.below, c.requires.row_at.fits, c.requires.terminal_ok.factor, c.loop-column.invariant.0, c.well_formed.1.0)

pub offset_bounds-f-l : goal.offset_bounds-f-l
offset_bounds-f-l c = omega (arith, c.loop-column-test.true, c.loop-column.invariant.1.below, c.requires.row_at.fits, c.requires.terminal_ok.factor, c.loop-column.invariant.0, c.well_formed.1.0)

pub bounds-f-l : goal.bounds-f-l
bounds-f-l c = omega (arith, c.loop-column-test.true, c.loop-column.invariant.1.below, c.requires.row_at.fits, c.requires.terminal_ok.factor, c.loop-column.invariant.0, c.well_formed.1.0)

pub overflow_add-f-in-loop-column-2 : goal.overflow_add-f-in-loop-column-2
overflow_add-f-in-loop-column-2 c = omega (arith, c.loop-column-test.true, c.loop-column.invariant.1.below, c.requires.row_at.fits, c.requires.terminal_ok.factor, c.loop-column.invariant.0, c.well_formed.1.0)

pub overflow_add-f-in-loop-column-3 : goal.overflow_add-f-in-loop-column-3
overflow_add-f-in-loop-column-3 c = omega (arith, c.loop-column-test.true, c.loop-column.invariant.1.below, c.requires.row_at.fits, c.requires.terminal_ok.factor, c.loop-column.invariant.0, c.well_formed.1.0)

pub offset_bounds-f-l-in-loop-column : goal.offset_bounds-f-l-in-loop-column
offset_bounds-f-l-in-loop-column c = omega (arith, c.loop-column-test.true, c.loop-column.invariant.1.below, c.requires.row_at.fits, c.requires.terminal_ok.factor, c.loop-column.invariant.0, c.well_formed.1.0)

pub bounds-f-l-in-loop-column : goal.bounds-f-l-in-loop-column
bounds-f-l-in-loop-column c = omega (arith, c.loop-column-test.true, c.loop-column.invariant.1.below, c.requires.row_at.fits, c.requires.terminal_ok.factor, c.loop-column.invariant.0, c.well_formed.1.0)

pub overflow_add-own : goal.overflow_add-own
overflow_add-own c = omega (arith, c.loop-column-test.true, c.loop-column.invariant.1.below, c.requires.row_at.fits, c.requires.terminal_ok.factor, c.loop-column.invariant.0, c.well_formed.1.0)

pub overflow_add-own-in-loop-column : goal.overflow_add-own-in-loop-column
overflow_add-own-in-loop-column c = omega (arith, c.loop-column-test.true, c.loop-column.invariant.1.below, c.requires.row_at.fits, c.requires.terminal_ok.factor, c.loop-column.invariant.0, c.well_formed.1.0)

pub shape_of-f : goal.shape_of-f
shape_of-f c = c.loop-column.invariant.0
