-- What a record or an answer makes of a run, by the case that the code meets. Assumes nothing.
use Rattle.std.specs.Prelude.{Result, Ok, Err}
use mathlib.Core.Path.{◌≡◌, refl}
use mathlib.Core.Bool.{false}
use Prim.Native.Nat.{ℕ}
use Rattle.refusal.specs.declared.Refusal.{Refusal}
use Rattle.options.specs.declared.options.MultigridOptions.{MultigridOptions}
use Rattle.options.specs.declared.options.Handle.{Handle}
use Rattle.options.specs.Options.{default_options}
use Rattle.solver.specs.declared.solver.LinearSolveReport.{LinearSolveReport}
use Rattle.record_format.specs.declared.marks.Mark.{Mark}
use Rattle.record_format.specs.declared.matrix.MatrixSizes.{MatrixSizes}
use Rattle.record_order.specs.declared.Came.{Came}
use Rattle.record_order.specs.Order.{nothing, after_of}
use Rattle.press_run.specs.declared.run.Run.{Run}
use Rattle.press_run.specs.Run.{started, ended, went_on, controls_taken, matrix_taken, weights_taken, build_taken, update_taken, solve_taken}

pub start_is : {o : MultigridOptions} {c : Came} → o ≡ default_options → c ≡ nothing
    → record { over = false; came = c; options = o; handle = record { options = o; levels = 0; rows = 0; entries = 0 } } ≡ started
start_is e f = rw (e, f)

pub went_on_lem : (p : Run) (m : Mark) (rows entries : ℕ) {c : Came} → c ≡ after_of p.came m rows entries
    → record { over = p.over; came = c; options = p.options; handle = p.handle } ≡ went_on p m rows entries
went_on_lem p m rows entries e = rw e

pub controls_kept : (p : Run) {r : Result MultigridOptions Refusal} {o : MultigridOptions} {q : Run} → r ≡ Ok o → q ≡ went_on p Mark.Controls 0 0
    → record { over = q.over; came = q.came; options = o; handle = q.handle } ≡ controls_taken p r
controls_kept p e f = rw (e, f)

pub controls_over : (p : Run) {r : Result MultigridOptions Refusal} {why : Refusal} {q : Run} → r ≡ Err why → q ≡ ended p → q ≡ controls_taken p r
controls_over p e f = rw e f

pub matrix_kept : (p : Run) {r : Result MatrixSizes Refusal} {s : MatrixSizes} {q : Run} → r ≡ Ok s → q ≡ went_on p Mark.Matrix s.rows s.entries → q ≡ matrix_taken p r
matrix_kept p e f = rw e f

pub matrix_over : (p : Run) {r : Result MatrixSizes Refusal} {why : Refusal} {q : Run} → r ≡ Err why → q ≡ ended p → q ≡ matrix_taken p r
matrix_over p e f = rw e f

pub weights_kept : (p : Run) {r : Result Unit Refusal} {q : Run} → r ≡ Ok tt → q ≡ went_on p Mark.Weights 0 0 → q ≡ weights_taken p r
weights_kept p e f = rw e f

pub weights_over : (p : Run) {r : Result Unit Refusal} {why : Refusal} {q : Run} → r ≡ Err why → q ≡ ended p → q ≡ weights_taken p r
weights_over p e f = rw e f

pub build_kept : (p : Run) {r : Result Handle Refusal} {h : Handle} → r ≡ Ok h → record { over = p.over; came = p.came; options = p.options; handle = h } ≡ build_taken p r
build_kept p e = rw e

pub build_over : (p : Run) {r : Result Handle Refusal} {why : Refusal} {q : Run} → r ≡ Err why → q ≡ ended p → q ≡ build_taken p r
build_over p e f = rw e f

pub update_kept : (p : Run) (r : Result Unit Refusal) → went_on p Mark.Update 0 0 ≡ update_taken p r
update_kept p (Ok tt) = refl
update_kept p (Err q) = refl

pub solve_kept : (p : Run) (r : Result LinearSolveReport Refusal) → went_on p Mark.Solve 0 0 ≡ solve_taken p r
solve_kept p (Ok t) = refl
solve_kept p (Err q) = refl
