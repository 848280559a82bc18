-- A run of a problem file between records, and what each record and each answer makes of it. Definitions only.
use Rattle.record_format.specs.declared.matrix.MatrixSizes.{MatrixSizes}
use Rattle.options.specs.declared.options.MultigridOptions.{MultigridOptions}
use Rattle.solver.specs.declared.solver.LinearSolveReport.{LinearSolveReport}
use Rattle.options.specs.declared.options.Handle.{Handle}
use Rattle.refusal.specs.declared.Refusal.{Refusal}
use Rattle.std.specs.Prelude.{Bool, true, false, not, ℕ, Result, Ok, Err}
use Rattle.options.specs.Options.{default_options}
use Rattle.record_format.specs.declared.marks.Mark.{Mark}
use Rattle.record_order.specs.Order.{nothing, after_of}
use Rattle.press_run.specs.declared.run.Run.{Run}

-- a run before its first record
abbrev pub started : Run
started = record {
  over = false;
  came = nothing;
  options = default_options;
  handle = record { options = default_options; levels = 0; rows = 0; entries = 0 };
}

-- a run that is over: nothing more is read
abbrev pub ended : Run → Run
ended p = record { over = true; came = p.came; options = p.options; handle = p.handle }

-- a run that goes on after a record of that mark
abbrev pub went_on : Run → Mark → ℕ → ℕ → Run
went_on p m rows entries = record { over = p.over; came = after_of p.came m rows entries; options = p.options; handle = p.handle }

-- after CO: the controls are kept; refused, the run is over
abbrev pub controls_taken : Run → Result MultigridOptions Refusal → Run
controls_taken p (Ok o) = record { over = p.over; came = after_of p.came Mark.Controls 0 0; options = o; handle = p.handle }
controls_taken p (Err q) = ended p

-- after MX: its sizes are kept; refused, the run is over
abbrev pub matrix_taken : Run → Result MatrixSizes Refusal → Run
matrix_taken p (Ok sizes) = went_on p Mark.Matrix sizes.rows sizes.entries
matrix_taken p (Err q) = ended p

-- after FW; refused, the run is over
abbrev pub weights_taken : Run → Result Unit Refusal → Run
weights_taken p (Ok tt) = went_on p Mark.Weights 0 0
weights_taken p (Err q) = ended p

-- whether a build is made before an UP or an SO acts, and at the end: there was none
abbrev pub builds_first : Run → Bool
builds_first p = not p.came.calls

-- after the build: its handle is kept; refused, the run is over
abbrev pub build_taken : Run → Result Handle Refusal → Run
build_taken p (Ok h) = record { over = p.over; came = p.came; options = p.options; handle = h }
build_taken p (Err q) = ended p

-- after an UP, done or refused: the run goes on
abbrev pub update_taken : Run → Result Unit Refusal → Run
update_taken p (Ok tt) = went_on p Mark.Update 0 0
update_taken p (Err q) = went_on p Mark.Update 0 0

-- after an SO, solved or refused: the run goes on
abbrev pub solve_taken : Run → Result LinearSolveReport Refusal → Run
solve_taken p (Ok r) = went_on p Mark.Solve 0 0
solve_taken p (Err q) = went_on p Mark.Solve 0 0
