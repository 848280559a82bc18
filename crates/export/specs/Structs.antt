-- How the structs of C stand for controls, handle and answers. Definitions only.
use Rattle.solver.specs.declared.solver.LinearSolveReport.{LinearSolveReport}
use Rattle.std.specs.Prelude.{Bool, cond, ◌&&◌, ℕ, leb, Float, Result, Ok, Err}
use Rattle.std.specs.Float.{binary64}
use Rattle.std.specs.Float.Ieee.{of_bits}
use Rattle.refusal.specs.declared.Refusal.{Refusal}
use Rattle.options.specs.declared.options.MultigridOptions.{MultigridOptions}
use Rattle.options.specs.declared.options.MultigridSmoother.{MultigridSmoother}
use Rattle.options.specs.declared.options.MultigridResidualNorm.{MultigridResidualNorm}
use Rattle.options.specs.declared.options.MultigridCoarseSolver.{MultigridCoarseSolver}
use Rattle.options.specs.declared.options.Handle.{Handle}
use Rattle.options.specs.Options.{default_options}
use Rattle.solver.specs.declared.solver.LinearSolverStatus.{LinearSolverStatus}
use Rattle.solver.specs.declared.solver.LinearSolverOptions.{LinearSolverOptions}
use Rattle.export.specs.Flat.{options_of}
use Rattle.export.specs.declared.structs.OptionsForC.{OptionsForC}
use Rattle.export.specs.declared.structs.HierarchyForC.{HierarchyForC}
use Rattle.export.specs.declared.structs.AnswerForC.{AnswerForC}
use Rattle.export.specs.declared.structs.BuiltForC.{BuiltForC}
use Rattle.export.specs.declared.structs.ReportForC.{ReportForC}
use Rattle.export.specs.declared.structs.CountForC.{CountForC}

-- ---- what C hands over

-- whether the enums' numbers and the yes or no of a struct are those of enums, and 0 or 1
unfoldable pub in_range : OptionsForC → Bool
in_range o = leb o.smoother 2 && leb o.residual_norm 1 && leb o.coarse_solver 1 && leb o.scale_correction 1

-- the levels that a struct allows: none where its numbers are out of range
abbrev pub levels_allowed : OptionsForC → ℕ
levels_allowed o = cond (in_range o) o.max_levels 0

-- The controls that a struct stands for. One whose numbers are out of range stands for none: it is read as controls that allow no
-- level, which question 6 refuses (`out_of_range`), so that the calls need no question of their own for it.
unfoldable pub controls_of : OptionsForC → MultigridOptions
controls_of o =
    options_of o.smoother o.residual_norm o.pre_sweeps o.post_sweeps o.finest_sweeps o.sweep_level_multiplier
    o.max_sweeps o.coarsest_cells (levels_allowed o) o.merge_levels o.krylov_dimension o.coarse_solver
    o.coarse_absolute_tolerance o.coarse_relative_tolerance o.coarse_max_iterations o.scale_correction
    o.max_aggregate_cells

-- the handle that a struct stands for
unfoldable pub handle_of : HierarchyForC → Handle
handle_of h = record { options = controls_of h.options; levels = h.levels; rows = h.rows; entries = h.entries }

-- ---- controls as a struct

-- an enum's place in the source
abbrev pub smoother_number : MultigridSmoother → ℕ
smoother_number MultigridSmoother.GaussSeidel = 0
smoother_number MultigridSmoother.SymmetricGaussSeidel = 1
smoother_number MultigridSmoother.DicGaussSeidel = 2

-- the same of a norm
abbrev pub residual_norm_number : MultigridResidualNorm → ℕ
residual_norm_number MultigridResidualNorm.AbsoluteL2 = 0
residual_norm_number MultigridResidualNorm.NormalizedL1 = 1

-- the same of a coarse solver
abbrev pub coarse_solver_number : MultigridCoarseSolver → ℕ
coarse_solver_number MultigridCoarseSolver.PcgDic = 0
coarse_solver_number MultigridCoarseSolver.Cholesky = 1

-- the struct that stands for controls (`controls-back`)
unfoldable pub struct_of : MultigridOptions → OptionsForC
struct_of o = record {
  smoother = smoother_number o.smoother;
  residual_norm = residual_norm_number o.residual_norm;
  pre_sweeps = o.pre_sweeps;
  post_sweeps = o.post_sweeps;
  finest_sweeps = o.finest_sweeps;
  sweep_level_multiplier = o.sweep_level_multiplier;
  max_sweeps = o.max_sweeps;
  coarsest_cells = o.coarsest_cells;
  max_levels = o.max_levels;
  merge_levels = o.merge_levels;
  krylov_dimension = o.krylov_dimension;
  coarse_solver = coarse_solver_number o.coarse_solver;
  coarse_absolute_tolerance = o.coarse_absolute_tolerance;
  coarse_relative_tolerance = o.coarse_relative_tolerance;
  coarse_max_iterations = o.coarse_max_iterations;
  scale_correction = cond o.scale_correction 1 0;
  max_aggregate_cells = o.max_aggregate_cells;
}

-- controls with Cholesky for the coarse solver
abbrev pub with_cholesky : MultigridOptions → MultigridOptions
with_cholesky o = record {
  smoother = o.smoother;
  residual_norm = o.residual_norm;
  pre_sweeps = o.pre_sweeps;
  post_sweeps = o.post_sweeps;
  finest_sweeps = o.finest_sweeps;
  sweep_level_multiplier = o.sweep_level_multiplier;
  max_sweeps = o.max_sweeps;
  coarsest_cells = o.coarsest_cells;
  max_levels = o.max_levels;
  merge_levels = o.merge_levels;
  krylov_dimension = o.krylov_dimension;
  coarse_solver = MultigridCoarseSolver.Cholesky;
  coarse_absolute_tolerance = o.coarse_absolute_tolerance;
  coarse_relative_tolerance = o.coarse_relative_tolerance;
  coarse_max_iterations = o.coarse_max_iterations;
  scale_correction = o.scale_correction;
  max_aggregate_cells = o.max_aggregate_cells;
}

-- the controls that C starts from: the defaults of options.rs, with the coarse solver that question 7 asks for
unfoldable pub default_struct : OptionsForC
default_struct = struct_of (with_cholesky default_options)

-- the tolerances and the limit of a solve
abbrev pub limits_of : Float → Float → ℕ → LinearSolverOptions
limits_of absolute relative limit = record { absolute_tolerance = absolute; relative_tolerance = relative; max_iterations = limit }

-- ---- answers as structs

-- that nothing is refused
abbrev pub nothing_refused : AnswerForC
nothing_refused = record { question = 0; level = 0; row = 0 }

-- a refusal: its number, and where
abbrev pub refused_by : Refusal → AnswerForC
refused_by q = record { question = q.number; level = q.level; row = q.row }

-- a build's answer: the handle, with the controls as they were given; where it is refused, the handle has no level, row or entry
abbrev pub built_struct : OptionsForC → Result Handle Refusal → BuiltForC
built_struct o (Ok h) = record {
  answer = nothing_refused;
  hierarchy = record { options = o; levels = h.levels; rows = h.rows; entries = h.entries };
}
built_struct o (Err q) = record { answer = refused_by q; hierarchy = record { options = o; levels = 0; rows = 0; entries = 0 } }

-- an update's answer
abbrev pub updated_struct : Result Unit Refusal → AnswerForC
updated_struct (Ok tt) = nothing_refused
updated_struct (Err q) = refused_by q

-- 1 where a solve converged, 0 where the iterations are used up
abbrev pub converged_number : LinearSolverStatus → ℕ
converged_number LinearSolverStatus.Converged = 1
converged_number LinearSolverStatus.MaxIterations = 0

-- a solve's answer; where it is refused, all but the refusal is zero
abbrev pub solved_struct : Result LinearSolveReport Refusal → ReportForC
solved_struct (Ok v) = record {
  answer = nothing_refused;
  converged = converged_number v.status;
  iterations = v.iterations;
  initial_residual = v.initial_residual;
  final_residual = v.final_residual;
  relative_residual = v.relative_residual;
}
solved_struct (Err q) = record {
  answer = refused_by q;
  converged = 0;
  iterations = 0;
  initial_residual = of_bits binary64 0;
  final_residual = of_bits binary64 0;
  relative_residual = of_bits binary64 0;
}

-- the answer of `statistics`: how many records are the levels'
abbrev pub counted_struct : Result ℕ Refusal → CountForC
counted_struct (Ok levels) = record { answer = nothing_refused; levels = levels }
counted_struct (Err q) = record { answer = refused_by q; levels = 0 }
