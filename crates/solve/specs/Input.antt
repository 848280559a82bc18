-- The input of a solve: questions 20 and 21 of mod.rs. Definitions only.
use Rattle.std.specs.Prelude.{Bool, ◌&&◌, List, ℕ, eqb, leb, Float, length}
use Rattle.solver.specs.declared.solver.LinearSolverOptions.{LinearSolverOptions}
use Rattle.options.specs.Options.{tolerable}
use Rattle.vector.specs.Finite.{all_finite}

-- question 20: right-hand side and solution have the row count
abbrev pub lengths_ok : ℕ → List Float → List Float → Bool
lengths_ok n rhs x = eqb (length rhs) n && eqb (length x) n

-- question 21: a limit above zero, tolerances finite and not below zero, both vectors finite
unfoldable pub input_ok : LinearSolverOptions → List Float → List Float → Bool
input_ok s rhs x =
    leb 1 s.max_iterations
    && tolerable s.absolute_tolerance
    && tolerable s.relative_tolerance
    && all_finite (length rhs) rhs
    && all_finite (length x) x
