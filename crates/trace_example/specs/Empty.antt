-- A drum with nothing in it: a mesh of no cells. Definitions only.
use Rattle.std.specs.Prelude.{true, [], ◌∷◌}
use Rattle.float.specs.Float.{zero64, one64}
use Rattle.solver.specs.declared.solver.LinearSolverStatus.{LinearSolverStatus}
use Rattle.refusal.specs.Refusal.{other_pattern}
use Rattle.trace_example.specs.Calls.{Answer, Example}
use Rattle.trace_example.specs.Cell.{half, controls}

-- converged before the first iteration, with no residual, no solution and no visit
abbrev pub still : Answer
still = record {
  report = record {
    status = LinearSolverStatus.Converged;
    iterations = 0;
    initial_residual = zero64;
    final_residual = zero64;
    relative_residual = zero64;
  };
  solution = [];
  counts = [];
}

-- The stores hold the fixed charge and no more. An update with one value is refused by question 31, one with none is accepted, and changes nothing.
abbrev pub drum : Example
drum = record {
  input = record { rows = 0; offsets = 0 ∷ []; columns = []; values = []; given = true; weights = []; options = controls };
  words = 64;
  floats = 1;
  statistics = 1;
  wrong = one64 ∷ [];
  refusal = other_pattern;
  right = [];
  rhs = [];
  start = [];
  asked = record { absolute_tolerance = zero64; relative_tolerance = half; max_iterations = 5 };
  before = still;
  after = still;
}
