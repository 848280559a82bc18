-- `LinearSolverOptions::default` gives the defaults; each decimal of the code is the f64 nearest to it.
use mathlib.Core.Path.{refl}
use lib.Ieee.{round, of_bits}
use Rattle.solver.specs.Solver.{default_solver}
use Rattle.solver.proofs.solver.LinearSolverOptionsDefault.default.Goals as goal

pub returns : goal.returns
unfolding default_solver round of_bits
returns c = refl
