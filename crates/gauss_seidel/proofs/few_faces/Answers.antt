-- `gauss_seidel::few_faces` meets its contract.
use mathlib.Core.Path.{ap}
use Prim.Native.Nat.{ℕ, ◌/◌}
use lib.Dec.{leb}
use Rattle.gauss_seidel.proofs.few_faces.Goals as goal

pub returns : goal.returns
returns c = ap (λ (n : ℕ). leb (n / 2) c.args.s.rows) c.wide.ensures
