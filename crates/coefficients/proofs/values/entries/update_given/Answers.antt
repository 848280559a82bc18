-- `values::entries::update_given` meets its contract.
use Rattle.coefficients.proofs.values.UpdateLaws.{rows_given, given_told}
use native.Mathlib.Omega.{arith}
use Rattle.coefficients.proofs.values.entries.update_given.Goals as goal

pub pick_given-requires : goal.pick_given-requires
pick_given-requires c =
    rows_given c.requires.update_ok c.requires.entries_in_bounds (omega arith)

pub returns : goal.returns
returns c = search (given_told)
