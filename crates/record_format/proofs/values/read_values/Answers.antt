use Rattle.record_format.proofs.Records.{values_few, values_yes, values_no}
use native.Mathlib.Omega.{arith}
use Rattle.record_format.proofs.values.read_values.Goals as goal

pub read_floats-requires : goal.read_floats-requires
read_floats-requires c = record { places = omega (arith, values_few _ _ _ c.values_ok.ensures c.if-values_ok.true); near = omega arith; few = omega (arith, values_few _ _ _ c.values_ok.ensures c.if-values_ok.true) }

pub returns-then-values_ok : goal.returns-then-values_ok
returns-then-values_ok c = search (values_yes)

pub returns-else-values_ok : goal.returns-else-values_ok
returns-else-values_ok c = search (values_no)
