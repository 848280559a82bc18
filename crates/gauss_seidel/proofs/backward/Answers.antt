-- `gauss_seidel::backward` meets its contract. The loop's invariant: what is left to do from here gives what the whole gives.
use mathlib.Core.Path.{refl}
use lib.ListN.{length-set}
use Rattle.store.proofs.store.Loop.{left_start, left_on}
use Rattle.matrix.proofs.matrix.Turns.{vectors_resize}
use Rattle.gauss_seidel.proofs.Turns.{backward_on, stored}
use native.Mathlib.Omega.{arith}
use Rattle.gauss_seidel.proofs.backward.Goals as goal

pub loop-i-init : goal.loop-i-init
loop-i-init c = (refl, left_start)

pub fresh-value-requires : goal.fresh-value-requires
fresh-value-requires c =
    record { vectors_ok = vectors_resize c.requires c.loop-i.invariant.0; row_lt_rows = omega arith; start_value = refl }

pub loop-i-preserved : goal.loop-i-preserved
loop-i-preserved c =
    (simp length-set c.loop-i.invariant.0, left_on c.loop-i.invariant.1 c.loop-i-test.true (backward_on _ _ _ _ _ _ _ _ c.fresh-value.ensures refl))

pub returns : goal.returns
returns c = stored c.loop-i.invariant.0 c.loop-i.invariant.1 c.loop-i-test.false
