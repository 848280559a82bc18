-- `decimal_text::figures::put_value` meets its contract: what `write` does not find is not written.
use mathlib.Core.Path.{sym, subst}
use Prim.Native.Nat.{ℕ}
use Rattle.std.specs.Prelude.{Option}
use Rattle.decimal_text.specs.Contract.{PlacedValue}
use Rattle.decimal_text.proofs.Writing.{placed_none}
use Rattle.decimal_text.proofs.figures.put_value.Goals as goal

pub returns-in_err-m : goal.returns-in_err-m
returns-in_err-m c = subst (λ (r : Option ℕ). PlacedValue c.args.v c.args.at c.args.out.now c.args.out.now r) (sym c.from_residual.ensures) (placed_none c.magnitude.ensures c.write.ensures c.in_err-m.was)
