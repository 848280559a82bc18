-- `matrix_writer::lines::put_float` meets its contract: by what `put_value` answers.
use mathlib.Core.Path.{sym, subst}
use Prim.Native.Nat.{ℕ}
use Rattle.decimal_text.specs.Contract.{Laid}
use Rattle.decimal_text.specs.Figures.{value_text}
use Rattle.matrix_writer.proofs.Laying.{value_laid}
use Rattle.matrix_writer.proofs.lines.put_float.Goals as goal

pub returns : goal.returns
returns c = subst (λ (r : ℕ). Laid (value_text c.args.v) c.args.at c.args.out.now c.put_value.new.out r) (sym c.unwrap_or.ensures) (value_laid c.args.v c.put_value.result c.put_value.ensures)
