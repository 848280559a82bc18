-- `decimal_text::figures::put_byte` meets its contract: a byte is laid, or it would stand past the end.
use Prim.Native.Nat.{ℕ, ◌+◌}
use mathlib.Core.List.{List, [], ◌∷◌}
use mathlib.Core.Path.{sym, subst}
use Rattle.decimal_text.specs.Contract.{Laid}
use Rattle.decimal_text.proofs.Writing.{laid_byte, laid_past}
use Rattle.decimal_text.proofs.figures.put_byte.Goals as goal
use Rattle.decimal_text.proofs.figures.put_byte.Goals.{then-at-out, else-at-out}

pub returns : goal.returns
returns c =
    let P : List ℕ → Type 0 = λ (G : List ℕ). Laid (c.args.b ∷ []) c.args.at c.args.out.now G (c.args.at + 1) in
    elim c.if-at-out.branch [
      | then-at-out w ↦ subst P (sym w.out-is) (laid_byte c.args.b)
      | else-at-out w ↦ subst P (sym w.out-is) (laid_past c.args.b w.if-at-out.false)
    ]
