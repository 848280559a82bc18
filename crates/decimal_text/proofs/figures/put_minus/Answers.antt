-- `decimal_text::figures::put_minus` meets its contract: by the two cases of the sign.
use Rattle.decimal_text.proofs.Writing.{sign_on, sign_off}
use Rattle.decimal_text.proofs.figures.put_minus.Goals as goal

pub returns-then-minus : goal.returns-then-minus
returns-then-minus c = search (sign_on)

pub returns : goal.returns
returns c = search (sign_off)
