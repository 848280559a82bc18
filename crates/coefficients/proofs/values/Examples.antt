-- Worked examples, over P = 4, −2; −2, 2. Each holds by computing.
-- Assumes nothing.
use mathlib.Core.Path.{◌≡◌, refl}
use mathlib.Core.List.{List, [], ◌∷◌}
use lib.Ieee.{Float, binary64, of_bits, div, lt}
use Rattle.float.specs.Float.{zero64, is_finite, is_positive}
use Rattle.store.specs.Vector.{tab}
use Rattle.refusal.specs.Refusal.{bad_diagonal, bad_reciprocal}
use Rattle.refusal.specs.Outcome.{accepted, refused, ask_rows}
use Rattle.matrix.proofs.matrix.Examples.{two, minus_two, four, P}
use Rattle.coefficients.specs.Update.{diagonal_asked, kernel_update_of}

-- The entries of P by rows.
abbrev entries : List Float
entries = four ∷ minus_two ∷ minus_two ∷ two ∷ []

-- An update from them gives P's values again.
updated : kernel_update_of 0 2 (0 ∷ 3 ∷ []) (1 ∷ []) entries
    ≡ accepted (record { diagonal = P.diagonal; inverse = P.inverse; coefficients = P.coefficients })
unfolding kernel_update_of diagonal_asked is_positive is_finite ask_rows tab of_bits div lt
updated = refl

-- A zero on the diagonal of row 1 is refused by question 12.
zero_diagonal : kernel_update_of 3 2 (0 ∷ 3 ∷ []) (1 ∷ []) (four ∷ minus_two ∷ minus_two ∷ zero64 ∷ []) ≡ refused (bad_diagonal 3 1)
unfolding kernel_update_of diagonal_asked is_positive is_finite ask_rows tab of_bits div lt
zero_diagonal = refl

-- The least number above zero has no finite reciprocal: question 13.
tiny_diagonal : kernel_update_of 3 2 (0 ∷ 3 ∷ []) (1 ∷ []) (four ∷ minus_two ∷ minus_two ∷ of_bits binary64 1 ∷ []) ≡ refused (bad_reciprocal 3 1)
unfolding kernel_update_of diagonal_asked is_positive is_finite ask_rows tab of_bits div lt
tiny_diagonal = refl
