-- One entry of a file, with its places also where its value is outside the form. Definitions only.
use Rattle.std.specs.Prelude.{Option, Some, None, Result, Ok, Err, Bool, true, false, ◌&&◌, List, [], ◌∷◌, ℕ, ◌-◌, eqb, ltb, Float}
use Rattle.decimal_text.specs.Field.{value_in}
use Rattle.matrix_market.specs.declared.placed.PlacedError.{PlacedError}
use Rattle.matrix_market.specs.Lines.{fields_of}
use Rattle.matrix_market.specs.Entries.{place_in}

-- an entry with sound places, counted from 0, and its value, if it has one
abbrev pub placed_value : ℕ → ℕ → Option Float → Result (ℕ × ℕ × Float) PlacedError
placed_value row column (Some x) = Ok (row - 1, column - 1, x)
placed_value row column None = Err (PlacedError.BadValue (row - 1) (column - 1))

-- the first, where the test holds, else the second
abbrev pub pick_placed : Bool → Result (ℕ × ℕ × Float) PlacedError → Result (ℕ × ℕ × Float) PlacedError → Result (ℕ × ℕ × Float) PlacedError
pick_placed true x y = x
pick_placed false x y = y

-- an entry from its three fields: two places, in a symmetric file on or below the diagonal, and then its value
abbrev pub placed_of : Bool → ℕ → List ℕ → List ℕ → List ℕ → Result (ℕ × ℕ × Float) PlacedError
placed_of symmetric rows a b c =
    pick_placed (eqb (place_in rows a) 0) (Err PlacedError.Malformed)
    (pick_placed (eqb (place_in rows b) 0) (Err PlacedError.Malformed)
    (pick_placed (symmetric && ltb (place_in rows a) (place_in rows b)) (Err PlacedError.Malformed)
    (placed_value (place_in rows a) (place_in rows b) (value_in c))))

-- an entry from the fields of its line, which are three
abbrev pub placed_from : Bool → ℕ → List (List ℕ) → Result (ℕ × ℕ × Float) PlacedError
placed_from symmetric rows [] = Err PlacedError.Malformed
placed_from symmetric rows (a ∷ []) = Err PlacedError.Malformed
placed_from symmetric rows (a ∷ b ∷ []) = Err PlacedError.Malformed
placed_from symmetric rows (a ∷ b ∷ c ∷ []) = placed_of symmetric rows a b c
placed_from symmetric rows (a ∷ b ∷ c ∷ d ∷ rest) = Err PlacedError.Malformed

-- the entry of a line
abbrev pub placed_in : Bool → ℕ → List ℕ → Result (ℕ × ℕ × Float) PlacedError
placed_in symmetric rows line = placed_from symmetric rows (fields_of line)
