-- One entry of a file: what its line says. Definitions only.
use Rattle.std.specs.Prelude.{Option, Some, None, Result, Ok, Err, Bool, true, false, cond, ◌&&◌, List, [], ◌∷◌, ℕ, ◌-◌, eqb, ltb, leb, Float}
use Rattle.decimal_text.specs.Field.{is_number, number_of, value_in}
use Rattle.matrix_market.specs.declared.entries.EntryError.{EntryError}
use Rattle.matrix_market.specs.Lines.{fields_of}

-- a digit string that is a place from 1 to `rows`; 0 where it is none
abbrev pub place_in : ℕ → List ℕ → ℕ
place_in rows l = cond (is_number l && leb (number_of l) rows) (number_of l) 0

-- that place, if there is one
abbrev pub found_place : ℕ → List ℕ → Option ℕ
found_place rows l = cond (eqb (place_in rows l) 0) None (Some (place_in rows l))

-- an entry with sound places, counted from 0, and its value
abbrev pub valued_of : ℕ → ℕ → Option Float → Result (ℕ × ℕ × Float) EntryError
valued_of row column (Some x) = Ok (row - 1, column - 1, x)
valued_of row column None = Err EntryError.BadValue

-- the first, where the test holds, else the second
abbrev pub pick_parsed : Bool → Result (ℕ × ℕ × Float) EntryError → Result (ℕ × ℕ × Float) EntryError → Result (ℕ × ℕ × Float) EntryError
pick_parsed true x y = x
pick_parsed false x y = y

-- an entry from its three fields: two places, in a symmetric file on or below the diagonal, and then its value
abbrev pub entry_of : Bool → ℕ → List ℕ → List ℕ → List ℕ → Result (ℕ × ℕ × Float) EntryError
entry_of symmetric rows a b c =
    pick_parsed (eqb (place_in rows a) 0) (Err EntryError.Malformed)
    (pick_parsed (eqb (place_in rows b) 0) (Err EntryError.Malformed)
    (pick_parsed (symmetric && ltb (place_in rows a) (place_in rows b)) (Err EntryError.Malformed)
    (valued_of (place_in rows a) (place_in rows b) (value_in c))))

-- an entry from the fields of its line, which are three
abbrev pub entry_from : Bool → ℕ → List (List ℕ) → Result (ℕ × ℕ × Float) EntryError
entry_from symmetric rows [] = Err EntryError.Malformed
entry_from symmetric rows (a ∷ []) = Err EntryError.Malformed
entry_from symmetric rows (a ∷ b ∷ []) = Err EntryError.Malformed
entry_from symmetric rows (a ∷ b ∷ c ∷ []) = entry_of symmetric rows a b c
entry_from symmetric rows (a ∷ b ∷ c ∷ d ∷ rest) = Err EntryError.Malformed

-- the entry of a line
abbrev pub entry_in : Bool → ℕ → List ℕ → Result (ℕ × ℕ × Float) EntryError
entry_in symmetric rows line = entry_from symmetric rows (fields_of line)
