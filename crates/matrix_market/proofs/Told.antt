-- An entry with its places told is the entry without them. Assumes nothing.
use mathlib.Core.Path.{◌≡◌, refl, ap, ◌∙◌}
use mathlib.Core.Bool.{Bool, true, false, ◌&&◌}
use mathlib.Core.List.{List, [], ◌∷◌}
use Prim.Native.Nat.{ℕ}
use lib.Dec.{eqb, ltb}
use lib.Ieee.{Float}
use Rattle.std.specs.Prelude.{Option, Some, None, Result, Ok, Err}
use Rattle.decimal_text.specs.Field.{value_in}
use Rattle.matrix_market.specs.declared.entries.EntryError.{EntryError}
use Rattle.matrix_market.specs.declared.placed.PlacedError.{PlacedError}
use Rattle.matrix_market.specs.Lines.{fields_of}
use Rattle.matrix_market.specs.Entries.{place_in, valued_of, pick_parsed, entry_of, entry_from, entry_in}
use Rattle.matrix_market.specs.Placed.{placed_value, pick_placed, placed_of, placed_from, placed_in}
use Rattle.matrix_market.specs.Told.{told_of}

-- an entry, or why there is none, without its places
abbrev pub forget : Result (ℕ × ℕ × Float) PlacedError → Result (ℕ × ℕ × Float) EntryError
forget (Ok x) = Ok x
forget (Err e) = Err (told_of e)

told_value : (row column : ℕ) (v : Option Float) → forget (placed_value row column v) ≡ valued_of row column v
told_value row column None = refl
told_value row column (Some x) = refl

told_pick : (t : Bool) (x y : Result (ℕ × ℕ × Float) PlacedError) → forget (pick_placed t x y) ≡ pick_parsed t (forget x) (forget y)
told_pick true x y = refl
told_pick false x y = refl

told_entry : (symmetric : Bool) (rows : ℕ) (a b c : List ℕ) → forget (placed_of symmetric rows a b c) ≡ entry_of symmetric rows a b c
told_entry symmetric rows a b c =
    told_pick (eqb (place_in rows a) 0) _ _
    ∙ ap (pick_parsed (eqb (place_in rows a) 0) (Err EntryError.Malformed))
    (told_pick (eqb (place_in rows b) 0) _ _
    ∙ ap (pick_parsed (eqb (place_in rows b) 0) (Err EntryError.Malformed))
    (told_pick (symmetric && ltb (place_in rows a) (place_in rows b)) _ _
    ∙ ap (pick_parsed (symmetric && ltb (place_in rows a) (place_in rows b)) (Err EntryError.Malformed)) (told_value (place_in rows a) (place_in rows b) (value_in c))))

told_from : (symmetric : Bool) (rows : ℕ) (l : List (List ℕ)) → forget (placed_from symmetric rows l) ≡ entry_from symmetric rows l
told_from symmetric rows [] = refl
told_from symmetric rows (a ∷ []) = refl
told_from symmetric rows (a ∷ b ∷ []) = refl
told_from symmetric rows (a ∷ b ∷ c ∷ []) = told_entry symmetric rows a b c
told_from symmetric rows (a ∷ b ∷ c ∷ d ∷ rest) = refl

pub told_in : (symmetric : Bool) (rows : ℕ) (line : List ℕ) → forget (placed_in symmetric rows line) ≡ entry_in symmetric rows line
told_in symmetric rows line = told_from symmetric rows (fields_of line)
