-- Lines and fields of a text, as lists of bytes. Definitions only.
use Rattle.std.specs.Prelude.{Bool, not, cond, ◌&&◌, ◌||◌, List, [], ◌∷◌, map, ℕ, ◌-◌, eqb, ltb, length, take, get_or}

-- x before the first of some pieces
abbrev pub grown : ℕ → List (List ℕ) → List (List ℕ)
grown x [] = (x ∷ []) ∷ []
grown x (p ∷ ps) = (x ∷ p) ∷ ps

-- the pieces between the bytes that are a or b
unfoldable pub pieces_of : ℕ → ℕ → List ℕ → List (List ℕ)
pieces_of a b [] = [] ∷ []
pieces_of a b (x ∷ l) = cond (eqb x a || eqb x b) ([] ∷ pieces_of a b l) (grown x (pieces_of a b l))

-- those of some pieces that pass a test
unfoldable pub kept : (List ℕ → Bool) → List (List ℕ) → List (List ℕ)
kept test [] = []
kept test (p ∷ ps) = cond (test p) (p ∷ kept test ps) (kept test ps)

-- whether a list has an element
abbrev pub is_some : List ℕ → Bool
is_some l = ltb 0 (length l)

-- the fields of a line: what stands between spaces and tabs
abbrev pub fields_of : List ℕ → List (List ℕ)
fields_of l = kept is_some (pieces_of 32 9 l)

-- how many bytes of a line stand before a carriage return at its end, or are all of it
abbrev pub return_of : List ℕ → ℕ
return_of l = length l - cond (eqb (get_or l (length l - 1) 0) 13) 1 0

-- a line without the carriage return before its end
abbrev pub without_return : List ℕ → List ℕ
without_return l = take (return_of l) l

-- the lines of a text: what stands between line feeds
abbrev pub lines_of : List ℕ → List (List ℕ)
lines_of t = map without_return (pieces_of 10 10 t)

-- the first of some lines; nothing where there is none
abbrev pub first_of : List (List ℕ) → List ℕ
first_of [] = []
first_of (l ∷ ls) = l

-- the first line of a text
abbrev pub first_line : List ℕ → List ℕ
first_line t = first_of (lines_of t)

-- a line that is not blank and does not begin with %
abbrev pub is_data : List ℕ → Bool
is_data l = ltb 0 (length (fields_of l)) && not (eqb (get_or l 0 0) 37)

-- the lines of a text that count
abbrev pub data_of : List ℕ → List (List ℕ)
data_of t = kept is_data (lines_of t)
