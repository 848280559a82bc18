-- The lines of a file in one pass, and what each step of it asks and ensures. Definitions only.
use Rattle.std.specs.Prelude.{Result, Ok, Err, ◌≡◌, Bool, not, cond, List, [], ◌∷◌, ◌++◌, ℕ, ◌+◌, ◌*◌, ◌≤◌, ◌<◌, eqb, ltb, length, take, drop, set, Float}
use Rattle.std.specs.Float.{binary64}
use Rattle.std.specs.Float.Ieee.{of_bits}
use Rattle.refusal.specs.Outcome.{Outcome, accepted, refused, ask}
use Rattle.refusal.specs.Refusal.{bad_matrix_file, bad_number}
use Rattle.matrix_market.specs.declared.placed.PlacedError.{PlacedError}
use Rattle.matrix_market.specs.Lines.{data_of}
use Rattle.matrix_market.specs.Placed.{placed_in}
use Rattle.coordinate.specs.Coordinate.{Entry, repeated, mirrors_of, listed}
use Rattle.coordinate.specs.Contract.{entry_number}
use Rattle.matrix_reader.specs.declared.head.Head.{Head}
use Rattle.matrix_market.specs.declared.entries.EntryError.{EntryError}
use Rattle.matrix_reader.specs.declared.entries.LinesError.{LinesError}
use Rattle.matrix_reader.specs.File.{Stated}
use Rattle.matrix_reader.specs.Contract.{stated_by}

-- ---- the pass over lists

-- Lines end behind entries; or, behind some, one is malformed or surplus; or the last of these entries has a bad value, for which zero stands.
pub data Pass : Type 0 where
  ended : List Entry → Pass
  malformed : Pass
  bad_value : List Entry → Pass

-- the value that stands for a bad one
abbrev pub no_value : Float
no_value = of_bits binary64 0

-- one line, and how the pass goes on
abbrev pub pass_line : List Entry → (List Entry → Pass) → Result (ℕ × ℕ × Float) PlacedError → Pass
pass_line es rest (Err PlacedError.Malformed) = malformed
pass_line es rest (Err (PlacedError.BadValue r c)) = bad_value (es ++ (record { row = r; column = c; value = no_value } ∷ []))
pass_line es rest (Ok (r, c, v)) = rest (es ++ (record { row = r; column = c; value = v } ∷ []))

-- the lines from here on, with those entries before them: repeats are not looked for
unfoldable pub pass_from : Bool → Stated → List Entry → List (List ℕ) → Pass
pass_from symmetric s es [] = ended es
pass_from symmetric s es (line ∷ rest) =
    cond (ltb (length es) s.entries) (pass_line es (λ fs. pass_from symmetric s fs rest) (placed_in symmetric s.rows line)) malformed

-- what a pass comes to, once repeats are looked for
abbrev pub verdict_for : Stated → Pass → Outcome (List Entry)
verdict_for s (ended es) = ask (not (repeated es)) bad_matrix_file (ask (eqb (length es) s.entries) bad_matrix_file (accepted es))
verdict_for s malformed = refused bad_matrix_file
verdict_for s (bad_value es) = ask (not (repeated es)) bad_matrix_file (refused bad_number)

-- ---- entries in slices

-- the first m entries in slices of rows, columns and values
unfoldable pub entries_to : ℕ → List ℕ → List ℕ → List Float → List Entry
entries_to m R C F = listed (take m R) (take m C) (take m F)

-- There is a place for entry m.
pub record PlaceFor (m : ℕ) (R C : List ℕ) (F : List Float) : Type 0 where
  pub rows : m < length R
  pub columns : m < length C
  pub values : m < length F

-- Entry e was stored at m.
pub record EntryPut (m : ℕ) (e : Entry) (R C : List ℕ) (F : List Float) (R' C' : List ℕ) (F' : List Float) : Type 0 where
  pub rows : R' ≡ set R m e.row
  pub columns : C' ≡ set C m e.column
  pub values : F' ≡ set F m e.value

-- There is a place for the entry of a line of a matrix of n rows.
pub record LineOk (n m : ℕ) (R C : List ℕ) (F : List Float) : Type 0 where
  pub few : n ≤ 65536
  pub place : PlaceFor m R C F

-- what a line has
abbrev pub line_answer : Result (ℕ × ℕ × Float) PlacedError → Result Unit EntryError
line_answer (Err PlacedError.Malformed) = Err EntryError.Malformed
line_answer (Err (PlacedError.BadValue r c)) = Err EntryError.BadValue
line_answer (Ok (r, c, v)) = Ok tt

-- the entry that is stored of a line, if there is one
abbrev pub stored_of : Result (ℕ × ℕ × Float) PlacedError → Entry
stored_of (Err PlacedError.Malformed) = record { row = 0; column = 0; value = no_value }
stored_of (Err (PlacedError.BadValue r c)) = record { row = r; column = c; value = no_value }
stored_of (Ok (r, c, v)) = record { row = r; column = c; value = v }

-- The line that says p was read, and what it has was stored at m.
pub record LineStored (p : Result (ℕ × ℕ × Float) PlacedError) (m : ℕ) (R C : List ℕ) (F : List Float) (R' C' : List ℕ) (F' : List Float) (r : Result Unit EntryError) : Type 0 where
  pub answer : r ≡ line_answer p
  pub entry : r ≡ Ok tt → EntryPut m (stored_of p) R C F R' C' F'
  pub bad : r ≡ Err EntryError.BadValue → EntryPut m (stored_of p) R C F R' C' F'

-- The lines of a text whose head is h can be read: there is a place for as many entries as it states.
pub record LinesOk (t : List ℕ) (h : Head) (R C : List ℕ) (F : List Float) : Type 0 where
  pub next : h.next ≤ length t
  pub few : h.rows ≤ 65536
  pub many : h.entries ≤ 1048576
  pub rows : h.entries ≤ length R
  pub columns : h.entries ≤ length C
  pub values : h.entries ≤ length F

-- what an answer says of the slices
abbrev pub pass_told : Result ℕ LinesError → List ℕ → List ℕ → List Float → Pass
pass_told (Ok m) R C F = ended (entries_to m R C F)
pass_told (Err LinesError.Malformed) R C F = malformed
pass_told (Err (LinesError.BadValue m)) R C F = bad_value (entries_to (m + 1) R C F)

-- how many entries an answer says that the slices have
abbrev pub count_told : Result ℕ LinesError → ℕ
count_told (Ok m) = m
count_told (Err LinesError.Malformed) = 0
count_told (Err (LinesError.BadValue m)) = m + 1

-- The lines were read, and what they have stands in the slices.
pub record LinesAre (t : List ℕ) (h : Head) (R C : List ℕ) (F : List Float) (r : Result ℕ LinesError) : Type 0 where
  pub is : pass_told r R C F ≡ pass_from h.symmetric (stated_by h) [] (data_of (drop h.next t))
  pub few : count_told r ≤ h.entries

-- ---- mirrors

-- Entry k is one of so many entries, and there is a place behind them.
pub record MirrorRoom (k total : ℕ) (R C : List ℕ) (F : List Float) : Type 0 where
  pub own : k < total
  pub place : PlaceFor total R C F

-- The mirror of entry k was stored behind the others, or it has none.
pub record MirrorPut (k total : ℕ) (R C : List ℕ) (F : List Float) (R' C' : List ℕ) (F' : List Float) (r : ℕ) : Type 0 where
  pub is : entries_to r R' C' F' ≡ entries_to total R C F ++ mirrors_of (entry_number R C F k ∷ [])
  pub rows : take total R' ≡ take total R
  pub columns : take total C' ≡ take total C
  pub values : take total F' ≡ take total F
  pub low : total ≤ r
  pub high : r ≤ total + 1

-- There are m entries, and places for as many mirrors.
pub record MirrorsRoom (m : ℕ) (R C : List ℕ) (F : List Float) : Type 0 where
  pub few : m ≤ 1048576
  pub rows : 2 * m ≤ length R
  pub columns : 2 * m ≤ length C
  pub values : 2 * m ≤ length F

-- The mirrors of m entries were stored behind them.
pub record MirrorsPut (m : ℕ) (R C : List ℕ) (F : List Float) (R' C' : List ℕ) (F' : List Float) (r : ℕ) : Type 0 where
  pub is : entries_to r R' C' F' ≡ entries_to m R C F ++ mirrors_of (entries_to m R C F)
  pub low : m ≤ r
  pub high : r ≤ 2 * m
