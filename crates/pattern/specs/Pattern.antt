-- The pattern of the Galerkin product (`galerkin` of aggregation.rs). Its rows and columns are aggregates, and the pair
-- (a, b) stands in it exactly if some fine entry joins a to b, once and in order. It reads no value: entries that cancel stay.
-- Definitions only.
use Rattle.std.specs.Prelude.{◌≡◌, Bool, false, cond, ◌&&◌, ◌||◌, List, [], ◌∷◌, ◌++◌, ℕ, zero, suc, ◌+◌, ◌≤◌, ◌<◌, eqb, leb, length}
use Rattle.store.specs.Region.{idx}
use Rattle.store.specs.Vector.{tab}

-- ---- numbers below a bound

-- whether some number below n passes p
unfoldable pub some : (ℕ → Bool) → ℕ → Bool
some p zero = false
some p (suc n) = some p n || p n

-- how many numbers below n pass p
unfoldable pub how_many : (ℕ → Bool) → ℕ → ℕ
how_many p zero = 0
how_many p (suc n) = how_many p n + cond (p n) 1 0

-- the numbers below n that pass p, rising
unfoldable pub those : (ℕ → Bool) → ℕ → List ℕ
those p zero = []
those p (suc n) = those p n ++ cond (p n) (n ∷ []) []

-- f 0 + .. + f (n - 1)
unfoldable pub sum_to : (ℕ → ℕ) → ℕ → ℕ
sum_to f zero = 0
sum_to f (suc n) = sum_to f n + f n

-- the lists f 0, .., f (n - 1), one after the other
unfoldable pub flat : (ℕ → List ℕ) → ℕ → List ℕ
flat f zero = []
flat f (suc n) = flat f n ++ f n

-- ---- a pattern in compressed rows

-- A square matrix's pattern: row i has the entries from offsets[i] to offsets[i + 1], entry e stands in column columns[e].
pub record Pattern : Type 0 where
  pub rows : ℕ
  pub offsets : List ℕ
  pub columns : List ℕ

-- the number of entries
abbrev pub entries : Pattern → ℕ
entries p = length p.columns

-- the column of entry e
abbrev pub column_of : Pattern → ℕ → ℕ
column_of p e = idx p.columns e

-- the row of entry e: as many rows as end at or before it
unfoldable pub row_of : Pattern → ℕ → ℕ
row_of p e = how_many (λ i. leb (idx p.offsets (i + 1)) e) p.rows

-- The offsets start at 0, never fall and end at the entries, and each column is below the rows: questions 2 and 3.
pub record Valid (p : Pattern) : Type 0 where
  pub size : length p.offsets ≡ p.rows + 1
  pub first : idx p.offsets 0 ≡ 0
  pub rises : (i : ℕ) → i < p.rows → idx p.offsets i ≤ idx p.offsets (i + 1)
  pub last : idx p.offsets p.rows ≡ entries p
  pub inside : (e : ℕ) → e < entries p → column_of p e < p.rows

-- The columns rise strictly within each row: the rest of question 3.
pub record Rising (p : Pattern) : Type 0 where
  pub rising : (e : ℕ) → e + 1 < entries p → row_of p e ≡ row_of p (e + 1) → column_of p e < column_of p (e + 1)

-- Each entry has its mirror: what question 10 asks of the pattern.
pub record Mirrored (p : Pattern) : Type 0 where
  pub mirror : (e : ℕ) → e < entries p
      → (d : ℕ) × (d < entries p) × (row_of p d ≡ column_of p e) × (column_of p d ≡ row_of p e)

-- Each row has its diagonal entry: question 11.
pub record Diagonal (p : Pattern) : Type 0 where
  pub diagonal : (i : ℕ) → i < p.rows → (e : ℕ) × (e < entries p) × (row_of p e ≡ i) × (column_of p e ≡ i)

-- ---- where the columns of a relation stand, row by row, each row rising

-- the start of row a: after all columns of the rows before it
unfoldable pub start_of : ℕ → (ℕ → ℕ → Bool) → ℕ → ℕ
start_of count g a = sum_to (λ r. how_many (g r) count) a

-- the place of column b in row a: the row's start, and then as many as the row has columns below b
unfoldable pub column_place_of : ℕ → (ℕ → ℕ → Bool) → ℕ → ℕ → ℕ
column_place_of count g a b = start_of count g a + how_many (g a) b

-- ---- the coarse pattern, of a fine pattern p and the aggregate map[i] of each fine row i

-- whether some fine entry joins aggregate a to aggregate b
unfoldable pub joins : Pattern → List ℕ → ℕ → ℕ → Bool
joins p map a b = some (λ e. eqb (idx map (row_of p e)) a && eqb (idx map (column_of p e)) b) (entries p)

-- where each coarse row starts, and the number of coarse entries
unfoldable pub coarse_offsets : Pattern → List ℕ → ℕ → List ℕ
coarse_offsets p map count = tab (start_of count (joins p map)) (count + 1)

-- row by row the aggregates b that a is joined to, each once, rising
unfoldable pub coarse_columns : Pattern → List ℕ → ℕ → List ℕ
coarse_columns p map count = flat (λ a. those (joins p map a) count) count

-- for each fine entry the place of the pair of aggregates that it joins
unfoldable pub coarse_positions : Pattern → List ℕ → ℕ → List ℕ
coarse_positions p map count =
    tab (λ e. column_place_of count (joins p map) (idx map (row_of p e)) (idx map (column_of p e))) (entries p)

-- the coarse pattern
abbrev pub coarse : Pattern → List ℕ → ℕ → Pattern
coarse p map count = record { rows = count; offsets = coarse_offsets p map count; columns = coarse_columns p map count }

-- The map of n fine rows: each stands in one of `count` aggregates.
pub record Maps (map : List ℕ) (n count : ℕ) : Type 0 where
  pub size : length map ≡ n
  pub below : (i : ℕ) → i < n → idx map i < count

-- Each aggregate has a row.
pub record Onto (map : List ℕ) (n count : ℕ) : Type 0 where
  pub hit : (a : ℕ) → a < count → (i : ℕ) × (i < n) × (idx map i ≡ a)

-- ---- merged steps

-- the map of a step followed by that of the next: `*aggregate = next_map[*aggregate]` of hierarchy.rs
unfoldable pub compose_of : ℕ → List ℕ → List ℕ → List ℕ
compose_of n map next = tab (λ i. idx next (idx map i)) n
