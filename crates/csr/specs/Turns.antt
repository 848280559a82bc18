-- Questions 1 to 5: the turns of the loops, by the names that proofs have for them. Definitions only.
use Rattle.std.specs.Prelude.{Bool, List, ℕ, ◌+◌, eqb, leb, length, Float}
use Rattle.store.specs.Region.{idx, at}
use Rattle.options.specs.Options.{tolerable}
use Rattle.csr.specs.Questions.{entry_ok, row_ok}

-- whether row r does not end before it starts
unfoldable pub step_ok : List ℕ → ℕ → Bool
step_ok offsets r = leb (idx offsets r) (idx offsets (r + 1))

-- the test of the row's k-th entry, counted from `first`
unfoldable pub entry_from : ℕ → List ℕ → ℕ → ℕ → ℕ → Bool
entry_from rows columns first last k = entry_ok rows columns last (first + k)

-- the test of row r
unfoldable pub row_at : ℕ → List ℕ → List ℕ → ℕ → Bool
row_at rows offsets columns r = row_ok rows columns (idx offsets r) (idx offsets (r + 1))

-- question 4: as many weights as entries
abbrev pub weights_counted : ℕ → List Float → Bool
weights_counted entries weights = eqb (length weights) entries

-- the test of weight k: it is finite and not below zero; minus zero passes, a NaN does not
unfoldable pub weight_ok : List Float → ℕ → Bool
weight_ok weights k = tolerable (at weights k)
