-- What the functions that write a record of ordered entries ask. Definitions only.
use Rattle.std.specs.Prelude.{List, map, ℕ, ◌+◌, ◌-◌, ◌*◌, ◌≤◌, ◌<◌, length, Float}
use Rattle.store.specs.Region.{at, idx}
use Rattle.record_format.specs.Format.{Matrix}

-- Each number of an order is one of n, and there is room from `to` on for w bytes each.
pub record PickOk (to w : ℕ) (order : List ℕ) (n size : ℕ) : Type 0 where
  pub below : (k : ℕ) → k < length order → idx order k < n
  pub room : to + w * length order ≤ size

-- a matrix whose rows start at S, with columns C and values F in an order: a row less than starts
abbrev pub ordered_matrix : List ℕ → List Float → List ℕ → List ℕ → Matrix
ordered_matrix C F S O = record {
  rows = length S - 1;
  entries = length O;
  offsets = S;
  columns = map (idx C) O;
  values = map (at F) O;
}

-- There is room for the record of such a matrix.
pub record RecordRoom (C : List ℕ) (F : List Float) (S O : List ℕ) (size : ℕ) : Type 0 where
  pub columns : (k : ℕ) → k < length O → idx O k < length C
  pub values : (k : ℕ) → k < length O → idx O k < length F
  pub some : 0 < length S
  pub few : length S ≤ 65537
  pub many : length O ≤ 1048576
  pub room : 14 + 4 * (length S - 1) + 12 * length O ≤ size

-- There are starts of n rows and an order of so many entries.
pub record FinishOk (n total : ℕ) (C : List ℕ) (F : List Float) (S O : List ℕ) : Type 0 where
  pub columns : (k : ℕ) → k < total → idx O k < length C
  pub values : (k : ℕ) → k < total → idx O k < length F
  pub few : n ≤ 65536
  pub many : total ≤ 2097152
  pub starts : n + 1 ≤ length S
  pub order : total ≤ length O
