-- Statistics as numbers, five to a record, as programs with plain numbers hold them. Definitions only.
use Rattle.std.specs.Prelude.{◌≡◌, ℕ, ◌+◌, ◌*◌, ◌/◌, min, cond, List, length, nat_lt, slice_index_or, slice_set}
use Rattle.store.specs.Region.{idx}
use Rattle.store.specs.Vector.{tab}
use Rattle.store.specs.Loop.{for}
use Rattle.solver.specs.declared.statistics.MultigridLevelStatistics.{MultigridLevelStatistics}
use Rattle.solver.specs.Statistics.{unvisited}

-- the record whose five numbers start there; an empty one where there are not so many
unfoldable pub record_at : List ℕ → ℕ → MultigridLevelStatistics
record_at S at =
    cond (nat_lt (length S) (at + 5)) (unvisited 0)
    (record {
      cells = idx S at;
      visits = idx S (at + 1);
      pre_sweeps = idx S (at + 2);
      post_sweeps = idx S (at + 3);
      coarse_iterations = idx S (at + 4);
    })

-- the table of 128 records that stand in numbers
abbrev pub records_in : List ℕ → List MultigridLevelStatistics
records_in S = tab (λ k. record_at S (5 * k)) 128

-- how many records a call is lent: the whole ones, 128 at most
abbrev pub records_lent : List ℕ → ℕ
records_lent S = min (length S / 5) 128

-- A number is put to its place; none outside of the numbers.
pub record Put (at n : ℕ) (S S' : List ℕ) : Type 0 where
  pub is : S' ≡ slice_set S at n

-- numbers with a record at a place, as far as they reach
unfoldable pub with_record : ℕ → MultigridLevelStatistics → List ℕ → List ℕ
with_record at r S =
    slice_set (slice_set (slice_set (slice_set (slice_set S at r.cells) (at + 1) r.visits) (at + 2) r.pre_sweeps) (at + 3) r.post_sweeps) (at + 4) r.coarse_iterations

-- numbers with record k of a table at its place
unfoldable pub record_back : List MultigridLevelStatistics → ℕ → List ℕ → List ℕ
record_back t k S = with_record (5 * k) (slice_index_or t k (unvisited 0)) S

-- numbers with a table of 128 records, as far as they reach
abbrev pub with_records : List MultigridLevelStatistics → List ℕ → List ℕ
with_records t S = for (record_back t) 0 128 S
