-- The walk of the index check, which tells the level and row of the first entry that fails: heads first, then level by level and row by row.
-- It goes through exactly where the levels pass (`walk-accepts` of proofs/sound/Accepts.antt). Definitions only.
use Rattle.index_check.specs.declared.sound.Stop.{Stop}
use Rattle.std.specs.Prelude.{Bool, true, false, not, ◌&&◌, List, ℕ, zero, suc, ◌+◌, ◌-◌, leb, length, Result, Ok, Err}
use Rattle.store.specs.Region.{idx, part}
use Rattle.pattern.specs.Pattern.{entries}
use Rattle.hierarchy.specs.Level.{Shape}
use Rattle.layout.specs.Layout.{rows_at, last_at, entries_at, words_end}
unfoldable pub use Rattle.index_check.specs.Question.{all_below, head_sound, shape_in, arrays_sound, row_placed, level_sound, levels_sound, scratch_start, scratch_end, cycle_start, controls_sound, empty_sound, handle_sound, filled_sound, sound_of}

-- ---- one row

-- the entries from one to before another: there are so many, their columns are rows, and their positions, which the last level has none of,
-- are entries of the next level
unfoldable pub entries_sound : ℕ → Shape → ℕ → ℕ → Bool
entries_sound sums s from to =
    leb to (entries s.pattern)
    && all_below s.pattern.rows (part from (to - from) s.pattern.columns)
    && all_below sums (part from (to - from) s.positions)

-- the faces from one to before another: there are so many, the column of each is a row, and each stands for two entries
unfoldable pub faces_sound : Shape → ℕ → ℕ → Bool
faces_sound s from to =
    leb to (length s.neighbors)
    && all_below s.pattern.rows (part from (to - from) s.neighbors)
    && all_below (entries s.pattern) (part from (to - from) s.uppers)
    && all_below (entries s.pattern) (part from (to - from) s.lowers)

-- the link of a row, which on the last level only as many rows have as are coupled
unfoldable pub link_sound : ℕ → Shape → ℕ → Bool
link_sound targets s row = all_below targets (part row 1 s.links)

-- a row: where it stands, its entries, its faces and its link
unfoldable pub row_sound : ℕ → ℕ → Shape → ℕ → Bool
row_sound targets sums s row =
    row_placed s row
    && entries_sound sums s (idx s.pattern.offsets row) (idx s.pattern.offsets (row + 1))
    && faces_sound s (idx s.starts row) (idx s.starts (row + 1))
    && link_sound targets s row

-- ---- the walk over levels and rows

-- the head of a level after which so many come: the last level alone is terminal
abbrev pub head_fits : ℕ → List ℕ → ℕ → Bool
head_fits zero w a = head_sound w a && last_at w a
head_fits (suc more) w a = head_sound w a && not (last_at w a)

-- what the links of a level, after which so many come, are below: those of the last lead to rows of its own, those of another to the next
abbrev pub targets_of : ℕ → List ℕ → ℕ → ℕ
targets_of zero w a = rows_at w a
targets_of (suc more) w a = rows_at w (words_end w a)

-- what its positions are below
abbrev pub sums_of : ℕ → List ℕ → ℕ → ℕ
sums_of zero w a = 0
sums_of (suc more) w a = entries_at w (words_end w a)

-- a walk that stopped at this row of this level
abbrev pub stopped_at : ℕ → ℕ → Result Unit Stop
stopped_at level row = Err (record { level = level; row = row })

-- where a test ends it, else the rest
abbrev pub go_on : Bool → Result Unit Stop → Result Unit Stop → Result Unit Stop
go_on true stop rest = rest
go_on false stop rest = stop

-- a walk, and then another
abbrev pub and_then : Result Unit Stop → Result Unit Stop → Result Unit Stop
and_then (Ok tt) rest = rest
and_then (Err s) rest = Err s

-- the heads of so many levels, the first of which is `level` and starts at a: a head is told with row 0
unfoldable pub heads_walked : ℕ → List ℕ → ℕ → ℕ → Result Unit Stop
heads_walked zero w level a = Ok tt
heads_walked (suc more) w level a = go_on (head_fits more w a) (stopped_at level 0) (heads_walked more w (level + 1) (words_end w a))

-- so many rows of a level from `row` on
unfoldable pub rows_walked : ℕ → ℕ → Shape → ℕ → ℕ → ℕ → Result Unit Stop
rows_walked targets sums s level zero row = Ok tt
rows_walked targets sums s level (suc more) row =
    go_on (row_sound targets sums s row) (stopped_at level row) (rows_walked targets sums s level more (row + 1))

-- a level: its rows, and then its tables whole, because a store that no build left may hold entries and faces before those of the first row:
-- what no row has is told with row 0
abbrev pub level_walked : ℕ → ℕ → Shape → ℕ → Result Unit Stop
level_walked targets sums s level =
    and_then (rows_walked targets sums s level s.pattern.rows 0) (go_on (arrays_sound targets sums s) (stopped_at level 0) (Ok tt))

-- so many levels, the first of which is `level` and starts at a, row by row
unfoldable pub levels_walked : ℕ → List ℕ → ℕ → ℕ → Result Unit Stop
levels_walked zero w level a = Ok tt
levels_walked (suc more) w level a =
    and_then (level_walked (targets_of more w a) (sums_of more w a) (shape_in w a) level) (levels_walked more w (level + 1) (words_end w a))

-- first the heads, level by level, because a level's links and positions are asked against the next one's head; then the rows
unfoldable pub walk_of : ℕ → List ℕ → ℕ → ℕ → Result Unit Stop
walk_of levels w level a = and_then (heads_walked levels w level a) (levels_walked levels w level a)

-- whether a walk went through
abbrev pub is_sound : Result Unit Stop → Bool
is_sound (Ok tt) = true
is_sound (Err s) = false
