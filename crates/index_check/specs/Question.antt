-- Question 19: what the index check asks of a handle and of stores that anybody may have written. Definitions only.
use Rattle.std.specs.Prelude.{Bool, true, not, ◌&&◌, ◌||◌, List, ℕ, zero, suc, ◌+◌, ◌*◌, eqb, leb, ltb, length}
use Rattle.store.specs.Region.{idx}
use Rattle.store.specs.Vector.{each}
use Rattle.options.specs.declared.options.Handle.{Handle}
use Rattle.options.specs.Options.{valid_of, is_cholesky}
use Rattle.pattern.specs.Pattern.{entries}
use Rattle.hierarchy.specs.Level.{Shape}
use Rattle.layout.specs.Layout.{rows_at, last_at, coupled_at, entries_at, faces_at, locate, shape_at, words_end, image_of}

-- ---- one level

-- whether each number of a list is below the bound
unfoldable pub all_below : ℕ → List ℕ → Bool
all_below bound v = each (λ k. ltb (idx v k) bound) (length v)

-- the level whose words start at a: its sizes are those of a matrix that question 1 passes, and its words end in the store
unfoldable pub head_sound : List ℕ → ℕ → Bool
head_sound w a =
    leb (words_end w a) (length w)
    && leb (rows_at w a) 65536 && leb (entries_at w a) 1048576
    && leb (faces_at w a) (entries_at w a) && leb (coupled_at w a) (rows_at w a)

-- its shape
abbrev pub shape_in : List ℕ → ℕ → Shape
shape_in w a = shape_at w (locate w a 0) (last_at w a) (coupled_at w a)

-- the tables of a shape whose links lead to so many rows, and its positions to so many entries
unfoldable pub arrays_sound : ℕ → ℕ → Shape → Bool
arrays_sound targets sums s =
    all_below s.pattern.rows s.pattern.columns && all_below s.pattern.rows s.neighbors
    && all_below (entries s.pattern) s.uppers && all_below (entries s.pattern) s.lowers
    && all_below targets s.links && all_below sums s.positions

-- where a row stands: neither its entries nor its faces end before they start, and its diagonal entry is an entry
unfoldable pub row_placed : Shape → ℕ → Bool
row_placed s row =
    leb (idx s.pattern.offsets row) (idx s.pattern.offsets (row + 1))
    && leb (idx s.starts row) (idx s.starts (row + 1))
    && ltb (idx s.diagonals row) (entries s.pattern)

-- a level: its tables, and where each of its rows stands
abbrev pub level_sound : ℕ → ℕ → Shape → Bool
level_sound targets sums s = arrays_sound targets sums s && each (row_placed s) s.pattern.rows

-- ---- the levels

-- so many levels, the first of which starts at a. The last alone is marked as the last; its links are below its own rows, and it has no
-- positions. The links of another are below the rows of the next, its positions below the entries of that.
unfoldable pub levels_sound : ℕ → List ℕ → ℕ → Bool
levels_sound zero w a = true
levels_sound (suc zero) w a = head_sound w a && last_at w a && level_sound (rows_at w a) 0 (shape_in w a)
levels_sound (suc (suc more)) w a =
    let next = words_end w a in
    head_sound w a && not (last_at w a) && level_sound (rows_at w next) (entries_at w next) (shape_in w a) && levels_sound (suc more) w next

-- ---- sizes

-- where the scratch of a solve starts: after the image, which the row sums of the finest level end, and its shadow
abbrev pub scratch_start : ℕ → List ℕ → ℕ
scratch_start levels w = 2 * image_of levels w

-- where the scratch of so many levels ends that starts at s: five vectors to a level
unfoldable pub scratch_end : ℕ → List ℕ → ℕ → ℕ → ℕ
scratch_end zero w a s = s
scratch_end (suc more) w a s = scratch_end more w (words_end w a) (s + 5 * rows_at w a)

-- where the cycle's scratch starts: after right-hand side, solution and the directions and images of GCR
abbrev pub cycle_start : ℕ → ℕ → List ℕ → ℕ
cycle_start krylov levels w = scratch_start levels w + (2 + 2 * krylov) * rows_at w 0

-- ---- the question

-- the controls of a handle pass 6 and 7
abbrev pub controls_sound : Handle → Bool
controls_sound h = valid_of h.options && is_cholesky h.options.coarse_solver

-- the handle of a matrix of no rows: it has no level, no row and no entry
unfoldable pub empty_sound : Handle → Bool
empty_sound h = controls_sound h && eqb h.levels 0 && eqb h.rows 0 && eqb h.entries 0

-- any other handle: it has a row, a level, and no more levels than its controls allow
unfoldable pub handle_sound : Handle → Bool
handle_sound h = controls_sound h && leb 1 h.rows && leb 1 h.levels && leb h.levels h.options.max_levels

-- question 19 of such a handle, the words, the size of the floats and the records of statistics
unfoldable pub filled_sound : Handle → List ℕ → ℕ → ℕ → Bool
filled_sound h w size records =
    handle_sound h && leb h.levels records && levels_sound h.levels w 0
    && eqb (rows_at w 0) h.rows && eqb (entries_at w 0) h.entries
    && leb (scratch_end h.levels w 0 (cycle_start h.options.krylov_dimension h.levels w)) size

-- question 19: of a matrix of no rows nothing is walked and no size is asked
unfoldable pub sound_of : Handle → List ℕ → ℕ → ℕ → Bool
sound_of h w size records = empty_sound h || filled_sound h w size records
