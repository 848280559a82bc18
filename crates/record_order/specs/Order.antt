-- The order of records in a problem file: which mark may come, how many bytes its record has, and what is to be done with the bytes of a
-- record that have been read. Definitions only.
use Rattle.std.specs.Prelude.{Bool, true, false, cond, not, ◌&&◌, List, ℕ, ◌+◌, ◌-◌, ◌≤◌, eqb, leb, ltb, length, Option, Some, None, Result, Ok, Err}
use Rattle.refusal.specs.declared.Refusal.{Refusal}
use Rattle.record_format.specs.Bytes.{u32_at}
use Rattle.record_format.specs.Format.{bad_record, marked, sizes_ok, matrix_length, values_length, solve_length}
use Rattle.record_format.specs.declared.marks.Mark.{Mark}
use Rattle.record_order.specs.declared.Came.{Came}
use Rattle.record_order.specs.declared.Next.{Next}
use Rattle.record_order.specs.declared.Ending.{Ending}

-- ---- what has come

-- nothing has come yet
abbrev pub nothing : Came
nothing = record { controls = false; matrix = false; weights = false; calls = false; rows = 0; entries = 0 }

-- whether a record of that mark may come next: CO, MX and FW once each and before the first UP or SO, FW after MX, UP and SO after CO and MX
abbrev pub allowed : Came → Mark → Bool
allowed c Mark.Controls = not c.controls && not c.calls
allowed c Mark.Matrix = not c.matrix && not c.calls
allowed c Mark.Weights = c.matrix && not c.weights && not c.calls
allowed c Mark.Update = c.controls && c.matrix
allowed c Mark.Solve = c.controls && c.matrix

-- what has come after a record; of a matrix its rows and entries are kept
abbrev pub after_of : Came → Mark → ℕ → ℕ → Came
after_of c Mark.Controls rows entries =
    record { controls = true; matrix = c.matrix; weights = c.weights; calls = c.calls; rows = c.rows; entries = c.entries }
after_of c Mark.Matrix rows entries =
    record { controls = c.controls; matrix = true; weights = c.weights; calls = c.calls; rows = rows; entries = entries }
after_of c Mark.Weights rows entries =
    record { controls = c.controls; matrix = c.matrix; weights = true; calls = c.calls; rows = c.rows; entries = c.entries }
after_of c Mark.Update rows entries =
    record { controls = c.controls; matrix = c.matrix; weights = c.weights; calls = true; rows = c.rows; entries = c.entries }
after_of c Mark.Solve rows entries =
    record { controls = c.controls; matrix = c.matrix; weights = c.weights; calls = true; rows = c.rows; entries = c.entries }

-- ---- the bytes of a record

-- the mark that bytes start with
unfoldable pub named_of : List ℕ → Option Mark
named_of b =
    cond (marked Mark.Controls b) (Some Mark.Controls)
    (cond (marked Mark.Matrix b) (Some Mark.Matrix)
    (cond (marked Mark.Weights b) (Some Mark.Weights)
    (cond (marked Mark.Update b) (Some Mark.Update)
    (cond (marked Mark.Solve b) (Some Mark.Solve) None))))

-- how many bytes of a record tell its size: of MX the rows and entries too, of the others the mark alone
unfoldable pub head_length : Mark → ℕ
head_length Mark.Controls = 2
head_length Mark.Matrix = 10
head_length Mark.Weights = 2
head_length Mark.Update = 2
head_length Mark.Solve = 2

-- how many bytes a record has that starts with these bytes; 0 where it would be larger than a problem file allows
unfoldable pub record_size : Came → List ℕ → Mark → ℕ
record_size c b Mark.Controls = 110
record_size c b Mark.Matrix = cond (sizes_ok (u32_at b 2) (u32_at b 6)) (matrix_length (u32_at b 2) (u32_at b 6)) 0
record_size c b Mark.Weights = cond (leb c.entries 320) (values_length c.entries) 0
record_size c b Mark.Update = cond (leb c.entries 320) (values_length c.entries) 0
record_size c b Mark.Solve = cond (leb c.rows 64) (solve_length c.rows) 0

-- so many bytes in all: what is missing is read, then the record is whole
unfoldable pub until_of : Mark → ℕ → ℕ → Next
until_of m size had = cond (ltb had size) (Next.Read (size - had)) (Next.Whole m)

-- a record of that mark: what tells its size is read, the size is judged, and the rest is read
unfoldable pub sized_of : Came → List ℕ → Mark → Result Next Refusal
sized_of c b m =
    cond (ltb (length b) (head_length m)) (Ok (Next.Read (head_length m - length b)))
    (cond (eqb (record_size c b m) 0) (Err bad_record) (Ok (until_of m (record_size c b m) (length b))))

-- a mark is judged when it is read
abbrev pub judged_of : Came → List ℕ → Option Mark → Result Next Refusal
judged_of c b (Some m) = cond (allowed c m) (sized_of c b m) (Err bad_record)
judged_of c b None = Err bad_record

-- what is to be done next, with so many bytes of a record read: the mark first, then the rest, then the record is whole; or it is refused
unfoldable pub what_next : Came → List ℕ → Result Next Refusal
what_next c b = cond (ltb (length b) 2) (Ok (Next.Read (2 - length b))) (judged_of c b (named_of b))

-- ---- the end of the input

-- at the end between records: 32 without CO or MX, else a build that was not made yet is made
abbrev pub ending_of : Came → Result Ending Refusal
ending_of c = cond (c.controls && c.matrix) (cond c.calls (Ok Ending.Done) (Ok Ending.Build)) (Err bad_record)

-- What is to be read next, behind so many bytes, ends by byte 4,110.
abbrev pub WithinRoom : ℕ → Result Next Refusal → Type 0
WithinRoom had (Ok (Next.Read n)) = had + n ≤ 4110
WithinRoom had (Ok (Next.Whole m)) = Unit
WithinRoom had (Err q) = Unit
