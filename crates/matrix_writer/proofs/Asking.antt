-- Questions that a loop asks one after another, and the questions of a record. Assumes nothing.
use Rattle.std.specs.Prelude.{Result, Ok, Err}
use mathlib.Core.Path.{◌≡◌, refl, sym, ap, ◌∙◌}
use mathlib.Core.Bool.{Bool, true, false, ◌&&◌}
use mathlib.Core.List.{List}
use Prim.Native.Nat.{ℕ, ◌+◌, ◌*◌, ◌≤◌, ◌<◌}
use native.Mathlib.Omega.{arith}
use lib.Dec.{eqb, ltb}
use lib.ListN.{length}
use Rattle.refusal.specs.declared.Refusal.{Refusal}
use Rattle.refusal.specs.Outcome.{Outcome, passed, ask_from, ask_each, verdict_of}
use Rattle.refusal.proofs.Outcome.{each_step, each_stop, each_done, passes, refuses}
use Rattle.store.specs.Region.{idx}
use Rattle.store.proofs.store.Each.{Passed}
use Rattle.csr.specs.Questions.{never_fall, entry_ok, row_ok, columns_ok}
use Rattle.csr.specs.Turns.{step_ok, row_at}
use Rattle.csr.proofs.csr.Walk.{step_on, step_no, entry_next, row_on, row_no}
use Rattle.record_format.specs.declared.marks.Mark.{Mark}
use Rattle.record_format.specs.Format.{Matrix, marked}
use Rattle.record_format.specs.Steps.{WordIs}
use Rattle.matrix_writer.specs.declared.arrays.RowRange.{RowRange}
use Rattle.matrix_writer.specs.Writing.{record_ok}
use Rattle.matrix_writer.specs.Contract.{WordOf, RowsIn, RangeIs}

-- ---- a loop that asks

-- What is left to ask, from k on, answers as the whole.
pub record Asking (asked : ℕ → Outcome Unit) (n k : ℕ) : Type 0 where
  pub left : ask_from k n asked passed ≡ ask_each n asked passed
  pub within : k ≤ n

pub asking_start : (asked : ℕ → Outcome Unit) (n : ℕ) → Asking asked n 0
asking_start asked n = record { left = refl; within = omega arith }

pub asking_on : {asked : ℕ → Outcome Unit} {n k : ℕ} {v : Result Unit Refusal} → Asking asked n k → k < n → v ≡ verdict_of (asked k) → v ≡ Ok tt → Asking asked n (k + 1)
asking_on {asked} {n} {k} a h e y = record {
  left = sym (each_step k n asked passed h (passes (asked k) e y)) ∙ a.left;
  within = omega arith;
}

pub asking_stop : {asked : ℕ → Outcome Unit} {n k : ℕ} {v : Result Unit Refusal} {q : Refusal} → Asking asked n k → k < n → v ≡ verdict_of (asked k) → v ≡ Err q
    → Err q ≡ verdict_of (ask_each n asked passed)
asking_stop {asked} {n} {k} a h e y = ap verdict_of (sym (each_stop k n asked passed h (refuses (asked k) e y)) ∙ a.left)

pub asking_done : {asked : ℕ → Outcome Unit} {n k : ℕ} → Asking asked n k → n ≤ k → (Ok tt) ≡ verdict_of (ask_each n asked passed)
asking_done {asked} {n} {k} a h = ap verdict_of (sym (each_done k n asked passed h) ∙ a.left)

-- ---- the questions of a record

-- Mark and length.
pub record_is : {b : List ℕ} {k : Bool} {rows entries : ℕ} → WordIs b 2 rows → WordIs b 6 entries → k ≡ marked Mark.Matrix b
    → (k && eqb (length b) (14 + 4 * rows + 12 * entries)) ≡ record_ok b
unfolding record_ok
record_is p q e = rw (e, p.is, q.is)

-- Rows that do not fall.
pub fall_on : (o : List ℕ) {rows row a b : ℕ} → Passed (step_ok o) rows row → row < rows → WordOf o row a → WordOf o (row + 1) b → a ≤ b → Passed (step_ok o) rows (row + 1)
fall_on o p h x y l = step_on o p h (omega (arith, x.is, y.is))

pub fall_no : (o : List ℕ) (rows row : ℕ) {a b : ℕ} → row < rows → WordOf o row a → WordOf o (row + 1) b → b < a → false ≡ never_fall rows o
fall_no o rows row h x y l = step_no o rows row h (omega (arith, x.is, y.is))

-- The columns of a row: two entries that follow one another.
pub entry_both : (rows : ℕ) (columns : List ℕ) (last e : ℕ) {x y : ℕ} → WordOf columns e x → WordOf columns (e + 1) y → e + 1 < last
    → (ltb x rows && ltb x y) ≡ entry_ok rows columns last e
entry_both rows columns last e {x} {y} p q h = rw (p.is, q.is) (entry_next rows columns last e (idx columns e) refl h)

-- The range of a row.
pub range_is : (m : Matrix) (r : ℕ) {a b : ℕ} → RowsIn m → r < m.rows → WordOf m.offsets r a → WordOf m.offsets (r + 1) b → RangeIs m r (record { first = a; last = b })
range_is m r i h x y =
    let s = i.starts r h in
    let t = i.ends r h in
    record { first_is = x.is; last_is = y.is; order = omega (arith, x.is, y.is); within = omega (arith, y.is) }

-- A row whose columns fit passes,
pub range_on : (m : Matrix) {r : ℕ} {s : RowRange} {t : Bool} → Passed (row_at m.rows m.offsets m.columns) m.rows r → r < m.rows
    → RangeIs m r s → t ≡ row_ok m.rows m.columns s.first s.last → t ≡ true → Passed (row_at m.rows m.offsets m.columns) m.rows (r + 1)
range_on m p h w t y = row_on m.offsets m.columns p h w.first_is w.last_is t y

-- and another ends the walk.
pub range_no : (m : Matrix) (r : ℕ) {s : RowRange} {t : Bool} → r < m.rows → RangeIs m r s → t ≡ row_ok m.rows m.columns s.first s.last → t ≡ false
    → false ≡ columns_ok m.rows m.offsets m.columns
range_no m r {s} {t} h w f n = row_no m.rows m.offsets m.columns r s.first s.last t h w.first_is w.last_is f n
