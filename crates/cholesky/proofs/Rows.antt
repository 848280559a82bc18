-- The factor row by row: the loops over the store compute the definitions over lists.
-- Assumes nothing.
use Rattle.refusal.specs.declared.Refusal.{Refusal}
use Rattle.std.specs.Prelude.{Result, Ok, Err}
use mathlib.Core.Path.{◌≡◌, sym, ap, ◌∙◌}
use mathlib.Core.Bool.{Bool, true, false}
use mathlib.Core.List.{List}
use Prim.Native.Nat.{ℕ, suc, ◌+◌, ◌-◌, ◌≤◌, ◌<◌}
use native.Mathlib.Nat.{add_assoc}
use native.Mathlib.Omega.{arith}
use lib.Ieee.{Float, nan}
use lib.ListN.{length, set, length-set}
use Rattle.float.specs.Float.{div64, zero64, is_positive}
use Rattle.float.specs.Sqrt.{sqrt_of}
use Rattle.refusal.specs.Refusal.{bad_pivot}
use Rattle.refusal.specs.Outcome.{accepted, refused}
use Rattle.refusal.proofs.Outcome.{refuses}
use Rattle.store.specs.Loop.{for}
use Rattle.store.specs.Region.{at, idx, splice, Wrote}
use Rattle.store.specs.Vector.{filled}
use Rattle.store.proofs.store.Loop.{for_map, for_same, Left, left_end}
use Rattle.store.proofs.store.Region.{length_part, get_d_part, get_d_splice_in, part_splice_below, set_splice, splice_part, wrote, wrote_at, wrote_off, wrote_again}
use Rattle.cholesky.specs.Triangle.{tri}
use Rattle.cholesky.specs.TriangleContract.{RowAt, LessOk, Less}
use Rattle.cholesky.specs.Turns.{less_of, column_of}
use Rattle.cholesky.specs.declared.Terminal.{Terminal}
use Rattle.cholesky.specs.Factor.{rest_of, columns_of, factor_row_of, rows_of, cholesky_of}
use Rattle.cholesky.specs.Contract.{csr_at, coupled_at, factor_at, entry_at, TerminalOk, PivotOk, Factored}
use Rattle.cholesky.proofs.packed.Triangles.{tri_zero, tri_on, tri_row, tri_at}

-- ---- the running starts

-- A column of a row that starts at `start`, with its own start.
pub record ColAt (row start column own : ℕ) : Type 0 where
  pub starts : own ≡ tri column
  pub below : own ≤ start
  pub within : column ≤ row

-- The first column.
pub col_start : (row start : ℕ) → ColAt row start 0 0
col_start row start = record { starts = sym tri_zero; below = omega arith; within = omega arith }

-- The next column.
pub col_on : {n row start column own : ℕ} → RowAt n row start → ColAt row start column own → column < row
    → ColAt row start (column + 1) (own + (column + 1))
col_on {n} {row} {start} {column} {own} a c h =
    let i = tri_row column row h in
    record { starts = rw c.starts (sym (tri_on column)); below = omega (arith, c.starts, a.starts); within = omega arith }

-- The facts hold in a store of the same size.
pub ok_resize : {w : List ℕ} {size size' : ℕ} {t : Terminal} → TerminalOk w size t → size' ≡ size → TerminalOk w size' t
ok_resize ok e = rw e ok

-- And after a write.
pub ok_wrote : {w : List ℕ} {F G v : List Float} {b m : ℕ} {t : Terminal} → TerminalOk w (length F) t → Wrote b m v F G → TerminalOk w (length G) t
ok_wrote ok h = rw h.size ok

-- What `less` requires below the diagonal.
pub less_ok : {w : List ℕ} {size size' row start column own : ℕ} {t : Terminal} → TerminalOk w size t → RowAt t.size row start → size' ≡ size
    → ColAt row start column own → column < row → LessOk size' (t.factor + start) (t.factor + own) column
less_ok ok a e c h = record { ps = omega (arith, ok.factor, a.fits); qs = omega (arith, ok.factor, a.fits, c.below) }

-- What it requires on the diagonal.
pub less_self : {w : List ℕ} {size row start : ℕ} {t : Terminal} → TerminalOk w size t → RowAt t.size row start
    → LessOk size (t.factor + start) (t.factor + start) row
less_self ok a = record { ps = omega (arith, ok.factor, a.fits); qs = omega (arith, ok.factor, a.fits) }

-- ---- the code's turns

-- a turn of `columns`
unfoldable pub column_turn : Terminal → List ℕ → ℕ → ℕ → List Float → List Float
column_turn t w row column F =
    set F (t.factor + tri row + column)
    (div64 (for (less_of F (t.factor + tri row) (t.factor + tri column)) 0 column (entry_at t w F row column)) (at F (t.factor + tri column + column)))

-- The turn as the code has it.
pub column_on : (F : List Float) (t : Terminal) (w : List ℕ) (row start column own : ℕ) (a value : Float) → RowAt t.size row start
    → ColAt row start column own → a ≡ entry_at t w F row column → Less F (t.factor + start) (t.factor + own) column a value
    → set F (t.factor + start + column) (div64 value (at F (t.factor + own + column))) ≡ column_turn t w row column F
unfolding column_turn
column_on F t w row start column own a value at' c e d = rw (d.is, e, at'.starts, c.starts)

-- ---- the laws

module _ (F : List Float) (t : Terminal) (w : List ℕ) (ok : TerminalOk w (length F) t) where
  in_at : (v : List Float) → length v ≡ tri t.size → (i j : ℕ) → i + j < tri t.size
      → at (splice t.factor v F) (t.factor + i + j) ≡ at v (i + j)
  in_at v q i j h =
      ap (at (splice t.factor v F)) (add_assoc t.factor i j)
      ∙ get_d_splice_in t.factor v F (i + j) nan (omega arith) (omega (arith, ok.factor))

  in_set : (v : List Float) → length v ≡ tri t.size → (i j : ℕ) (x : Float) → i + j < tri t.size
      → set (splice t.factor v F) (t.factor + i + j) x ≡ splice t.factor (set v (i + j) x) F
  in_set v q i j x h =
      ap (λ (k : ℕ). set (splice t.factor v F) k x) (add_assoc t.factor i j) ∙ set_splice t.factor v F (i + j) x (omega arith)

  rest_law : (v : List Float) → length v ≡ tri t.size → (row column : ℕ) → row < t.size → column ≤ row
      → for (less_of (splice t.factor v F) (t.factor + tri row) (t.factor + tri column)) 0 column (entry_at t w (splice t.factor v F) row column)
      ≡ rest_of (entry_at t w F) row column v
  unfolding rest_of less_of
  rest_law v q row column h c =
      rw (part_splice_below t.values t.entries t.factor v F ok.values)
      (for_same _ _ 0 column (λ k _ b s. rw (
        in_at v q (tri row) k (tri_at k row t.size (omega arith) h),
        in_at v q (tri column) k (tri_at k column t.size (omega arith) (omega arith)),
      )) _)

  column_turn_lem : (row : ℕ) → row < t.size → (column : ℕ) → column < row → (v : List Float) → length v ≡ tri t.size
      → (length (column_of (entry_at t w F) row column v) ≡ tri t.size)
      × (column_turn t w row column (splice t.factor v F) ≡ splice t.factor (column_of (entry_at t w F) row column v) F)
  unfolding column_turn column_of
  column_turn_lem row h column c v q = (
    length-set v _ _ ∙ q,
    rw (rest_law v q row column h (omega arith), in_at v q (tri column) column (tri_at column column t.size (omega arith) (omega arith)))
        (in_set v q (tri row) column _ (tri_at column row t.size (omega arith) h)),
  )

  columns_law : (row : ℕ) → row < t.size → (v : List Float) → length v ≡ tri t.size
      → (length (columns_of (entry_at t w F) row v) ≡ tri t.size)
      × (for (column_turn t w row) 0 row (splice t.factor v F) ≡ splice t.factor (columns_of (entry_at t w F) row v) F)
  unfolding columns_of column_of
  columns_law row h v q =
      for_map (λ (u : List Float). splice t.factor u F) (λ (u : List Float). length u ≡ tri t.size) _ _ 0 row
      (λ column _ c u e. column_turn_lem row h column c u e) v q

  long : length (factor_at t F) ≡ tri t.size
  long = length_part t.factor (tri t.size) F ok.factor

  here : splice t.factor (factor_at t F) F ≡ F
  here = splice_part t.factor (tri t.size) F

-- The loop of `columns` leaves the row's elements below the diagonal.
pub columns_done : {F G : List Float} {t : Terminal} {w : List ℕ} {row start k : ℕ} → TerminalOk w (length F) t → RowAt t.size row start
    → Left (column_turn t w row) k row G (for (column_turn t w row) 0 row F) → row ≤ k
    → Wrote t.factor (tri t.size) (columns_of (entry_at t w F) row (factor_at t F)) F G
columns_done {F} {G} {t} {w} {row} ok a l h =
    let law = columns_law F t w ok row a.within (factor_at t F) (long F t w ok) in
    wrote (left_end l h ∙ (rw (here F t w ok) at law.1)) law.0

-- `pivot` gives the diagonal's rest.
pub rest_done : {F : List Float} {t : Terminal} {w : List ℕ} {row start : ℕ} {a r : Float} → TerminalOk w (length F) t → RowAt t.size row start
    → a ≡ entry_at t w F row row → Less F (t.factor + start) (t.factor + start) row a r → r ≡ rest_of (entry_at t w F) row row (factor_at t F)
rest_done {F} {t} {w} {row} {start} {a} {r} ok i e d =
    let law = rest_law F t w ok (factor_at t F) (long F t w ok) row row i.within (omega arith) in
    d.is ∙ rw (e, i.starts) (rw (here F t w ok) at law)

-- ---- one row

module _ {F G : List Float} {t : Terminal} {w : List ℕ} {row start : ℕ} {value : Float} {b : Bool} (level : ℕ) (ok : TerminalOk w (length F) t)
    (a : RowAt t.size row start) (g : Wrote t.factor (tri t.size) (columns_of (entry_at t w F) row (factor_at t F)) F G)
    (e : value ≡ rest_of (entry_at t w G) row row (factor_at t G)) (p : b ≡ is_positive value) where
  factor_is_lem : factor_at t G ≡ columns_of (entry_at t w F) row (factor_at t F)
  factor_is_lem = wrote_at g ok.factor

  value_is : value ≡ rest_of (entry_at t w F) row row (columns_of (entry_at t w F) row (factor_at t F))
  value_is = rw (factor_is_lem, wrote_off g t.values t.entries (omega (arith, ok.values))) at e

  -- A good pivot: its root ends the row.
  pub row_good : {root : Float} → b ≡ true → root ≡ sqrt_of value
      → Factored t (factor_row_of level (coupled_at t w) (entry_at t w F) row (factor_at t F)) F (set G (t.factor + start + row) root) (Ok tt)
  unfolding factor_row_of
  row_good {root} y s =
      let good = sym p ∙ y in
      let c = columns_of (entry_at t w F) row (factor_at t F) in
      let z : set G (t.factor + start + row) root ≡ splice t.factor (set c (tri row + row) root) F =
      rw (g.is, a.starts) (in_set F t w ok c g.long (tri row) row root (tri_at row row t.size (omega arith) a.within)) in
      let h : Wrote t.factor (tri t.size) (set c (tri row + row) root) F (set G (t.factor + start + row) root) =
      wrote z (length-set c (tri row + row) root ∙ g.long) in
      let i = wrote_at h ok.factor in
      let o : accepted (factor_at t (set G (t.factor + start + row) root)) ≡ factor_row_of level (coupled_at t w) (entry_at t w F) row (factor_at t F) =
      rw (← value_is, good, i, s) in
      record { answer = rw (← o); factor = λ _. sym o; frame = rw i h }

  -- A bad one: the row is refused.
  pub row_bad : b ≡ false
      → Factored t (factor_row_of level (coupled_at t w) (entry_at t w F) row (factor_at t F)) F G (Err (bad_pivot level (idx (coupled_at t w) row)))
  unfolding factor_row_of
  row_bad y =
      let bad = sym p ∙ y in
      let o : refused (bad_pivot level (idx (coupled_at t w) row)) ≡ factor_row_of level (coupled_at t w) (entry_at t w F) row (factor_at t F) =
      rw (← value_is, bad) in
      record { answer = rw (← o); factor = λ z. let n : ◌≡◌ {A = ℕ} 0 1 = cc in absurd (omega arith); frame = rw factor_is_lem g }

-- ---- all rows

-- The row that a refusal names.
pub pivot_told : {w : List ℕ} {t : Terminal} {row own : ℕ} (level : ℕ) → PivotOk w t row → own ≡ idx w (t.coupled + row)
    → bad_pivot level own ≡ bad_pivot level (idx (coupled_at t w) row)
pivot_told {w} {t} {row} level ok e = rw (e, get_d_part t.coupled t.size w row 0 ok.within)

-- What `bad_pivot` requires.
pub pivot_ok : {w : List ℕ} {size row : ℕ} {t : Terminal} → TerminalOk w size t → row < t.size → PivotOk w t row
pivot_ok ok h = record { coupled = ok.coupled; within = h }

-- The invariant of `factor_rows`: what is left gives the whole.
pub record Factoring (t : Terminal) (w : List ℕ) (level row : ℕ) (F G : List Float) : Type 0 where
  pub left : rows_of level (coupled_at t w) (entry_at t w F) (t.size - row) row (factor_at t G)
      ≡ rows_of level (coupled_at t w) (entry_at t w F) t.size 0 (factor_at t F)
  pub frame : Wrote t.factor (tri t.size) (factor_at t G) F G

-- At the start the whole is left.
pub factoring_start : {w : List ℕ} {F : List Float} {t : Terminal} (level : ℕ) → TerminalOk w (length F) t → Factoring t w level 0 F F
factoring_start {w} {F} {t} level ok =
    let z : t.size - 0 ≡ t.size = omega arith in
    record { left = rw z; frame = wrote (sym (here F t w ok)) (long F t w ok) }

module _ {t : Terminal} {w : List ℕ} {level row : ℕ} {F G : List Float} (ok : TerminalOk w (length F) t) (s : Factoring t w level row F G) where
  -- What `one_row` requires.
  pub factoring_ok : TerminalOk w (length G) t
  factoring_ok = rw s.frame.size ok

  module _ {H : List Float} {v : Result Unit Refusal} (h : row < t.size)
      (d : Factored t (factor_row_of level (coupled_at t w) (entry_at t w G) row (factor_at t G)) G H v) where
    next : t.size - row ≡ suc (t.size - (row + 1))
    next = omega arith

    same : entry_at t w G ≡ entry_at t w F
    same = rw (wrote_off s.frame t.values t.entries (omega (arith, ok.values)))

    -- A row that passes.
    pub factoring_on : v ≡ Ok tt → Factoring t w level (row + 1) F H
    unfolding rows_of
    factoring_on y =
        let e : factor_row_of level (coupled_at t w) (entry_at t w F) row (factor_at t G) ≡ accepted (factor_at t H) = rw same at (d.factor y) in
        record { left = rw (next, e) at s.left; frame = wrote_again s.frame d.frame }

    -- A row that is refused ends the factor.
    pub factoring_no : {q : Refusal} → v ≡ Err q → Factored t (rows_of level (coupled_at t w) (entry_at t w F) t.size 0 (factor_at t F)) F H (Err q)
    unfolding rows_of
    factoring_no {q} y =
        let e : factor_row_of level (coupled_at t w) (entry_at t w F) row (factor_at t G) ≡ refused q = rw same at (refuses _ d.answer y) in
        let o : refused q ≡ rows_of level (coupled_at t w) (entry_at t w F) t.size 0 (factor_at t F) = rw (next, e) at s.left in
        record {
          answer = rw (← o);
          factor = λ z. let n : ◌≡◌ {A = ℕ} 0 1 = cc in absurd (omega arith);
          frame = wrote_again s.frame d.frame;
        }

  -- The last row is done.
  pub factoring_end : t.size ≤ row → Factored t (rows_of level (coupled_at t w) (entry_at t w F) t.size 0 (factor_at t F)) F G (Ok tt)
  unfolding rows_of
  factoring_end h =
      let z : t.size - row ≡ 0 = omega arith in
      let o : accepted (factor_at t G) ≡ rows_of level (coupled_at t w) (entry_at t w F) t.size 0 (factor_at t F) = rw z at s.left in
      record { answer = rw (← o); factor = λ _. sym o; frame = s.frame }

-- ---- the whole

module _ {w : List ℕ} {F G : List Float} {t : Terminal} {end : ℕ} (ok : TerminalOk w (length F) t) (e : end ≡ tri t.size)
    (g : Wrote t.factor end (filled end zero64) F G) where
  -- `cholesky` as the code has it.
  pub cholesky_done : {H : List Float} {v : Result Unit Refusal} (level : ℕ)
      → Factored t (rows_of level (coupled_at t w) (entry_at t w G) t.size 0 (factor_at t G)) G H v
      → Factored t (cholesky_of level (csr_at t w F) t.size (coupled_at t w)) F H v
  unfolding cholesky_of
  cholesky_done level d =
      let f = rw e at g in
      let a = wrote_off f t.values t.entries (omega (arith, ok.values)) in
      let b = wrote_at f ok.factor in
      let c = rw (a, b) at d in
      record { answer = c.answer; factor = c.factor; frame = wrote_again f d.frame }
