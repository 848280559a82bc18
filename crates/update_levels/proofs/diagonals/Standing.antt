-- Question 11 of a level: all rows at once, and row by row.
-- Assumes nothing.
use Rattle.std.specs.Prelude.{Ok, Err}
use mathlib.Core.Path.{◌≡◌, refl, sym, ap, ◌∙◌}
use mathlib.Core.Bool.{Bool, true, false, ◌&&◌}
use mathlib.Core.List.{List}
use Prim.Native.Nat.{ℕ, zero, suc, ◌+◌, ◌-◌, ◌≤◌, ◌<◌}
use native.Mathlib.Numerals.{add-one}
use native.Mathlib.Omega.{arith}
use lib.Dec.{eqb, leb, ltb}
use Rattle.store.specs.Region.{idx, part}
use Rattle.store.specs.Vector.{each}
use Rattle.store.proofs.store.Each.{each_at}
use Rattle.store.proofs.store.Region.{get_d_part}
use Rattle.refusal.specs.declared.Refusal.{Refusal}
use Rattle.refusal.specs.Refusal.{missing_diagonal}
use Rattle.refusal.specs.Outcome.{Outcome, accepted, refused, passed, ask, ask_rows, ask_from, verdict_of, ◌>>=◌}
use Rattle.refusal.proofs.Outcome.{ask_yes, ask_no, each_step, each_stop, each_done, never}
use Rattle.layout.specs.declared.Place.{Place}
use Rattle.update_levels.specs.Standing.{diagonal_stands, diagonals_stand}
use Rattle.update_levels.specs.StandingContract.{bare_at, RowOk, RowsOk}

-- The test of a row as the code has it.
pub stands_is : {w : List ℕ} {p : Place} {row entry first end column : ℕ} → RowOk w p row → entry ≡ idx w (p.diagonals + row)
    → first ≡ idx w (p.offsets + row) → end ≡ idx w (p.offsets + row + 1) → column ≡ idx w (p.columns + entry)
    → (leb first entry && ltb entry end && eqb column row) ≡ diagonal_stands (bare_at w p) row
unfolding diagonal_stands
stands_is {w} {p} {row} {entry} {first} {end} {column} ok ed ef ee ec =
    let own : idx w (p.diagonals + row) < p.entries = ok.own in
    let within = ok.within in
    let d : idx (part p.diagonals p.rows w) row ≡ entry = get_d_part p.diagonals p.rows w row 0 within ∙ sym ed in
    let f : idx (part p.offsets (p.rows + 1) w) row ≡ first = get_d_part p.offsets (p.rows + 1) w row 0 (omega arith) ∙ sym ef in
    let g : idx (part p.offsets (p.rows + 1) w) (row + 1) ≡ end =
    get_d_part p.offsets (p.rows + 1) w (row + 1) 0 (omega arith) ∙ ap (idx w) (omega arith) ∙ sym ee in
    let h : idx (part p.columns p.entries w) entry ≡ column = get_d_part p.columns p.entries w entry 0 (omega arith) ∙ sym ec in
    sym (rw (d, f, g, h))

-- ---- all rows at once

-- The invariant of the loop over all rows: the answer so far is that of the rows passed.
pub record Gathered (w : List ℕ) (p : Place) (row : ℕ) (ok : Bool) : Type 0 where
  pub rows : RowsOk w p
  pub is : ok ≡ each (diagonal_stands (bare_at w p)) row
  pub within : row ≤ p.rows

-- At the start there is none.
pub gathered_start : {w : List ℕ} {p : Place} → RowsOk w p → Gathered w p 0 true
unfolding each
gathered_start ok = record { rows = ok; is = refl; within = omega arith }

module _ {w : List ℕ} {p : Place} {row : ℕ} {ok : Bool} (g : Gathered w p row ok) where
  -- The rows left are rows.
  pub gathered_row : row < p.rows → RowOk w p row
  gathered_row h = record { rows = g.rows; within = h; own = g.rows.own row h }

  -- A turn takes one row more.
  pub gathered_on : {t : Bool} → row < p.rows → t ≡ diagonal_stands (bare_at w p) row → Gathered w p (row + 1) (ok && t)
  unfolding each
  gathered_on h e = record { rows = g.rows; is = rw (add-one row, g.is, e); within = omega arith }

  -- At the end they are all.
  pub gathered_end : p.rows ≤ row → ok ≡ each (diagonal_stands (bare_at w p)) p.rows
  gathered_end h =
      let b : row ≤ p.rows = g.within in
      let z : row ≡ p.rows = omega arith in
      g.is ∙ ap (each (diagonal_stands (bare_at w p))) z

-- ---- row by row

-- the question of a row
abbrev asks : ℕ → List ℕ → Place → ℕ → Outcome Unit
asks level w p row = ask (diagonal_stands (bare_at w p) row) (missing_diagonal level row) passed

-- The invariant of the loop: the rows left give the answer.
pub record Standing (level : ℕ) (w : List ℕ) (p : Place) (row : ℕ) : Type 0 where
  pub ok : RowsOk w p
  pub rest : ask_from row p.rows (asks level w p) passed ≡ diagonals_stand level (bare_at w p)
  pub within : row ≤ p.rows

-- At the start all rows are left.
pub standing_start : {level : ℕ} {w : List ℕ} {p : Place} → RowsOk w p → Standing level w p 0
unfolding diagonals_stand
standing_start ok = record { ok = ok; rest = refl; within = omega arith }

module _ {level : ℕ} {w : List ℕ} {p : Place} {row : ℕ} (s : Standing level w p row) where
  -- The rows left are rows.
  pub standing_row : row < p.rows → RowOk w p row
  standing_row h = record { rows = s.ok; within = h; own = s.ok.own row h }

  -- A row passes.
  pub standing_on : {t : Bool} → row < p.rows → t ≡ diagonal_stands (bare_at w p) row → t ≡ true → Standing level w p (row + 1)
  standing_on h e told = record {
    ok = s.ok;
    rest = sym (each_step row p.rows (asks level w p) passed h
        (ask_yes (diagonal_stands (bare_at w p) row) (missing_diagonal level row) passed (sym e ∙ told))) ∙ s.rest;
    within = omega arith;
  }

  -- A row refuses.
  pub standing_no : {t : Bool} → row < p.rows → t ≡ diagonal_stands (bare_at w p) row → t ≡ false
      → Err (missing_diagonal level row) ≡ verdict_of (diagonals_stand level (bare_at w p))
  standing_no h e fails = sym (ap verdict_of (sym s.rest ∙ each_stop row p.rows (asks level w p) passed h
      (ask_no (diagonal_stands (bare_at w p) row) (missing_diagonal level row) passed (sym e ∙ fails))))

  -- All have passed.
  pub standing_done : p.rows ≤ row → (Ok tt) ≡ verdict_of (diagonals_stand level (bare_at w p))
  standing_done h = sym (ap verdict_of (sym s.rest ∙ each_done row p.rows (asks level w p) passed h))

-- Where the diagonals of all rows stand, those of so many from `row` on pass.
rows_pass : (level : ℕ) (w : List ℕ) (p : Place) → each (diagonal_stands (bare_at w p)) p.rows ≡ true
    → (fuel row : ℕ) → row + fuel ≤ p.rows → ask_rows fuel row (asks level w p) passed ≡ passed
unfolding ask_rows
rows_pass level w p all zero row h = refl
rows_pass level w p all (suc fuel) row h =
    let stands : diagonal_stands (bare_at w p) row ≡ true = each_at (diagonal_stands (bare_at w p)) p.rows all row (omega arith) in
    ap (λ (o : Outcome Unit). ◌>>=◌ o (λ _. ask_rows fuel (row + 1) (asks level w p) passed))
    (ask_yes (diagonal_stands (bare_at w p) row) (missing_diagonal level row) passed stands)
    ∙ rows_pass level w p all fuel (row + 1) (omega arith)

-- Where all stand, question 11 passes,
pub stand_all : (level : ℕ) (w : List ℕ) (p : Place) {all : Bool} → all ≡ each (diagonal_stands (bare_at w p)) p.rows → all ≡ true
    → diagonals_stand level (bare_at w p) ≡ passed
unfolding diagonals_stand
stand_all level w p e told = rows_pass level w p (sym e ∙ told) (p.rows - 0) 0 (omega arith)

-- Rows that pass stand, after others that do.
pass_rows : (level : ℕ) (w : List ℕ) (p : Place) (fuel row : ℕ) → each (diagonal_stands (bare_at w p)) row ≡ true
    → ask_rows fuel row (asks level w p) passed ≡ passed → each (diagonal_stands (bare_at w p)) (row + fuel) ≡ true
unfolding ask_rows each
pass_rows level w p zero row before e = let none : row + 0 ≡ row = omega arith in rw none before
pass_rows level w p (suc fuel) row before e = go (diagonal_stands (bare_at w p) row) refl (pass_rows level w p fuel (row + 1))
  where
    go : (b : Bool) → diagonal_stands (bare_at w p) row ≡ b
        → (each (diagonal_stands (bare_at w p)) (row + 1) ≡ true → ask_rows fuel (row + 1) (asks level w p) passed ≡ passed
        → each (diagonal_stands (bare_at w p)) (row + 1 + fuel) ≡ true)
        → each (diagonal_stands (bare_at w p)) (row + suc fuel) ≡ true
    go true stands deeper =
        let far : row + 1 + fuel ≡ row + suc fuel = omega arith in
        ap (each (diagonal_stands (bare_at w p))) (sym far) ∙ deeper (rw (add-one row, before, stands) refl) (rw stands at e)
    go false fails deeper = never (ap (λ (b : Bool). ◌>>=◌ (ask b (missing_diagonal level row) passed) (λ _. ask_rows fuel (row + 1) (asks level w p) passed)) fails) e

-- and where one does not, it refuses.
pub stand_not : (level : ℕ) (w : List ℕ) (p : Place) {all : Bool} → all ≡ each (diagonal_stands (bare_at w p)) p.rows → all ≡ false
    → (q : Refusal) × (diagonals_stand level (bare_at w p) ≡ refused q)
unfolding diagonals_stand each
stand_not level w p {all} e told = go (ask_rows (p.rows - 0) 0 (asks level w p) passed) refl
  where
    go : (o : Outcome Unit) → ask_rows (p.rows - 0) 0 (asks level w p) passed ≡ o → (q : Refusal) × (diagonals_stand level (bare_at w p) ≡ refused q)
    go (refused q) is = (q, is)
    go (accepted u) is =
        let whole : 0 + (p.rows - 0) ≡ p.rows = omega arith in
        let yes : each (diagonal_stands (bare_at w p)) p.rows ≡ true =
        ap (each (diagonal_stands (bare_at w p))) (sym whole) ∙ pass_rows level w p (p.rows - 0) 0 refl is in
        let none : ◌≡◌ {A = ℕ} 0 1 = cc in
        absurd (omega arith)
