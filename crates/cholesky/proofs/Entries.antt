-- An entry of the compact matrix: the search in a row of the level's matrix.
-- Assumes nothing.
use mathlib.Core.Path.{◌≡◌, refl, sym, ap, ◌∙◌}
use mathlib.Core.List.{List}
use Prim.Native.Nat.{ℕ, suc, ◌+◌, ◌-◌, ◌≤◌, ◌<◌}
use native.Mathlib.Nat.{add_assoc}
use native.Mathlib.Omega.{arith}
use borrow.Author.Tests.{eq-eqb, ne_eqb}
use lib.Ieee.{Float, nan}
use lib.ListN.{length}
use Rattle.float.specs.Float.{zero64}
use Rattle.store.specs.Region.{at, idx, part}
use Rattle.store.proofs.store.Region.{get_d_part}
use Rattle.cholesky.specs.declared.Terminal.{Terminal}
use Rattle.cholesky.specs.Factor.{Csr, seek_of, get_of}
use Rattle.cholesky.specs.Contract.{csr_at, coupled_at, entry_at, TerminalOk, SeekOk}

-- The invariant of `seek`: what is left to search gives the whole answer.
pub record Seeking (a : Csr) (column from to e : ℕ) : Type 0 where
  pub left : seek_of a column (to - e) e ≡ seek_of a column (to - from) from

-- At the start the whole is left.
pub seek_start : (a : Csr) (column from to : ℕ) → Seeking a column from to from
seek_start a column from to = record { left = refl }

module _ {t : Terminal} (w : List ℕ) (F : List Float) {column from to e : ℕ} (ok : SeekOk (length w) (length F) t to)
    (s : Seeking (csr_at t w F) column from to e) where
  module _ {r : ℕ} (h : e < to) (is : r ≡ idx w (t.columns + e)) where
    next : to - e ≡ suc (to - (e + 1))
    next = omega arith

    column_is : idx (part t.columns t.entries w) e ≡ r
    column_is = let i : e < t.entries = omega (arith, ok.within) in get_d_part t.columns t.entries w e 0 i ∙ sym is

    -- The column is found.
    pub seek_found : r ≡ column → at F (t.values + e) ≡ seek_of (csr_at t w F) column (to - from) from
    unfolding seek_of
    seek_found z =
        let i : e < t.entries = omega (arith, ok.within) in
        let y = eq-eqb r column z in
        let v = get_d_part t.values t.entries F e nan i in
        rw (next, column_is, y, v) at s.left

    -- It is another's.
    pub seek_on : (r ≡ column → ⊥) → Seeking (csr_at t w F) column from to (e + 1)
    unfolding seek_of
    seek_on z = let y = ne_eqb r column z in record { left = rw (next, column_is, y) at s.left }

  -- None has it.
  pub seek_none : to ≤ e → zero64 ≡ seek_of (csr_at t w F) column (to - from) from
  unfolding seek_of
  seek_none h = let z : to - e ≡ 0 = omega arith in rw z at s.left

module _ {w : List ℕ} {size : ℕ} {t : Terminal} (ok : TerminalOk w size t) where
  -- The entries of a row lie in the stores.
  pub seek_ok : {own to : ℕ} → own < t.rows → to ≡ idx w (t.offsets + own + 1) → SeekOk (length w) size t to
  seek_ok {own} {to} h e =
      let i = ok.ends own h in
      record { columns = ok.columns; values = omega (arith, ok.values, ok.factor); within = omega arith }

-- `entry` as the code has it.
pub entry_done : {w : List ℕ} (F : List Float) {t : Terminal} {row column own other from to : ℕ} {r : Float} → TerminalOk w (length F) t
    → row < t.size → column ≤ row → own < t.rows → own ≡ idx w (t.coupled + row) → other ≡ idx w (t.coupled + column)
    → from ≡ idx w (t.offsets + own) → to ≡ idx w (t.offsets + own + 1)
    → r ≡ seek_of (csr_at t w F) other (to - from) from → r ≡ entry_at t w F row column
unfolding get_of
entry_done {w} F {t} {row} {column} {own} {other} {from} {to} {r} ok h c n a b d e g =
    let i : column < t.size = omega arith in
    let j : own < t.rows + 1 = omega arith in
    let k : own + 1 < t.rows + 1 = omega arith in
    let a' : idx (coupled_at t w) row ≡ own = get_d_part t.coupled t.size w row 0 h ∙ sym a in
    let b' : idx (coupled_at t w) column ≡ other = get_d_part t.coupled t.size w column 0 i ∙ sym b in
    let d' : idx (part t.offsets (t.rows + 1) w) own ≡ from = get_d_part t.offsets (t.rows + 1) w own 0 j ∙ sym d in
    let e' : idx (part t.offsets (t.rows + 1) w) (own + 1) ≡ to = get_d_part t.offsets (t.rows + 1) w (own + 1) 0 k ∙ ap (idx w) (sym (add_assoc t.offsets own 1)) ∙ sym e in
    rw (a', b', d', e') g
