-- The rows of the levels in a table: one after the other, and that they are those of the levels that stand in the stores.
-- Assumes nothing.
use mathlib.Core.Path.{◌≡◌, refl, sym, ap, ◌∙◌}
use mathlib.Core.Bool.{true}
use mathlib.Core.List.{List, [], ◌∷◌}
use Prim.Native.Nat.{ℕ, zero, suc, ◌+◌, ◌-◌, ◌≤◌, ◌<◌}
use native.Mathlib.Nat.{suc-add}
use native.Mathlib.Omega.{arith}
use lib.Dec.{leb}
use lib.ListN.{length, set, replicate}
use lib.Ieee.{Float}
use borrow.Author.Tests.{leb-true}
use Rattle.store.specs.Region.{lay, splice}
use Rattle.store.proofs.store.Each.{both_l, both_r}
use Rattle.store.proofs.store.Region.{splice_nil}
use Rattle.layout.specs.Layout.{rows_at, level_at, levels_at, words_end, floats_end, words_fit}
use Rattle.solve.proofs.Solving.{zeros_are}
use Rattle.multigrid.specs.Contract.{cells_at, cells_of, table_of, CellsOk}

-- ---- a place of the table

-- To write one element and lay the others behind it is to lay all of them.
splice_cons : (b x : ℕ) (v F : List ℕ) → splice (b + 1) v (set F b x) ≡ splice b (x ∷ v) F
unfolding splice lay
splice_cons zero x v [] = refl
splice_cons zero x v (y ∷ F) = refl
splice_cons (suc b) x v [] = rw suc-add refl
splice_cons (suc b) x v (y ∷ F) = rw suc-add (ap (λ (r : List ℕ). y ∷ r) (splice_cons b x v F))

-- ---- the words of the levels

-- The words of a level at a end in the store, and so do those of n levels after it.
record Ahead (n : ℕ) (w : List ℕ) (a : ℕ) : Type 0 where
  here : words_end w a ≤ length w
  on : words_fit n w (words_end w a) ≡ true

-- So it is where one level more than n fits.
ahead : (n : ℕ) (w : List ℕ) (a : ℕ) → words_fit (suc n) w a ≡ true → Ahead n w a
unfolding words_fit
ahead n w a t = record {
  here = leb-true (words_end w a) (length w) (both_l (leb (words_end w a) (length w)) (words_fit n w (words_end w a)) t);
  on = both_r (leb (words_end w a) (length w)) (words_fit n w (words_end w a)) t;
}

-- ---- the loop

-- The loop over the levels, at level k, whose words start at a: the words of those left fit, and their rows, laid over what stands in the
-- table, give the whole.
pub record Reading (w : List ℕ) (levels : ℕ) (table : List ℕ) (a k : ℕ) : Type 0 where
  pub fits : words_fit (levels - k) w a ≡ true
  pub rest : splice k (cells_at (levels - k) w a) table ≡ table_of (cells_at levels w 0)
  pub few : levels ≤ 128

-- At the start all are left.
pub reading : {w : List ℕ} {levels : ℕ} {table : List ℕ} → CellsOk w levels → table ≡ replicate 128 0 → Reading w levels table 0 0
unfolding splice
reading {w} {levels} ok zeros =
    let e : levels - 0 ≡ levels = omega arith in
    record { fits = rw e ok.fits; rest = rw e (ap (lay (cells_at levels w 0)) (zeros ∙ zeros_are 128)); few = ok.few }

module _ {w : List ℕ} {levels : ℕ} {table : List ℕ} {a k : ℕ} (p : Reading w levels table a k) (h : k < levels) where
  -- One level more is left than after it.
  left : levels - k ≡ suc (levels - (k + 1))
  left = omega arith

  -- What is known of it and of those after it.
  next : Ahead (levels - (k + 1)) w a
  next = ahead (levels - (k + 1)) w a (rw left at p.fits)

  -- The words of the level at hand end in the store.
  pub level_fits : words_end w a ≤ length w
  level_fits = next.here

  -- A turn: the rows of the level at hand.
  pub reading_on : {r e : ℕ} → r ≡ rows_at w a → e ≡ words_end w a → Reading w levels (set table k r) e (k + 1)
  unfolding cells_at
  reading_on {r} {e} rows end =
      let n = levels - (k + 1) in
      let whole : splice k (rows_at w a ∷ cells_at n w (words_end w a)) table ≡ table_of (cells_at levels w 0) = rw left at p.rest in
      record {
        fits = rw end next.on;
        rest = rw (end, rows) (splice_cons k (rows_at w a) (cells_at n w (words_end w a)) table ∙ whole);
        few = p.few;
      }

-- The end: the rows stand at the start of the table.
pub reading_end : {w : List ℕ} {levels : ℕ} {table : List ℕ} {a k : ℕ} → Reading w levels table a k → levels ≤ k
    → table ≡ table_of (cells_at levels w 0)
unfolding cells_at
reading_end {w} {levels} {table} {a} {k} p h =
    let none : levels - k ≡ 0 = omega arith in
    let whole : splice k [] table ≡ table_of (cells_at levels w 0) = rw none at p.rest in
    sym (splice_nil k table) ∙ whole

-- ---- what is read

-- The rows told by the words are those of the levels that stand there, whatever their floats.
pub cells_are : (k : ℕ) (w : List ℕ) (F : List Float) (a b : ℕ) → cells_at k w a ≡ cells_of (levels_at k w F a b)
unfolding cells_at cells_of levels_at level_at
cells_are zero w F a b = refl
cells_are (suc k) w F a b = ap (λ (r : List ℕ). rows_at w a ∷ r) (cells_are k w F (words_end w a) (floats_end w a b))
