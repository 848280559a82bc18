-- What a sound head tells of a level: its sizes and its coupled rows.
-- Assumes nothing.
use mathlib.Core.Path.{◌≡◌}
use mathlib.Core.Bool.{Bool, true, ◌&&◌}
use mathlib.Core.List.{List}
use Prim.Native.Nat.{ℕ, ◌+◌, ◌*◌, ◌≤◌}
use native.Mathlib.Omega.{arith}
use lib.Dec.{leb}
use lib.ListN.{length}
use borrow.Author.Tests.{leb-true, eq-eqb, ne_eqb}
use Rattle.store.specs.Region.{idx}
use Rattle.store.proofs.store.Each.{both_l, both_r}
use Rattle.layout.specs.Layout.{rows_at, coupled_at, entries_at, faces_at, words_end}
use Rattle.layout.proofs.Places.{ends_above}
use Rattle.index_check.specs.Sound.{head_sound}

-- Where five tests hold, each does.
pub all_five : (a b c d e : Bool) → a && b && c && d && e ≡ true → (a ≡ true) × (b ≡ true) × (c ≡ true) × (d ≡ true) × (e ≡ true)
all_five a b c d e t =
    let t4 = both_l (a && b && c && d) e t in
    let t3 = both_l (a && b && c) d t4 in
    let t2 = both_l (a && b) c t3 in
    (both_l a b t2, both_r a b t2, both_r (a && b) c t3, both_r (a && b && c) d t4, both_r (a && b && c && d) e t)

-- A sound head: the level's words end in the store, and its sizes are bounded.
pub record Head (w : List ℕ) (a : ℕ) : Type 0 where
  pub ends : words_end w a ≤ length w
  pub rows : rows_at w a ≤ 65536
  pub entries : entries_at w a ≤ 1048576
  pub faces : faces_at w a ≤ entries_at w a
  pub coupled : coupled_at w a ≤ rows_at w a

-- So the test tells.
pub head_told : (w : List ℕ) (a : ℕ) → head_sound w a ≡ true → Head w a
unfolding head_sound
head_told w a t =
    let all = all_five (leb (words_end w a) (length w)) (leb (rows_at w a) 65536) (leb (entries_at w a) 1048576)
    (leb (faces_at w a) (entries_at w a)) (leb (coupled_at w a) (rows_at w a)) t in
    record {
      ends = leb-true (words_end w a) (length w) all.0;
      rows = leb-true (rows_at w a) 65536 all.1;
      entries = leb-true (entries_at w a) 1048576 all.2;
      faces = leb-true (faces_at w a) (entries_at w a) all.3;
      coupled = leb-true (coupled_at w a) (rows_at w a) all.4;
    }

module _ (w : List ℕ) (a : ℕ) {rows entries faces : ℕ} (r : rows ≡ rows_at w a) (e : entries ≡ idx w (a + 3 + rows))
    (f : faces ≡ idx w (a + 3 + rows + 1 + entries + rows)) where
  -- Where the head is sound, the sizes that were read lie in the store and are bounded.
  pub head_sizes : Head w a → (a + 5 + 3 * rows + entries + 3 * faces ≤ length w) × (rows ≤ 65536) × (entries ≤ 1048576) × (faces ≤ entries)
  head_sizes h =
      let e' : entries ≡ entries_at w a = rw (← r) e in
      let f' : faces ≡ faces_at w a = rw (← r, ← e) f in
      let rs = h.rows in
      let es = h.entries in
      let fs = h.faces in
      (ends_above w a r e f h.ends, omega arith, omega arith, omega arith)

module _ (w : List ℕ) (a : ℕ) where
  -- The coupled rows of the last level,
  pub coupled_last : {r : ℕ} → idx w (a + 1) ≡ 1 → r ≡ idx w (a + 2) → r ≡ coupled_at w a
  coupled_last t e = rw (eq-eqb (idx w (a + 1)) 1 t) e

  -- and none of another.
  pub coupled_none : (idx w (a + 1) ≡ 1 → ⊥) → 0 ≡ coupled_at w a
  coupled_none t = rw (ne_eqb (idx w (a + 1)) 1 t)
