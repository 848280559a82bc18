-- What the tests of all tables of a level give, said of the definitions alone.
-- Assumes nothing.
use mathlib.Core.Path.{◌≡◌, refl, sym, ap, ◌∙◌}
use mathlib.Core.Bool.{Bool, true, false, cond, ◌&&◌}
use mathlib.Core.List.{List}
use Prim.Native.Nat.{ℕ, zero, suc, ◌+◌, ◌≤◌, ◌<◌}
use native.Mathlib.Omega.{arith}
use lib.Dec.{ltb}
use lib.ListN.{length}
use Rattle.store.specs.Region.{idx, part}
use Rattle.store.specs.Vector.{each}
use Rattle.store.proofs.store.Each.{each_same, Tested, tested_done}
use Rattle.store.proofs.store.Region.{length_part, get_d_part}
use Rattle.layout.specs.declared.Place.{Place}
use Rattle.layout.specs.Layout.{rows_at, last_at, coupled_at, entries_at, locate, words_end}
use Rattle.layout.proofs.Places.{ends_above}
use Rattle.index_check.specs.declared.tables.Targets.{Targets}
use Rattle.index_check.specs.Sound.{all_below, head_sound, head_fits, shape_in, arrays_sound, row_placed, targets_of, sums_of, level_sound}
use Rattle.index_check.specs.LevelContract.{TargetsOk, targets_at, shape_to, LevelOk, faces_below, rise_at, rows_placed}
use Rattle.index_check.proofs.sound.Laws.{head_told}
use Rattle.index_check.proofs.sound.Walks.{fits_head, fits_last}

-- ---- numbers below a bound

-- Four tests in another order.
crossed : (a b c d : Bool) → a && b && (c && d) ≡ a && c && (b && d)
crossed true b true d = refl
crossed true true false d = refl
crossed true false false d = refl
crossed false b c d = refl

-- the test of the number at from + k
abbrev pub below_at : List ℕ → ℕ → ℕ → ℕ → Bool
below_at w from bound k = ltb (idx w (from + k)) bound

-- The numbers of a part are those of the store.
pub below_is : (w : List ℕ) (from n bound : ℕ) → from + n ≤ length w → each (below_at w from bound) n ≡ all_below bound (part from n w)
unfolding all_below
below_is w from n bound fits =
    rw (length_part from n w fits) (each_same _ _ n (λ k q. ap (λ (x : ℕ). ltb x bound) (sym (get_d_part from n w k 0 q))))

-- As many rows as a level may have are a bound that a u32 holds.
pub below_ok : {n : ℕ} → n ≤ 65536 → n ≤ 1048576
below_ok h = omega arith

-- Numbers that have all been tested against the bound as a u32 has it.
pub below_tested : (w : List ℕ) (from n bound : ℕ) → from + n ≤ length w → {k limit : ℕ} {ok : Bool} → limit ≡ bound
    → Tested (below_at w from limit) n k ok → n ≤ k → ok ≡ all_below bound (part from n w)
below_tested w from n bound fits e t h = rw (← e) (tested_done t h ∙ below_is w from n _ fits)

-- Two tests made side by side at each index tell what each of them tells of all.
each_both : (p q : ℕ → Bool) (n : ℕ) → each (λ k. p k && q k) n ≡ each p n && each q n
unfolding each
each_both p q zero = refl
each_both p q (suc n) = rw (each_both p q n) (crossed (each p n) (each q n) (p n) (q n))

-- the tests of the numbers at first + k and at second + k
abbrev pub two_at : List ℕ → ℕ → ℕ → ℕ → ℕ → ℕ → Bool
two_at w first second low high k = below_at w first low k && below_at w second high k

-- Two arrays that have been tested side by side.
pub two_tested : (w : List ℕ) (first second n low high : ℕ) → first + n ≤ length w → second + n ≤ length w → {k lower upper : ℕ} {ok : Bool}
    → lower ≡ low → upper ≡ high
    → Tested (two_at w first second lower upper) n k ok → n ≤ k → ok ≡ all_below low (part first n w) && all_below high (part second n w)
two_tested w first second n low high fits fits' {k} {lower} {upper} el eh t h =
    rw (← el, ← eh)
    (tested_done t h ∙ each_both (below_at w first lower) (below_at w second upper) n ∙ rw (below_is w first n lower fits, below_is w second n upper fits'))

-- the tests of face k of a place
abbrev pub face_at : List ℕ → Place → ℕ → ℕ → ℕ → Bool
face_at w p rows entries k = below_at w p.neighbors rows k && below_at w p.uppers entries k && below_at w p.lowers entries k

-- The faces of a place that have been tested side by side.
pub faces_tested : (w : List ℕ) (p : Place) {t : Targets} {rows entries : ℕ} → LevelOk (length w) p t → rows ≡ p.rows → entries ≡ p.entries
    → {k : ℕ} {ok : Bool} → Tested (face_at w p rows entries) p.faces k ok → p.faces ≤ k → ok ≡ faces_below w p
unfolding faces_below
faces_tested w p {t} {rows} {entries} fits er ee t' h =
    let n = p.faces in
    let near : ℕ → Bool = below_at w p.neighbors rows in
    let upper : ℕ → Bool = below_at w p.uppers entries in
    let lower : ℕ → Bool = below_at w p.lowers entries in
    tested_done t' h ∙ each_both (λ k. near k && upper k) lower n ∙ ap (λ (b : Bool). b && each lower n) (each_both near upper n)
    ∙ rw (below_is w p.neighbors n rows fits.neighbors, below_is w p.uppers n entries fits.uppers, below_is w p.lowers n entries fits.lowers, er, ee)

-- the tests that neither offsets nor starts fall after k
abbrev pub both_rise : List ℕ → ℕ → ℕ → ℕ → Bool
both_rise w first second k = rise_at w first k && rise_at w second k

-- Two arrays that have been asked side by side whether they fall.
pub rise_tested : (w : List ℕ) (first second n : ℕ) {k : ℕ} {ok : Bool} → Tested (both_rise w first second) n k ok → n ≤ k
    → ok ≡ each (rise_at w first) n && each (rise_at w second) n
rise_tested w first second n t h = tested_done t h ∙ each_both (rise_at w first) (rise_at w second) n

-- No numbers are below any bound.
pub below_none : (w : List ℕ) (from bound : ℕ) → all_below bound (part from 0 w) ≡ true
unfolding all_below part each
below_none w from bound = refl

-- ---- what links and positions are asked against

-- A test has one answer.
not_both : true ≡ false → ⊥
not_both e = let none : ◌≡◌ {A = ℕ} 0 1 = cc in absurd (omega arith)

module _ (w : List ℕ) (a : ℕ) where
  -- The last level,
  pub targets_last : (more : ℕ) {rows coupled : ℕ} → more ≡ 0 → rows ≡ rows_at w a → coupled ≡ coupled_at w a
      → record { last = true; links = coupled; rows = rows; entries = 0 } ≡ targets_at more w a
  targets_last more z er ec = rw (z, er, ec)

  -- and any other.
  pub targets_inner : (more : ℕ) {rows b : ℕ} {next : Place} → (more ≡ 0 → ⊥) → rows ≡ rows_at w a → b ≡ words_end w a → next ≡ locate w b 0
      → record { last = false; links = rows; rows = next.rows; entries = next.entries } ≡ targets_at more w a
  targets_inner zero n er eb en = absurd (n refl)
  targets_inner (suc more) n er eb en = rw (en, eb, er)

  -- They are what the definition has,
  pub targets_rows : (more : ℕ) → (targets_at more w a).rows ≡ targets_of more w a
  targets_rows zero = refl
  targets_rows (suc more) = refl

  pub targets_entries : (more : ℕ) → (targets_at more w a).entries ≡ sums_of more w a
  targets_entries zero = refl
  targets_entries (suc more) = refl

  -- The words of the last level end with its links,
  end_last : last_at w a ≡ true → (locate w a 0).links + coupled_at w a ≡ words_end w a
  unfolding words_end
  end_last l = rw l

  -- those of another with its positions.
  end_inner : last_at w a ≡ false → (locate w a 0).positions + entries_at w a ≡ words_end w a
  unfolding words_end
  end_inner l = rw l

  -- The head of the next one, where there is one, is sound.
  pub next_sound : (more : ℕ) {b : ℕ} → TargetsOk w a more → (more ≡ 0 → ⊥) → b ≡ words_end w a → head_sound w b ≡ true
  next_sound zero ok n e = absurd (n refl)
  next_sound (suc more) ok n e = rw e (ok.next (omega arith))

  module _ {p : Place} (q : p ≡ locate w a 0) where
    -- with the shape,
    pub shape_is : (more : ℕ) {t : Targets} → head_fits more w a ≡ true → t ≡ targets_at more w a → shape_to w p t ≡ shape_in w a
    shape_is zero e et = let l = fits_last w a 0 e in rw (q, et, l)
    shape_is (suc more) e et = let l = fits_last w a (suc more) e in rw (q, et, l)

    -- and all of it lies in the store.
    pub level_ok : (more : ℕ) {t : Targets} → TargetsOk w a more → t ≡ targets_at more w a → LevelOk (length w) p t
    level_ok zero {t} ok et =
        let h = head_told w a (fits_head w a 0 ok.head) in
        let l = fits_last w a 0 ok.head in
        let r = h.rows in
        let n = h.entries in
        let links = ends_above w a refl refl refl h.ends in
        let ends = h.ends in
        let last : (locate w a 0).links + coupled_at w a ≡ words_end w a = end_last l in
        rw (q, et) (record {
          rows = r;
          entries = n;
          targets = r;
          sums = omega arith;
          offsets = omega arith;
          columns = omega arith;
          starts = omega arith;
          diagonals = omega arith;
          neighbors = omega arith;
          uppers = omega arith;
          lowers = omega arith;
          links = omega arith;
          linked = refl;
          positions = λ f. absurd (not_both f);
        })
    level_ok (suc more) {t} ok et =
        let h = head_told w a (fits_head w a (suc more) ok.head) in
        let l = fits_last w a (suc more) ok.head in
        let k = head_told w (words_end w a) (ok.next (omega arith)) in
        let r = h.rows in
        let n = h.entries in
        let links = ends_above w a refl refl refl h.ends in
        let ends = h.ends in
        let inner : (locate w a 0).positions + entries_at w a ≡ words_end w a = end_inner l in
        rw (q, et) (record {
          rows = r;
          entries = n;
          targets = k.rows;
          sums = k.entries;
          offsets = omega arith;
          columns = omega arith;
          starts = omega arith;
          diagonals = omega arith;
          neighbors = omega arith;
          uppers = omega arith;
          lowers = omega arith;
          links = omega arith;
          linked = refl;
          positions = λ f. omega arith;
        })

-- ---- all tables

-- A test that always holds changes nothing.
and_true : (b : Bool) → b && true ≡ b
and_true true = refl
and_true false = refl

-- A test that never holds decides.
and_false : (b : Bool) → b && false ≡ false
and_false true = refl
and_false false = refl

-- The last but one of six tests may be made first.
inner_first : (n u l c t s : Bool) → n && u && l && t && (c && s) ≡ c && n && u && l && t && s
inner_first n u l true t s = refl
inner_first n u l false t s = and_false (n && u && l && t)

module _ (w : List ℕ) (p : Place) {t : Targets} (ok : LevelOk (length w) p t) where
  -- the test of its columns,
  abbrev columns : Bool
  columns = all_below p.rows (part p.columns p.entries w)

  -- of each array of its faces,
  abbrev near : Bool
  near = all_below p.rows (part p.neighbors p.faces w)

  abbrev upper : Bool
  upper = all_below p.entries (part p.uppers p.faces w)

  abbrev lower : Bool
  lower = all_below p.entries (part p.lowers p.faces w)

  -- of its links and of its positions
  abbrev links : Bool
  links = all_below t.rows (part p.links t.links w)

  abbrev positions : Bool
  positions = all_below t.entries (part p.positions (cond t.last 0 p.entries) w)

  -- The tables, in the order in which the code tests them.
  pub tables_told : {s u v : Bool} → s ≡ faces_below w p → u ≡ links → v ≡ columns && positions
      → s && u && v ≡ arrays_sound t.rows t.entries (shape_to w p t)
  unfolding arrays_sound faces_below
  tables_told es eu ev =
      rw (es, eu, ev, length_part p.columns p.entries w ok.columns, ok.linked) (inner_first near upper lower columns links positions)

  -- The last level has no positions,
  pub columns_last : {c : Bool} → t.last ≡ true → c ≡ columns → c ≡ columns && positions
  columns_last l e = rw (l, below_none w p.positions t.entries, e) (sym (and_true columns))

  -- any other one for each entry.
  pub columns_inner : {c : Bool} → t.last ≡ false → c ≡ columns && all_below t.entries (part p.positions p.entries w) → c ≡ columns && positions
  columns_inner l e = rw l e

  -- Where a row stands, read in the store.
  pub placed_is : {row : ℕ} → row < p.rows
      → rise_at w p.offsets row && rise_at w p.starts row && below_at w p.diagonals p.entries row ≡ row_placed (shape_to w p t) row
  unfolding row_placed
  placed_is {row} i =
      let o : idx (part p.offsets (p.rows + 1) w) row ≡ idx w (p.offsets + row) = get_d_part p.offsets (p.rows + 1) w row 0 (omega arith) in
      let o' : idx (part p.offsets (p.rows + 1) w) (row + 1) ≡ idx w (p.offsets + row + 1) =
      get_d_part p.offsets (p.rows + 1) w (row + 1) 0 (omega arith) ∙ ap (idx w) (omega arith) in
      let s : idx (part p.starts (p.rows + 1) w) row ≡ idx w (p.starts + row) = get_d_part p.starts (p.rows + 1) w row 0 (omega arith) in
      let s' : idx (part p.starts (p.rows + 1) w) (row + 1) ≡ idx w (p.starts + row + 1) =
      get_d_part p.starts (p.rows + 1) w (row + 1) 0 (omega arith) ∙ ap (idx w) (omega arith) in
      let d : idx (part p.diagonals p.rows w) row ≡ idx w (p.diagonals + row) = get_d_part p.diagonals p.rows w row 0 (omega arith) in
      rw (o, o', s, s', d, length_part p.columns p.entries w ok.columns)

  -- Where all rows stand: each of the two tests goes over all of them.
  pub rows_told : {o d : Bool} → o ≡ each (rise_at w p.offsets) p.rows && each (rise_at w p.starts) p.rows
      → d ≡ all_below p.entries (part p.diagonals p.rows w) → o && d ≡ rows_placed (shape_to w p t)
  rows_told {o} {d} eo ed =
      let n = p.rows in
      let rise : ℕ → Bool = both_rise w p.offsets p.starts in
      let diagonal : ℕ → Bool = below_at w p.diagonals p.entries in
      sym (each_same (row_placed (shape_to w p t)) (λ k. rise k && diagonal k) n (λ k h. sym (placed_is h)) ∙ each_both rise diagonal n
      ∙ rw (each_both (rise_at w p.offsets) (rise_at w p.starts) n, below_is w p.diagonals n p.entries ok.diagonals, eo, ed))

  -- The level: its tables fail,
  pub level_no : {s : Bool} → s ≡ arrays_sound t.rows t.entries (shape_to w p t) → s ≡ false
      → false ≡ level_sound t.rows t.entries (shape_to w p t)
  level_no e n = rw (← e, n)

  -- or its rows decide.
  pub level_on : {s r : Bool} → s ≡ arrays_sound t.rows t.entries (shape_to w p t) → s ≡ true → r ≡ rows_placed (shape_to w p t)
      → r ≡ level_sound t.rows t.entries (shape_to w p t)
  level_on e y k = rw (← e, y) k
