-- The walk over heads, and the walk over levels and rows, a step at a time; and what holds at the heads of their loops.
-- Assumes nothing.
use Rattle.std.specs.Prelude.{Ok}
use mathlib.Core.Path.{◌≡◌, refl, sym, ap, ◌∙◌}
use mathlib.Core.Bool.{Bool, true, false, ◌&&◌}
use mathlib.Core.List.{List}
use Prim.Native.Nat.{ℕ, zero, suc, ◌+◌, ◌-◌, ◌≤◌, ◌<◌}
use native.Mathlib.Nat.{sub-zero}
use native.Mathlib.Numerals.{add-one}
use native.Mathlib.Omega.{arith}
use lib.ListN.{length}
use Rattle.store.specs.Vector.{each}
use Rattle.store.proofs.store.Each.{both_l, both_r, each_at, Passed}
use Rattle.hierarchy.specs.Level.{Shape}
use Rattle.layout.specs.declared.Place.{Place}
use Rattle.layout.specs.Layout.{rows_at, locate, words_end}
use Rattle.index_check.specs.declared.tables.Targets.{Targets}
use Rattle.index_check.specs.Sound.{head_sound, shape_in, arrays_sound, row_sound, go_on, and_then, head_fits, heads_walked, rows_walked, level_walked, targets_of, sums_of, levels_walked, level_sound, stopped_at}
use Rattle.index_check.specs.LevelContract.{TargetsOk, targets_at, shape_to, LevelOk, RowOk, rows_placed}
use Rattle.index_check.specs.CheckContract.{HeadsOk}
use Rattle.index_check.proofs.sound.Laws.{Head, head_told}
use Rattle.index_check.proofs.sound.Walks.{each_all, row_placed_lem, go_on_lem, fits_head, level_walked_lem}
use Rattle.index_check.proofs.tables.Laws.{targets_rows, targets_entries, shape_is, level_ok}

-- ---- the heads

module _ (w : List ℕ) (levels level a : ℕ) where
  -- No head is left.
  heads_none : levels ≤ level → heads_walked (levels - level) w level a ≡ Ok tt
  unfolding heads_walked
  heads_none h = let e : levels - level ≡ 0 = omega arith in rw e

  -- A head is.
  heads_open : level < levels → heads_walked (levels - level) w level a
      ≡ go_on (head_fits (levels - level - 1) w a) (stopped_at level 0) (heads_walked (levels - (level + 1)) w (level + 1) (words_end w a))
  unfolding heads_walked
  heads_open h =
      let e : levels - level ≡ suc (levels - (level + 1)) = omega arith in
      let e' : levels - level - 1 ≡ levels - (level + 1) = omega arith in
      rw (e', e)

-- What is left of the heads gives the answer of all.
pub record Heads (w : List ℕ) (levels level a : ℕ) : Type 0 where
  pub within : level ≤ levels
  pub same : heads_walked levels w 0 0 ≡ heads_walked (levels - level) w level a

-- All are left.
pub heads_start : (w : List ℕ) (levels : ℕ) → Heads w levels 0 0
heads_start w levels = record { within = omega arith; same = rw (sub-zero levels) }

module _ {w : List ℕ} {levels level a : ℕ} (o : Heads w levels level a) where
  -- None is left.
  pub heads_finish : levels ≤ level → (Ok tt) ≡ heads_walked levels w 0 0
  heads_finish h = sym (o.same ∙ heads_none w levels level a h)

  module _ (h : level < levels) {t : Bool} (e : t ≡ head_fits (levels - level - 1) w a) where
    -- A head fails.
    pub heads_stop : t ≡ false → stopped_at level 0 ≡ heads_walked levels w 0 0
    heads_stop n = let no = sym e ∙ n in sym (o.same ∙ heads_open w levels level a h ∙ rw no)

    -- It does not: its words end in the store,
    pub heads_words : t ≡ true → Head w a
    heads_words y = head_told w a (fits_head w a (levels - level - 1) (sym e ∙ y))

    -- and the next one comes.
    pub heads_next : t ≡ true → {b : ℕ} → b ≡ words_end w a → Heads w levels (level + 1) b
    heads_next y eb = let yes = sym e ∙ y in record { within = omega arith; same = rw eb (o.same ∙ heads_open w levels level a h ∙ rw yes) }

-- ---- the rows of a level

module _ (targets sums : ℕ) (s : Shape) (level rows row : ℕ) where
  -- No row is left.
  rows_none : rows ≤ row → rows_walked targets sums s level (rows - row) row ≡ Ok tt
  unfolding rows_walked
  rows_none h = let e : rows - row ≡ 0 = omega arith in rw e

  -- A row is.
  rows_open : row < rows → rows_walked targets sums s level (rows - row) row
      ≡ go_on (row_sound targets sums s row) (stopped_at level row) (rows_walked targets sums s level (rows - (row + 1)) (row + 1))
  unfolding rows_walked
  rows_open h = let e : rows - row ≡ suc (rows - (row + 1)) = omega arith in rw e

-- Rows that have passed are left out.
rows_past : (targets sums : ℕ) (s : Shape) (level rows row : ℕ) → row ≤ rows → each (row_sound targets sums s) row ≡ true
    → rows_walked targets sums s level (rows - 0) 0 ≡ rows_walked targets sums s level (rows - row) row
unfolding each
rows_past targets sums s level rows zero h e = refl
rows_past targets sums s level rows (suc row) h e =
    let yes : row_sound targets sums s row ≡ true = both_r (each (row_sound targets sums s) row) (row_sound targets sums s row) e in
    let one : row + 1 ≡ suc row = add-one row in
    rows_past targets sums s level rows row (omega arith) (both_l (each (row_sound targets sums s) row) (row_sound targets sums s row) e)
    ∙ rows_open targets sums s level rows row (omega arith) ∙ rw (yes, one)

-- The same of all rows of a level.
rows_from : (targets sums : ℕ) (s : Shape) (level row : ℕ) → Passed (row_sound targets sums s) s.pattern.rows row
    → rows_walked targets sums s level s.pattern.rows 0 ≡ rows_walked targets sums s level (s.pattern.rows - row) row
rows_from targets sums s level row p =
    let z : s.pattern.rows - 0 ≡ s.pattern.rows = sub-zero s.pattern.rows in
    rw z at (rows_past targets sums s level s.pattern.rows row p.within p.all)

-- The first row that fails is the place,
row_hit : (targets sums : ℕ) (s : Shape) (level row : ℕ) → Passed (row_sound targets sums s) s.pattern.rows row → row < s.pattern.rows
    → row_sound targets sums s row ≡ false → level_walked targets sums s level ≡ stopped_at level row
row_hit targets sums s level row p h n = rw (rows_from targets sums s level row p, rows_open targets sums s level s.pattern.rows row h, n)

-- and where all pass and the level fails, row 0 is.
row_none : (targets sums : ℕ) (s : Shape) (level row : ℕ) → Passed (row_sound targets sums s) s.pattern.rows row → s.pattern.rows ≤ row
    → level_sound targets sums s ≡ false → level_walked targets sums s level ≡ stopped_at level 0
row_none targets sums s level row p h n =
    let within = p.within in
    let z : row ≡ s.pattern.rows = omega arith in
    let all : each (row_sound targets sums s) s.pattern.rows ≡ true = rw z at p.all in
    let placed : rows_placed s ≡ true = each_all _ s.pattern.rows (λ k l. row_placed_lem targets sums s k (each_at (row_sound targets sums s) s.pattern.rows all k l)) in
    let arrays = other (arrays_sound targets sums s) (rows_placed s) placed n in
    rw (rows_from targets sums s level row p, rows_none targets sums s level s.pattern.rows row h, arrays)
  where
    other : (a b : Bool) → b ≡ true → a && b ≡ false → a ≡ false
    other true b y n = sym y ∙ n
    other false b y n = refl

-- ---- the levels

module _ (w : List ℕ) (levels level a : ℕ) where
  -- No level is left.
  levels_none : levels ≤ level → levels_walked (levels - level) w level a ≡ Ok tt
  unfolding levels_walked
  levels_none h = let e : levels - level ≡ 0 = omega arith in rw e

  -- A level is.
  levels_open : level < levels → levels_walked (levels - level) w level a
      ≡ and_then (level_walked (targets_of (levels - level - 1) w a) (sums_of (levels - level - 1) w a) (shape_in w a) level)
      (levels_walked (levels - (level + 1)) w (level + 1) (words_end w a))
  unfolding levels_walked
  levels_open h =
      let e : levels - level ≡ suc (levels - (level + 1)) = omega arith in
      let e' : levels - level - 1 ≡ levels - (level + 1) = omega arith in
      rw (e', e)

-- What is left of the levels, whose heads passed, gives the answer of all.
pub record Outer (w : List ℕ) (levels level a : ℕ) : Type 0 where
  pub within : level ≤ levels
  pub heads : heads_walked (levels - level) w level a ≡ Ok tt
  pub same : levels_walked levels w 0 0 ≡ levels_walked (levels - level) w level a

-- All are left.
pub start : (w : List ℕ) (levels : ℕ) → HeadsOk w levels → Outer w levels 0 0
start w levels ok = record { within = omega arith; heads = rw (sub-zero levels) ok.heads; same = rw (sub-zero levels) }

module _ {w : List ℕ} {levels level a : ℕ} (o : Outer w levels level a) where
  -- The walk went through.
  pub finish : levels ≤ level → (Ok tt) ≡ levels_walked levels w 0 0
  finish h = sym (o.same ∙ levels_none w levels level a h)

  module _ (h : level < levels) where
    -- the levels that come after this one
    abbrev more : ℕ
    more = levels - level - 1

    -- Its head passed, and so did those that come.
    heads_of_lem : (head_fits more w a ≡ true) × (heads_walked (levels - (level + 1)) w (level + 1) (words_end w a) ≡ Ok tt)
    heads_of_lem = go_on_lem (head_fits more w a) level 0 (heads_walked (levels - (level + 1)) w (level + 1) (words_end w a))
        (sym (heads_open w levels level a h) ∙ o.heads)

    -- So its words end in the store,
    pub level_head : head_sound w a ≡ true
    level_head = fits_head w a more heads_of_lem.0

    -- and the head of the next is sound.
    pub targets_ok : TargetsOk w a more
    targets_ok = record {
      head = heads_of_lem.0;
      next = λ l.
          let b = words_end w a in
          let k : level + 1 < levels = omega arith in
          fits_head w b (levels - (level + 1) - 1)
          (go_on_lem (head_fits (levels - (level + 1) - 1) w b) (level + 1) 0 (heads_walked (levels - (level + 1 + 1)) w (level + 1 + 1) (words_end w b))
          (sym (heads_open w levels (level + 1) b k) ∙ heads_of_lem.1)).0;
    }

    module _ {p : Place} {t : Targets} (q : p ≡ locate w a 0) (et : t ≡ targets_at more w a) where
      -- the tests of the level as the definition makes them
      abbrev targets : ℕ
      targets = targets_of more w a

      abbrev sums : ℕ
      sums = sums_of more w a

      -- The tables of the level lie in the store.
      pub tables_ok : LevelOk (length w) p t
      tables_ok = level_ok w a q more targets_ok et

      -- A row of it.
      pub row_ok : {row : ℕ} → row < p.rows → RowOk (length w) p t row
      row_ok i = record { level = tables_ok; inside = i }

      rows_is : t.rows ≡ targets
      rows_is = ap (λ (t : Targets). t.rows) et ∙ targets_rows w a more

      entries_is : t.entries ≡ sums
      entries_is = ap (λ (t : Targets). t.entries) et ∙ targets_entries w a more

      whole : shape_to w p t ≡ shape_in w a
      whole = shape_is w a q more heads_of_lem.0 et

      -- The test of a row and that of the level are those of the definition.
      same_row : row_sound t.rows t.entries (shape_to w p t) ≡ row_sound targets sums (shape_in w a)
      same_row =
          ap (λ (x : ℕ). row_sound x t.entries (shape_to w p t)) rows_is ∙ ap (λ (x : ℕ). row_sound targets x (shape_to w p t)) entries_is
          ∙ ap (λ (s : Shape). row_sound targets sums s) whole

      same_level : level_sound t.rows t.entries (shape_to w p t) ≡ level_sound targets sums (shape_in w a)
      same_level =
          ap (λ (x : ℕ). level_sound x t.entries (shape_to w p t)) rows_is ∙ ap (λ (x : ℕ). level_sound targets x (shape_to w p t)) entries_is
          ∙ ap (λ (s : Shape). level_sound targets sums s) whole

      same_rows : p.rows ≡ rows_at w a
      same_rows = ap (λ (p : Place). p.rows) q

      -- A level that ends the walk gives its answer.
      stopped : (row : ℕ) → level_walked targets sums (shape_in w a) level ≡ stopped_at level row → stopped_at level row ≡ levels_walked levels w 0 0
      stopped row e = sym (o.same ∙ levels_open w levels level a h ∙ rw e)

      -- The rows that have passed, as the definition asks them.
      passed_is : {row : ℕ} → Passed (row_sound t.rows t.entries (shape_to w p t)) p.rows row → Passed (row_sound targets sums (shape_in w a)) (rows_at w a) row
      passed_is {row} r = record { all = ap (λ (f : ℕ → Bool). each f row) (sym same_row) ∙ r.all; within = rw same_rows at r.within }

      -- A row fails.
      pub hit : {row : ℕ} {b : Bool} → Passed (row_sound t.rows t.entries (shape_to w p t)) p.rows row → row < p.rows
          → b ≡ row_sound t.rows t.entries (shape_to w p t) row → b ≡ false → stopped_at level row ≡ levels_walked levels w 0 0
      hit {row} r i e n = stopped row (row_hit targets sums (shape_in w a) level row (passed_is r) (rw same_rows at i)
          (ap (λ (f : ℕ → Bool). f row) (sym same_row) ∙ sym e ∙ n))

      module _ {b : Bool} (e : b ≡ level_sound t.rows t.entries (shape_to w p t)) where
        -- The level fails, and each row passes.
        pub astray : {row : ℕ} → b ≡ false → Passed (row_sound t.rows t.entries (shape_to w p t)) p.rows row → p.rows ≤ row
            → stopped_at level 0 ≡ levels_walked levels w 0 0
        astray {row} n r i =
            stopped 0 (row_none targets sums (shape_in w a) level row (passed_is r) (rw same_rows at i) (sym same_level ∙ sym e ∙ n))

        -- It passes, and the next one comes.
        pub next : b ≡ true → {end : ℕ} → end ≡ words_end w a → Outer w levels (level + 1) end
        next y eb =
            let yes : level_sound targets sums (shape_in w a) ≡ true = sym same_level ∙ sym e ∙ y in
            let arrays = both_l (arrays_sound targets sums (shape_in w a)) (rows_placed (shape_in w a)) yes in
            let placed = both_r (arrays_sound targets sums (shape_in w a)) (rows_placed (shape_in w a)) yes in
            let through : level_walked targets sums (shape_in w a) level ≡ Ok tt =
            level_walked_lem w a targets sums level level_head arrays (λ k l. each_at _ (rows_at w a) placed k l) in
            record {
              within = omega arith;
              heads = rw eb heads_of_lem.1;
              same = rw eb (o.same ∙ levels_open w levels level a h ∙ rw through);
            }
