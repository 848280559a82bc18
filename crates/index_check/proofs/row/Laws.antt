-- What each way out of the tests of a row gives, said of the definitions alone.
-- Assumes nothing.
use mathlib.Core.Path.{◌≡◌, sym, ap, ◌∙◌}
use mathlib.Core.Bool.{Bool, true, false, ◌&&◌}
use mathlib.Core.List.{List}
use Prim.Native.Nat.{ℕ, ◌+◌, ◌-◌, ◌≤◌, ◌<◌}
use native.Mathlib.Omega.{arith}
use lib.Dec.{ltb}
use lib.ListN.{length}
use borrow.Author.Tests.{leb-true, le-leb, lt-leb}
use Rattle.store.specs.Region.{idx, part}
use Rattle.store.proofs.store.Each.{each_same}
use Rattle.store.proofs.store.Region.{length_part, get_d_part}
use Rattle.layout.specs.declared.Place.{Place}
use Rattle.index_check.specs.declared.tables.Targets.{Targets}
use Rattle.index_check.specs.Sound.{all_below, row_placed, entries_sound, faces_sound, link_sound, row_sound}
use Rattle.index_check.specs.SoundContract.{WordAt}
use Rattle.index_check.specs.LevelContract.{shape_to, RowOk, RunOk, rise_at}
use Rattle.index_check.proofs.sound.Walks.{all3, below_run, below_past}
use Rattle.index_check.proofs.tables.Laws.{below_at, below_is, below_none, placed_is}

-- A run of a table stands in the store.
run_is : (w : List ℕ) (base m from n bound : ℕ) → base + m ≤ length w → from + n ≤ m
    → all_below bound (part (base + from) n w) ≡ all_below bound (part from n (part base m w))
run_is w base m from n bound fits h =
    let long = length_part base m w fits in
    sym (below_is w (base + from) n bound (omega arith))
    ∙ each_same (below_at w (base + from) bound) (below_at (part base m w) from bound) n
    (λ k q. ap (λ (x : ℕ). ltb x bound) (ap (idx w) (omega arith) ∙ sym (get_d_part base m w (from + k) 0 (omega arith))))
    ∙ below_is (part base m w) from n bound (omega arith)

module _ (w : List ℕ) (p : Place) {t : Targets} where
  -- ---- where it stands

  -- As the code tests it.
  pub placed_told : {row d : ℕ} → RowOk (length w) p t row → WordAt w (p.diagonals + row) d
      → rise_at w p.offsets row && rise_at w p.starts row && ltb d p.entries ≡ row_placed (shape_to w p t) row
  placed_told {row} {d} ok at = rw at.is (placed_is w p ok.level ok.inside)

  -- ---- entries

  module _ {from to : ℕ} (ok : RunOk (length w) p t from to) where
    -- Entries past the last.
    pub entries_past : p.entries < to → false ≡ entries_sound t.entries (shape_to w p t) from to
    unfolding entries_sound
    entries_past h = rw (length_part p.columns p.entries w ok.level.columns, lt-leb to p.entries h)

    module _ (h : to ≤ p.entries) {n : ℕ} (en : n ≡ to - from) {c : Bool} (ec : c ≡ all_below p.rows (part (p.columns + from) n w)) where
      -- Their columns, read in the store.
      columns_are : c ≡ all_below p.rows (part from (to - from) (part p.columns p.entries w))
      columns_are =
          let rises = ok.rises in
          ec ∙ rw en (run_is w p.columns p.entries from (to - from) p.rows ok.level.columns (omega arith))

      -- A column fails.
      pub entries_no : c ≡ false → false ≡ entries_sound t.entries (shape_to w p t) from to
      unfolding entries_sound
      entries_no n = rw (length_part p.columns p.entries w ok.level.columns, le-leb to p.entries h, ← columns_are, n)

      -- None does: on the last level there is no more to ask,
      pub entries_last : c ≡ true → t.last ≡ true → true ≡ entries_sound t.entries (shape_to w p t) from to
      unfolding entries_sound
      entries_last y l =
          rw (length_part p.columns p.entries w ok.level.columns, le-leb to p.entries h, ← columns_are, y, l)
          (sym (below_run t.entries from (to - from) (part p.positions 0 w) (below_none w p.positions t.entries)))

      -- on any other the positions decide.
      pub entries_on : c ≡ true → t.last ≡ false → {v : Bool} → v ≡ all_below t.entries (part (p.positions + from) n w)
          → v ≡ entries_sound t.entries (shape_to w p t) from to
      unfolding entries_sound
      entries_on y l ev =
          let rises = ok.rises in
          rw (length_part p.columns p.entries w ok.level.columns, le-leb to p.entries h, ← columns_are, y, l)
          (ev ∙ rw en (run_is w p.positions p.entries from (to - from) t.entries (ok.level.positions l) (omega arith)))

    -- ---- faces

    -- Faces past the last.
    pub faces_past : p.faces < to → false ≡ faces_sound (shape_to w p t) from to
    unfolding faces_sound
    faces_past h = rw (length_part p.neighbors p.faces w ok.level.neighbors, lt-leb to p.faces h)

    -- Faces, as the code reads them.
    pub faces_told : to ≤ p.faces → {n : ℕ} {a b c : Bool} → n ≡ to - from → a ≡ all_below p.rows (part (p.neighbors + from) n w)
        → b ≡ all_below p.entries (part (p.uppers + from) n w) → c ≡ all_below p.entries (part (p.lowers + from) n w)
        → a && b && c ≡ faces_sound (shape_to w p t) from to
    unfolding faces_sound
    faces_told h en ea eb ec =
        let rises = ok.rises in
        let near = run_is w p.neighbors p.faces from (to - from) p.rows ok.level.neighbors (omega arith) in
        let upper = run_is w p.uppers p.faces from (to - from) p.entries ok.level.uppers (omega arith) in
        let lower = run_is w p.lowers p.faces from (to - from) p.entries ok.level.lowers (omega arith) in
        rw (
          length_part p.columns p.entries w ok.level.columns,
          length_part p.neighbors p.faces w ok.level.neighbors,
          le-leb to p.faces h,
          ← near,
          ← upper,
          ← lower,
          ea,
          eb,
          ec,
          en,
        )

  -- ---- the link

  module _ {row : ℕ} (ok : RowOk (length w) p t row) where
    -- There is one,
    pub link_told : row < t.links → {d : Bool} → d ≡ all_below t.rows (part (p.links + row) 1 w) → d ≡ link_sound t.rows (shape_to w p t) row
    unfolding link_sound
    link_told h ed = rw ok.level.linked (ed ∙ run_is w p.links t.links row 1 t.rows ok.level.links (omega arith))

    -- or none.
    pub link_none : t.links ≤ row → true ≡ link_sound t.rows (shape_to w p t) row
    unfolding link_sound
    link_none h =
        let long = length_part p.links t.links w ok.level.links in
        rw ok.level.linked (sym (below_past t.rows row 1 (part p.links t.links w) (omega arith)))

  -- ---- the row

  module _ {row : ℕ} (ok : RowOk (length w) p t row) {a : Bool} (ea : a ≡ row_placed (shape_to w p t) row) where
    -- It does not stand in order.
    pub row_out : a ≡ false → false ≡ row_sound t.rows t.entries (shape_to w p t) row
    unfolding row_sound
    row_out n = rw (← ea, n)

    -- Its entries do not end before they start,
    pub entries_rise : a ≡ true → {from to : ℕ} → WordAt w (p.offsets + row) from → WordAt w (p.offsets + row + 1) to → RunOk (length w) p t from to
    entries_rise y {from} {to} at at' =
        let placed = placed_is w p ok.level ok.inside ∙ sym ea ∙ y in
        let t' = all3 (rise_at w p.offsets row) (rise_at w p.starts row) (below_at w p.diagonals p.entries row) placed in
        let e = at.is in
        let e' = at'.is in
        let h = leb-true (idx w (p.offsets + row)) (idx w (p.offsets + row + 1)) t'.0 in
        record { level = ok.level; rises = omega arith }

    -- nor do its faces.
    pub faces_rise : a ≡ true → {from to : ℕ} → WordAt w (p.starts + row) from → WordAt w (p.starts + row + 1) to → RunOk (length w) p t from to
    faces_rise y {from} {to} at at' =
        let placed = placed_is w p ok.level ok.inside ∙ sym ea ∙ y in
        let t' = all3 (rise_at w p.offsets row) (rise_at w p.starts row) (below_at w p.diagonals p.entries row) placed in
        let e = at.is in
        let e' = at'.is in
        let h = leb-true (idx w (p.starts + row)) (idx w (p.starts + row + 1)) t'.1 in
        record { level = ok.level; rises = omega arith }

    module _ (y : a ≡ true) {from to : ℕ} (at : WordAt w (p.offsets + row) from) (at' : WordAt w (p.offsets + row + 1) to) {b : Bool}
        (eb : b ≡ entries_sound t.entries (shape_to w p t) from to) where
      -- Its entries, of the shape.
      entries_are : b ≡ entries_sound t.entries (shape_to w p t) (idx (part p.offsets (p.rows + 1) w) row) (idx (part p.offsets (p.rows + 1) w) (row + 1))
      entries_are =
          let i = ok.inside in
          let o : from ≡ idx (part p.offsets (p.rows + 1) w) row = at.is ∙ sym (get_d_part p.offsets (p.rows + 1) w row 0 (omega arith)) in
          let o' : to ≡ idx (part p.offsets (p.rows + 1) w) (row + 1) =
          at'.is ∙ sym (get_d_part p.offsets (p.rows + 1) w (row + 1) 0 (omega arith) ∙ ap (idx w) (omega arith)) in
          rw (o, o') at eb

      -- An entry fails.
      pub row_entries_lem : b ≡ false → false ≡ row_sound t.rows t.entries (shape_to w p t) row
      unfolding row_sound
      row_entries_lem n = rw (← ea, y, ← entries_are, n)

      module _ (y' : b ≡ true) {first end : ℕ} (on : WordAt w (p.starts + row) first) (on' : WordAt w (p.starts + row + 1) end) {c : Bool}
          (ec : c ≡ faces_sound (shape_to w p t) first end) where
        -- Its faces, of the shape.
        faces_are : c ≡ faces_sound (shape_to w p t) (idx (part p.starts (p.rows + 1) w) row) (idx (part p.starts (p.rows + 1) w) (row + 1))
        faces_are =
            let i = ok.inside in
            let o : first ≡ idx (part p.starts (p.rows + 1) w) row = on.is ∙ sym (get_d_part p.starts (p.rows + 1) w row 0 (omega arith)) in
            let o' : end ≡ idx (part p.starts (p.rows + 1) w) (row + 1) =
            on'.is ∙ sym (get_d_part p.starts (p.rows + 1) w (row + 1) 0 (omega arith) ∙ ap (idx w) (omega arith)) in
            rw (o, o') at ec

        -- A face fails.
        pub row_faces_lem : c ≡ false → false ≡ row_sound t.rows t.entries (shape_to w p t) row
        unfolding row_sound
        row_faces_lem n = rw (← ea, y, ← entries_are, y', ← faces_are, n)

        -- None does: the link decides.
        pub row_link : c ≡ true → {d : Bool} → d ≡ link_sound t.rows (shape_to w p t) row → d ≡ row_sound t.rows t.entries (shape_to w p t) row
        unfolding row_sound
        row_link y'' ed = rw (← ea, y, ← entries_are, y', ← faces_are, y'') ed
