-- Where the columns of a row part, and the entries that are found there.
-- Assumes nothing.
use mathlib.Core.Path.{◌≡◌, refl, sym, ap, ◌∙◌}
use mathlib.Core.Bool.{true, false, cond}
use mathlib.Core.List.{List}
use Rattle.std.specs.Prelude.{Option, Some, None}
use Rattle.std.proofs.lemmas.Option.{same_Some, none-some}
use mathlib.Core.Logic.{⊎_elim}
use Prim.Native.Nat.{ℕ, ◌+◌, ◌-◌, ◌≤◌, ◌<◌}
use native.Mathlib.Omega.{arith}
use lib.Dec.{ltb}
use borrow.Author.Tests.{ltb-true, ltb-false}
use lib.ListN.{length, get_or, take, drop}
use Rattle.std.specs.List.Sorted.{IsPartitionedBy, IsPartitionPoint}
use Rattle.std.proofs.lemmas.List.Sorted.{IsPartitionedBy-ltb}
use Rattle.std.proofs.lemmas.Grind.{get_or_default_zero}
use Rattle.store.specs.Region.{idx, part, Kept}
use Rattle.store.proofs.store.Region.{le_or_lt, length_part, get_d_part}
use Rattle.pattern.specs.Pattern.{Pattern, entries, column_of, row_of}
use Rattle.pattern.proofs.pattern.Number.{bool?}
use Rattle.pattern.proofs.pattern.Row.{row_is}
use Rattle.faces.specs.declared.faces.Faces.{Faces}
use Rattle.faces.specs.Faces.{has_entry, stands_at}
use Rattle.faces.specs.Contract.{pattern_at, Standing, Ordered}
use Rattle.faces.specs.Steps.{FindOk, Found, EntryOk, Entry, MirrorOk}
use Rattle.faces.proofs.faces.Entries.{has_at, has_no, columns_rise, stands_is, stands_entry, stands_there}
use Rattle.faces.proofs.faces.Standing.{size_at_lem, offset_at, next_at, next_less, column_at, pattern_kept}

-- ---- find

module _ {w : List ℕ} {columns lo hi : ℕ} (ok : FindOk w columns lo hi) where
  -- the columns from lo to hi
  abbrev run : List ℕ
  run = take (columns + hi - (columns + lo)) (drop (columns + lo) w)

  run_length : length run ≡ hi - lo
  unfolding part
  run_length =
      let order = ok.order in
      let room = ok.room in
      length_part (columns + lo) (columns + hi - (columns + lo)) w (omega arith) ∙ omega arith

  run_at : (k d : ℕ) → k < hi - lo → get_or run k d ≡ idx w (columns + (lo + k))
  unfolding part
  run_at k d h =
      let order = ok.order in
      let room = ok.room in
      let z : columns + lo + k ≡ columns + (lo + k) = omega arith in
      get_d_part (columns + lo) (columns + hi - (columns + lo)) w k d (omega arith)
      ∙ get_or_default_zero w (columns + lo + k) d (omega arith) ∙ ap (idx w) z

  -- They rise, so those below a column come first.
  pub run_split : (column : ℕ) → IsPartitionedBy (λ x. ltb x column) run
  run_split column = IsPartitionedBy-ltb (λ x. x) run column rises
    where
      rises : (i j d : ℕ) → i ≤ j → j < length run → get_or run i d ≤ get_or run j d
      rises i j d l h =
          let n = run_length in
          rw (run_at i d (omega arith), run_at j d (omega arith))
          (⊎_elim
          (λ (q : j ≤ i). let same : i ≡ j = omega arith in rw same (omega arith))
          (λ (q : i < j). let r = ok.rising (lo + i) (lo + j) (omega arith) (omega arith) (omega arith) in omega arith)
          (le_or_lt j i))

  -- Where they part is the place.
  pub run_found : {column r : ℕ} → r ≤ length run → IsPartitionPoint (λ x. ltb x column ≡ true) (λ x. ltb x column ≡ false) run r
      → Found w columns lo hi column (lo + r)
  run_found {column} {r} few parts =
      let n = run_length in
      let order = ok.order in
      record {
        low = omega arith;
        high = omega arith;
        below = λ e l h.
            let z : lo + (e - lo) ≡ e = omega arith in
            let is : get_or run (e - lo) 0 ≡ idx w (columns + e) = run_at (e - lo) 0 (omega arith) ∙ ap (λ (k : ℕ). idx w (columns + k)) z in
            rw is at (ltb-true _ _ (parts.0 (e - lo) 0 (omega arith) (omega arith)));
        past = λ e l h.
            let z : lo + (e - lo) ≡ e = omega arith in
            let is : get_or run (e - lo) 0 ≡ idx w (columns + e) = run_at (e - lo) 0 (omega arith) ∙ ap (λ (k : ℕ). idx w (columns + k)) z in
            rw is at (ltb-false _ _ (parts.1 (e - lo) 0 (omega arith) (omega arith)));
      }

-- ---- entry_at

module _ {w : List ℕ} {s : Faces} {i lo hi : ℕ} (ok : EntryOk w s i) (first : lo ≡ idx w (s.offsets + i))
    (last : hi ≡ idx w (s.offsets + i + 1)) where
  abbrev p : Pattern
  p = pattern_at w s

  start_is : lo ≡ idx (pattern_at w s).offsets i
  start_is = let near = ok.near in first ∙ offset_at ok.ordered.standing i (omega arith)

  end_is : hi ≡ idx (pattern_at w s).offsets (i + 1)
  end_is = last ∙ next_at ok.ordered.standing i ok.near

  few : hi ≤ s.entries
  few = let l = next_less ok.ordered.standing i ok.near in omega (arith, last)

  -- The columns of a row rise.
  pub find_ok : FindOk w s.columns lo hi
  find_ok =
      let stands = ok.ordered.standing in
      let a = start_is in
      let b = end_is in
      let c = few in
      let rises : idx (pattern_at w s).offsets i ≤ idx (pattern_at w s).offsets (i + 1) = stands.valid.rises i ok.near in
      record {
        order = omega arith;
        room = omega (arith, stands.columns, stands.inside);
        rising = λ d e l h u.
            rw (column_at stands d (omega arith), column_at stands e (omega arith))
            (columns_rise stands.valid ok.ordered.rising i d e ok.near (omega arith) h (omega arith));
      }

  module _ {j e : ℕ} (found : Found w s.columns lo hi j e) where
    before_it : (d : ℕ) → idx (pattern_at w s).offsets i ≤ d → d < e → column_of (pattern_at w s) d < j
    before_it d l h =
        let a = start_is in
        let c = few in
        let u = found.high in
        rw (← column_at ok.ordered.standing d (omega arith)) (found.below d (omega arith) h)

    from_it : (d : ℕ) → e ≤ d → d < idx (pattern_at w s).offsets (i + 1) → j ≤ column_of (pattern_at w s) d
    from_it d l h =
        let b = end_is in
        let c = few in
        rw (← column_at ok.ordered.standing d (omega arith)) (found.past d l (omega arith))

    -- The column stands there.
    pub entry_yes : {x : ℕ} → e < hi → x ≡ idx w (s.columns + e) → x ≡ j → Entry w s i j (Some e)
    entry_yes {x} h is same =
        let stands = ok.ordered.standing in
        let a = start_is in
        let b = end_is in
        let c = few in
        let l = found.low in
        let size = size_at_lem stands in
        let column : column_of (pattern_at w s) e ≡ j = sym (column_at stands e (omega arith)) ∙ sym is ∙ same in
        let has : has_entry (pattern_at w s) i j ≡ true = has_at (pattern_at w s) i j e (omega arith)
        (row_is stands.valid i e ok.near (omega arith) (omega arith)) column in
        record {
          is = rw has (ap Some (sym (stands_is stands.valid ok.ordered.rising i j e (omega arith) (omega arith) before_it from_it)));
        }

    -- It stands nowhere.
    pub entry_no : (e < hi → idx w (s.columns + e) ≡ j → ⊥) → Entry w s i j None
    entry_no other =
        let stands = ok.ordered.standing in
        let a = start_is in
        let b = end_is in
        let c = few in
        let l = found.low in
        let has : has_entry (pattern_at w s) i j ≡ false = has_no stands.valid ok.ordered.rising i j e ok.near (omega arith)
        before_it from_it
        (λ h is. other (omega arith) (column_at stands e (omega arith) ∙ is)) in
        record { is = rw has refl }

-- The same in a store that agrees below `starts`.
pub entry_back : {w z : List ℕ} {s : Faces} {i j : ℕ} {e : Option ℕ} → Standing w s → Kept s.starts w z → Entry z s i j e → Entry w s i j e
entry_back {w} {z} {s} {i} {j} stands kept at = record {
  is = at.is ∙ ap (λ (p : Pattern). cond (has_entry p i j) (Some (stands_at p i j)) None) (pattern_kept stands kept);
}

-- What is found is the entry.
pub entry_there_lem : {w : List ℕ} {s : Faces} {i j e : ℕ} → Ordered w s → Entry w s i j (Some e)
    → (has_entry (pattern_at w s) i j ≡ true) × (e ≡ stands_at (pattern_at w s) i j) × (e < s.entries)
entry_there_lem {w} {s} {i} {j} {e} o at = ⊎_elim
    (λ (t : has_entry (pattern_at w s) i j ≡ true).
    let is : e ≡ stands_at (pattern_at w s) i j = same_Some e (stands_at (pattern_at w s) i j) (rw t at at.is) in
    let near = (stands_there o.standing.valid o.rising i j t).0 in
    let size = size_at_lem o.standing in
    (t, is, omega arith))
    (λ (f : has_entry (pattern_at w s) i j ≡ false). absurd (none-some e (sym (rw f at at.is))))
    (bool? (has_entry (pattern_at w s) i j))

-- Where nothing is found there is none.
pub entry_missing : {w : List ℕ} {s : Faces} {i j : ℕ} → Entry w s i j None → has_entry (pattern_at w s) i j ≡ false
entry_missing {w} {s} {i} {j} at = ⊎_elim
    (λ (t : has_entry (pattern_at w s) i j ≡ true). absurd (none-some (stands_at (pattern_at w s) i j) (rw t at at.is)))
    (λ (f : has_entry (pattern_at w s) i j ≡ false). f)
    (bool? (has_entry (pattern_at w s) i j))

-- ---- mirror_at

module _ {w : List ℕ} {s : Faces} {row column e : ℕ} (ok : MirrorOk w s row column e) where
  -- The column is one of the rows.
  pub mirror_entry : EntryOk w s column
  mirror_entry = record {
    ordered = ok.ordered;
    near = rw ok.stands (ok.ordered.standing.valid.inside e (rw (size_at_lem ok.ordered.standing) ok.near));
  }

  -- A diagonal entry is its own mirror.
  pub mirror_own : column ≡ row → Entry w s column row (Some e)
  mirror_own same =
      let p = pattern_at w s in
      let inside : e < entries (pattern_at w s) = rw (size_at_lem ok.ordered.standing) ok.near in
      let r : row_of (pattern_at w s) e ≡ column = sym ok.is ∙ sym same in
      let c : column_of (pattern_at w s) e ≡ row = sym ok.stands ∙ same in
      let has : has_entry (pattern_at w s) column row ≡ true = has_at (pattern_at w s) column row e inside r c in
      let stands : stands_at (pattern_at w s) column row ≡ e = rw (r, c) at
      (stands_entry ok.ordered.standing.valid ok.ordered.rising e inside) in
      record { is = rw has (ap Some (sym stands)) }
