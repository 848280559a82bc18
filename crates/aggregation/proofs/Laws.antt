-- The functions of src/ as the code has them, and the invariants of their loops.
-- Assumes nothing.
use mathlib.Core.Path.{◌≡◌, refl, sym, ap, ap₂, subst, ◌∙◌}
use mathlib.Core.Bool.{Bool, true, false}
use mathlib.Core.List.{List}
use mathlib.Core.Logic.{⊎_elim}
use Prim.Native.Nat.{ℕ, suc, ◌+◌, ◌≤◌, ◌<◌}
use native.Mathlib.Omega.{arith}
use lib.Dec.{leb}
use borrow.Author.Tests.{eq-eqb, ne_eqb, le-leb, lt-leb}
use lib.ListN.{length, set, length-set, get_or-map}
use lib.Seq.{get_or-set_other}
use lib.Ieee.{Float, nan}
use Rattle.float.specs.Float.{zero64, abs_of}
use Rattle.store.specs.Region.{at, idx, part, Wrote}
use Rattle.store.specs.Vector.{filled}
use Rattle.store.proofs.store.Loop.{Left, left_start, left_on, left_end}
use Rattle.store.proofs.store.Region.{le_or_lt, get_d_part, length_part, splice_part, set_splice, wrote, wrote_at, wrote_off, kept_wrote, kept_on, kept_self, kept_part}
use Rattle.store.proofs.store.Vector.{get_d_tab}
use Rattle.aggregation.specs.declared.Choice.{Choice}
use Rattle.aggregation.specs.declared.Graph.{Graph}
use Rattle.aggregation.specs.Pairs.{size_of, is_full, strengths_of, choice, consider_of, strongest_of, Pairing, pairing, pair_row_of, pairs_of}
use Rattle.aggregation.specs.Turns.{sizes_of, strength_of, entry_of, row_of, turn_of}
use Rattle.aggregation.specs.Layout.{offsets_at, columns_at, map_at, sizes_at, weighted_at, GraphOk, ChoiceOk, RowOk, full_at, Mapped, JoinOk, Joined, Paired}
use Rattle.aggregation.proofs.Sizes.{size_most, sizes_free, sizes_joined}
use Rattle.aggregation.proofs.Steps.{free_either, row_in, assigned, paired, joined, alone, placed_is, Sane, strongest_sane}
use Rattle.aggregation.proofs.Numbers.{Along, along_on, along_start}

-- ---- whether an aggregate is full

module _ (w : List ℕ) (g : Graph) (cluster : ℕ) where
  -- Without a cap none is.
  pub full_uncapped : g.cap ≡ 0 → false ≡ full_at g w cluster
  unfolding full_at
  full_uncapped e = rw (eq-eqb g.cap 0 e)

  -- A free row is in none.
  pub full_free : {c : ℕ} → (g.cap ≡ 0 → ⊥) → c ≡ cluster → g.rows ≤ c → false ≡ full_at g w cluster
  unfolding full_at
  full_free x e l = rw (ne_eqb g.cap 0 x, le-leb g.rows cluster (rw e at l))

  -- Any other is by its size.
  pub full_sized : {c size : ℕ} → (g.cap ≡ 0 → ⊥) → c ≡ cluster → c < g.rows → size ≡ idx w (g.map + g.rows + c)
      → leb g.cap size ≡ full_at g w cluster
  unfolding full_at
  full_sized x e l s = rw (s, e, ne_eqb g.cap 0 x, lt-leb g.rows cluster (rw e at l))

-- By the sizes of the map it is what the definition says, at least where it is asked.
full_same : {w : List ℕ} {floats row column cluster : ℕ} {full : Bool} (weight : Float) {g : Graph} (s : Choice) → ChoiceOk w floats g row
    → column < g.rows → cluster ≡ idx (map_at g w) column → full ≡ full_at g w cluster
    → consider_of g.rows row column weight cluster full s ≡ consider_of g.rows row column weight cluster (is_full g.cap (map_at g w) cluster) s
unfolding full_at
full_same {w} {floats} {row} {column} {cluster} {full} weight {g} s ok h at_map is = ⊎_elim
    (λ (l : g.rows ≤ cluster). free_either row column weight full (is_full g.cap (map_at g w) cluster) s (omega (arith, most)))
    (λ (l : cluster < g.rows). rw (is, lt-leb g.rows cluster l, held l))
    (le_or_lt g.rows cluster)
  where
    most : cluster ≤ g.rows
    most = rw at_map (ok.range column h)

    held : cluster < g.rows → idx w (g.map + g.rows + cluster) ≡ size_of (map_at g w) cluster
    held l =
        sym (get_d_part (g.map + g.rows) g.rows w cluster 0 l) ∙ ap (λ (v : List ℕ). idx v cluster) ok.sizes
        ∙ get_d_tab (size_of (map_at g w)) g.rows cluster 0 l

-- ---- a row's entries

-- The strength of an entry is that of its float.
strength_at : (absolute : Bool) (v : List Float) (e : ℕ) → at (strengths_of absolute v) e ≡ strength_of absolute (at v e)
unfolding strengths_of abs_of
strength_at true v e = get_or-map abs_of v e nan
strength_at false v e = refl

-- The invariant of `strongest`: what is left of the row from `entry` on gives its choice.
pub record Choosing (g : Graph) (w : List ℕ) (F : List Float) (row end entry : ℕ) (s : Choice) : Type 0 where
  pub left : Left (entry_of (weighted_at g w F) (map_at g w) row) entry end s (strongest_of (weighted_at g w F) (map_at g w) row)
  pub most : end ≤ g.entries

module _ {w : List ℕ} {F : List Float} {g : Graph} {row : ℕ} where
  pub choosing_start : {floats first end : ℕ} → ChoiceOk w floats g row
      → first ≡ idx w (g.offsets + row) → end ≡ idx w (g.offsets + row + 1)
      → Choosing g w F row end first (choice g.rows zero64 g.rows zero64)
  unfolding strongest_of entry_of
  choosing_start {floats} {first} {end} ok a b =
      let r = ok.inside in
      let z : g.offsets + row + 1 ≡ g.offsets + (row + 1) = omega arith in
      let lo : first ≡ idx (offsets_at g w) row = a ∙ sym (get_d_part g.offsets (g.rows + 1) w row 0 (omega arith)) in
      let hi : end ≡ idx (offsets_at g w) (row + 1) =
      b ∙ ap (idx w) z ∙ sym (get_d_part g.offsets (g.rows + 1) w (row + 1) 0 (omega arith)) in
      record { left = rw (lo, hi) left_start; most = rw hi (ok.graph.pattern.ends (row + 1) (omega arith)) }

  -- The column read is a row.
  pub column_below : {floats end entry : ℕ} {s : Choice} → GraphOk w floats g → Choosing g w F row end entry s → entry < end
      → idx w (g.columns + entry) < g.rows
  column_below {floats} {end} {entry} ok c h =
      let m = c.most in
      let i : entry < g.entries = omega arith in
      rw (get_d_part g.columns g.entries w entry 0 i) at (ok.pattern.below entry i)

  pub choosing_on : {floats end entry column : ℕ} {weight : Float} {full : Bool} {s s' : Choice} → ChoiceOk w floats g row
      → Choosing g w F row end entry s → entry < end
      → column ≡ idx w (g.columns + entry) → column < g.rows → weight ≡ strength_of g.absolute (at F (g.weights + entry))
      → full ≡ full_at g w (idx w (g.map + column))
      → s' ≡ consider_of g.rows row column weight (idx w (g.map + column)) full s → Choosing g w F row end (entry + 1) s'
  unfolding entry_of
  choosing_on {floats} {end} {entry} {column} {weight} {full} {s} {s'} ok c h a b d f t =
      let m = c.most in
      let i : entry < g.entries = omega arith in
      let same : idx (columns_at g w) entry ≡ column = get_d_part g.columns g.entries w entry 0 i ∙ sym a in
      let cluster : idx (map_at g w) column ≡ idx w (g.map + column) = get_d_part g.map g.rows w column 0 b in
      let turn : s' ≡ entry_of (weighted_at g w F) (map_at g w) row entry s =
      t ∙ full_same weight s ok b (sym cluster) f
      ∙ rw (same, strength_at, get_d_part g.weights g.entries F entry nan i, cluster, ← d) in
      record { left = left_on c.left h turn; most = m }

  pub choosing_end : {end entry : ℕ} {s : Choice} → Choosing g w F row end entry s → end ≤ entry
      → s ≡ strongest_of (weighted_at g w F) (map_at g w) row
  choosing_end c h = left_end c.left h

-- ---- one row

-- A store at k of a region writes the region.
put : {A : Type 0} (b n k : ℕ) (x : A) (w : List A) → k < n → b + n ≤ length w
    → Wrote b n (set (part b n w) k x) w (set w (b + k) x)
put {A} b n k x w h l =
    let s : length (part b n w) ≡ n = length_part b n w l in
    wrote
    (ap (λ (v : List A). set v (b + k) x) (sym (splice_part b n w)) ∙ set_splice b (part b n w) w k x (omega arith))
    (length-set (part b n w) k x ∙ s)

-- What is written once more, over what was.
mapped_on : {g : Graph} {m m' w v z : List ℕ} → Mapped g m w v → Mapped g m' v z → Mapped g m' w z
mapped_on h k = record {
  map = k.map;
  sizes = k.sizes;
  below = kept_on h.below k.below;
  above = λ a n l. k.above a n l ∙ h.above a n l;
}

-- Nothing written leaves the map as it is.
mapped_self : {g : Graph} {w : List ℕ} → sizes_at g w ≡ sizes_of g.rows (map_at g w) → Mapped g (map_at g w) w w
mapped_self e = record { map = refl; sizes = e; below = kept_self; above = λ a n l. refl }

-- `join`: the two stores put the row into the map and count it.
module _ {w : List ℕ} {g : Graph} {row cluster : ℕ} (ok : JoinOk w g row cluster) where
  -- The size that is read.
  pub size_read : {c : ℕ} → c ≡ cluster → idx w (g.map + g.rows + c) ≡ size_of (map_at g w) cluster
  size_read e = rw e
      (sym (get_d_part (g.map + g.rows) g.rows w cluster 0 ok.below) ∙ ap (λ (v : List ℕ). idx v cluster) ok.sizes
      ∙ get_d_tab (size_of (map_at g w)) g.rows cluster 0 ok.below)

  -- It can grow.
  pub size_few : {c : ℕ} → c ≡ cluster → idx w (g.map + g.rows + c) ≤ 65536
  size_few e =
      let room = ok.room in
      let long = length_part g.map g.rows w (omega arith) in
      let most = size_most (map_at g w) cluster in
      let few = ok.few in
      rw (size_read e) (omega arith)

  pub join_done : {c : ℕ} → c ≡ cluster
      → Joined g row cluster w (set (set w (g.map + row) cluster) (g.map + g.rows + c) (idx w (g.map + g.rows + c) + 1))
  join_done {c} e =
      let room = ok.room in
      let long : length (map_at g w) ≡ g.rows = length_part g.map g.rows w (omega arith) in
      let inside = ok.inside in
      let first = put g.map g.rows row cluster w inside (omega arith) in
      let fits : g.map + g.rows + g.rows ≤ length (set w (g.map + row) cluster) = rw length-set room in
      let second = put (g.map + g.rows) g.rows cluster (size_of (map_at g w) cluster + 1) (set w (g.map + row) cluster) ok.below fits in
      let old : sizes_at g (set w (g.map + row) cluster) ≡ sizes_of g.rows (map_at g w) =
      wrote_off first (g.map + g.rows) g.rows (omega arith) ∙ ok.sizes in
      rw (size_read e, e) (record {
        map = wrote_off second g.map g.rows (omega arith) ∙ wrote_at first (omega arith);
        sizes =
            wrote_at second fits ∙ ap (λ (u : List ℕ). set u cluster (size_of (map_at g w) cluster + 1)) old
            ∙ sizes_joined g.rows (map_at g w) row cluster (omega arith) ok.free ok.below;
        below = kept_on (kept_wrote first (omega arith)) (kept_wrote second (omega arith));
        above = λ a n l. wrote_off second a n (omega arith) ∙ wrote_off first a n (omega arith);
      })

-- A map written, and a count, that are p's.
done : {g : Graph} {p : Pairing} {w w' v : List ℕ} {r : ℕ} → Mapped g v w w' → pairing v r ≡ p → Paired g p w w' r
done {g} {p} {w} {w'} {v} {r} h e = subst (λ (q : Pairing). Paired g q w w' r) e (record { words = h; count = refl })

-- A free row may be put into an aggregate.
pub join_row : {w : List ℕ} {floats row count cluster : ℕ} {g : Graph} → RowOk w floats g row count → idx w (g.map + row) ≡ g.rows
    → cluster < g.rows → JoinOk w g row cluster
join_row {w} {floats} {row} {count} {cluster} {g} ok x l = record {
  few = ok.choice.graph.few;
  room = ok.choice.graph.map;
  inside = ok.choice.inside;
  below = l;
  free = get_d_part g.map g.rows w row 0 ok.choice.inside ∙ x;
  sizes = ok.choice.sizes;
}

-- The four ways out of `pair_row`, where s is the row's choice.
module _ {w : List ℕ} (F : List Float) {floats row count : ℕ} {g : Graph} (ok : RowOk w floats g row count) where
  abbrev after : Pairing
  after = pair_row_of (weighted_at g w F) row (pairing (map_at g w) count)

  -- The row's number, as the code reads it.
  own : idx w (g.map + row) ≡ idx (map_at g w) row
  own = sym (get_d_part g.map g.rows w row 0 ok.choice.inside)

  pub row_assigned : (idx w (g.map + row) ≡ g.rows → ⊥) → Paired g after w w count
  row_assigned x =
      done (mapped_self ok.choice.sizes) (placed_is (weighted_at g w F) refl (assigned (λ e. x (own ∙ e))))

  module _ {s : Choice} (e : s ≡ strongest_of (weighted_at g w F) (map_at g w) row) where
    sane : Sane g.rows g.cap (map_at g w) row s
    sane = rw e (strongest_sane (weighted_at g w F) ok.choice.graph.pattern (map_at g w) row ok.choice.inside)

    -- The aggregate that the row joins has a number below the rows.
    pub joins_in : (s.adjacent ≡ g.rows → ⊥) → s.adjacent < g.rows
    joins_in x = let u = sane.adjacent x in let l = ok.choice.range u.0 u.1 in let b = u.2 in below (omega arith)
      where
        below : s.adjacent ≤ g.rows → s.adjacent < g.rows
        below l = ⊎_elim (λ (y : g.rows ≤ s.adjacent). absurd (x (omega arith))) (λ y. y) (le_or_lt g.rows s.adjacent)

    -- The free neighbour may be put into the aggregate that the row has made.
    pub join_free : {v : List ℕ} {j : ℕ} → Joined g row count w v → (s.free ≡ g.rows → ⊥) → j ≡ s.free → JoinOk v g j count
    join_free {v} {j} h x z = let u = sane.free x in rw z (record {
      few = ok.choice.graph.few;
      room = rw h.below.size ok.choice.graph.map;
      inside = u.0;
      below = ok.few;
      free = rw h.map (get_or-set_other (map_at g w) row s.free count 0 u.2 ∙ u.1);
      sizes = rw h.map h.sizes;
    })

    pub row_paired : {v w' : List ℕ} {j : ℕ} → idx w (g.map + row) ≡ g.rows → (s.free ≡ g.rows → ⊥) → j ≡ s.free
        → Joined g row count w v → Joined g j count v w' → Paired g after w w' (count + 1)
    row_paired {v} {w'} {j} x y z h k =
        let both : Mapped g (set (set (map_at g w) row count) s.free count) w w' = mapped_on h (rw (h.map, z) at k) in
        done both (placed_is (weighted_at g w F) e (paired (sym own ∙ x) y))

    pub row_joined : {w' : List ℕ} → idx w (g.map + row) ≡ g.rows → s.free ≡ g.rows → (s.adjacent ≡ g.rows → ⊥)
        → Joined g row s.adjacent w w' → Paired g after w w' count
    row_joined x y z h = done h (placed_is (weighted_at g w F) e (joined (sym own ∙ x) y z))

    pub row_alone : {w' : List ℕ} → idx w (g.map + row) ≡ g.rows → s.free ≡ g.rows → s.adjacent ≡ g.rows
        → Joined g row count w w' → Paired g after w w' (count + 1)
    row_alone x y z h = done h (placed_is (weighted_at g w F) e (alone (sym own ∙ x) y z))

-- ---- all rows

-- `free_all`: the map is filled with "no aggregate yet", and the sizes with 0.
pub all_free : {g : Graph} {w v z : List ℕ} → g.map + g.rows + g.rows ≤ length w
    → Wrote g.map g.rows (filled g.rows g.rows) w v → Wrote (g.map + g.rows) g.rows (filled g.rows 0) v z
    → Mapped g (filled g.rows g.rows) w z
all_free {g} h a b =
    let size = a.size in
    record {
      map = wrote_off b g.map g.rows (omega arith) ∙ wrote_at a (omega arith);
      sizes = wrote_at b (omega arith) ∙ sym (sizes_free g.rows);
      below = kept_on (kept_wrote a (omega arith)) (kept_wrote b (omega arith));
      above = λ c n l. wrote_off b c n (omega arith) ∙ wrote_off a c n (omega arith);
    }

-- A write of the map leaves the pattern.
same_pattern_lem : {u w w' v : List ℕ} {floats : ℕ} (F : List Float) {g : Graph} → GraphOk u floats g → Mapped g v w w'
    → weighted_at g w' F ≡ weighted_at g w F
same_pattern_lem F {g} ok h =
    let a = ok.offsets in
    let b = ok.columns in
    rw (kept_part h.below g.offsets (g.rows + 1) (omega arith), kept_part h.below g.columns g.entries (omega arith))

graph_kept : {w w' v : List ℕ} {floats : ℕ} {g : Graph} → GraphOk w floats g → Mapped g v w w' → GraphOk w' floats g
graph_kept {g = g} ok h =
    let a = ok.offsets in
    let b = ok.columns in
    record {
      few = ok.few;
      offsets = a;
      columns = b;
      map = rw h.below.size ok.map;
      weights = ok.weights;
      pattern =
          rw (kept_part h.below g.offsets (g.rows + 1) (omega arith), kept_part h.below g.columns g.entries (omega arith))
          ok.pattern;
    }

-- The invariant of `pairs`, whose loop starts from the words w₀: what is left of the turns gives the whole.
pub record Walking (g : Graph) (forward : Bool) (w₀ : List ℕ) (F : List Float) (index : ℕ) (w : List ℕ) (count : ℕ) : Type 0 where
  pub graph : GraphOk w₀ (length F) g
  pub words : Mapped g (map_at g w) w₀ w
  pub left : Left (turn_of (weighted_at g w₀ F) forward) index g.rows (pairing (map_at g w) count)
      (pairs_of (weighted_at g w₀ F) forward)
  pub along : Along g.rows forward index (pairing (map_at g w) count)

module _ {g : Graph} {forward : Bool} {w₀ : List ℕ} {F : List Float} where
  -- At the start the map is filled with "no aggregate yet".
  pub walking_start : {w : List ℕ} → GraphOk w (length F) g → Mapped g (filled g.rows g.rows) w w₀
      → Walking g forward w₀ F 0 w₀ 0
  unfolding pairs_of turn_of
  walking_start ok h =
      let now = graph_kept ok h in
      record {
        graph = now;
        words = mapped_self (rw h.map h.sizes);
        left = rw h.map left_start;
        along = rw h.map (along_start (weighted_at g w₀ F) forward now.pattern);
      }

  -- What a row requires.
  pub row_ok : {w : List ℕ} {index row count : ℕ} → Walking g forward w₀ F index w count → index < g.rows
      → row ≡ row_of forward g.rows index → RowOk w (length F) g row count
  row_ok {w} {index} {row} {count} c l e =
      let few = c.along.few in
      let most = c.along.good.most in
      record {
        choice = record {
          graph = graph_kept c.graph c.words;
          inside = rw e (row_in forward g.rows index l);
          range = λ i h. ⊎_elim (λ z. omega arith) (λ z. omega arith) (c.along.good.range i h);
          sizes = c.words.sizes;
        };
        few = omega arith;
      }

  -- A turn.
  pub walking_on : {w w' : List ℕ} {index row count r : ℕ} → Walking g forward w₀ F index w count → index < g.rows
      → row ≡ row_of forward g.rows index
      → Paired g (pair_row_of (weighted_at g w F) row (pairing (map_at g w) count)) w w' r
      → Walking g forward w₀ F (index + 1) w' r
  unfolding turn_of
  walking_on {w} {w'} {index} {row} {count} {r} c l e t =
      let turn : pairing (map_at g w') r ≡ turn_of (weighted_at g w₀ F) forward index (pairing (map_at g w) count) =
      ap₂ pairing t.words.map t.count ∙ rw (same_pattern_lem F c.graph c.words, e) in
      let more : suc index ≡ index + 1 = omega arith in
      record {
        graph = c.graph;
        words = rw t.words.map (mapped_on c.words t.words);
        left = left_on c.left l turn;
        along = rw (turn, ← more) (along_on (weighted_at g w₀ F) forward c.graph.pattern index l (pairing (map_at g w) count) c.along);
      }

  -- The end: the map is the whole's, over the words before the fill.
  pub walking_end : {w w' v : List ℕ} {index count : ℕ} → Mapped g v w w₀
      → Walking g forward w₀ F index w' count → g.rows ≤ index → Paired g (pairs_of (weighted_at g w F) forward) w w' count
  walking_end h c l = done (mapped_on h c.words) (left_end c.left l ∙ rw (same_pattern_lem F c.graph h))
