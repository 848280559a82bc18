-- The first walk: each coarse row's columns, as its entries are met, one row after the other.
-- Assumes nothing.
use mathlib.Core.Path.{◌≡◌, refl, sym, ap, ◌∙◌, subst, fun_ext}
use mathlib.Core.Bool.{Bool, true, false, cond, ◌&&◌, ◌||◌, or-true, or-false}
use mathlib.Core.List.{List}
use mathlib.Core.Logic.{⊎_elim}
use Prim.Native.Nat.{ℕ, suc, ◌+◌, ◌≤◌, ◌<◌}
use native.Mathlib.Numerals.{add-one}
use native.Mathlib.Nat.{add_assoc, add-zero}
use native.Mathlib.Omega.{arith}
use lib.Dec.{eqb, leb, ltb}
use lib.ListN.{length, set, length-set}
use lib.Seq.{get_or-set_same, get_or-set_other, set-get_or}
use borrow.Author.Tests.{eq-eqb, ne_eqb, le-leb, lt-leb, lt-ltb, ltb-true}
use Rattle.store.specs.Region.{idx, Wrote, Kept}
use Rattle.store.specs.Vector.{filled}
use Rattle.store.proofs.store.Region.{le_or_lt, get_d_splice_in, get_d_splice_below, kept_wrote, kept_on, kept_self, kept_get}
use Rattle.store.proofs.store.Vector.{get_d_tab}
use Rattle.pattern.specs.declared.pattern.Coarsening.{Coarsening}
use Rattle.pattern.specs.Pattern.{some, Pattern, column_of, row_of, joins}
use Rattle.pattern.specs.Steps.{joins_by, start, marks, Listed, joins_to, Gathering, GatheringAt, Gathered, Slotted, MeetOk, EntriesOk, RowOk, Linked}
use Rattle.pattern.specs.Coarsening.{fine_at, map_at}
use Rattle.pattern.proofs.pattern.Number.{bool?, not_both, same?, some_at, some_which, some_same, some_skip, some_none, many_none, many_sub, many_more}
use Rattle.pattern.proofs.pattern.Place.{start_zero, start_step, start_mono}
use Rattle.pattern.proofs.pattern.Row.{row_in, joins_only, joins_few, offset_mono}
use Rattle.pattern.proofs.pattern.Standing.{kept_set, standing_on, settle}
use Rattle.pattern.proofs.pattern.Chains.{Reach, chained_on, chain_head, chain_next, chain_later, row_own}

-- ---- a list of slots

module _ {w z : List ℕ} {base n lo hi : ℕ} {t : ℕ → Bool} (l : Listed w base n lo hi t)
    (same : (s : ℕ) → s < hi → idx z (base + s) ≡ idx w (base + s)) where
  -- Slots that have not changed list the same.
  pub listed_on : Listed z base n lo hi t
  listed_on = record {
    inside = λ s a b. rw (same s b) (l.inside s a b);
    all = λ b h. some_same (λ s. leb lo s && eqb (idx z (base + s)) b) (λ s. leb lo s && eqb (idx w (base + s)) b) hi
        (λ s k. rw (same s k) refl) ∙ l.all b h;
    once = λ s u a b d e. l.once s u a b d (sym (same s (omega arith)) ∙ e ∙ same u d);
  }

  -- One slot more holds a number that was not listed.
  pub listed_more : {b : ℕ} → lo ≤ hi → b < n → t b ≡ false → idx z (base + hi) ≡ b → Listed z base n lo (hi + 1)
      (λ d. t d || eqb b d)
  unfolding some
  listed_more {b} order h f e = record {
    inside = λ s a k. ⊎_elim
        (λ (v : hi ≤ s). let q : s ≡ hi = omega arith in rw (q, e) h)
        (λ (v : s < hi). rw (same s v) (l.inside s a v))
        (le_or_lt hi s);
    all = λ d k. rw (add-one hi, le-leb lo hi order, e) (ap (λ (x : Bool). x || eqb b d) (listed_on.all d k));
    once = λ s u a k m q. ⊎_elim
        (λ (v : hi ≤ u). let y : u ≡ hi = omega arith in unlisted s a (omega arith)
        (sym (same s (omega arith)) ∙ q ∙ ap (λ (x : ℕ). idx z (base + x)) y ∙ e))
        (λ (v : u < hi). l.once s u a k v (sym (same s (omega arith)) ∙ q ∙ same u v))
        (le_or_lt hi u);
  }
    where
      unlisted : (s : ℕ) → lo ≤ s → s < hi → idx w (base + s) ≡ b → ⊥
      unlisted s a k q = not_both (sym (l.all b h) ∙ some_at
          (λ s. leb lo s && eqb (idx w (base + s)) b) hi s k (rw (le-leb lo s a) (eq-eqb (idx w (base + s)) b q))) f

-- ---- one entry

more : (t : ℕ → Bool) (b : ℕ) → t b ≡ true → (λ d. t d || eqb b d) ≡ t
more t b f = fun_ext (λ d. ⊎_elim
    (λ (v : (b ≡ d) × (eqb b d ≡ true)). rw v.1 (or-true (t d) ∙ sym f ∙ ap t v.0))
    (λ (v : (b ≡ d → ⊥) × (eqb b d ≡ false)). rw v.1 (or-false (t d)))
    (same? b d))

module _ {w : List ℕ} {c : Coarsening} {p : Pattern} {map : List ℕ} {a r b : ℕ} {t : ℕ → Bool}
    (s : Gathering w c p map a t r) where
  -- A column that was met before changes nothing.
  gather_old : t b ≡ true → Gathering w c p map a (λ d. t d || eqb b d) r
  gather_old f = subst (λ (u : ℕ → Bool). Gathering w c p map a u r) (sym (more t b f)) s

  -- A word in the first slot that is not counted changes nothing.
  gather_slot : b < c.count → r < c.entries → Gathering (set w (c.positions + r) b) c p map a t r
  gather_slot h room =
      let l = s.standing.layout in
      let lo : start c p map a ≤ r = omega (arith, s.many) in
      record {
        standing = standing_on s.standing (kept_set w (c.positions + r) b (omega arith));
        chained = chained_on s.chained (λ k i j. other k (λ q. omega arith));
        inside = s.inside;
        starts = λ k i. let m = s.inside in other (c.coarse_offsets + k) (λ q. omega arith) ∙ s.starts k i;
        listed = λ k i. let m = start_mono c.count (joins p map) (suc k) a i in
            listed_on (s.listed k i) (λ u j. other (c.positions + u) (λ q. omega arith));
        here = listed_on s.here (λ u j. other (c.positions + u) (λ q. omega arith));
        many = s.many;
        stamps = λ d i. rw (other (marks c + d) (λ q. omega arith)) (s.stamps d i);
        older = λ d i. rw (other (marks c + d) (λ q. omega arith)) (s.older d i);
      }
    where
      other : (k : ℕ) → (k ≡ c.positions + r → ⊥) → idx (set w (c.positions + r) b) k ≡ idx w k
      other k n = get_or-set_other w (c.positions + r) k b 0 n

  -- A column that is new is put where the next one stands.
  gather_new : b < c.count → t b ≡ false → r < c.entries
      → Gathering (set (set w (marks c + b) (a + 1)) (c.positions + r) b) c p map a (λ d. t d || eqb b d) (r + 1)
  gather_new h f room =
      let l = s.standing.layout in
      let lo : start c p map a ≤ r = omega (arith, s.many) in
      let y = set w (marks c + b) (a + 1) in
      let z = set y (c.positions + r) b in
      let size : length z ≡ length w = length-set y (c.positions + r) b ∙ length-set w (marks c + b) (a + 1) in
      let in-y : c.positions + r < length y = rw (length-set w (marks c + b) (a + 1)) (omega arith) in
      record {
        standing = standing_on s.standing (kept_on (kept_set w (marks c + b) (a + 1) (omega arith))
            (kept_set y (c.positions + r) b (omega arith)));
        chained = chained_on s.chained (λ k i j. other k (λ q. omega arith) (λ q. omega arith));
        inside = s.inside;
        starts = λ k i. let m = s.inside in other (c.coarse_offsets + k) (λ q. omega arith) (λ q. omega arith)
            ∙ s.starts k i;
        listed = λ k i. let m = start_mono c.count (joins p map) (suc k) a i in
            listed_on (s.listed k i) (λ u j. other (c.positions + u) (λ q. omega arith) (λ q. omega arith));
        here = listed_more s.here (λ u j. other (c.positions + u) (λ q. omega arith) (λ q. omega arith)) lo h f
            (get_or-set_same y (c.positions + r) b 0 in-y);
        many = let m = s.many in let k = many_more t b c.count f h in omega arith;
        stamps = λ d i. ⊎_elim
            (λ (v : (b ≡ d) × (eqb b d ≡ true)). rw (v.1, ← v.0, marked)
            (eq-eqb (a + 1) (a + 1) refl ∙ sym (or-true (t b))))
            (λ (v : (b ≡ d → ⊥) × (eqb b d ≡ false)). rw
            (v.1, other (marks c + d) (λ q. v.0 (omega arith)) (λ q. omega arith))
            (s.stamps d i ∙ sym (or-false (t d))))
            (same? b d);
        older = λ d i. ⊎_elim
            (λ (v : (b ≡ d) × (eqb b d ≡ true)). rw (← v.0, marked) (omega arith))
            (λ (v : (b ≡ d → ⊥) × (eqb b d ≡ false)). rw
            (other (marks c + d) (λ q. v.0 (omega arith)) (λ q. omega arith)) (s.older d i))
            (same? b d);
      }
    where
      z' : List ℕ
      z' = set (set w (marks c + b) (a + 1)) (c.positions + r) b

      other : (k : ℕ) → (k ≡ marks c + b → ⊥) → (k ≡ c.positions + r → ⊥) → idx z' k ≡ idx w k
      other k m n = get_or-set_other (set w (marks c + b) (a + 1)) (c.positions + r) k b 0 n
          ∙ get_or-set_other w (marks c + b) k (a + 1) 0 m

      marked : idx z' (marks c + b) ≡ a + 1
      marked =
          let l = s.standing.layout in
          get_or-set_other (set w (marks c + b) (a + 1)) (c.positions + r) (marks c + b) b 0 (λ q. omega arith)
          ∙ get_or-set_same w (marks c + b) (a + 1) 0 (omega arith)

  -- There is room for it.
  gather_room : a < c.count → b < c.count → t b ≡ false
      → ((d : ℕ) → (t d || eqb b d) ≡ true → joins p map a d ≡ true) → r < c.entries
  gather_room h l f sub =
      let many = s.many in
      let size = s.standing.size in
      let m = many_sub (λ d. t d || eqb b d) (joins p map a) c.count sub in
      let k = many_more t b c.count f l in
      let step = start_step c.count (joins p map) a in
      let rest = start_mono c.count (joins p map) (suc a) c.count h in
      let few = joins_few p map c.count in
      omega arith

-- What is joined before entry e of a row of a, and by it, is joined before e + 1.
joined_more : (p : Pattern) (map : List ℕ) (a e b : ℕ) → idx map (row_of p e) ≡ a → b ≡ idx map (column_of p e) →
    (λ d. joins_to p map e a d || eqb b d) ≡ joins_to p map (e + 1) a
unfolding some joins_by
joined_more p map a e b own is = fun_ext (λ d. rw (add-one e, eq-eqb (idx map (row_of p e)) a own, is) refl)

-- What is joined before some entry is joined.
joined_sub : (p : Pattern) (map : List ℕ) (a e d : ℕ) → e ≤ length p.columns → joins_to p map e a d ≡ true
    → joins p map a d ≡ true
unfolding joins joins_by
joined_sub p map a e d h t = let v = some_which (joins_by p map a d) e t in let l = v.1 in
    some_at (joins_by p map a d) (length p.columns) v.0 (omega arith) v.2

module _ {w : List ℕ} {c : Coarsening} {a e r : ℕ} (ok : MeetOk w c a e r) where
  -- The column of the entry is a fine row.
  pub meet_column : (c.columns + e < length w) × (idx w (c.columns + e) < c.rows)
  meet_column =
      let s = ok.state.standing in
      let l = s.layout in
      let i = ok.inside in
      let z = s.size in
      (omega arith, rw (s.column e i) (s.valid.inside e (omega arith)))

  module _ {j : ℕ} (is-j : j ≡ idx w (c.columns + e)) where
    -- Its aggregate is below the count.
    pub meet_aggregate : (c.map + j < length w) × (idx w (c.map + j) < c.count)
    meet_aggregate =
        let s = ok.state.standing in
        let l = s.layout in
        let n = meet_column.1 in
        let h : j < c.rows = omega arith in
        (omega arith, rw (s.aggregate j h) (s.maps.below j h))

    module _ {b : ℕ} (is_b : b ≡ idx w (c.map + j)) where
      target : b ≡ idx (map_at w c) (column_of (fine_at w c) e)
      target =
          let s = ok.state.standing in
          let n = meet_column.1 in
          is_b ∙ s.aggregate j (omega arith) ∙ ap (idx (map_at w c)) (is-j ∙ s.column e ok.inside)

      small : b < c.count
      small = rw is_b meet_aggregate.1

      after : (λ d. joins_to (fine_at w c) (map_at w c) e a d || eqb b d) ≡ joins_to (fine_at w c) (map_at w c) (e + 1) a
      after = joined_more (fine_at w c) (map_at w c) a e b ok.own target

      -- Where it is new there is room for it.
      pub meet_room : (idx w (marks c + b) ≡ a + 1 → ⊥) → r < c.entries
      meet_room new =
          let s = ok.state in
          let size = s.standing.size in
          let i = ok.inside in
          let row : row_of (fine_at w c) e < c.rows = (row_in s.standing.valid e (omega arith)).0 in
          let h : a < c.count = rw ok.own at (s.standing.maps.below (row_of (fine_at w c) e) row) in
          gather_room s h small (sym (s.stamps b small) ∙ ne_eqb (idx w (marks c + b)) (a + 1) new)
          (λ d q. joined_sub (fine_at w c) (map_at w c) a (e + 1) d (omega arith)
          (sym (ap (λ (t : ℕ → Bool). t d) after) ∙ q))

      -- An aggregate that was met in this row: its mark was that already.
      pub meet_old : {z : List ℕ} → Slotted (set w (marks c + b) (a + 1)) z c.positions c.entries r b
          → idx w (marks c + b) ≡ a + 1 → Gathered w z c a (e + 1) r
      meet_old {z} put old =
          let s = ok.state in
          let l = s.standing.layout in
          let y : set w (marks c + b) (a + 1) ≡ w = ap (set w (marks c + b)) (sym old) ∙ set-get_or w (marks c + b) 0 in
          let is : z ≡ cond (ltb r c.entries) (set w (c.positions + r) b) w = rw y at put.is in
          let known : Gathering w c (fine_at w c) (map_at w c) a (joins_to (fine_at w c) (map_at w c) (e + 1) a) r =
          subst (λ (t : ℕ → Bool). Gathering w c (fine_at w c) (map_at w c) a t r) after
          (gather_old s (sym (s.stamps b small) ∙ eq-eqb (idx w (marks c + b)) (a + 1) old)) in
          ⊎_elim
          (λ (t : ltb r c.entries ≡ true).
          let k : Kept c.positions w (set w (c.positions + r) b) = kept_set w (c.positions + r) b (omega arith) in
          let to : z ≡ set w (c.positions + r) b = rw t at is in
          rw to (record {
            state = settle (λ p map. Gathering (set w (c.positions + r) b) c p map a (joins_to p map (e + 1) a) r) l k
                (gather_slot known small (ltb-true r c.entries t));
            kept = k;
          }))
          (λ (f : ltb r c.entries ≡ false). let to : z ≡ w = rw f at is in rw to (record { state = known; kept = kept_self }))
          (bool? (ltb r c.entries))

      -- An aggregate that is new in this row.
      pub meet_new : {z : List ℕ} → Slotted (set w (marks c + b) (a + 1)) z c.positions c.entries r b
          → (idx w (marks c + b) ≡ a + 1 → ⊥) → Gathered w z c a (e + 1) (r + 1)
      meet_new {z} put new =
          let s = ok.state in
          let l = s.standing.layout in
          let k : Kept c.positions w (set (set w (marks c + b) (a + 1)) (c.positions + r) b) =
          kept_on (kept_set w (marks c + b) (a + 1) (omega arith))
          (kept_set (set w (marks c + b) (a + 1)) (c.positions + r) b (omega arith)) in
          let to : z ≡ set (set w (marks c + b) (a + 1)) (c.positions + r) b = rw (lt-ltb r c.entries (meet_room new)) at put.is in
          rw to (record {
            state = settle (λ p map. Gathering (set (set w (marks c + b) (a + 1)) (c.positions + r) b) c p map a
                (joins_to p map (e + 1) a) (r + 1)) l k
                (subst (λ (t : ℕ → Bool). Gathering (set (set w (marks c + b) (a + 1)) (c.positions + r) b) c
                (fine_at w c) (map_at w c) a t (r + 1)) after
                (gather_new s small (sym (s.stamps b small) ∙ ne_eqb (idx w (marks c + b)) (a + 1) new)
                (meet_room new)));
            kept = k;
          })

-- ---- the entries of a fine row

-- What stands has been gathered.
pub gathered_start : {w : List ℕ} {c : Coarsening} {a e r : ℕ} → GatheringAt w c a e r → Gathered w w c a e r
gathered_start s = record { state = s; kept = kept_self }

-- Steps follow one another.
pub gathered_on : {w y z : List ℕ} {c : Coarsening} {a b e f r s : ℕ} → Gathered w y c a e r → Gathered y z c b f s
    → Gathered w z c b f s
gathered_on g h = record { state = h.state; kept = kept_on g.kept h.kept }

-- At the end the row has been walked over.
pub gathered_end : {w z : List ℕ} {c : Coarsening} {a e r hi : ℕ} → Gathered w z c a e r → e ≤ hi → hi ≤ e
    → Gathered w z c a hi r
gathered_end {w} {z} {c} {a} {e} {r} {hi} g l h = let q : hi ≡ e = omega arith in rw q g

-- The next entry is one of aggregate a's.
pub entries_meet : {w z : List ℕ} {c : Coarsening} {a lo hi e r s : ℕ} → EntriesOk w c a lo hi r
    → Gathered w z c a e s → lo ≤ e → e < hi → MeetOk z c a e s
entries_meet {w} {z} {c} {a} {lo} {hi} {e} ok g l h = record {
  state = g.state;
  inside = omega (arith, ok.inside);
  own = settle (λ p map. idx map (row_of p e) ≡ a) ok.state.standing.layout g.kept (ok.own e l h);
}

-- ---- the fine rows of an aggregate

module _ {w : List ℕ} {c : Coarsening} {p : Pattern} {map : List ℕ} {a e r : ℕ}
    (s : Gathering w c p map a (joins_to p map e a) r) where
  -- Entries of other aggregates change nothing.
  gather_skip : (f : ℕ) → e ≤ f → ((k : ℕ) → e ≤ k → k < f → idx map (row_of p k) ≡ a → ⊥)
      → Gathering w c p map a (joins_to p map f a) r
  gather_skip f h none = subst (λ (t : ℕ → Bool). Gathering w c p map a t r)
      (fun_ext (λ b. some_skip (joins_by p map a b) e f h
      (λ k l m. ⊎_elim (λ t. absurd (none k l m (joins_only p map a b k t).0))
      (λ u. u) (bool? (joins_by p map a b k))))) s

-- Where the walk along the rows of aggregate a stands: row i comes next, or none does.
pub record RowAt (w z : List ℕ) (c : Coarsening) (a i r : ℕ) : Type 0 where
  pub state : Gathered w z c a (idx z (c.offsets + i)) r
  pub bound : i ≤ c.rows
  pub own : i < c.rows → idx (map_at z c) i ≡ a

row_at : {w z : List ℕ} {c : Coarsening} {a e i r : ℕ} → Gathered w z c a e r → Reach (fine_at z c) (map_at z c) a e i
    → RowAt w z c a i r
row_at {w} {z} {c} {a} {e} {i} {r} g h =
    let s = g.state.standing in
    let q : idx z (c.offsets + i) ≡ idx (fine_at z c).offsets i = s.offset i h.bound in
    record {
      state = record {
        state = rw q (gather_skip g.state (idx (fine_at z c).offsets i) h.order h.skip);
        kept = g.kept;
      };
      bound = h.bound;
      own = h.own;
    }

-- The walk starts at the head of the chain.
pub row_start_lem : {w : List ℕ} {c : Coarsening} {a i r : ℕ} → RowOk w c a r → i ≡ idx w (c.scratch + a)
    → RowAt w w c a i r
row_start_lem {w} {c} {a} {i} {r} ok e = row_at (gathered_start ok.state)
    (chain_head ok.state.standing ok.state.chained ok.inside e)

module _ {w z : List ℕ} {c : Coarsening} {a i r : ℕ} (at : RowAt w z c a i r) (h : i < c.rows) where
  -- The entries of the row are a's.
  pub row_entries_lem : {lo hi : ℕ} → lo ≡ idx z (c.offsets + i) → hi ≡ idx z (c.offsets + i + 1)
      → EntriesOk z c a lo hi r
  row_entries_lem {lo} {hi} l e =
      let s = at.state.state.standing in
      let p = fine_at z c in
      let size = s.size in
      let last = s.valid.last in
      let l' : lo ≡ idx p.offsets i = l ∙ s.offset i (omega arith) in
      let e' : hi ≡ idx p.offsets (i + 1) = e ∙ ap (idx z) (add_assoc c.offsets i 1)
      ∙ s.offset (i + 1) (omega arith) in
      record {
        state = rw l at.state.state;
        order = omega (arith, s.valid.rises i h);
        inside = omega (arith, offset_mono s.valid (i + 1) c.rows (omega arith) (omega arith));
        own = λ e lo hi. row_own s at.state.state.chained h (at.own h) e (omega arith) (omega arith);
      }

module _ {w y z : List ℕ} {c : Coarsening} {a i j r s : ℕ} (at : RowAt w y c a i r) (h : i < c.rows) {hi : ℕ}
    (e : hi ≡ idx y (c.offsets + i + 1)) (g : Gathered y z c a hi s)
    (f : j ≡ idx z (c.scratch + c.count + i)) where
  -- The next row comes later.
  pub row_later : i < j
  row_later = chain_later g.state.standing g.state.chained h f

  -- On to the next row.
  pub row_on : RowAt w z c a j s
  row_on =
      let l = at.state.state.standing.layout in
      let t = g.state.standing in
      let own : idx (map_at z c) i ≡ a = settle (λ p map. idx map i ≡ a) l g.kept (at.own h) in
      let q : hi ≡ idx (fine_at z c).offsets (i + 1) = e
      ∙ sym (kept_get g.kept (c.offsets + i + 1) 0 (omega arith)) ∙ ap (idx z) (add_assoc c.offsets i 1)
      ∙ t.offset (i + 1) (omega arith) in
      row_at (gathered_on at.state g) (rw q (chain_next t g.state.chained h own f))

-- Past the last row all entries have been walked over.
pub row_end : {w z : List ℕ} {c : Coarsening} {a i r : ℕ} → RowAt w z c a i r → c.rows ≤ i
    → Gathered w z c a c.entries r
row_end {w} {z} {c} {a} {i} {r} at h =
    let s = at.state.state.standing in
    let b = at.bound in
    let n : i ≡ c.rows = omega arith in
    let q : idx z (c.offsets + i) ≡ c.entries = s.offset i b ∙ ap (idx (fine_at z c).offsets) n ∙ s.valid.last
    ∙ s.size in
    rw q at at.state

-- ---- the coarse rows

listed_none : {w : List ℕ} {base n lo : ℕ} → Listed w base n lo lo (λ b. false)
listed_none {w} {base} {n} {lo} = record {
  inside = λ s a b. absurd (omega arith);
  all = λ b h. some_none (λ s. leb lo s && eqb (idx w (base + s)) b) lo (λ s k. rw (lt-leb lo s k) refl);
  once = λ s u a b d. absurd (omega arith);
}

module _ {w : List ℕ} {c : Coarsening} {p : Pattern} {map : List ℕ} {a r : ℕ}
    (s : Gathering w c p map a (joins p map a) r) (h : a < c.count) where
  -- At the end of a row the next one starts.
  gather_row : Gathering (set w (c.coarse_offsets + a + 1) r) c p map (a + 1) (λ b. false) r
  gather_row =
      let l = s.standing.layout in
      let g = joins p map in
      let step : start c p map (suc a) ≡ r = start_step c.count g a ∙ sym s.many in
      let next : start c p map (a + 1) ≡ r = ap (start c p map) (add-one a) ∙ step in
      let few = joins_few p map c.count in
      let size = s.standing.size in
      record {
        standing = standing_on s.standing (kept_set w (c.coarse_offsets + a + 1) r (omega arith));
        chained = chained_on s.chained (λ k i j. other k (λ q. omega arith));
        inside = omega arith;
        starts = λ k i. ⊎_elim
            (λ (v : a + 1 ≤ k). let q : k ≡ a + 1 = omega arith in
            rw (q, next) (ap (idx (set w (c.coarse_offsets + a + 1) r)) (sym (add_assoc c.coarse_offsets a 1))
            ∙ get_or-set_same w (c.coarse_offsets + a + 1) r 0 (omega arith)))
            (λ (v : k < a + 1). other (c.coarse_offsets + k) (λ q. omega arith) ∙ s.starts k (omega arith))
            (le_or_lt (a + 1) k);
        listed = λ k i.
            let m = start_mono c.count g (suc k) c.count (omega arith) in
            listed_on (⊎_elim
            (λ (v : a ≤ k). let q : k ≡ a = omega arith in rw (q, step) s.here)
            (λ (v : k < a). s.listed k v)
            (le_or_lt a k)) (λ u j. other (c.positions + u) (λ q. omega arith));
        here = rw next listed_none;
        many = rw next (let z = many_none (λ b. false) c.count (λ k _. refl) in omega arith);
        stamps = λ b i. rw (other (marks c + b) (λ q. omega arith))
            (ne_eqb (idx w (marks c + b)) (a + 1 + 1) (λ q. let o = s.older b i in omega arith));
        older = λ b i. rw (other (marks c + b) (λ q. omega arith)) (let o = s.older b i in omega arith);
      }
    where
      other : (k : ℕ) → (k ≡ c.coarse_offsets + a + 1 → ⊥) → idx (set w (c.coarse_offsets + a + 1) r) k ≡ idx w k
      other k d = get_or-set_other w (c.coarse_offsets + a + 1) k r 0 d

-- At the end of a row all its columns have been met.
row_whole : {w z : List ℕ} {c : Coarsening} {a r : ℕ} → Gathered w z c a c.entries r
    → Gathering z c (fine_at z c) (map_at z c) a (joins (fine_at z c) (map_at z c) a) r
unfolding joins joins_by
row_whole {w} {z} {c} {a} {r} g = subst (λ (m : ℕ). Gathering z c (fine_at z c) (map_at z c) a
    (joins_to (fine_at z c) (map_at z c) m a) r) (sym g.state.standing.size) g.state

-- There are no more of them than entries.
pub row_few : {w z : List ℕ} {c : Coarsening} {a r : ℕ} → Gathered w z c a c.entries r → a < c.count
    → r ≤ c.entries
row_few {w} {z} {c} {a} {r} g h =
    let p = fine_at z c in
    let map = map_at z c in
    let many = (row_whole g).many in
    let step = start_step c.count (joins p map) a in
    let rest = start_mono c.count (joins p map) (suc a) c.count h in
    let few = joins_few p map c.count in
    let size = g.state.standing.size in
    omega arith

-- On to the next coarse row.
pub rows_on : {w y z : List ℕ} {c : Coarsening} {a r s : ℕ} → Gathered w y c a 0 r → a < c.count
    → Gathered y z c a c.entries s
    → Gathered w (set z (c.coarse_offsets + a + 1) s) c (a + 1) 0 s
unfolding some
rows_on {w} {y} {z} {c} {a} {r} {s} g h n =
    let l = n.state.standing.layout in
    let k : Kept c.positions z (set z (c.coarse_offsets + a + 1) s) =
    kept_set z (c.coarse_offsets + a + 1) s (omega arith) in
    record {
      state = settle (λ p map. Gathering (set z (c.coarse_offsets + a + 1) s) c p map (a + 1)
          (joins_to p map 0 (a + 1)) s) l k (gather_row (row_whole n) h);
      kept = kept_on g.kept (kept_on n.kept k);
    }

-- The walk starts with no mark and no column.
pub rows_start : {w y : List ℕ} {c : Coarsening} → Linked w c 0 → Wrote (marks c) c.count (filled c.count 0) w y
    → Gathered w (set y c.coarse_offsets 0) c 0 0 0
unfolding some
rows_start {w} {y} {c} ok f =
    let l = ok.standing.layout in
    let size = f.size in
    let k : Kept c.positions w (set y c.coarse_offsets 0) =
    kept_on (kept_wrote f (omega arith)) (kept_set y c.coarse_offsets 0 (omega arith)) in
    let zero : (b : ℕ) → b < c.count → idx (set y c.coarse_offsets 0) (marks c + b) ≡ 0 =
    λ b h. get_or-set_other y c.coarse_offsets (marks c + b) 0 0 (λ q. omega arith) ∙ marked b h in
    record {
      state = settle (λ p map. Gathering (set y c.coarse_offsets 0) c p map 0 (joins_to p map 0 0) 0) l k (record {
        standing = standing_on ok.standing k;
        chained = chained_on ok.chained (λ i a b. get_or-set_other y c.coarse_offsets i 0 0 (λ q. omega arith)
            ∙ under i b);
        inside = omega arith;
        starts = λ i h. let q : i ≡ 0 = omega arith in rw
            (q, start_zero c.count (joins (fine_at w c) (map_at w c)), add-zero)
            (get_or-set_same y c.coarse_offsets 0 0 (omega arith));
        listed = λ i h. absurd (omega arith);
        here = rw (start_zero c.count (joins (fine_at w c) (map_at w c))) listed_none;
        many = rw (start_zero c.count (joins (fine_at w c) (map_at w c)))
            (let z = many_none (λ b. false) c.count (λ k _. refl) in omega arith);
        stamps = λ b h. rw (zero b h) refl;
        older = λ b h. rw (zero b h) (omega arith);
      });
      kept = k;
    }
  where
    marked : (b : ℕ) → b < c.count → idx y (marks c + b) ≡ 0
    marked b h =
        let l = ok.standing.layout in
        let n = f.long in
        ap (λ (v : List ℕ). idx v (marks c + b)) f.is
        ∙ get_d_splice_in (marks c) (filled c.count 0) w b 0 (omega arith) (omega arith) ∙ get_d_tab
        (λ _. 0) c.count b 0 h

    under : (i : ℕ) → i < marks c → idx y i ≡ idx w i
    under i h = ap (λ (v : List ℕ). idx v i) f.is ∙ get_d_splice_below (marks c) (filled c.count 0) w i 0 h
