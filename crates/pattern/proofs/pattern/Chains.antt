-- The rows of an aggregate as a chain: the first that passes a test, a walk along a chain, and how the chains are built.
-- Assumes nothing.
use mathlib.Core.Path.{◌≡◌, refl, sym, ap, ◌∙◌, subst}
use mathlib.Core.Bool.{Bool, true, false, cond}
use mathlib.Core.List.{List}
use mathlib.Core.Logic.{⊎_elim}
use Prim.Native.Nat.{ℕ, zero, suc, ◌+◌, ◌-◌, ◌≤◌, ◌<◌}
use native.Mathlib.Omega.{arith}
use lib.Dec.{eqb}
use lib.ListN.{length, set, length-set}
use lib.Seq.{get_or-set_same, get_or-set_other}
use borrow.Author.Tests.{eqb-true, eqb-false, eq-eqb, ne_eqb}
use Rattle.store.specs.Region.{idx, Wrote, Kept}
use Rattle.store.specs.Vector.{filled}
use Rattle.store.proofs.store.Region.{le_or_lt, get_d_splice_in, kept_wrote, kept_on}
use Rattle.store.proofs.store.Vector.{get_d_tab}
use Rattle.pattern.specs.declared.pattern.Coarsening.{Coarsening}
use Rattle.pattern.specs.Pattern.{Pattern, row_of, Valid}
use Rattle.pattern.specs.Coarsening.{fine_at, map_at, PatternOk}
use Rattle.pattern.specs.Steps.{heads, nexts, marks, seek, first, Standing, Chained, Links}
use Rattle.pattern.proofs.pattern.Number.{same?, under}
use Rattle.pattern.proofs.pattern.Standing.{kept_set, standing_at, standing_on, settle}
use Rattle.pattern.proofs.pattern.Row.{offset_mono, row_is, row_between}

-- ---- the first number that passes

module _ (p : ℕ → Bool) where
  seek_ge : (k i : ℕ) → i ≤ seek p k i
  unfolding seek
  seek_ge zero i = omega arith
  seek_ge (suc k) i = go (p i) (seek_ge k (i + 1))
    where
      go : (b : Bool) → i + 1 ≤ seek p k (i + 1) → i ≤ cond b i (seek p k (i + 1))
      go true h = omega arith
      go false h = omega arith

  seek_le : (k i : ℕ) → seek p k i ≤ i + k
  unfolding seek
  seek_le zero i = omega arith
  seek_le (suc k) i = go (p i) (seek_le k (i + 1))
    where
      go : (b : Bool) → seek p k (i + 1) ≤ i + 1 + k → cond b i (seek p k (i + 1)) ≤ i + suc k
      go true h = omega arith
      go false h = omega arith

  seek_hit : (k i : ℕ) → seek p k i < i + k → p (seek p k i) ≡ true
  unfolding seek
  seek_hit zero i h = absurd (omega arith)
  seek_hit (suc k) i h = go (p i) refl h (seek_hit k (i + 1))
    where
      go : (b : Bool) → p i ≡ b → cond b i (seek p k (i + 1)) < i + suc k
          → (seek p k (i + 1) < i + 1 + k → p (seek p k (i + 1)) ≡ true) → p (cond b i (seek p k (i + 1))) ≡ true
      go true e l w = e
      go false e l w = w (omega arith)

  seek_miss : (k i j : ℕ) → i ≤ j → j < seek p k i → p j ≡ false
  unfolding seek
  seek_miss zero i j h l = absurd (omega arith)
  seek_miss (suc k) i j h l = go (p i) refl l (seek_miss k (i + 1) j)
    where
      go : (b : Bool) → p i ≡ b → j < cond b i (seek p k (i + 1)) → (i + 1 ≤ j → j < seek p k (i + 1) → p j ≡ false)
          → p j ≡ false
      go true e l w = absurd (omega arith)
      go false e l w = ⊎_elim (λ (v : j ≤ i). let z : j ≡ i = omega arith in rw z e)
          (λ (v : i < j). w (omega arith) l) (le_or_lt j i)

  -- It is not before i.
  pub first_ge : (n i : ℕ) → i ≤ first p n i
  first_ge n i = seek_ge (n - i) i

  -- It is at most n.
  pub first_le : (n i : ℕ) → i ≤ n → first p n i ≤ n
  first_le n i h = omega (arith, seek_le (n - i) i)

  -- If it is below n it passes.
  pub first_hit : (n i : ℕ) → i ≤ n → first p n i < n → p (first p n i) ≡ true
  first_hit n i h l = seek_hit (n - i) i (omega arith)

  -- None before it passes.
  pub first_miss : (n i j : ℕ) → i ≤ j → j < first p n i → p j ≡ false
  first_miss n i j h l = seek_miss (n - i) i j h l

  -- From n on there is none.
  pub first_none : (n : ℕ) → first p n n ≡ n
  unfolding seek
  first_none n = let e : n - n ≡ 0 = omega arith in rw e refl

  -- It is k where k passes.
  pub first_here : (n k : ℕ) → k < n → p k ≡ true → first p n k ≡ k
  unfolding seek
  first_here n k h t = let e : n - k ≡ suc (n - (k + 1)) = omega arith in rw (e, t) refl

  -- Else it is the one from k + 1 on.
  pub first_next : (n k : ℕ) → k < n → p k ≡ false → first p n k ≡ first p n (k + 1)
  unfolding seek
  first_next n k h t = let e : n - k ≡ suc (n - (k + 1)) = omega arith in rw (e, t) refl

-- ---- a chain in the store

-- Chains stand in a store that has the same scratch.
pub chained_on : {w z : List ℕ} {c : Coarsening} {map : List ℕ} {i : ℕ} → Chained w c map i
    → ((k : ℕ) → c.scratch ≤ k → k < marks c → idx z k ≡ idx w k) → Chained z c map i
chained_on {w} {z} {c} s same = record {
  firsts = λ a h. same (heads c + a) (omega arith) (omega arith) ∙ s.firsts a h;
  follows = λ j l h. same (nexts c + j) (omega arith) (omega arith) ∙ s.follows j l h;
}

-- No entry between the end of a row and the next row of an aggregate is the aggregate's.
pub chain_skip : {p : Pattern} → Valid p → (map : List ℕ) (a i k : ℕ) → i ≤ p.rows → idx p.offsets i ≤ k
    → k < idx p.offsets (first (λ j. eqb (idx map j) a) p.rows i) → idx map (row_of p k) ≡ a → ⊥
chain_skip {p} v map a i k h lo hi e =
    let q : ℕ → Bool = λ j. eqb (idx map j) a in
    let w = row_between v i (first q p.rows i) k h (first_le q p.rows i h) lo hi in
    eqb-false (idx map (row_of p k)) a (first_miss q p.rows i (row_of p k) w.0 w.1) e

-- Row i comes next of aggregate a's, or none does: no entry from `low` to its start is a's.
pub record Reach (p : Pattern) (map : List ℕ) (a low i : ℕ) : Type 0 where
  pub bound : i ≤ p.rows
  pub own : i < p.rows → idx map i ≡ a
  pub order : low ≤ idx p.offsets i
  pub skip : (k : ℕ) → low ≤ k → k < idx p.offsets i → idx map (row_of p k) ≡ a → ⊥

first_reach : {p : Pattern} → Valid p → (map : List ℕ) (a i : ℕ) → i ≤ p.rows
    → Reach p map a (idx p.offsets i) (first (λ k. eqb (idx map k) a) p.rows i)
first_reach {p} v map a i h =
    let q : ℕ → Bool = λ k. eqb (idx map k) a in
    record {
      bound = first_le q p.rows i h;
      own = λ l. eqb-true (idx map (first q p.rows i)) a (first_hit q p.rows i h l);
      order = offset_mono v i (first q p.rows i) (first_ge q p.rows i) (first_le q p.rows i h);
      skip = λ k lo hi. chain_skip v map a i k h lo hi;
    }

module _ {w : List ℕ} {c : Coarsening} {p : Pattern} {map : List ℕ} (s : Standing w c p map)
    (l : Chained w c map 0) where
  -- The head of a chain is its aggregate's first row.
  pub chain_head : {a i : ℕ} → a < c.count → i ≡ idx w (heads c + a) → Reach p map a 0 i
  chain_head {a} {i} h e =
      let q : i ≡ first (λ k. eqb (idx map k) a) p.rows 0 = rw s.rows (e ∙ l.firsts a h) in
      rw q (subst (λ (x : ℕ). Reach p map a x (first (λ k. eqb (idx map k) a) p.rows 0)) s.valid.first
      (first_reach s.valid map a 0 (omega arith)))

  -- The next of a row is its aggregate's next row.
  pub chain_next : {a i j : ℕ} → i < c.rows → idx map i ≡ a → j ≡ idx w (nexts c + i)
      → Reach p map a (idx p.offsets (i + 1)) j
  chain_next {a} {i} {j} h own e =
      let n = s.rows in
      let q : j ≡ first (λ k. eqb (idx map k) a) p.rows (i + 1) =
      rw s.rows (e ∙ l.follows i (omega arith) h ∙ ap
      (λ (x : ℕ). first (λ k. eqb (idx map k) x) c.rows (i + 1)) own) in
      rw q (first_reach s.valid map a (i + 1) (omega arith))

  -- It comes later.
  pub chain_later : {i j : ℕ} → i < c.rows → j ≡ idx w (nexts c + i) → i < j
  chain_later {i} {j} h e = let f = l.follows i (omega arith) h in
      let g = first_ge (λ k. eqb (idx map k) (idx map i)) c.rows (i + 1) in omega arith

  -- The entries of a row of a are a's.
  pub row_own : {a i : ℕ} → i < c.rows → idx map i ≡ a → (e : ℕ) → idx p.offsets i ≤ e
      → e < idx p.offsets (i + 1) → idx map (row_of p e) ≡ a
  row_own {a} {i} h own e lo hi = let n = s.rows in ap (idx map) (row_is s.valid i e (omega arith) lo hi) ∙ own

-- ---- the chains are built

linked : {w z : List ℕ} {c : Coarsening} {i : ℕ} → Standing w c (fine_at w c) (map_at w c) → Kept c.positions w z
    → Chained z c (map_at w c) i → i ≤ c.rows → Links w z c i
linked {w} {z} {c} {i} s k l h = record {
  state = record {
    standing = settle (λ p map. Standing z c p map) s.layout k (standing_on s k);
    chained = settle
        (λ p map. Chained z c map i) s.layout k l;
    bound = h;
  };
  kept = k;
}

-- Where every head is the number of rows, all chains are empty.
pub links_start : {w z : List ℕ} {c : Coarsening} → PatternOk w c
    → Wrote c.scratch c.count (filled c.count c.rows) w z → Links w z c c.rows
links_start {w} {z} {c} ok f =
    let l = ok.layout in
    let n = f.long in
    linked (standing_at ok) (kept_wrote f (omega arith)) (record {
      firsts = λ a h. ap (λ (v : List ℕ). idx v (heads c + a)) f.is
          ∙ get_d_splice_in (heads c) (filled c.count c.rows) w a 0 (omega arith) (omega arith)
          ∙ get_d_tab (λ _. c.rows) c.count a 0 h ∙ sym (first_none (λ k. eqb (idx (map_at w c) k) a) c.rows);
      follows = λ j a b. absurd (omega arith);
    }) (omega arith)

-- Steps follow one another.
pub links_then : {w y z : List ℕ} {c : Coarsening} {i j : ℕ} → Links w y c i → Links y z c j → Links w z c j
links_then g h = record { state = h.state; kept = kept_on g.kept h.kept }

module _ {w y : List ℕ} {c : Coarsening} {i k : ℕ} (g : Links w y c i) (h : 0 < i) (below : k ≡ i - 1) where
  -- The aggregate of the next row down.
  pub link_index : (c.map + k < length y) × (idx y (c.map + k) < c.count)
  link_index =
      let s = g.state.standing in
      let l = s.layout in
      let b = g.state.bound in
      (omega arith, rw (s.aggregate k (omega arith)) (s.maps.below k (omega arith)))

  -- The row is put in front of its aggregate's chain.
  pub links_on : {a : ℕ} → a ≡ idx y (c.map + k) → Links w
      (set (set y (c.scratch + c.count + k) (idx y (c.scratch + a))) (c.scratch + a) k) c k
  links_on {a} is =
      let s = g.state.standing in
      let l = s.layout in
      let b = g.state.bound in
      let map = map_at y c in
      let own : idx map k ≡ a = sym (is ∙ s.aggregate k (omega arith)) in
      let in-a : a < c.count = rw is link_index.1 in
      let e : k + 1 ≡ i = omega arith in
      let u = idx y (heads c + a) in
      let v = set y (nexts c + k) u in
      let size : length v ≡ length y = length-set y (nexts c + k) u in
      links_then g (linked s (kept_on (kept_set y (nexts c + k) u (omega arith))
      (kept_set v (heads c + a) k (omega arith))) (record {
        firsts = λ d j. ⊎_elim
            (λ (x : (d ≡ a) × (eqb d a ≡ true)).
            rw x.0 (get_or-set_same v (heads c + a) k 0 (omega arith)
            ∙ sym (first_here (λ j. eqb (idx map j) a) c.rows k (omega arith) (eq-eqb (idx map k) a own))))
            (λ (x : (d ≡ a → ⊥) × (eqb d a ≡ false)).
            get_or-set_other v (heads c + a) (heads c + d) k 0 (λ q. x.0 (omega arith))
            ∙ get_or-set_other y (nexts c + k) (heads c + d) u 0 (λ q. omega arith)
            ∙ g.state.chained.firsts d j
            ∙ ap (first (λ j. eqb (idx map j) d) c.rows) (sym e)
            ∙ sym (first_next (λ j. eqb (idx map j) d) c.rows k (omega arith)
            (ne_eqb (idx map k) d (λ q. x.0 (sym q ∙ own)))))
            (same? d a);
        follows = λ j p m. ⊎_elim
            (λ (x : (j ≡ k) × (eqb j k ≡ true)).
            rw x.0 (get_or-set_other v (heads c + a) (nexts c + k) k 0 (λ q. omega arith)
            ∙ get_or-set_same y (nexts c + k) u 0 (omega arith)
            ∙ g.state.chained.firsts a in-a
            ∙ ap (λ (d : ℕ). first (λ j. eqb (idx map j) d) c.rows i) (sym own)
            ∙ ap (first (λ j. eqb (idx map j) (idx map k)) c.rows) (sym e)))
            (λ (x : (j ≡ k → ⊥) × (eqb j k ≡ false)).
            get_or-set_other v (heads c + a) (nexts c + j) k 0 (λ q. omega arith)
            ∙ get_or-set_other y (nexts c + k) (nexts c + j) u 0 (λ q. x.0 (omega arith))
            ∙ g.state.chained.follows j (omega (arith, under k j p (λ q. x.0 (sym q)))) m)
            (same? j k);
      }) (omega arith))
