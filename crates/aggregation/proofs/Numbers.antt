-- The numbers of the aggregates, for every pattern in range, all weights, every cap and both directions: each row's is below the count
-- (`map_below`), and each number below the count is some row's (`all-used`).
-- Assumes nothing.
use mathlib.Core.Path.{◌≡◌, refl, sym, ap, ◌∙◌}
use mathlib.Core.Bool.{Bool, true, false}
use mathlib.Core.List.{List}
use mathlib.Core.Logic.{◌⊎◌, inl, inr, ⊎_elim}
use Prim.Native.Nat.{ℕ, suc, ◌+◌, ◌≤◌, ◌<◌, zero-le}
use native.Mathlib.Nat.{not-suc-le-zero}
use native.Mathlib.Decide.{ℕ_discrete}
use native.Mathlib.Omega.{arith}
use lib.ListN.{length, set, length-set}
use lib.Seq.{get_or-set_same, get_or-set_other}
use Rattle.store.specs.Region.{idx}
use Rattle.store.specs.Vector.{filled}
use Rattle.store.proofs.store.Loop.{for_count}
use Rattle.store.proofs.store.Region.{le_or_lt}
use Rattle.store.proofs.store.Vector.{length_tab, get_d_tab}
use Rattle.aggregation.specs.declared.Choice.{Choice}
use Rattle.aggregation.specs.Pairs.{Weighted, size_of, strongest_of, Pairing, pairing, pairs_of}
use Rattle.aggregation.specs.Turns.{row_of, turn_of}
use Rattle.aggregation.specs.Contract.{InRange}
use Rattle.aggregation.proofs.Sizes.{size_none}
use Rattle.aggregation.proofs.Steps.{row_in, Placed, assigned, paired, joined, alone, placed, count_next, Sane, strongest_sane}

-- An element after a store, at its place or at another.
pub idx_set : (l : List ℕ) (i v r : ℕ) → i < length l
    → ((r ≡ i) × (idx (set l i v) r ≡ v)) ⊎ ((r ≡ i → ⊥) × (idx (set l i v) r ≡ idx l r))
idx_set l i v r h = go (ℕ_discrete r i)
  where
    go : Dec (r ≡ i) → ((r ≡ i) × (idx (set l i v) r ≡ v)) ⊎ ((r ≡ i → ⊥) × (idx (set l i v) r ≡ idx l r))
    go (yes e) = inl (e, ap (idx (set l i v)) e ∙ get_or-set_same l i v 0 h)
    go (no x) = inr (x, get_or-set_other l i r v 0 x)

-- `row_of` also gives the turn of a row.
pub row_row : (forward : Bool) (n i : ℕ) → i < n → row_of forward n (row_of forward n i) ≡ i
row_row true n i h = refl
row_row false n i h = omega arith

-- The row of the turn i of which is k.
pub row_of_lem : (forward : Bool) (n i k : ℕ) → i < n → row_of forward n i ≡ k → i ≡ row_of forward n k
row_of_lem forward n i k h e = sym (row_row forward n i h) ∙ ap (row_of forward n) e

-- ---- a map after k turns

-- Each row is free or has a number below the count, the rows of those turns have one, and each number is used.
pub record Good (n : ℕ) (forward : Bool) (k : ℕ) (p : Pairing) : Type 0 where
  pub size : length p.map ≡ n
  pub most : p.count ≤ n
  pub range : (i : ℕ) → i < n → (idx p.map i ≡ n) ⊎ (idx p.map i < p.count)
  pub seen : (i : ℕ) → i < n → row_of forward n i < k → idx p.map i < p.count
  pub used : (c : ℕ) → c < p.count → (i : ℕ) × (i < n) × (idx p.map i ≡ c)

-- The next number is no row's.
pub next_free : {n : ℕ} {forward : Bool} {k : ℕ} {p : Pairing} → Good n forward k p → p.count < n → size_of p.map p.count ≡ 0
next_free {n} {forward} {k} {p} g h = size_none p.map p.count
    (λ i l e. ⊎_elim (λ z. omega arith) (λ z. omega arith) (g.range i (rw g.size at l)))

-- A free row i gets the number v, an old one or the next.
good_set : {n : ℕ} {forward : Bool} {k : ℕ} {p : Pairing} → Good n forward k p → (i v count : ℕ) → i < n → idx p.map i ≡ n
    → v < count → p.count ≤ count → count ≤ n → ((c : ℕ) → c < count → (c < p.count) ⊎ (v ≡ c))
    → Good n forward k (pairing (set p.map i v) count)
good_set {n} {forward} {k} {p} g i v count h f b grows most new =
    let place : i < length p.map = omega (arith, g.size) in
    record {
      size = length-set p.map i v ∙ g.size;
      most = most;
      range = λ r q. ⊎_elim
          (λ w. inr (rw w.1 b))
          (λ w. rw w.1 (⊎_elim (λ z. inl z) (λ z. inr (omega arith)) (g.range r q)))
          (idx_set p.map i v r place);
      seen = λ r q s. ⊎_elim
          (λ w. rw w.1 b)
          (λ w. let y = g.seen r q s in rw w.1 (omega arith))
          (idx_set p.map i v r place);
      used = λ c q. ⊎_elim (λ w. old c w place) (λ w. (i, h, get_or-set_same p.map i v 0 place ∙ w)) (new c q);
    }
  where
    old : (c : ℕ) → c < p.count → i < length p.map → (r : ℕ) × (r < n) × (idx (set p.map i v) r ≡ c)
    old c w place =
        let u = g.used c w in
        let y = g.most in (
          u.0,
          u.1,
          ⊎_elim
              (λ t. absurd (let z : n ≡ c = sym f ∙ ap (idx p.map) (sym t.0) ∙ u.2 in omega arith))
              (λ t. t.1 ∙ u.2)
              (idx_set p.map i v u.0 place),
        )

-- One turn more, once its row has a number.
good_on : {n : ℕ} {forward : Bool} {k : ℕ} {p : Pairing} → Good n forward k p → idx p.map (row_of forward n k) < p.count
    → Good n forward (suc k) p
good_on {n} {forward} {k} {p} g b = record {
  size = g.size;
  most = g.most;
  range = g.range;
  seen = λ i q s. ⊎_elim
      (λ (w : k ≤ row_of forward n i). let e : row_of forward n i ≡ k = omega arith in rw (row_of_lem forward n i k q e) b)
      (λ w. g.seen i q w)
      (le_or_lt k (row_of forward n i));
  used = g.used;
}

-- Besides, there are at most k aggregates.
pub record Along (n : ℕ) (forward : Bool) (k : ℕ) (p : Pairing) : Type 0 where
  pub good : Good n forward k p
  pub few : p.count ≤ k

module _ {m : ℕ} (a : Weighted) (forward : Bool) (ok : InRange a.rows m a.offsets a.columns) where
  abbrev n : ℕ
  n = a.rows

  module _ (k : ℕ) (h : k < n) (p : Pairing) (on : Along n forward k p) where
    abbrev row : ℕ
    row = row_of forward n k

    abbrev found : Choice
    found = strongest_of a p.map row

    pub found_sane : Sane n a.cap p.map row found
    found_sane = strongest_sane a ok p.map row (row_in forward n k h)

    place : row < length p.map
    place = rw on.good.size (row_in forward n k h)

    -- The aggregate that a row joins has a number below the count.
    joins_below : (found.adjacent ≡ n → ⊥) → found.adjacent < p.count
    joins_below x =
        let u = found_sane.adjacent x in
        ⊎_elim (λ z. absurd (x (sym u.2 ∙ z))) (λ z. rw u.2 at z) (on.good.range u.0 u.1)

    -- The row gets the next number.
    new_row : idx p.map row ≡ n → Good n forward k (pairing (set p.map row p.count) (p.count + 1))
    new_row f =
        let few = on.few in
        good_set on.good row p.count (p.count + 1) (row_in forward n k h) f (omega arith) (omega arith) (omega arith)
        (λ c b. ⊎_elim (λ (w : p.count ≤ c). inr (omega arith)) (λ w. inl w) (le_or_lt p.count c))

    good_turn : {p' : Pairing} → Placed n row found p p' → Good n forward (suc k) p'
    good_turn (assigned x) =
        good_on on.good (⊎_elim (λ z. absurd (x z)) (λ z. z) (on.good.range row (row_in forward n k h)))
    good_turn (paired f x) =
        let few = on.few in
        let z = found_sane.free x in
        let two = good_set (new_row f) found.free p.count (p.count + 1) z.0
        (get_or-set_other p.map row found.free p.count 0 z.2 ∙ z.1) (omega arith) (omega arith) (omega arith) (λ c b. inl b) in
        good_on two
        (rw (get_or-set_other (set p.map row p.count) found.free row p.count 0 (λ e. z.2 (sym e)), get_or-set_same p.map row p.count 0 place)
        (omega arith))
    good_turn (joined f x y) =
        let few = on.few in
        let b = joins_below y in
        good_on
        (good_set on.good row found.adjacent p.count (row_in forward n k h) f b (omega arith) (omega arith) (λ c q. inl q))
        (rw (get_or-set_same p.map row found.adjacent 0 place) b)
    good_turn (alone f x y) = good_on (new_row f) (rw (get_or-set_same p.map row p.count 0 place) (omega arith))

    -- A turn.
    pub along_on : Along n forward (suc k) (turn_of a forward k p)
    unfolding turn_of
    along_on =
        let few = on.few in
        let t = placed a row p in
        let next = count_next t in
        record { good = good_turn t; few = omega arith }

  -- Before the first turn every row is free.
  pub along_start : Along n forward 0 (pairing (filled n n) 0)
  along_start = record {
    good = record {
      size = length_tab (λ _. n) n;
      most = zero-le;
      range = λ i h. inl (get_d_tab (λ _. n) n i 0 h);
      seen = λ i h s. absurd (not-suc-le-zero s);
      used = λ c h. absurd (not-suc-le-zero h);
    };
    few = zero-le;
  }

  along : Along n forward n (pairs_of a forward)
  unfolding pairs_of turn_of
  along =
      for_count (Along n forward) (turn_of a forward) 0 n zero-le (λ k _ h p on. along_on k h p on) (pairing (filled n n) 0) along_start

  -- The map has a number for each row.
  pub map_length : length (pairs_of a forward).map ≡ a.rows
  map_length = along.good.size

  -- There are at most as many aggregates as rows.
  pub count_most : (pairs_of a forward).count ≤ a.rows
  count_most = along.few

  -- Each row's number is below the count.
  pub map_below : (i : ℕ) → i < a.rows → idx (pairs_of a forward).map i < (pairs_of a forward).count
  map_below i h = along.good.seen i h (row_in forward n i h)

  -- Each number below the count is some row's.
  pub all_used : (c : ℕ) → c < (pairs_of a forward).count → (i : ℕ) × (i < a.rows) × (idx (pairs_of a forward).map i ≡ c)
  all_used c h = along.good.used c h
