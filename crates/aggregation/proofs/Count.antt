-- The count equals the rows exactly if no off-diagonal weight exceeds zero (`count-full`), for every pattern in range, all
-- weights, both directions and every cap but 1, with which a row would find every aggregate full.
-- Assumes nothing.
use mathlib.Core.Path.{◌≡◌, refl, sym, ap, ◌∙◌}
use mathlib.Core.Bool.{Bool, true, false, true≢false}
use mathlib.Core.List.{List}
use mathlib.Core.Logic.{⊎_elim, ◌↔◌}
use Prim.Native.Nat.{ℕ, suc, ◌+◌, ◌≤◌, ◌<◌, zero-le}
use native.Mathlib.Omega.{arith}
use lib.ListN.{length, set, length-set}
use lib.Seq.{get_or-set_same, get_or-set_other}
use lib.Ieee.{Float, lt}
use Rattle.float.specs.Float.{zero64}
use Rattle.store.specs.Region.{at, idx}
use Rattle.store.specs.Vector.{filled}
use Rattle.store.proofs.store.Loop.{for_keeps, for_count}
use Rattle.store.proofs.store.Region.{le_or_lt}
use Rattle.store.proofs.store.Vector.{get_d_tab}
use Rattle.aggregation.specs.declared.Choice.{Choice}
use Rattle.aggregation.specs.Pairs.{Weighted, size_of, is_full, choice, strongest_of, Pairing, pairing, pairs_of}
use Rattle.aggregation.specs.Turns.{entry_of, row_of, turn_of}
use Rattle.aggregation.specs.Contract.{InRange, NoneAbove}
use Rattle.aggregation.proofs.Sizes.{size_free, size_set, lone_room}
use Rattle.aggregation.proofs.Steps.{row_in, own, free, free_no, skipped, adjacent, adjacent_no, EntryCase, entry_case, Placed, assigned, paired, joined, alone, placed, count_next}
use Rattle.aggregation.proofs.Numbers.{idx_set, row_of_lem, row_row, Along, next_free, found_sane, along_on, along_start}

-- ---- no weight above zero: every row stays alone

module _ (a : Weighted) (forward : Bool) (none : NoneAbove a) where
  -- No row finds a neighbour.
  finds_none : (map : List ℕ) (row : ℕ) → row < a.rows → strongest_of a map row ≡ choice a.rows zero64 a.rows zero64
  unfolding strongest_of entry_of
  finds_none map row r =
      for_keeps (λ (s : Choice). s ≡ start) (entry_of a map row) (idx a.offsets row) (idx a.offsets (row + 1))
      (λ e lo hi s t. rw t (go e (none.none row e r lo hi) (entry_case a map row e start)))
      start refl
    where
      start : Choice
      start = choice a.rows zero64 a.rows zero64

      go : (e : ℕ) → ((idx a.columns e ≡ row → ⊥) → lt zero64 (at a.weights e) ≡ false) → {s : Choice}
          → EntryCase a map row e start s → s ≡ start
      go e z (own p) = refl
      go e z (free p q t) = absurd (true≢false (sym t ∙ z p))
      go e z (free_no p q t) = refl
      go e z (skipped p q x) = refl
      go e z (adjacent p q x t) = absurd (true≢false (sym t ∙ z p))
      go e z (adjacent_no p q x t) = refl

  -- After k turns there are k aggregates, and the rows of the turns to come are free.
  record Alone (k : ℕ) (p : Pairing) : Type 0 where
    pub count : p.count ≡ k
    pub rest : (j : ℕ) → k ≤ j → j < a.rows → idx p.map (row_of forward a.rows j) ≡ a.rows

  alone_on : (k : ℕ) → k < a.rows → (p : Pairing) → Alone k p → Alone (suc k) (turn_of a forward k p)
  unfolding turn_of
  alone_on k h p on = go (rw (finds_none p.map row (row_in forward a.rows k h)) at (placed a row p))
    where
      row : ℕ
      row = row_of forward a.rows k

      go : {p' : Pairing} → Placed a.rows row (choice a.rows zero64 a.rows zero64) p p' → Alone (suc k) p'
      go (assigned x) = absurd (x (on.rest k (omega arith) h))
      go (paired f x) = absurd (x refl)
      go (joined f x y) = absurd (y refl)
      go (alone f x y) = record {
        count = let c = on.count in omega arith;
        rest = λ j lo hi.
            get_or-set_other p.map row (row_of forward a.rows j) p.count 0
            (λ e. let z : j ≡ k = row_of_lem forward a.rows j row hi e ∙ row_row forward a.rows k h in omega arith)
            ∙ on.rest j (omega arith) hi;
      }

  none_count : (pairs_of a forward).count ≡ a.rows
  unfolding pairs_of turn_of
  none_count =
      (for_count Alone (turn_of a forward) 0 a.rows zero-le (λ k _ h p on. alone_on k h p on)
      (pairing (filled a.rows a.rows) 0)
      (record { count = refl; rest = λ j _ h. get_d_tab (λ _. a.rows) a.rows (row_of forward a.rows j) 0 (row_in forward a.rows j h) })).count

-- ---- a weight above zero: its row finds a neighbour

-- Entry e₀ of the row is off the diagonal and has a weight above zero, and no aggregate of the map so far is full.
module _ (a : Weighted) (map : List ℕ) (row e₀ : ℕ) (off : idx a.columns e₀ ≡ row → ⊥) (above : lt zero64 (at a.weights e₀) ≡ true)
    (room : (j : ℕ) → j < a.rows → (idx map j ≡ a.rows → ⊥) → is_full a.cap map (idx map j) ≡ false) where
  -- The choice before entry k: a place is empty only where its weight is zero, and past e₀ one of the two is not.
  record Finding (k : ℕ) (s : Choice) : Type 0 where
    pub free : s.free ≡ a.rows → s.freeweight ≡ zero64
    pub adjacent : s.adjacent ≡ a.rows → s.adjacentweight ≡ zero64
    pub some : e₀ < k → s.free ≡ a.rows → s.adjacent ≡ a.rows → ⊥

  -- An entry that changes nothing is not e₀, unless one of the two is there.
  passes : {e : ℕ} {s : Choice} → Finding e s → (e₀ ≡ e → s.free ≡ a.rows → s.adjacent ≡ a.rows → ⊥) → Finding (suc e) s
  passes {e} q x = record {
    free = q.free;
    adjacent = q.adjacent;
    some = λ l. ⊎_elim (λ (w : e ≤ e₀). x (omega arith)) (λ w. q.some w) (le_or_lt e e₀);
  }

  -- A best weight that e₀ does not beat is not zero.
  beaten : (e : ℕ) (best : Float) → lt best (at a.weights e) ≡ false → e₀ ≡ e → best ≡ zero64 → ⊥
  beaten e best f t z =
      true≢false (sym above
      ∙ ap (λ (i : ℕ). lt zero64 (at a.weights i)) t
      ∙ ap (λ (x : Float). lt x (at a.weights e)) (sym z)
      ∙ f)

  finding_on : (e : ℕ) → idx a.columns e < a.rows → {s s' : Choice} → Finding e s
      → EntryCase a map row e s s' → Finding (suc e) s'
  finding_on e h q (own p) = passes q (λ t _ _. off (ap (idx a.columns) t ∙ p))
  finding_on e h q (free p c r) =
      record { free = λ z. absurd (omega arith); adjacent = q.adjacent; some = λ _ z _. omega arith }
  finding_on e h {s} q (free_no p c r) = passes q (λ t x _. beaten e s.freeweight r t (q.free x))
  finding_on e h q (skipped p c x) = absurd (true≢false (sym x ∙ room (idx a.columns e) h c))
  finding_on e h q (adjacent p c x r) = record { free = q.free; adjacent = λ z. absurd (c z); some = λ _ _ z. c z }
  finding_on e h {s} q (adjacent_no p c x r) = passes q (λ t _ y. beaten e s.adjacentweight r t (q.adjacent y))

  finds_some : {m : ℕ} → InRange a.rows m a.offsets a.columns → row < a.rows
      → idx a.offsets row ≤ e₀ → e₀ < idx a.offsets (row + 1)
      → (strongest_of a map row).free ≡ a.rows → (strongest_of a map row).adjacent ≡ a.rows → ⊥
  unfolding strongest_of entry_of
  finds_some ok r lo hi =
      let end = ok.ends (row + 1) (omega arith) in
      (for_count Finding (entry_of a map row) (idx a.offsets row) (idx a.offsets (row + 1)) (omega arith)
      (λ e _ h s q. finding_on e (ok.below e (omega arith)) q (entry_case a map row e s))
      (choice a.rows zero64 a.rows zero64)
      (record { free = λ _. refl; adjacent = λ _. refl; some = λ l _ _. omega arith })).some hi

-- ---- and the count ends below the rows

-- A row that has a number has one after a store of a number.
set_stays : (n : ℕ) (l : List ℕ) (i v r : ℕ) → i < length l → (v ≡ n → ⊥) → (idx l r ≡ n → ⊥) → idx (set l i v) r ≡ n → ⊥
set_stays n l i v r h y x z = ⊎_elim (λ w. y (sym w.1 ∙ z)) (λ w. x (sym w.1 ∙ z)) (idx_set l i v r h)

-- Each aggregate of a map has at most one row.
record Lone (n : ℕ) (map : List ℕ) : Type 0 where
  pub most : (c : ℕ) → c < n → size_of map c ≤ 1

-- Why the count will end below n: it is behind the turns already, or a row to come has a number and will be passed over,
-- or turn k₀ is to come, and till then no aggregate can be full.
data Short (n : ℕ) (forward : Bool) (k₀ k : ℕ) (p : Pairing) : Type 0 where
  behind : p.count < k → Short n forward k₀ k p
  ahead : (j : ℕ) → k ≤ j → j < n → (idx p.map (row_of forward n j) ≡ n → ⊥) → Short n forward k₀ k p
  coming : k ≤ k₀ → Lone n p.map → Short n forward k₀ k p

short_end : {n : ℕ} {forward : Bool} {k₀ : ℕ} {p : Pairing} → k₀ < n → Short n forward k₀ n p → p.count < n
short_end h (behind l) = l
short_end h (ahead j l b x) = absurd (omega arith)
short_end h (coming l lone) = absurd (omega arith)

module _ {m : ℕ} (a : Weighted) (forward : Bool) (ok : InRange a.rows m a.offsets a.columns) where
  abbrev n : ℕ
  n = a.rows

  module _ (k : ℕ) (h : k < n) (p : Pairing) (on : Along n forward k p) where
    abbrev row : ℕ
    row = row_of forward n k

    abbrev found : Choice
    found = strongest_of a p.map row

    place : row < length p.map
    place = rw on.good.size (row_in forward n k h)

    new : p.count ≡ n → ⊥
    new e = let few = on.few in omega arith

    -- A row that has a number keeps one.
    stays : (i : ℕ) → (idx p.map i ≡ n → ⊥) → {p' : Pairing} → Placed n row found p p' → idx p'.map i ≡ n → ⊥
    stays i x (assigned y) = x
    stays i x (paired f y) =
        let z = (found_sane a forward ok k h p on).free y in
        set_stays n (set p.map row p.count) found.free p.count i (rw (length-set, on.good.size) z.0) new
        (set_stays n p.map row p.count i place new x)
    stays i x (joined f y z) = set_stays n p.map row found.adjacent i place z x
    stays i x (alone f y z) = set_stays n p.map row p.count i place new x

    -- A row that has a number is passed over.
    passed : {k₀ : ℕ} → (idx p.map row ≡ n → ⊥) → {p' : Pairing} → Placed n row found p p' → Short n forward k₀ (suc k) p'
    passed x (assigned y) = let few = on.few in behind (omega arith)
    passed x (paired f y) = absurd (x f)
    passed x (joined f y z) = absurd (x f)
    passed x (alone f y z) = absurd (x f)

    -- The turn of a free row other than this one is to come.
    later : (i : ℕ) → i < n → idx p.map i ≡ n → (i ≡ row → ⊥) → suc k ≤ row_of forward n i
    later i b f x = ⊎_elim
        (λ (w : suc k ≤ row_of forward n i). w)
        (λ (w : row_of forward n i < suc k). absurd (⊎_elim
        (λ (y : k ≤ row_of forward n i). x (row_of_lem forward n i k b (omega arith)))
        (λ y. let c = on.good.seen i b y in let d = on.few in omega arith)
        (le_or_lt k (row_of forward n i))))
        (le_or_lt (suc k) (row_of forward n i))

    -- The aggregate of a row alone has that one.
    lone_on : Lone n p.map → idx p.map row ≡ n → Lone n (set p.map row p.count)
    lone_on lone f = record {
      most = λ c l. ⊎_elim
          (λ z. let few = on.few in let e = z.1 in let new = next_free on.good (omega arith) in let same = ap (size_of p.map) z.0 in omega arith)
          (λ z. let e = z.1 in let old = lone.most c l in omega arith)
          (size_set p.map row p.count c place f l);
    }

    -- A row that has a number is passed over, one that finds a neighbour joins an aggregate or takes a free row with it, and one
    -- that stays alone was not that of turn k₀.
    meets : {k₀ : ℕ} → Lone n p.map → k ≤ k₀ → (k₀ ≡ k → found.free ≡ n → found.adjacent ≡ n → ⊥)
        → {p' : Pairing} → Placed n row found p p' → Short n forward k₀ (suc k) p'
    meets lone before some (assigned y) = let few = on.few in behind (omega arith)
    meets lone before some (paired f y) =
        let z = (found_sane a forward ok k h p on).free y in
        let inside : found.free < length (set p.map row p.count) = rw (length-set, on.good.size) z.0 in
        ahead (row_of forward n found.free) (later found.free z.0 z.1 z.2) (row_in forward n found.free z.0)
        (rw (row_row forward n found.free z.0, get_or-set_same (set p.map row p.count) found.free p.count 0 inside) new)
    meets lone before some (joined f y z) = let few = on.few in behind (omega arith)
    meets {k₀} lone before some (alone f y z) = ⊎_elim
        (λ (w : k₀ ≤ k). absurd (some (omega arith) y z))
        (λ (w : k < k₀). coming w (lone_on lone f))
        (le_or_lt k₀ k)

    -- While each aggregate has one row, none is full.
    all_room : (a.cap ≡ 1 → ⊥) → Lone n p.map → (j : ℕ) → j < n → (idx p.map j ≡ n → ⊥) → is_full a.cap p.map (idx p.map j) ≡ false
    all_room x lone j h y =
        let most = on.good.most in
        lone_room a.cap p.map (idx p.map j) x
        (lone.most (idx p.map j) (⊎_elim (λ z. absurd (y z)) (λ z. omega arith) (on.good.range j h)))

    short_on : {k₀ : ℕ} → (Lone n p.map → k₀ ≡ k → found.free ≡ n → found.adjacent ≡ n → ⊥) → Short n forward k₀ k p
        → {p' : Pairing} → Placed n row found p p' → Short n forward k₀ (suc k) p'
    short_on some (behind l) t = let c = count_next t in behind (omega arith)
    short_on some (ahead j l b x) t = ⊎_elim
        (λ (w : j ≤ k). let e : j ≡ k = omega arith in passed (rw e at x) t)
        (λ (w : k < j). ahead j w b (stays (row_of forward n j) x t))
        (le_or_lt j k)
    short_on some (coming l lone) t = meets lone l (some lone) t

  -- With one off-diagonal weight above zero the count is below the rows.
  some_count : (a.cap ≡ 1 → ⊥) → (row e : ℕ) → row < n → idx a.offsets row ≤ e → e < idx a.offsets (row + 1) → (idx a.columns e ≡ row → ⊥)
      → lt zero64 (at a.weights e) ≡ true → (pairs_of a forward).count < n
  unfolding pairs_of turn_of
  some_count cap row e r lo hi off above =
      short_end (row_in forward n row r)
      (for_count (λ (k : ℕ) (p : Pairing). Along n forward k p × Short n forward (row_of forward n row) k p) (turn_of a forward) 0 n zero-le
      (λ k _ h p on.
      (along_on a forward ok k h p on.0, short_on k h p on.0 (finds k h p on.0) on.1 (placed a (row_of forward n k) p)))
      (pairing (filled n n) 0) (along_start a forward ok, coming zero-le (record { most = λ c l. let z = size_free n c l in omega arith }))).1
    where
      finds : (k : ℕ) → k < n → (p : Pairing) → Along n forward k p → Lone n p.map → row_of forward n row ≡ k
          → (strongest_of a p.map (row_of forward n k)).free ≡ n → (strongest_of a p.map (row_of forward n k)).adjacent ≡ n → ⊥
      finds k h p on lone t =
          rw (← row_of_lem forward n row k r t) (finds_some a p.map row e off above (all_room k h p on cap lone) ok r lo hi)

  -- The count equals the rows exactly if no off-diagonal weight exceeds zero.
  pub count_full : (a.cap ≡ 1 → ⊥) → ((pairs_of a forward).count ≡ a.rows) ↔ NoneAbove a
  count_full cap = ((λ e. record { none = λ row i r lo hi off. go e row i r lo hi off (lt zero64 (at a.weights i)) refl }), none_count a forward)
    where
      go : (pairs_of a forward).count ≡ n → (row i : ℕ) → row < n → idx a.offsets row ≤ i → i < idx a.offsets (row + 1)
          → (idx a.columns i ≡ row → ⊥) → (b : Bool) → lt zero64 (at a.weights i) ≡ b → lt zero64 (at a.weights i) ≡ false
      go e row i r lo hi off true t = absurd (let l = some_count cap row i r lo hi off t in omega arith)
      go e row i r lo hi off false t = t
