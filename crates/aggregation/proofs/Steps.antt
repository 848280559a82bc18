-- What one entry does to a row's choice, and one turn to the map, by cases: each definition is one of its cases, and each
-- case is the definition.
-- Assumes nothing.
use mathlib.Core.Path.{◌≡◌, refl}
use mathlib.Core.Bool.{Bool, true, false, cond}
use mathlib.Core.List.{List}
use Prim.Native.Nat.{ℕ, ◌+◌, ◌≤◌, ◌<◌}
use native.Mathlib.Omega.{arith}
use lib.Dec.{eqb}
use borrow.Author.Tests.{eq-eqb, ne_eqb, eqb-true, eqb-false}
use lib.ListN.{set}
use lib.Ieee.{Float, lt}
use Rattle.float.specs.Float.{zero64}
use Rattle.store.specs.Region.{at, idx}
use Rattle.store.proofs.store.Loop.{for_keeps}
use Rattle.aggregation.specs.declared.Choice.{Choice}
use Rattle.aggregation.specs.Pairs.{Weighted, is_full, choice, consider_of, strongest_of, Pairing, pairing, assign_of, pair_row_of}
use Rattle.aggregation.specs.Turns.{entry_of, row_of}
use Rattle.aggregation.specs.Contract.{InRange}

-- The row of a turn is a row.
pub row_in : (forward : Bool) (n index : ℕ) → index < n → row_of forward n index < n
row_in true n index h = h
row_in false n index h = omega arith

-- ---- an entry

-- The diagonal; a free neighbour, stronger or not; an assigned one, full, or stronger or not.
pub data Considered (n row column : ℕ) (weight : Float) (cluster : ℕ) (full : Bool) (s : Choice) : Choice → Type 0 where
  own : column ≡ row → Considered n row column weight cluster full s s
  free : (column ≡ row → ⊥) → cluster ≡ n → lt s.freeweight weight ≡ true
      → Considered n row column weight cluster full s (choice column weight s.adjacent s.adjacentweight)
  free_no : (column ≡ row → ⊥) → cluster ≡ n → lt s.freeweight weight ≡ false
      → Considered n row column weight cluster full s s
  skipped : (column ≡ row → ⊥) → (cluster ≡ n → ⊥) → full ≡ true → Considered n row column weight cluster full s s
  adjacent : (column ≡ row → ⊥) → (cluster ≡ n → ⊥) → full ≡ false → lt s.adjacentweight weight ≡ true
      → Considered n row column weight cluster full s (choice s.free s.freeweight cluster weight)
  adjacent_no : (column ≡ row → ⊥) → (cluster ≡ n → ⊥) → full ≡ false → lt s.adjacentweight weight ≡ false
      → Considered n row column weight cluster full s s

module _ (n row column : ℕ) (weight : Float) (cluster : ℕ) (full : Bool) (s : Choice) where
  -- The definition is a case.
  pub considered : Considered n row column weight cluster full s (consider_of n row column weight cluster full s)
  unfolding consider_of
  considered =
      go (eqb column row) (eqb cluster n) full (lt s.freeweight weight) (lt s.adjacentweight weight) refl refl refl refl refl
    where
      go : (a b f c d : Bool)
          → eqb column row ≡ a → eqb cluster n ≡ b → full ≡ f → lt s.freeweight weight ≡ c → lt s.adjacentweight weight ≡ d
          → Considered n row column weight cluster full s
          (cond a s
          (cond b
          (cond c (choice column weight s.adjacent s.adjacentweight) s)
          (cond f s (cond d (choice s.free s.freeweight cluster weight) s))))
      go true b f c d p q x r t = own (eqb-true column row p)
      go false true f true d p q x r t = free (eqb-false column row p) (eqb-true cluster n q) r
      go false true f false d p q x r t = free_no (eqb-false column row p) (eqb-true cluster n q) r
      go false false true c d p q x r t = skipped (eqb-false column row p) (eqb-false cluster n q) x
      go false false false c true p q x r t = adjacent (eqb-false column row p) (eqb-false cluster n q) x t
      go false false false c false p q x r t = adjacent_no (eqb-false column row p) (eqb-false cluster n q) x t

-- A case is the definition.
pub considered_is : {n row column : ℕ} {weight : Float} {cluster : ℕ} {full : Bool} {s s' : Choice}
    → Considered n row column weight cluster full s s' → s' ≡ consider_of n row column weight cluster full s
unfolding consider_of
considered_is {n} {row} {column} {weight} {cluster} (own p) = rw (eq-eqb column row p)
considered_is {n} {row} {column} {weight} {cluster} (free p q r) = rw (ne_eqb column row p, eq-eqb cluster n q, r)
considered_is {n} {row} {column} {weight} {cluster} (free_no p q r) = rw (ne_eqb column row p, eq-eqb cluster n q, r)
considered_is {n} {row} {column} {weight} {cluster} (skipped p q x) = rw (ne_eqb column row p, ne_eqb cluster n q, x)
considered_is {n} {row} {column} {weight} {cluster} (adjacent p q x r) = rw (ne_eqb column row p, ne_eqb cluster n q, x, r)
considered_is {n} {row} {column} {weight} {cluster} (adjacent_no p q x r) = rw (ne_eqb column row p, ne_eqb cluster n q, x, r)

-- Whether an aggregate is full does not matter to the diagonal, nor to a free neighbour.
pub free_either : {n cluster : ℕ} (row column : ℕ) (weight : Float) (f g : Bool) (s : Choice) → cluster ≡ n
    → consider_of n row column weight cluster f s ≡ consider_of n row column weight cluster g s
unfolding consider_of
free_either {n} {cluster} row column weight f g s e = rw (eq-eqb cluster n e)

-- an entry of a row, by the map so far, with its cases
abbrev pub EntryCase : Weighted → List ℕ → ℕ → ℕ → Choice → Choice → Type 0
EntryCase a map row e s s' =
    let cluster = idx map (idx a.columns e) in
    Considered a.rows row (idx a.columns e) (at a.weights e) cluster (is_full a.cap map cluster) s s'

-- The definition is a case of it.
pub entry_case : (a : Weighted) (map : List ℕ) (row e : ℕ) (s : Choice) → EntryCase a map row e s (entry_of a map row e s)
unfolding entry_of
entry_case a map row e s =
    let cluster = idx map (idx a.columns e) in
    considered a.rows row (idx a.columns e) (at a.weights e) cluster (is_full a.cap map cluster) s

-- ---- a turn

-- Assigned already, paired with a free neighbour, joined to an aggregate, or alone.
pub data Placed (n row : ℕ) (s : Choice) (p : Pairing) : Pairing → Type 0 where
  assigned : (idx p.map row ≡ n → ⊥) → Placed n row s p p
  paired : idx p.map row ≡ n → (s.free ≡ n → ⊥)
      → Placed n row s p (pairing (set (set p.map row p.count) s.free p.count) (p.count + 1))
  joined : idx p.map row ≡ n → s.free ≡ n → (s.adjacent ≡ n → ⊥)
      → Placed n row s p (pairing (set p.map row s.adjacent) p.count)
  alone : idx p.map row ≡ n → s.free ≡ n → s.adjacent ≡ n
      → Placed n row s p (pairing (set p.map row p.count) (p.count + 1))

-- The definition is a case.
pub placed : (a : Weighted) (row : ℕ) (p : Pairing) → Placed a.rows row (strongest_of a p.map row) p (pair_row_of a row p)
unfolding pair_row_of assign_of
placed a row p = go (strongest_of a p.map row)
  where
    go : (s : Choice) → Placed a.rows row s p (cond (eqb (idx p.map row) a.rows) (assign_of a.rows row s p) p)
    go s = cases (eqb (idx p.map row) a.rows) (eqb s.free a.rows) (eqb s.adjacent a.rows) refl refl refl
      where
        cases : (x y z : Bool) → eqb (idx p.map row) a.rows ≡ x → eqb s.free a.rows ≡ y → eqb s.adjacent a.rows ≡ z
            → Placed a.rows row s p
            (cond x
            (cond y
            (cond z (pairing (set p.map row p.count) (p.count + 1)) (pairing (set p.map row s.adjacent) p.count))
            (pairing (set (set p.map row p.count) s.free p.count) (p.count + 1)))
            p)
        cases false y z e f g = assigned (eqb-false (idx p.map row) a.rows e)
        cases true false z e f g = paired (eqb-true (idx p.map row) a.rows e) (eqb-false s.free a.rows f)
        cases true true false e f g =
            joined (eqb-true (idx p.map row) a.rows e) (eqb-true s.free a.rows f) (eqb-false s.adjacent a.rows g)
        cases true true true e f g =
            alone (eqb-true (idx p.map row) a.rows e) (eqb-true s.free a.rows f) (eqb-true s.adjacent a.rows g)

-- A case is the definition.
pub placed_is : (a : Weighted) {row : ℕ} {s : Choice} {p p' : Pairing} → s ≡ strongest_of a p.map row
    → Placed a.rows row s p p' → p' ≡ pair_row_of a row p
unfolding pair_row_of assign_of
placed_is a {row} {s} {p} e (assigned x) = rw (ne_eqb (idx p.map row) a.rows x)
placed_is a {row} {s} {p} e (paired x y) =
    rw (eq-eqb (idx p.map row) a.rows x, ← e, ne_eqb s.free a.rows y)
placed_is a {row} {s} {p} e (joined x y z) =
    rw (eq-eqb (idx p.map row) a.rows x, ← e, eq-eqb s.free a.rows y, ne_eqb s.adjacent a.rows z)
placed_is a {row} {s} {p} e (alone x y z) =
    rw (eq-eqb (idx p.map row) a.rows x, ← e, eq-eqb s.free a.rows y, eq-eqb s.adjacent a.rows z)

-- A turn adds at most one aggregate.
pub count_next : {n row : ℕ} {s : Choice} {p p' : Pairing} → Placed n row s p p' → p'.count ≤ p.count + 1
count_next (assigned x) = omega arith
count_next (paired x y) = omega arith
count_next (joined x y z) = omega arith
count_next (alone x y z) = omega arith

-- ---- what a row chose

-- Its free neighbour is another row, and free; its aggregate is some row's, and not full.
pub record Sane (n cap : ℕ) (map : List ℕ) (row : ℕ) (s : Choice) : Type 0 where
  pub free : (s.free ≡ n → ⊥) → (s.free < n) × (idx map s.free ≡ n) × (s.free ≡ row → ⊥)
  pub adjacent : (s.adjacent ≡ n → ⊥) → (i : ℕ) × (i < n) × (idx map i ≡ s.adjacent)
  pub room : (s.adjacent ≡ n → ⊥) → is_full cap map s.adjacent ≡ false

sane_on : {n cap row column : ℕ} {weight : Float} {map : List ℕ} {s s' : Choice} → column < n → Sane n cap map row s
    → Considered n row column weight (idx map column) (is_full cap map (idx map column)) s s' → Sane n cap map row s'
sane_on h q (own p) = q
sane_on h q (free p c r) = record { free = λ _. (h, c, p); adjacent = q.adjacent; room = q.room }
sane_on h q (free_no p c r) = q
sane_on h q (skipped p c x) = q
sane_on {column = j} h q (adjacent p c x r) = record { free = q.free; adjacent = λ _. (j, h, refl); room = λ _. x }
sane_on h q (adjacent_no p c x r) = q

pub strongest_sane : {m : ℕ} (a : Weighted) → InRange a.rows m a.offsets a.columns → (map : List ℕ) (row : ℕ) → row < a.rows
    → Sane a.rows a.cap map row (strongest_of a map row)
unfolding strongest_of entry_of
strongest_sane {m} a ok map row r =
    let end : idx a.offsets (row + 1) ≤ m = ok.ends (row + 1) (omega arith) in
    for_keeps (Sane a.rows a.cap map row) (entry_of a map row) (idx a.offsets row) (idx a.offsets (row + 1))
    (λ e _ h s q. sane_on (ok.below e (omega arith)) q
    (entry_case a map row e s))
    (choice a.rows zero64 a.rows zero64) (record { free = λ z. absurd (z refl); adjacent = λ z. absurd (z refl); room = λ z. absurd (z refl) })
