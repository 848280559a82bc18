-- No aggregate has more rows than the cap (`size-capped`), where it is 2 or more, for every pattern in range, all weights and both
-- directions; and with a cap of 0 the aggregates are those of the Rust, which has no cap (`pairs-uncapped`).
-- Assumes nothing.
use mathlib.Core.Path.{◌≡◌, ap, ◌∙◌}
use mathlib.Core.Bool.{Bool, cond}
use mathlib.Core.List.{List}
use mathlib.Core.Logic.{⊎_elim}
use Prim.Native.Nat.{ℕ, ◌+◌, ◌-◌, ◌≤◌, ◌<◌, zero-le}
use native.Mathlib.Omega.{arith}
use lib.Dec.{eqb}
use lib.ListN.{length, set, length-set}
use lib.Seq.{get_or-set_other}
use lib.Ieee.{lt}
use Rattle.float.specs.Float.{zero64}
use Rattle.store.specs.Region.{at, idx}
use Rattle.store.specs.Vector.{filled}
use Rattle.store.specs.Loop.{for}
use Rattle.store.proofs.store.Loop.{for_count}
use Rattle.aggregation.specs.declared.Choice.{Choice}
use Rattle.aggregation.specs.Pairs.{Weighted, size_of, choice, consider_of, strongest_of, Pairing, pairing, assign_of, pair_row_of, pairs_of}
use Rattle.aggregation.specs.Turns.{row_of, turn_of}
use Rattle.aggregation.specs.Contract.{InRange}
use Rattle.aggregation.proofs.Sizes.{size_free, size_set, room_has}
use Rattle.aggregation.proofs.Steps.{row_in, Placed, assigned, paired, joined, alone, placed}
use Rattle.aggregation.proofs.Numbers.{Along, next_free, found_sane, along_on, along_start}

-- ---- without a cap

-- the choice of a row as the Rust has it
abbrev pub strongest_plain : Weighted → List ℕ → ℕ → Choice
strongest_plain a map row =
    for (λ e s. let column = idx a.columns e in let weight = at a.weights e in let cluster = idx map column in
    cond (eqb column row) s (cond (eqb cluster a.rows)
    (cond (lt s.freeweight weight) (choice column weight s.adjacent s.adjacentweight) s)
    (cond (lt s.adjacentweight weight) (choice s.free s.freeweight cluster weight) s)))
    (idx a.offsets row) (idx a.offsets (row + 1)) (choice a.rows zero64 a.rows zero64)

-- one row
abbrev pub pair_row_plain : Weighted → ℕ → Pairing → Pairing
pair_row_plain a row p = cond (eqb (idx p.map row) a.rows) (assign_of a.rows row (strongest_plain a p.map row) p) p

-- all rows
abbrev pub pairs_plain : Weighted → Bool → Pairing
pairs_plain a forward =
    for (λ index. pair_row_plain a (cond forward index (a.rows - 1 - index))) 0 a.rows (pairing (filled a.rows a.rows) 0)

-- A cap of 0 is none.
pub pairs_uncapped : (a : Weighted) (forward : Bool) → a.cap ≡ 0 → pairs_of a forward ≡ pairs_plain a forward
unfolding pairs_of pair_row_of strongest_of consider_of
pairs_uncapped a forward none = rw none

-- ---- with a cap

module _ {m : ℕ} (a : Weighted) (forward : Bool) (ok : InRange a.rows m a.offsets a.columns) (two : 2 ≤ a.cap) where
  abbrev n : ℕ
  n = a.rows

  -- Each aggregate so far has at most as many rows as the cap.
  record Capped (p : Pairing) : Type 0 where
    pub most : (c : ℕ) → c < n → size_of p.map c ≤ a.cap

  -- A free row i joins v, which has room.
  capped_set : {p : Pairing} → Capped p → (i v count : ℕ) → i < length p.map → idx p.map i ≡ n → size_of p.map v < a.cap
      → Capped (pairing (set p.map i v) count)
  capped_set {p} q i v count h f room = record {
    most = λ c l. ⊎_elim
        (λ z. let e = z.1 in let same = ap (size_of p.map) z.0 in omega arith)
        (λ z. let e = z.1 in let y = q.most c l in omega arith)
        (size_set p.map i v c h f l);
  }

  module _ (k : ℕ) (h : k < n) (p : Pairing) (on : Along n forward k p) (q : Capped p) where
    abbrev row : ℕ
    row = row_of forward n k

    abbrev found : Choice
    found = strongest_of a p.map row

    place : row < length p.map
    place = rw on.good.size (row_in forward n k h)

    -- The next number has no row yet.
    next : size_of p.map p.count ≡ 0
    next = let few = on.few in next_free on.good (omega arith)

    capped_turn : {p' : Pairing} → Placed n row found p p' → Capped p'
    capped_turn (assigned x) = q
    capped_turn (paired f x) =
        let few = on.few in
        let new = next in
        let z = (found_sane a forward ok k h p on).free x in
        let one = capped_set q row p.count (p.count + 1) place f (omega arith) in
        let inside : found.free < length (set p.map row p.count) = rw (length-set, on.good.size) z.0 in
        let pair : size_of (set p.map row p.count) p.count ≤ 1 =
        ⊎_elim (λ y. let e = y.1 in omega arith) (λ y. let e = y.1 in omega arith) (size_set p.map row p.count p.count place f (omega arith)) in
        capped_set one found.free p.count (p.count + 1) inside
        (get_or-set_other p.map row found.free p.count 0 z.2 ∙ z.1) (omega arith)
    capped_turn (joined f x y) =
        capped_set q row found.adjacent p.count place f
        (room_has a.cap p.map found.adjacent (λ z. omega arith) ((found_sane a forward ok k h p on).room y))
    capped_turn (alone f x y) = let new = next in capped_set q row p.count (p.count + 1) place f (omega arith)

  -- No aggregate has more rows than the cap.
  pub size_capped : (c : ℕ) → c < a.rows → size_of (pairs_of a forward).map c ≤ a.cap
  unfolding pairs_of turn_of
  size_capped =
      (for_count (λ (k : ℕ) (p : Pairing). Along n forward k p × Capped p) (turn_of a forward) 0 n zero-le
      (λ k _ h p on. (along_on a forward ok k h p on.0, capped_turn k h p on.0 on.1 (placed a (row_of forward n k) p)))
      (pairing (filled n n) 0)
      (along_start a forward ok, record { most = λ c l. let z = size_free n c l in omega arith })).1.most
