-- The question of a load, and what is written of one. Assumes nothing.
use Rattle.std.specs.Prelude.{Result, Ok, Err}
use Rattle.std.proofs.Common.{◌≡◌, ℕ, zero, suc, ◌+◌, ◌*◌, ◌/◌, ◌<◌, ◌≤◌, Bool, true, false, not, ◌&&◌, eqb, ltb, leb, List, [], ◌∷◌, ◌++◌, map, length, set, sym, refl, ap, ◌∙◌, ap₂, subst, ⊎_elim, mul_assoc, mul_comm, div-lt_iff_lt-mul, mul-pos, mul-zero, zero-mul, mul-one, mul-suc, add-one, arith, length-set, ltb-true, lt-ltb, eq-eqb, ne_eqb, le-leb, leb-true}
use lib.Ieee.{Float, binary64, of_int}
use borrow.Author.Tests.{lt-leb}
use Rattle.store.specs.Region.{splice}
use Rattle.store.specs.Vector.{tab}
use Rattle.store.proofs.store.Region.{le_or_lt, set_splice_end}
use Rattle.store.proofs.store.Vector.{length_tab}
use Rattle.store.proofs.store.Each.{both_l, both_r}
use Rattle.load.specs.declared.cells.Extents.{Extents}
use Rattle.load.specs.declared.laying.Reached.{Reached}
use Rattle.refusal.specs.declared.Refusal.{Refusal}
use Rattle.refusal.specs.Refusal.{bad_load}
use Rattle.load.specs.Box.{Grid, cells_of, all_positive, extents_ok}
use Rattle.load.specs.Load.{joined, columns_in, wholes_in, row_start, wholes_of, values_of, Room, room_ok, load_of}
use Rattle.load.specs.Call.{room_of, Loading}
use Rattle.load.specs.Steps.{list_of, grid_of, Few, CellsOk, CellsDone, capped, Writable, is_load, AskedOf, Written}
use Rattle.load.proofs.Lists.{length_joined}
use Rattle.load.proofs.Rows.{start_small}

-- ---- products

-- A product that is small enough is itself,
pub capped_small : (n : ℕ) → n ≤ 65536 → capped n ≡ n
capped_small n h = rw (le-leb n 65536 h) refl

-- and one that is not is 0.
pub capped_large : (n : ℕ) → 65536 < n → capped n ≡ 0
capped_large n h = rw (lt-leb n 65536 h) refl

-- The test of a product by a quotient.
pub product_large : (a b : ℕ) → (a ≡ 0 → ⊥) → 65536 / a < b → 0 ≡ capped (a * b)
product_large a b some h =
    let l : 65536 < b * a = (div-lt_iff_lt-mul {k = a} {x = 65536} {y = b} (omega arith)).0 h in
    sym (capped_large (a * b) (omega (arith, mul_comm a b)))

pub product_small : (a b : ℕ) → (a ≡ 0 → ⊥) → b ≤ 65536 / a → a * b ≤ 65536
product_small a b some h = ⊎_elim
    (λ (l : a * b ≤ 65536). l)
    (λ (l : 65536 < a * b). let k : 65536 / a < b = (div-lt_iff_lt-mul {k = a} {x = 65536} {y = b} (omega arith)).1 (omega (arith, mul_comm a b)) in absurd (omega arith))
    (le_or_lt (a * b) 65536)

-- Of three factors.
pub capped_three : (w h d l : ℕ) → l ≡ capped (w * h) → capped (l * d) ≡ capped (w * h * d)
capped_three w h zero l e = rw (mul-zero l, mul-zero (w * h)) refl
capped_three w h (suc d) l e = ⊎_elim
    (λ (s : w * h ≤ 65536). rw (e ∙ capped_small (w * h) s) refl)
    (λ (s : 65536 < w * h).
    let big : 65536 < w * h * suc d = omega (arith, mul-suc (w * h) d) in
    rw (e ∙ capped_large (w * h) s, zero-mul (suc d)) (sym (capped_large (w * h * suc d) big)))
    (le_or_lt (w * h) 65536)

-- ---- the extents

-- A product above zero has factors above zero.
factor_l : (a b : ℕ) → 0 < a * b → 0 < a
factor_l zero b h = omega (arith, zero-mul b)
factor_l (suc a) b h = omega arith

factor_r : (a b : ℕ) → 0 < a * b → 0 < b
factor_r a zero h = omega (arith, mul-zero a)
factor_r a (suc b) h = omega arith

le_times : (a b : ℕ) → 0 < b → a ≤ a * b
le_times a zero h = absurd (omega arith)
le_times a (suc b) h = omega (arith, mul-suc a b)

module _ (e : Extents) where
  abbrev cells : ℕ
  cells = e.width * e.height * e.depth

  -- The product in the definition's order.
  pub cells_are : cells_of (list_of e) ≡ cells
  unfolding cells_of
  cells_are = rw (mul-one e.depth) (sym (mul_assoc e.width e.height e.depth))

  -- A number of cells that is not 0 is small, and no extent is zero.
  pub few_of : (n : ℕ) → n ≡ capped cells → (n ≡ 0 → ⊥) → Few e × (n ≡ cells)
  few_of n c some = ⊎_elim
      (λ (s : cells ≤ 65536).
      let same : n ≡ cells = c ∙ capped_small cells s in
      let p : 0 < cells = ⊎_elim (λ (z : cells ≤ 0). absurd (some (omega arith))) (λ (z : 0 < cells). z) (le_or_lt cells 0) in
      let layer = factor_l (e.width * e.height) e.depth p in
      let d = factor_r (e.width * e.height) e.depth p in
      let w = factor_l e.width e.height layer in
      let h = factor_r e.width e.height layer in
      let a = le_times (e.width * e.height) e.depth d in
      let b = le_times e.width e.height h in
      (record { wide = w; high = h; deep = d; narrow = omega arith; layer = omega arith; cells = s }, same))
      (λ (s : 65536 < cells). absurd (some (c ∙ capped_large cells s)))
      (le_or_lt cells 65536)

  -- Then the extents are right,
  pub extents_right : Few e → extents_ok (list_of e) ≡ true
  unfolding extents_ok all_positive
  extents_right few =
      let s : cells_of (list_of e) ≤ 65536 = omega (arith, cells_are, few.cells) in
      rw (lt-ltb 0 e.width few.wide, lt-ltb 0 e.height few.high, lt-ltb 0 e.depth few.deep, le-leb (cells_of (list_of e)) 65536 s) refl

  -- and else they are not.
  pub extents_wrong : capped cells ≡ 0 → extents_ok (list_of e) ≡ false
  unfolding extents_ok all_positive
  extents_wrong c = ⊎_elim
      (λ (s : cells ≤ 65536).
      let z : cells ≡ 0 = sym (capped_small cells s) ∙ c in
      go (ltb 0 e.width) refl (ltb 0 e.height) refl (ltb 0 e.depth) refl z)
      (λ (s : 65536 < cells). rw (lt-leb (cells_of (list_of e)) 65536 (omega (arith, cells_are))) (and_false (all_positive (list_of e))))
      (le_or_lt cells 65536)
    where
      and_false : (b : Bool) → (b && false) ≡ false
      and_false true = refl
      and_false false = refl

      go : (a : Bool) → ltb 0 e.width ≡ a → (b : Bool) → ltb 0 e.height ≡ b → (c : Bool) → ltb 0 e.depth ≡ c → cells ≡ 0
          → ((a && (b && (c && true))) && leb (cells_of (list_of e)) 65536) ≡ false
      go true ea true eb true ec z =
          let w = ltb-true 0 e.width ea in
          let h = ltb-true 0 e.height eb in
          let d = ltb-true 0 e.depth ec in
          let p : 0 < cells = mul-pos (mul-pos w h) d in
          absurd (omega arith)
      go true ea true eb false ec z = refl
      go true ea false eb c ec z = refl
      go false ea b eb c ec z = refl

-- ---- the question

module _ (seed : ℕ) (e : Extents) (room : Room) where
  -- A zero seed has no load,
  pub asked_seed : seed ≡ 0 → AskedOf seed e room (Err bad_load)
  asked_seed z = (rw (eq-eqb seed 0 z) refl, refl)

  -- nor have extents that are wrong.
  pub asked_cells : (n : ℕ) → n ≡ capped (e.width * e.height * e.depth) → n ≡ 0 → AskedOf seed e room (Err bad_load)
  asked_cells n c z = (rw (extents_wrong e (sym c ∙ z)) (go (not (eqb seed 0))), refl)
    where
      go : (b : Bool) → ((b && false) && room_ok (grid_of e) room) ≡ false
      go true = refl
      go false = refl

  -- Else it is a matter of room.
  module _ (n entries : ℕ) (some : seed ≡ 0 → ⊥) (c : n ≡ capped (e.width * e.height * e.depth)) (cs : n ≡ 0 → ⊥)
      (counted : entries ≡ row_start (grid_of e) n) where
    abbrev fits : Bool
    fits = (leb (n + 1) room.offsets && leb entries room.columns) && leb entries room.values

    same : n ≡ cells_of (list_of e)
    same = (few_of e n c cs).1 ∙ sym (cells_are e)

    fits_is : fits ≡ is_load seed e room
    unfolding room_ok
    fits_is = rw (ne_eqb seed 0 some, extents_right e (few_of e n c cs).0, counted, same) refl

    pub asked_room : fits ≡ true → AskedOf seed e room (Ok n)
    asked_room t =
        let few = few_of e n c cs in
        let x = leb (n + 1) room.offsets in
        let y = leb entries room.columns in
        let z = leb entries room.values in
        let xy = both_l (x && y) z t in (
          sym fits_is ∙ t,
          record {
            few = few.0;
            all = few.1;
            same = same;
            counted = refl;
            offsets = leb-true (n + 1) room.offsets (both_l x y xy);
            columns = rw counted at (leb-true entries room.columns (both_r x y xy));
            values = rw counted at (leb-true entries room.values (both_r (x && y) z t));
          },
        )

    pub asked_short : fits ≡ false → AskedOf seed e room (Err bad_load)
    asked_short t = (sym fits_is ∙ t, refl)

-- ---- what is written

-- Rows start where the columns before them end.
unfold_start : (m : Grid) (n : ℕ) → row_start m n ≡ length (joined (columns_in m) n)
unfolding row_start
unfold_start m n = sym (length_joined (columns_in m) n)

-- What the rows require.
pub cells_ok : {e : Extents} {cells : ℕ} {room : Room} → Writable e cells (row_start (grid_of e) cells) room
    → CellsOk e cells room.offsets room.columns room.values
cells_ok w = record { few = w.few; all = w.all; offsets = w.offsets; room = w.columns; places = w.values }

-- What is written passed the question.
pub asked_good : (seed : ℕ) (e : Extents) (room : Room) {a : Result ℕ Refusal} {cells : ℕ} → AskedOf seed e room a → a ≡ Ok cells
    → (is_load seed e room ≡ true) × Writable e cells (row_start (grid_of e) cells) room
asked_good seed e room asked ok = subst (AskedOf seed e room) ok asked

-- The rows' end fits a word.
pub end_small : {seed : ℕ} {e : Extents} {cells : ℕ} {O O' C C' : List ℕ} {F F' : List Float} {r : Reached} → CellsDone seed e cells O O' C C' F F' r
    → cells ≤ 65536 → r.end ≤ 458752
end_small {e = e} {cells = cells} d h = omega (arith, d.end, start_small e cells)

-- The rows, and last their end.
pub written : {seed : ℕ} {e : Extents} {cells : ℕ} {O O' C C' : List ℕ} {F F' : List Float} {r : Reached} → CellsDone seed e cells O O' C C' F F' r
    → Written seed e cells O (set O' cells r.end) C C' F F' r.end
unfolding tab
written {seed} {e} {cells} {O} {O'} {C} {C'} {F} {F'} {r} d =
    let m = grid_of e in
    let n : 0 + length (tab (row_start m) cells) ≡ cells = omega (arith, length_tab (row_start m) cells) in
    record {
      offsets =
          ap (λ (l : List ℕ). set l cells r.end) d.offsets
          ∙ ap (λ (j : ℕ). set (splice 0 (tab (row_start m) cells) O) j r.end) (sym n) ∙ set_splice_end 0 (tab (row_start m) cells) O r.end
          ∙ ap (λ (v : ℕ). splice 0 (tab (row_start m) cells ++ (v ∷ [])) O) d.end
          ∙ ap (λ (j : ℕ). splice 0 (tab (row_start m) j) O) (sym (add-one cells));
      columns = d.rows.columns;
      values = d.rows.values;
      end = d.end;
      size_o = length-set O' cells r.end ∙ d.size;
      size_c = d.rows.size_c;
      size_f = d.rows.size_f;
    }

-- ---- the call

-- A load that is made.
pub loading_made : (seed : ℕ) (e : Extents) {a : Result ℕ Refusal} {cells : ℕ} {O O' C C' : List ℕ} {F F' : List Float} {r : ℕ} → AskedOf seed e (room_of O C F) a → a ≡ Ok cells
    → Written seed e cells O O' C C' F F' r → Loading (load_of seed (list_of e) (room_of O C F)) O O' C C' F F' (Ok (record { rows = cells; entries = r }))
unfolding wholes_of values_of
loading_made seed e {a} {cells} {O} {C = C} {F = F} {r = r} asked ok w =
    let m = grid_of e in
    let good = asked_good seed e (room_of O C F) asked ok in
    let yes : (not (eqb seed 0) && extents_ok (list_of e) && room_ok m (room_of O C F)) ≡ true = good.0 in
    let same : cells ≡ cells_of (list_of e) = good.1.same in
    let long : r ≡ length (joined (columns_in m) (cells_of (list_of e))) =
    w.end ∙ ap (row_start m) same ∙ unfold_start m (cells_of (list_of e)) in
    rw yes (record {
      answer = ap₂ (λ (x y : ℕ). Ok (record { rows = x; entries = y })) same long;
      offsets = w.offsets ∙ ap (λ (n : ℕ). splice 0 (tab (row_start m) (n + 1)) O) same;
      columns = w.columns ∙ ap (λ (n : ℕ). splice 0 (joined (columns_in m) n) C) same;
      values = w.values ∙ ap (λ (n : ℕ). splice 0 (map (of_int binary64) (joined (wholes_in seed m) n)) F) same;
    })

-- One that is refused.
pub loading_refused : (seed : ℕ) (e : Extents) {a : Result ℕ Refusal} {q : Refusal} {O C : List ℕ} {F : List Float} → AskedOf seed e (room_of O C F) a → a ≡ Err q
    → Loading (load_of seed (list_of e) (room_of O C F)) O O C C F F (Err q)
loading_refused seed e {a} {q} {O} {C} {F} asked err =
    let told : (is_load seed e (room_of O C F) ≡ false) × (q ≡ bad_load) = subst (AskedOf seed e (room_of O C F)) err asked in
    let nope : (not (eqb seed 0) && extents_ok (list_of e) && room_ok (grid_of e) (room_of O C F)) ≡ false = told.0 in
    rw (told.1, nope) (record { answer = refl; offsets = refl; columns = refl; values = refl })
