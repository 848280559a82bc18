-- The rows of a box with three axes, by their faces; the draws and the mirrors of a row. Assumes nothing.
use Rattle.std.proofs.Common.{◌≡◌, ℕ, zero, suc, ◌+◌, ◌-◌, ◌*◌, ◌<◌, ◌≤◌, min, max, Bool, true, false, cond, [], ◌∷◌, ◌++◌, length, sym, refl, ap, ◌∙◌, append_assoc, append-nil, add-zero, add_assoc, one-mul, mul-suc, add-one, arith, length-append, ltb-true}
use native.Mathlib.Nat.{min_comm, max_comm}
use Rattle.pattern.specs.Pattern.{sum_to}
use Rattle.pattern.proofs.pattern.Number.{sum_step, sum_mono}
use Rattle.load.specs.declared.cells.Extents.{Extents}
use Rattle.load.specs.declared.cells.Faces.{Faces}
use Rattle.load.specs.declared.drawing.Draws.{Draws}
use Rattle.load.specs.Box.{Grid, axes_from, along, has_ahead, has_behind, ahead_of, behind_of}
use Rattle.load.specs.Draw.{state_of, draw_of}
use Rattle.load.specs.Load.{place_in, draws_before, face_of, conductance_of, columns_in, row_start}
use Rattle.load.specs.Steps.{optional, one, count_of, grid_of, axis₀, axis₁, axis₂, FacesAre, after, taken, DrewAll, columns_behind, columns_ahead}
use Rattle.load.proofs.Lists.{place_hit, place_skip}
use Rattle.load.proofs.laying.Pushes.{length_three, one_small}

-- ---- the columns of a row

module _ {e : Extents} {i : ℕ} {f : Faces} (a : FacesAre e i f) where
  -- The cells ahead, by the faces.
  pub ahead_is : (grid_of e).ahead i ≡ columns_ahead e i f
  unfolding ahead_of axes_from
  ahead_is = rw (← a.right, ← a.down, ← a.deeper, one-mul e.width, append-nil (optional f.deeper (i + e.width * e.height))) refl

  -- The cells behind.
  pub behind_is : (grid_of e).behind i ≡ columns_behind e i f
  unfolding behind_of axes_from
  behind_is = rw (
    ← a.left,
    ← a.up,
    ← a.shallower,
    one-mul e.width,
    append_assoc (optional f.shallower (i - e.width * e.height)) (optional f.up (i - e.width)) (optional f.left (i - 1)),
  ) refl

  -- So the columns.
  pub columns_are : columns_in (grid_of e) i ≡ columns_behind e i f ++ (i ∷ columns_ahead e i f)
  unfolding columns_in
  columns_are = rw (behind_is, ahead_is) refl

  -- As many as the faces say.
  pub columns_count : length (columns_in (grid_of e) i) ≡ count_of f
  columns_count =
      let u = length-append (columns_behind e i f) (i ∷ columns_ahead e i f) in
      let v = length_three f.shallower f.up f.left (i - e.width * e.height) (i - e.width) (i - 1) in
      let w = length_three f.right f.down f.deeper (i + 1) (i + e.width) (i + e.width * e.height) in
      rw columns_are (omega arith)

-- which faces cell i has
abbrev pub faces_at : Extents → ℕ → Faces
faces_at e i = record {
  left = has_behind (axis₀ e) i;
  up = has_behind (axis₁ e) i;
  shallower = has_behind (axis₂ e) i;
  right = has_ahead (axis₀ e) i;
  down = has_ahead (axis₁ e) i;
  deeper = has_ahead (axis₂ e) i;
}

pub faces_at_lem : (e : Extents) (i : ℕ) → FacesAre e i (faces_at e i)
faces_at_lem e i = record { left = refl; up = refl; shallower = refl; right = refl; down = refl; deeper = refl }

-- A row has at most seven entries,
pub count_small : (f : Faces) → count_of f ≤ 7
count_small f = omega (arith, one_small f.left, one_small f.up, one_small f.shallower, one_small f.right, one_small f.down, one_small f.deeper)

-- so row i starts at 7 i at most.
pub start_small : (e : Extents) (i : ℕ) → row_start (grid_of e) i ≤ 7 * i
unfolding row_start sum_to
start_small e zero = omega arith
start_small e (suc i) = omega (arith, start_small e i, columns_count (faces_at_lem e i), count_small (faces_at e i))

-- The next row starts after this one.
pub start_next : (m : Grid) (i : ℕ) → row_start m (i + 1) ≡ row_start m i + length (columns_in m i)
unfolding row_start
start_next m i = rw (add-one i) (sum_step (λ c. length (columns_in m c)) i)

-- Rows start no earlier than those before.
pub start_mono : (m : Grid) (i j : ℕ) → i ≤ j → row_start m i ≤ row_start m j
unfolding row_start
start_mono m i j h = sum_mono (λ c. length (columns_in m c)) i j h

-- ---- conductances

-- A face has one conductance, whichever cell is named first.
pub conductance_both : (seed : ℕ) (m : Grid) (i j : ℕ) → conductance_of seed m i j ≡ conductance_of seed m j i
unfolding conductance_of
conductance_both seed m i j = rw (min_comm i j, max_comm i j) refl

module _ (seed : ℕ) {e : Extents} {i : ℕ} {f : Faces} (a : FacesAre e i f) where
  abbrev m : Grid
  m = grid_of e

  -- The number of draws before the next cell.
  pub draws_next : draws_before m (i + 1) ≡ draws_before m i + (one f.right + one f.down + one f.deeper)
  unfolding draws_before
  draws_next =
      let w = length_three f.right f.down f.deeper (i + 1) (i + e.width) (i + e.width * e.height) in
      let n : length (m.ahead i) ≡ length (columns_ahead e i f) = ap length (ahead_is a) in
      rw (add-one i) (omega (arith, sum_step (λ c. length (m.ahead c)) i))

  -- A draw for the face to the cell j ahead, after t others of this cell, gives its conductance.
  taken_is : (there : Bool) (s j t : ℕ) → s ≡ state_of seed (draws_before m i + t) → i < j → (there ≡ true → place_in j (columns_ahead e i f) ≡ t)
      → taken there seed s ≡ cond there (conductance_of seed m i j) 0
  unfolding conductance_of face_of draw_of state_of
  taken_is false s j t es h p = refl
  taken_is true s j t es h p =
      let lo : min i j ≡ i = omega arith in
      let hi : max i j ≡ j = omega arith in
      let q : place_in j (m.ahead i) ≡ t = ap (place_in j) (ahead_is a) ∙ p refl in
      rw (lo, hi, q, es) refl

  -- The state after it.
  after_is : (there : Bool) (s k : ℕ) → s ≡ state_of seed k → after there s ≡ state_of seed (k + one there)
  unfolding state_of
  after_is true s k es = rw (add-one k, es) refl
  after_is false s k es = rw (add-zero k) es

  module _ {s : ℕ} (state : s ≡ state_of seed (draws_before m i)) {d : Draws} (drew : DrewAll f seed s d) where
    -- Two cells stand along an axis with a face ahead.
    wide : f.right ≡ true → 1 < e.width
    unfolding has_ahead
    wide t = omega (arith, ltb-true (along (axis₀ e) i + 1) e.width (sym a.right ∙ t))

    high : f.down ≡ true → 1 < e.height
    unfolding has_ahead
    high t = omega (arith, ltb-true (along (axis₁ e) i + 1) e.height (sym a.down ∙ t))

    second : after f.right s ≡ state_of seed (draws_before m i + one f.right)
    second = after_is f.right s (draws_before m i) state

    third : after f.down (after f.right s) ≡ state_of seed (draws_before m i + (one f.right + one f.down))
    third = after_is f.down (after f.right s) (draws_before m i + one f.right) second
        ∙ ap (state_of seed) (add_assoc (draws_before m i) (one f.right) (one f.down))

    -- The conductances drawn are those of the faces ahead.
    pub right_is : d.right ≡ cond f.right (conductance_of seed m i (i + 1)) 0
    right_is = drew.right ∙ taken_is f.right s (i + 1) 0 (state ∙ ap (state_of seed) (sym (add-zero (draws_before m i)))) (omega arith)
        (λ t. place_hit f.right (i + 1) (i + 1) (optional f.down (i + e.width) ++ optional f.deeper (i + e.width * e.height)) t refl)

    module _ (some : 0 < e.width) where
      pub down_is : d.down ≡ cond f.down (conductance_of seed m i (i + e.width)) 0
      down_is = drew.down ∙ taken_is f.down (after f.right s) (i + e.width) (one f.right) second (omega arith)
          (λ t. place_skip f.right (i + 1) (i + e.width) (optional f.down (i + e.width) ++ optional f.deeper (i + e.width * e.height))
          (λ r x. let w = wide r in omega arith)
          ∙ ap (λ (n : ℕ). one f.right + n) (place_hit f.down (i + e.width) (i + e.width) (optional f.deeper (i + e.width * e.height)) t refl)
          ∙ add-zero (one f.right))

      -- A layer of more than one row is larger than a row,
      layer : (h : ℕ) → 1 < h → e.width < e.width * h
      layer (suc (suc h)) l = omega (arith, mul-suc e.width (suc h), mul-suc e.width h)
      layer (suc zero) l = absurd (omega arith)
      layer zero l = absurd (omega arith)

      -- and no layer is smaller.
      row_in_layer : (h : ℕ) → 0 < h → e.width ≤ e.width * h
      row_in_layer (suc h) l = omega (arith, mul-suc e.width h)
      row_in_layer zero l = absurd (omega arith)

      pub deeper_is : 0 < e.height → d.deeper ≡ cond f.deeper (conductance_of seed m i (i + e.width * e.height)) 0
      deeper_is tall = drew.deeper
          ∙ taken_is f.deeper (after f.down (after f.right s)) (i + e.width * e.height) (one f.right + one f.down) third
          (omega (arith, row_in_layer e.height tall))
          (λ t. place_skip f.right (i + 1) (i + e.width * e.height) (optional f.down (i + e.width) ++ optional f.deeper (i + e.width * e.height))
          (λ r x. let w = wide r in let l = row_in_layer e.height tall in omega arith)
          ∙ ap (λ (n : ℕ). one f.right + n) (place_skip f.down (i + e.width) (i + e.width * e.height) (optional f.deeper (i + e.width * e.height))
          (λ r x. let l = layer e.height (high r) in omega arith)
          ∙ ap (λ (n : ℕ). one f.down + n) (place_last t)
          ∙ add-zero (one f.down)))
        where
          place_last : f.deeper ≡ true → place_in (i + e.width * e.height) (optional f.deeper (i + e.width * e.height)) ≡ 0
          place_last t = ap (place_in (i + e.width * e.height)) (sym (append-nil (optional f.deeper (i + e.width * e.height))))
              ∙ place_hit f.deeper (i + e.width * e.height) (i + e.width * e.height) [] t refl

    -- The state after the cell's draws.
    pub state_next : d.state ≡ state_of seed (draws_before m (i + 1))
    state_next = drew.state
        ∙ after_is f.deeper (after f.down (after f.right s)) (draws_before m i + (one f.right + one f.down)) third
        ∙ ap (state_of seed) (omega (arith, draws_next))
