-- Where a cell stands along each axis, and so which faces it has. Assumes nothing.
use Rattle.std.proofs.Common.{◌≡◌, ℕ, ◌+◌, ◌*◌, ◌/◌, ◌%◌, ◌<◌, ◌≤◌, ltb, sym, ap, ◌∙◌, mod-eq_of_lt, one-mul, zero-add, mul-one, mul-add, div-one, arith}
use native.Mathlib.Nat.{div-eq_of_lt, add-mul-div_left, add-mul-mod_self_left, div-div-eq-div-mul}
use Rattle.load.specs.declared.cells.Extents.{Extents}
use Rattle.load.specs.declared.cells.Cell.{Cell}
use Rattle.load.specs.Box.{along, has_ahead, has_behind}
use Rattle.load.specs.Steps.{axis₀, axis₁, axis₂, Few, Placed, FacesAre}

module _ {e : Extents} {c : Cell} (few : Few e) (placed : Placed e c) where
  -- the layers above count as whole rows
  quotient : c.number / e.width ≡ c.y + e.height * c.z
  quotient =
      ap (λ (i : ℕ). i / e.width) placed.number
      ∙ add-mul-div_left c.x (c.y + e.height * c.z) few.wide
      ∙ ap (λ (q : ℕ). q + (c.y + e.height * c.z)) (div-eq_of_lt placed.x)
      ∙ zero-add (c.y + e.height * c.z)

  -- Along the first axis it stands at x,
  pub along₀ : along (axis₀ e) c.number ≡ c.x
  unfolding along
  along₀ =
      ap (λ (i : ℕ). i % e.width) (div-one c.number ∙ placed.number)
      ∙ add-mul-mod_self_left c.x e.width (c.y + e.height * c.z)
      ∙ mod-eq_of_lt placed.x

  -- along the second at y,
  pub along₁ : along (axis₁ e) c.number ≡ c.y
  unfolding along
  along₁ =
      ap (λ (s : ℕ). c.number / s % e.height) (one-mul e.width)
      ∙ ap (λ (q : ℕ). q % e.height) quotient
      ∙ add-mul-mod_self_left c.y e.height c.z
      ∙ mod-eq_of_lt placed.y

  -- along the third at z.
  pub along₂ : c.z < e.depth → along (axis₂ e) c.number ≡ c.z
  unfolding along
  along₂ h =
      ap (λ (s : ℕ). c.number / s % e.depth) (ap (λ (s : ℕ). s * e.height) (one-mul e.width))
      ∙ ap (λ (q : ℕ). q % e.depth) (sym (div-div-eq-div-mul c.number e.width e.height))
      ∙ ap (λ (q : ℕ). q / e.height % e.depth) quotient
      ∙ ap (λ (q : ℕ). q % e.depth) (add-mul-div_left c.y c.z few.high ∙ ap (λ (q : ℕ). q + c.z) (div-eq_of_lt placed.y) ∙ zero-add c.z)
      ∙ mod-eq_of_lt h

  -- So its faces are those that its place says.
  pub faces_are : c.z < e.depth → FacesAre e c.number (record {
    left = ltb 0 c.x;
    up = ltb 0 c.y;
    shallower = ltb 0 c.z;
    right = ltb (c.x + 1) e.width;
    down = ltb (c.y + 1) e.height;
    deeper = ltb (c.z + 1) e.depth;
  })
  unfolding has_ahead has_behind
  faces_are h = record {
    left = ap (ltb 0) (sym along₀);
    up = ap (ltb 0) (sym along₁);
    shallower = ap (ltb 0) (sym (along₂ h));
    right = ap (λ (x : ℕ). ltb (x + 1) e.width) (sym along₀);
    down = ap (λ (y : ℕ). ltb (y + 1) e.height) (sym along₁);
    deeper = ap (λ (z : ℕ). ltb (z + 1) e.depth) (sym (along₂ h));
  }

-- The last cell of a layer is followed by the first of the next.
wraps : (w h x y z number : ℕ) → number ≡ x + w * (y + h * z) → x + 1 ≡ w → y + 1 ≡ h → number + 1 ≡ 0 + w * (0 + h * (z + 1))
wraps w h x y z number n ex ey =
    let p : h * (z + 1) ≡ h * z + h * 1 = mul-add h z 1 in
    let q : 0 + h * (z + 1) ≡ y + h * z + 1 = omega (arith, mul-one h) in
    let r : w * (y + h * z + 1) ≡ w * (y + h * z) + w * 1 = mul-add w (y + h * z) 1 in
    rw q (omega (arith, mul-one w))

pub placed_layer : {e : Extents} {c : Cell} → Few e → Placed e c → c.number < 65536 → e.width ≤ c.x + 1 → e.height ≤ c.y + 1
    → Placed e (record { number = c.number + 1; x = 0; y = 0; z = c.z + 1 })
placed_layer {e} {c} few placed small wide high = record {
  number = wraps e.width e.height c.x c.y c.z c.number placed.number (omega (arith, placed.x)) (omega (arith, placed.y));
  x = few.wide;
  y = few.high;
  z = omega (arith, placed.z);
  small = omega arith;
}
