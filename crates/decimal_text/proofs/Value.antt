-- A value from its parts. Assumes nothing.
use mathlib.Core.Path.{◌≡◌, refl, sym, ap, ◌∙◌}
use mathlib.Core.Bool.{Bool, true, false, not, cond, ◌&&◌, ◌||◌}
use mathlib.Core.List.{List, []}
use mathlib.Core.Logic.{inl, inr, ⊎_elim}
use Prim.Native.Nat.{ℕ, ◌+◌, ◌-◌, ◌^◌, ◌≤◌, ◌<◌, min}
use native.Mathlib.Omega.{arith}
use lib.Dec.{ltb, leb}
use lib.ListN.{length, take, drop, length-append, length-take, length-drop, drop_of_length-le}
use lib.Seq.{length-take-le}
use lib.Ieee.{Float}
use borrow.Author.Tests.{lt-ltb, le-ltb, lt-leb, le-leb}
use Rattle.store.proofs.store.Region.{le_or_lt}
use Rattle.std.specs.Prelude.{Option, Some, None}
use Rattle.decimal.specs.Decimal.{value_of, signed_of}
use Rattle.decimal_text.specs.Field.{all_digits, number_from, number_of, is_number, place_of, starts_minus, unsigned, head_of, has_power, power_of, whole_of, fraction_of, both_of, pick_reading, scaled_of, shifted_of, form_of, pick_digits, digits_from, pick_mantissa, fraction_in, mantissa_in, pick_exponent, exponent_in, power_in, shifted_in}
use Rattle.decimal_text.proofs.Digits.{place_within, drop_past, number_cut, digits_append, number_append}

zero_one : ◌≡◌ {A = ℕ} 0 1 → ⊥
zero_one z = omega arith

-- ---- a number with its power

module _ (minus : Bool) (m up down : ℕ) where
  pub scaled_long : 1_000_000_000_000_000 ≤ m → None ≡ scaled_of minus m up down
  scaled_long h = simp (le-ltb _ _ h)

  pub scaled_out : {d : ℕ} → d ≡ up - down + (down - up) → 22 < d → None ≡ scaled_of minus m up down
  scaled_out {d} e h = go (ltb m (10 ^ 15)) (ap (λ (x : ℕ). leb x 22) (sym e) ∙ lt-leb d 22 h)
    where
      go : (x : Bool) → leb (up - down + (down - up)) 22 ≡ false
          → None ≡ pick_reading (x && leb (up - down + (down - up)) 22) (Some (signed_of minus (value_of m (ltb up down) (up - down + (down - up))))) None
      go true t = ap (λ (y : Bool). pick_reading y (Some (signed_of minus (value_of m (ltb up down) (up - down + (down - up))))) None) (sym t)
      go false t = refl

  pub scaled_in : {d : ℕ} {b : Bool} {x : Float} → m < 1_000_000_000_000_000 → d ≡ up - down + (down - up) → d ≤ 22 → ltb up down ≡ b → x ≡ signed_of minus (value_of m b d) → Some x ≡ scaled_of minus m up down
  scaled_in {d} {b} {x} h e k t g =
      ap Some (g ∙ ap (λ (y : Bool). signed_of minus (value_of m y d)) (sym t) ∙ ap (λ (y : ℕ). signed_of minus (value_of m (ltb up down) y)) e)
      ∙ ap (λ (y : Bool). pick_reading (y && true) (Some (signed_of minus (value_of m (ltb up down) (up - down + (down - up))))) None) (sym (lt-ltb m (10 ^ 15) h))
      ∙ ap (λ (y : Bool). pick_reading (ltb m (10 ^ 15) && y) (Some (signed_of minus (value_of m (ltb up down) (up - down + (down - up))))) None) (sym (ap (λ (y : ℕ). leb y 22) (sym e) ∙ le-leb d 22 k))

-- digits and powers that are cut at 10^19 give what they give whole
pub shifted_cut : (minus : Bool) (m fraction : ℕ) (negative : Bool) (power : ℕ) → fraction < 2 ^ 63
    → shifted_of minus (min m (10 ^ 19)) fraction negative (min power (10 ^ 19)) ≡ shifted_of minus m fraction negative power
shifted_cut minus m fraction negative power f =
    ⊎_elim
    (λ (h : m < 10 ^ 15). let e : min m (10 ^ 19) ≡ m = omega arith in ap (λ (x : ℕ). shifted_of minus x fraction negative (min power (10 ^ 19))) e ∙ powers negative)
    (λ (h : 10 ^ 15 ≤ m).
    let k : 10 ^ 15 ≤ min m (10 ^ 19) = omega arith in
    sym (scaled_long minus (min m (10 ^ 19)) (cond negative 0 (min power (10 ^ 19))) (fraction + cond negative (min power (10 ^ 19)) 0) k)
    ∙ scaled_long minus m (cond negative 0 power) (fraction + cond negative power 0) h)
    (⊎_elim (λ (h : 10 ^ 15 ≤ m). inr h) (λ (h : m < 10 ^ 15). inl h) (le_or_lt (10 ^ 15) m))
  where
    powers : (negative : Bool) → shifted_of minus m fraction negative (min power (10 ^ 19)) ≡ shifted_of minus m fraction negative power
    powers negative =
        ⊎_elim
        (λ (h : power ≤ 10 ^ 19). let e : min power (10 ^ 19) ≡ power = omega arith in ap (λ (x : ℕ). shifted_of minus m fraction negative x) e)
        (λ (h : 10 ^ 19 < power). far negative h)
        (le_or_lt power (10 ^ 19))
      where
        far : (negative : Bool) → 10 ^ 19 < power → shifted_of minus m fraction negative (min power (10 ^ 19)) ≡ shifted_of minus m fraction negative power
        far true h =
            let a : 22 < 0 - (fraction + min power (10 ^ 19)) + (fraction + min power (10 ^ 19) - 0) = omega arith in
            let b : 22 < 0 - (fraction + power) + (fraction + power - 0) = omega arith in
            sym (scaled_out minus m 0 (fraction + min power (10 ^ 19)) refl a) ∙ scaled_out minus m 0 (fraction + power) refl b
        far false h =
            let a : 22 < min power (10 ^ 19) - (fraction + 0) + (fraction + 0 - min power (10 ^ 19)) = omega arith in
            let b : 22 < power - (fraction + 0) + (fraction + 0 - power) = omega arith in
            sym (scaled_out minus m (min power (10 ^ 19)) (fraction + 0) refl a) ∙ scaled_out minus m power (fraction + 0) refl b

-- ---- what an answer tells of the digits

pub picked_none : (b : Bool) (n : ℕ) → None ≡ pick_digits b (Some n) None → b ≡ false
picked_none true n e = absurd (let z : ◌≡◌ {A = ℕ} 0 1 = cc in zero_one z)
picked_none false n e = refl

pub picked_some : (b : Bool) (n k : ℕ) → Some k ≡ pick_digits b (Some n) None → (b ≡ true) × (k ≡ n)
picked_some true n k e = (refl, cc)
picked_some false n k e = absurd (let z : ◌≡◌ {A = ℕ} 0 1 = cc in zero_one z)

-- ---- the digits around the point

module _ (l : List ℕ) where
  abbrev point : ℕ
  point = place_of 46 46 l

  both_length : length (both_of l) ≡ point + length (fraction_of l)
  both_length = length-append (whole_of l) (fraction_of l) ∙ ap (λ (x : ℕ). x + length (fraction_of l)) (length-take-le point l (place_within 46 46 l))

  -- the mantissa as the code has it: the whole digits first, and the fraction from where they end
  mantissa_split : mantissa_in l ≡ pick_mantissa (ltb 0 (point + length (fraction_of l)) && (all_digits (whole_of l) && all_digits (fraction_of l))) (Some (min (number_from (min (number_of (whole_of l)) (10 ^ 19)) (fraction_of l)) (10 ^ 19), length (fraction_of l))) None
  mantissa_split =
      ap (λ (x : ℕ). pick_mantissa (ltb 0 x && all_digits (both_of l)) (Some (min (number_of (both_of l)) (10 ^ 19), length (fraction_of l))) None) both_length
      ∙ ap (λ (x : Bool). pick_mantissa (ltb 0 (point + length (fraction_of l)) && x) (Some (min (number_of (both_of l)) (10 ^ 19), length (fraction_of l))) None) (digits_append (whole_of l) (fraction_of l))
      ∙ ap (λ (x : ℕ). pick_mantissa (ltb 0 (point + length (fraction_of l)) && (all_digits (whole_of l) && all_digits (fraction_of l))) (Some (x, length (fraction_of l))) None)
      (ap (λ (x : ℕ). min x (10 ^ 19)) (number_append 0 (whole_of l) (fraction_of l)) ∙ sym (number_cut (number_of (whole_of l)) (fraction_of l)))

  pub mantissa_none : {d : Option ℕ} {p : ℕ} → p ≡ point → d ≡ digits_from 0 (take p l) → d ≡ None → None ≡ mantissa_in l
  mantissa_none {d} {p} q e g = go (ltb 0 (point + length (fraction_of l))) (picked_none (all_digits (whole_of l)) (min (number_of (whole_of l)) (10 ^ 19)) (sym g ∙ e ∙ ap (λ (x : ℕ). digits_from 0 (take x l)) q)) ∙ sym mantissa_split
    where
      go : (x : Bool) → all_digits (whole_of l) ≡ false
          → None ≡ pick_mantissa (x && (all_digits (whole_of l) && all_digits (fraction_of l))) (Some (min (number_from (min (number_of (whole_of l)) (10 ^ 19)) (fraction_of l)) (10 ^ 19), length (fraction_of l))) None
      go true t = ap (λ (y : Bool). pick_mantissa (y && all_digits (fraction_of l)) (Some (min (number_from (min (number_of (whole_of l)) (10 ^ 19)) (fraction_of l)) (10 ^ 19), length (fraction_of l))) None) (sym t)
      go false t = refl

  pub mantissa_some : {d : Option ℕ} {p n a : ℕ} {r : Option (ℕ × ℕ)} → p ≡ point → d ≡ digits_from 0 (take p l) → d ≡ Some n → a ≡ min (p + 1) (length l) → r ≡ fraction_in n p (drop a l) → r ≡ mantissa_in l
  mantissa_some {d} {p} {n} {a} {r} q e g b f =
      let w = picked_some (all_digits (whole_of l)) (min (number_of (whole_of l)) (10 ^ 19)) n (sym g ∙ e ∙ ap (λ (x : ℕ). digits_from 0 (take x l)) q) in
      let t : drop a l ≡ fraction_of l = ap (λ (x : ℕ). drop x l) b ∙ drop_past p l ∙ ap (λ (x : ℕ). drop (x + 1) l) q in
      f ∙ ap (fraction_in n p) t ∙ ap (λ (x : ℕ). fraction_in n x (fraction_of l)) q ∙ ap (λ (x : ℕ). fraction_in x point (fraction_of l)) w.1
      ∙ ap (λ (x : Bool). pick_mantissa (ltb 0 (point + length (fraction_of l)) && (x && all_digits (fraction_of l))) (Some (min (number_from (min (number_of (whole_of l)) (10 ^ 19)) (fraction_of l)) (10 ^ 19), length (fraction_of l))) None) (sym w.0)
      ∙ sym mantissa_split

-- ---- powers of ten

module _ (l : List ℕ) (mark : ℕ) where
  pub power_some : {e : Option (Bool × ℕ)} → mark < length l → e ≡ exponent_in (drop (mark + 1) l) → e ≡ power_in l mark
  power_some h f = f ∙ ap (λ (x : Bool). pick_exponent x (exponent_in (drop (mark + 1) l)) (Some (false, 0))) (sym (lt-ltb mark (length l) h))

  pub power_none : length l ≤ mark → Some (false, 0) ≡ power_in l mark
  power_none h = ap (λ (x : Bool). pick_exponent x (exponent_in (drop (mark + 1) l)) (Some (false, 0))) (sym (le-ltb mark (length l) h))

-- ---- what stands after the sign

mantissa_told_none : (b : Bool) (m f : ℕ) → None ≡ pick_mantissa b (Some (m, f)) None → b ≡ false
mantissa_told_none true m f e = absurd (let z : ◌≡◌ {A = ℕ} 0 1 = cc in zero_one z)
mantissa_told_none false m f e = refl

mantissa_told : (b : Bool) (m f n g : ℕ) → Some (n, g) ≡ pick_mantissa b (Some (m, f)) None → (b ≡ true) × (n ≡ m) × (g ≡ f)
mantissa_told true m f n g e = let t : (n, g) ≡ (m, f) = cc in (refl, ap (λ (x : ℕ × ℕ). x.0) t, ap (λ (x : ℕ × ℕ). x.1) t)
mantissa_told false m f n g e = absurd (let z : ◌≡◌ {A = ℕ} 0 1 = cc in zero_one z)

module _ (minus : Bool) (s : List ℕ) where
  abbrev digits : ℕ
  digits = number_of (both_of (head_of s))

  abbrev after : ℕ
  after = length (fraction_of (head_of s))

  abbrev whole : Option Float
  whole = shifted_of minus digits after (starts_minus (power_of s)) (number_of (unsigned (power_of s)))

  after_small : length s < 2 ^ 63 → after < 2 ^ 63
  after_small h = simp (length-drop, length-take) (omega arith)

  joined : length s < 2 ^ 63 → shifted_in minus (min digits (10 ^ 19)) after (power_in s (place_of 101 69 s)) ≡ pick_reading (not (has_power s) || is_number (unsigned (power_of s))) whole None
  unfolding number_from
  joined z =
      ⊎_elim
      (λ (h : length s ≤ place_of 101 69 s).
      let k : length s ≤ place_of 101 69 s + 1 = omega arith in
      let p : power_of s ≡ [] = drop_of_length-le s k in
      ap (shifted_in minus (min digits (10 ^ 19)) after) (sym (power_none s (place_of 101 69 s) h))
      ∙ shifted_cut minus digits after false 0 (after_small z)
      ∙ ap (λ (q : List ℕ). shifted_of minus digits after (starts_minus q) (number_of (unsigned q))) (sym p)
      ∙ ap (λ (x : Bool). pick_reading (not x || is_number (unsigned (power_of s))) whole None) (sym (le-ltb (place_of 101 69 s) (length s) h)))
      (λ (h : place_of 101 69 s < length s).
      ap (shifted_in minus (min digits (10 ^ 19)) after) (sym (power_some s (place_of 101 69 s) h refl))
      ∙ go (is_number (unsigned (power_of s)))
      ∙ ap (λ (x : Bool). pick_reading (not x || is_number (unsigned (power_of s))) whole None) (sym (lt-ltb (place_of 101 69 s) (length s) h)))
      (le_or_lt (length s) (place_of 101 69 s))
    where
      go : (b : Bool) → shifted_in minus (min digits (10 ^ 19)) after (pick_exponent b (Some (starts_minus (power_of s), min (number_of (unsigned (power_of s))) (10 ^ 19))) None) ≡ pick_reading (not true || b) whole None
      go true = shifted_cut minus digits after (starts_minus (power_of s)) (number_of (unsigned (power_of s))) (after_small z)
      go false = refl

  module _ {mark : ℕ} (q : mark ≡ place_of 101 69 s) {h : Option (ℕ × ℕ)} (e : h ≡ mantissa_in (take mark s)) where
    head_is : h ≡ mantissa_in (head_of s)
    head_is = e ∙ ap (λ (x : ℕ). mantissa_in (take x s)) q

    pub form_small : {m f : ℕ} → length s < 2 ^ 63 → h ≡ Some (m, f) → f < 2 ^ 63
    form_small {m} {f} z g =
        let t = mantissa_told (is_number (both_of (head_of s))) (min digits (10 ^ 19)) after m f (sym g ∙ head_is) in
        omega (arith, after_small z, t.2)

    pub form_some : {m f : ℕ} {p : Option (Bool × ℕ)} {r : Option Float} → length s < 2 ^ 63 → h ≡ Some (m, f) → p ≡ power_in s mark → r ≡ shifted_in minus m f p → r ≡ form_of minus (head_of s) (has_power s) (power_of s)
    form_some {m} {f} {p} {r} z g k i =
        let t = mantissa_told (is_number (both_of (head_of s))) (min digits (10 ^ 19)) after m f (sym g ∙ head_is) in
        i
        ∙ ap (shifted_in minus m f) (k ∙ ap (power_in s) q)
        ∙ ap (λ (x : ℕ). shifted_in minus x f (power_in s (place_of 101 69 s))) t.1
        ∙ ap (λ (x : ℕ). shifted_in minus (min digits (10 ^ 19)) x (power_in s (place_of 101 69 s))) t.2
        ∙ joined z
        ∙ ap (λ (x : Bool). pick_reading (x && (not (has_power s) || is_number (unsigned (power_of s)))) whole None) (sym t.0)
