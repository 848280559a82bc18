-- A stored pair out of the new one, and a pass over all of them, by running offsets.
-- Assumes nothing.
use Rattle.std.specs.Prelude.{Option, Some, None, Result, Ok, Err}
use Rattle.std.specs.Option.{ok_or}
use mathlib.Core.Path.{◌≡◌, refl, sym, ◌∙◌}
use mathlib.Core.List.{List, ◌∷◌}
use Prim.Native.Nat.{ℕ, zero, suc, ◌+◌, ◌-◌, ◌*◌, ◌≤◌, ◌<◌}
use native.Mathlib.Nat.{add-zero, zero-mul, suc-mul, mul-le-mul_right}
use native.Mathlib.Omega.{arith}
use lib.Ieee.{Float}
use lib.ListN.{length}
use Rattle.refusal.specs.declared.Refusal.{Refusal}
use Rattle.refusal.specs.Refusal.{bad_dot_product}
use Rattle.refusal.specs.Outcome.{accepted, refused}
use Rattle.store.specs.Region.{part, Wrote}
use Rattle.store.proofs.store.Region.{wrote_at, wrote_off}
use Rattle.vector.specs.Dot.{dot_of, product_of}
use Rattle.acceleration.specs.Directions.{less_of, orthogonal_to, pass_of}
use Rattle.acceleration.specs.DirectionsContract.{pair_at, memory_at, made_of, AxpyOk, Between, StepOk, Stepped, PassOk}

-- ---- frames

-- Nothing written changes nothing.
between_self : {lo hi : ℕ} {F : List Float} → Between lo hi F F
between_self = record { below = λ a m l. refl; above = λ a m l. refl; size = refl }

-- One frame after another.
pub between_on : {lo hi : ℕ} {F G H : List Float} → Between lo hi F G → Between lo hi G H → Between lo hi F H
between_on g h =
    record {
      below = λ a m l. h.below a m l ∙ g.below a m l;
      above = λ a m l. h.above a m l ∙ g.above a m l;
      size = h.size ∙ g.size;
    }

-- ---- a value, or a refusal where there is none

-- Where the answer has a value, so had the option,
pub asked_some : (reason : Refusal) (d : Option Float) {r : Result Float Refusal} {x : Float} → r ≡ ok_or d reason → r ≡ Ok x → d ≡ Some x
asked_some reason (Some y) v e = cc
asked_some reason None v e = let z : ◌≡◌ {A = ℕ} 0 1 = cc in absurd (omega arith)

-- where it refuses, the option had none,
pub asked_none : (reason : Refusal) {told : Refusal} (d : Option Float) {r : Result Float Refusal} → r ≡ ok_or d reason → r ≡ Err told → d ≡ None
asked_none reason (Some y) v e = let z : ◌≡◌ {A = ℕ} 0 1 = cc in absurd (omega arith)
asked_none reason None v e = refl

-- and it refuses with that refusal.
pub asked_told : {reason told : Refusal} (d : Option Float) {r : Result Float Refusal} → r ≡ ok_or d reason → r ≡ Err told → told ≡ reason
asked_told (Some y) v e = let z : ◌≡◌ {A = ℕ} 0 1 = cc in absurd (omega arith)
asked_told None v e = cc

-- ---- one stored pair

-- Where the first `lessen` finds its regions.
pub image_ok : {size n p q direction image : ℕ} → StepOk size n p q direction image → AxpyOk size n q image
image_ok ok = record { xs = omega arith; ys = omega arith; clear = omega arith }

-- Where the second does.
pub direction_ok : {F G v : List Float} {b m n p q direction image : ℕ} → StepOk (length F) n p q direction image
    → Wrote b m v F G → AxpyOk (length G) n p direction
direction_ok ok h = record { xs = omega (arith, h.size); ys = omega (arith, h.size); clear = omega arith }

module _ {F : List Float} {n p q direction image : ℕ} {d : Option Float} (ok : StepOk (length F) n p q direction image)
    (e : d ≡ product_of (dot_of n (part image n F) (part q n F))) where
  -- A finite product: both vectors are lessened.
  pub step_yes : {G H : List Float} {b : Float} → d ≡ Some b → Wrote image n (less_of n b (part q n F) (part image n F)) F G
      → Wrote direction n (less_of n b (part p n G) (part direction n G)) G H
      → Stepped n direction image (orthogonal_to n (pair_at n p q F) (pair_at n direction image F)) F H (Ok tt)
  unfolding orthogonal_to
  step_yes t g h =
      let told = sym e ∙ t in
      let p₁ = wrote_off g p n (omega arith) in
      let d₁ = wrote_off g direction n (omega arith) in
      let i₁ = wrote_at g (omega arith) in
      let d₂ = wrote_at h (omega (arith, g.size)) in
      let i₂ = wrote_off h image n (omega arith) in
      record {
        is = rw (told, i₂, i₁, d₂, p₁, d₁);
        frame = record {
          below = λ a m l. wrote_off h a m (omega arith) ∙ wrote_off g a m (omega arith);
          above = λ a m l. wrote_off h a m (omega arith) ∙ wrote_off g a m (omega arith);
          size = h.size ∙ g.size;
        };
      }

  -- One that is not: refused, and nothing is written.
  pub step_no : d ≡ None → Stepped n direction image (orthogonal_to n (pair_at n p q F) (pair_at n direction image F)) F F (Err bad_dot_product)
  unfolding orthogonal_to
  step_no t = let told = sym e ∙ t in record { is = rw told; frame = between_self }

-- ---- the loop

-- The invariant: after `index` pairs, the pass over what is left gives the whole.
pub record Passing (n used index p q direction image : ℕ) (F G : List Float) : Type 0 where
  pub left : pass_of n (memory_at (used - index) n (p + index * n) (q + index * n) F) (pair_at n direction image G)
      ≡ pass_of n (memory_at used n p q F) (pair_at n direction image F)
  pub frame : Between direction (image + n) F G
  pub ps : p + used * n ≤ direction
  pub qs : q + used * n ≤ direction
  pub directions : direction + n ≤ image
  pub images : image + n ≤ length F

-- At the start the whole is left.
pub passing_start : {F : List Float} {n used p q direction image : ℕ} → PassOk (length F) n used p q direction image
    → Passing n used 0 p q direction image F F
passing_start {F} {n} {used} {p} {q} ok =
    let none : 0 * n ≡ 0 = zero-mul n in
    let all : used - 0 ≡ used = omega arith in
    record {
      left = rw (all, none, add-zero p, add-zero q);
      frame = between_self;
      ps = ok.ps;
      qs = ok.qs;
      directions = ok.directions;
      images = ok.images;
    }

module _ {F G : List Float} {n used index p q direction image : ℕ}
    (s : Passing n used index p q direction image F G) (h : index < used) where
  next : used - index ≡ suc (used - (index + 1))
  next = omega arith

  -- What lies before the next pair and the pair itself lie within the memory.
  pub passing_within : index * n + n ≤ used * n
  passing_within =
      let m = suc-mul index n in
      let few : suc index ≤ used = omega arith in
      let l = mul-le-mul_right n few in
      omega arith

  -- The next pair lies below the new one.
  pub passing_ok : StepOk (length G) n (p + index * n) (q + index * n) direction image
  passing_ok =
      let m = passing_within in
      record {
        ps = omega (arith, s.ps);
        qs = omega (arith, s.qs);
        directions = s.directions;
        images = omega (arith, s.frame.size, s.images);
      }

  opened : (k : ℕ) → used - index ≡ suc k
      → pass_of n (pair_at n (p + index * n) (q + index * n) F ∷ memory_at k n (p + index * n + n) (q + index * n + n) F) (pair_at n direction image G)
      ≡ pass_of n (memory_at used n p q F) (pair_at n direction image F)
  unfolding memory_at
  opened k e = rw e at s.left

  module _ {H : List Float} {r : Result Unit Refusal}
      (d : Stepped n direction image (orthogonal_to n (pair_at n (p + index * n) (q + index * n) G) (pair_at n direction image G)) G H r) where
    stepped : made_of r (pair_at n direction image H)
        ≡ orthogonal_to n (pair_at n (p + index * n) (q + index * n) F) (pair_at n direction image G)
    stepped = d.is ∙ rw (s.frame.below (p + index * n) n passing_ok.ps, s.frame.below (q + index * n) n passing_ok.qs)

    -- A pair that passes.
    pub passing_on : r ≡ Ok tt → Passing n used (index + 1) p q direction image F H
    unfolding pass_of
    passing_on t =
        let e : accepted (pair_at n direction image H) ≡ orthogonal_to n (pair_at n (p + index * n) (q + index * n) F) (pair_at n direction image G) = rw t at stepped in
        let m = suc-mul index n in
        let up : p + index * n + n ≡ p + (index + 1) * n = omega arith in
        let uq : q + index * n + n ≡ q + (index + 1) * n = omega arith in
        record {
          left = rw (← e, up, uq) at (opened (used - (index + 1)) next);
          frame = between_on s.frame d.frame;
          ps = s.ps;
          qs = s.qs;
          directions = s.directions;
          images = s.images;
        }

    -- A pair that is refused ends the pass.
    pub passing_no : {reason : Refusal} → r ≡ Err reason
        → Stepped n direction image (pass_of n (memory_at used n p q F) (pair_at n direction image F)) F H (Err reason)
    unfolding pass_of
    passing_no {reason} t =
        let e : refused reason ≡ orthogonal_to n (pair_at n (p + index * n) (q + index * n) F) (pair_at n direction image G) = rw t at stepped in
        record { is = rw (← e) at (opened (used - (index + 1)) next); frame = between_on s.frame d.frame }

-- At the end nothing is left.
pub passing_end : {F G : List Float} {n used index p q direction image : ℕ}
    → Passing n used index p q direction image F G → used ≤ index
    → Stepped n direction image (pass_of n (memory_at used n p q F) (pair_at n direction image F)) F G (Ok tt)
unfolding pass_of memory_at
passing_end {F} {G} {n} {used} {index} s h =
    let z : used - index ≡ 0 = omega arith in
    record { is = rw z at s.left; frame = s.frame }

-- ---- the stored pairs

-- The stored pairs are as they were where both their regions are.
pub memory_same : (k n p q : ℕ) (F G : List Float) → ((a m : ℕ) → p ≤ a → a + m ≤ p + k * n → part a m G ≡ part a m F)
    → ((a m : ℕ) → q ≤ a → a + m ≤ q + k * n → part a m G ≡ part a m F) → memory_at k n p q G ≡ memory_at k n p q F
unfolding memory_at
memory_same zero n p q F G same also = refl
memory_same (suc k) n p q F G same also =
    let m = suc-mul k n in
    rw (
      same p n (omega arith) (omega arith),
      also q n (omega arith) (omega arith),
      memory_same k n (p + n) (q + n) F G (λ a b l u. same a b (omega arith) (omega arith)) (λ a b l u. also a b (omega arith) (omega arith)),
    )
