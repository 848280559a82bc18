-- The normalised pair, as the code has it.
-- Assumes nothing.
use Rattle.std.specs.Prelude.{Ok, Err, Option, Some, None}
use mathlib.Core.Path.{◌≡◌, refl, sym, ap, ◌∙◌}
use mathlib.Core.Bool.{Bool, true, false, ◌&&◌}
use mathlib.Core.List.{List}
use Prim.Native.Nat.{ℕ}
use native.Mathlib.Omega.{arith}
use lib.Ieee.{Float, eq, ne}
use lib.ListN.{length}
use Rattle.float.specs.Float.{zero64}
use Rattle.refusal.specs.declared.Refusal.{Refusal}
use Rattle.refusal.specs.Refusal.{bad_dot_product, zero_image, bad_direction}
use Rattle.refusal.specs.Outcome.{Outcome, accepted, refused}
use Rattle.store.specs.Region.{Clear, part, Wrote}
use Rattle.store.proofs.store.Region.{wrote_at, wrote_off}
use Rattle.vector.specs.Dot.{norm_of}
use Rattle.vector.specs.Finite.{all_finite}
use Rattle.acceleration.specs.Directions.{Pair}
use Rattle.acceleration.specs.DirectionsContract.{pair_at, AxpyOk}
use Rattle.acceleration.specs.Normal.{over_of, normal_of}
use Rattle.acceleration.specs.NormalizeContract.{NormalOk, Normal}

-- ---- both regions finite

-- The first is finite: the answer is the second's.
pub both_yes : {a b x y : Bool} → a ≡ x → a ≡ true → b ≡ y → b ≡ x && y
both_yes e t f = rw (← e, t, f)

-- It is not.
pub both_no : {a x : Bool} (y : Bool) → a ≡ x → a ≡ false → false ≡ x && y
both_no y e t = rw (← e, t)

-- ---- the norm

-- It equals zero,
pub is_zero : (x : Float) → eq x zero64 ≡ true → ne x zero64 ≡ false
unfolding ne
is_zero x e = rw e

-- or it does not.
pub not_zero : (x : Float) → eq x zero64 ≡ false → ne x zero64 ≡ true
unfolding ne
not_zero x e = rw e

-- ---- the normalised pair

-- Where the first `over` finds its regions.
pub first_ok : {size n p q direction image : ℕ} → NormalOk size n p q direction image → AxpyOk size n direction p
first_ok ok = record { xs = omega arith; ys = omega arith; clear = omega arith }

-- Where the second does.
pub second_ok : {F G v : List Float} {b m n p q direction image : ℕ} → NormalOk (length F) n p q direction image
    → Wrote b m v F G → AxpyOk (length G) n image q
second_ok ok h = record { xs = omega (arith, h.size); ys = omega (arith, h.size); clear = omega arith }

-- What `normalize` ensures, from an accepted outcome.
normal_accepted : {F G : List Float} {n p q : ℕ} {o : Outcome Pair} → o ≡ accepted (pair_at n p q G)
    → ((a m : ℕ) → Clear a m p n → Clear a m q n → part a m G ≡ part a m F) → length G ≡ length F → Normal n p q o F G (Ok tt)
normal_accepted e off size = record { answer = rw e; pair = λ _. e; off = off; size = size }

-- And from a refused one.
normal_refused : {F G : List Float} {n p q : ℕ} {o : Outcome Pair} {r : Refusal} → o ≡ refused r
    → ((a m : ℕ) → Clear a m p n → Clear a m q n → part a m G ≡ part a m F) → length G ≡ length F → Normal n p q o F G (Err r)
normal_refused e off size =
    record { answer = rw e; pair = λ t. let z : ◌≡◌ {A = ℕ} 0 1 = cc in absurd (omega arith); off = off; size = size }

module _ {F : List Float} {n p q direction image : ℕ} {d : Option Float} (ok : NormalOk (length F) n p q direction image)
    (e : d ≡ norm_of n (part image n F)) where
  -- 28: the norm is not finite.
  pub normal_no : d ≡ None
      → Normal n p q (normal_of n (pair_at n direction image F)) F F (Err bad_dot_product)
  unfolding normal_of
  normal_no t = let told = sym e ∙ t in normal_refused (rw told) (λ a m _ _. refl) refl

  module _ {norm : Float} (t : d ≡ Some norm) where
    -- 29: it is zero.
    pub normal_zero : ne norm zero64 ≡ false
        → Normal n p q (normal_of n (pair_at n direction image F)) F F (Err zero_image)
    unfolding normal_of
    normal_zero z = let told = sym e ∙ t in normal_refused (rw (told, z)) (λ a m _ _. refl) refl

    module _ {G H : List Float} {b : Bool} (z : ne norm zero64 ≡ true) (g : Wrote p n (over_of n norm (part direction n F)) F G)
        (h : Wrote q n (over_of n norm (part image n G)) G H) (f : b ≡ all_finite n (part p n H) && all_finite n (part q n H)) where
      p_is : part p n H ≡ over_of n norm (part direction n F)
      p_is = wrote_off h p n (omega arith) ∙ wrote_at g (omega arith)

      q_is : part q n H ≡ over_of n norm (part image n F)
      q_is = wrote_at h (omega (arith, g.size)) ∙ ap (over_of n norm) (wrote_off g image n (omega arith))

      off : (a m : ℕ) → Clear a m p n → Clear a m q n → part a m H ≡ part a m F
      off a m u v = wrote_off h a m v ∙ wrote_off g a m u

      -- All three passed: the pair stands at p and q.
      pub normal_yes : b ≡ true → Normal n p q (normal_of n (pair_at n direction image F)) F H (Ok tt)
      unfolding normal_of
      normal_yes y =
          let told = sym e ∙ t in
          let fine = rw (p_is, q_is) at (sym f ∙ y) in
          normal_accepted (rw (told, z, fine, p_is, q_is)) off (h.size ∙ g.size)

      -- 30: an element is not finite.
      pub normal_bad : b ≡ false
          → Normal n p q (normal_of n (pair_at n direction image F)) F H (Err bad_direction)
      unfolding normal_of
      normal_bad y =
          let told = sym e ∙ t in
          let fine = rw (p_is, q_is) at (sym f ∙ y) in
          normal_refused (rw (told, z, fine)) off (h.size ∙ g.size)
