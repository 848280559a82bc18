-- The step along a new direction, as the code has it.
-- Assumes nothing.
use Rattle.std.specs.Prelude.{Option, Some, None, Ok, Err}
use mathlib.Core.Path.{◌≡◌, refl, sym, ◌∙◌}
use mathlib.Core.List.{List}
use Prim.Native.Nat.{ℕ}
use native.Mathlib.Omega.{arith}
use lib.Ieee.{Float}
use lib.ListN.{length}
use Rattle.refusal.specs.Refusal.{bad_dot_product}
use Rattle.store.specs.Region.{part, Wrote}
use Rattle.store.proofs.store.Region.{wrote_at, wrote_off}
use Rattle.vector.specs.Dot.{dot_of, product_of}
use Rattle.acceleration.specs.DirectionsContract.{pair_at, AxpyOk}
use Rattle.acceleration.specs.Advance.{advance_of}
use Rattle.acceleration.specs.Turns.{more_of}
use Rattle.acceleration.specs.AdvanceContract.{AdvanceOk, Advanced}

-- Where `more` finds its regions.
pub more_ok : {size n solution p q residual : ℕ} → AdvanceOk size n solution p q residual → AxpyOk size n p solution
more_ok ok = record { xs = omega arith; ys = omega arith; clear = omega arith }

module _ {F : List Float} {n solution p q residual : ℕ} {d : Option Float} (ok : AdvanceOk (length F) n solution p q residual)
    (e : d ≡ product_of (dot_of n (part residual n F) (part q n F))) where
  -- A finite product: the solution moves.
  pub advance_yes : {G : List Float} {alpha : Float} → d ≡ Some alpha
      → Wrote solution n (more_of n alpha (part p n F) (part solution n F)) F G
      → Advanced n solution (advance_of n (part residual n F) (pair_at n p q F) (part solution n F)) F G (Ok tt)
  unfolding advance_of more_of
  advance_yes t g =
      let told = sym e ∙ t in
      let is = wrote_at g (omega arith) in
      record {
        is = rw (told, is);
        still = λ q z. let n : ◌≡◌ {A = ℕ} 0 1 = cc in absurd (omega arith);
        off = λ a m c. wrote_off g a m c;
        size = g.size;
      }

  -- One that is not: refused, and nothing moves.
  pub advance_no : d ≡ None
      → Advanced n solution (advance_of n (part residual n F) (pair_at n p q F) (part solution n F)) F F (Err bad_dot_product)
  unfolding advance_of more_of
  advance_no t =
      let told = sym e ∙ t in
      record { is = rw told; still = λ q z. refl; off = λ a m c. refl; size = refl }
