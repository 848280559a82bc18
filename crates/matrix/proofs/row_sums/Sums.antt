-- A row's sum that is held beside the store: a face, and the loop over the faces.
-- Assumes nothing.
use mathlib.Core.Path.{◌≡◌, refl, sym, ◌∙◌}
use mathlib.Core.List.{List}
use Prim.Native.Nat.{ℕ, ◌+◌, ◌≤◌, ◌<◌}
use native.Mathlib.Omega.{arith}
use lib.ListN.{length, set, length-set}
use lib.Seq.{get_or-set_same, get_or-set_other, set-get_or, set-set, set_comm}
use lib.Ieee.{Float, nan}
use Rattle.float.specs.Float.{add64}
use Rattle.store.specs.Loop.{for}
use Rattle.store.specs.Region.{at, idx}
use Rattle.store.proofs.store.Loop.{Left, left_start, left_on, left_end}
use Rattle.matrix.specs.declared.matrix.SymmetricMatrix.{SymmetricMatrix}
use Rattle.matrix.specs.Turns.{sum_turn, SumHeld, SumFaced}
use Rattle.matrix.proofs.matrix.Turns.{sum_on}

module _ (w : List ℕ) (s : SymmetricMatrix) (sums row face : ℕ) {j : ℕ} (F : List Float) (own : Float) (there : j ≡ idx w (s.neighbors + face))
    (inside : sums + row < length F) (apart : s.coefficients + face < sums) where
  -- the store with what is held
  abbrev laid : List Float
  laid = set F (sums + row) own

  -- the face's coefficient
  abbrev a : Float
  a = at F (s.coefficients + face)

  -- The coefficient is not where the sums are.
  same_a : at laid (s.coefficients + face) ≡ a
  same_a = get_or-set_other F (sums + row) (s.coefficients + face) own nan (λ e. omega arith)

  -- Where the sum is held, it stands.
  own_is : at laid (sums + row) ≡ own
  own_is = get_or-set_same F (sums + row) own nan inside

  -- The turn adds the coefficient to the row's sum first.
  first : sum_turn w s sums row face laid ≡ set (set F (sums + row) (add64 own a)) (sums + j) (add64 (at (set F (sums + row) (add64 own a)) (sums + j)) a)
  first =
      let one : set laid (sums + row) (add64 (at laid (sums + row)) (at laid (s.coefficients + face))) ≡ set F (sums + row) (add64 own a) =
      rw (own_is, same_a) (set-set F (sums + row) own (add64 own a)) in
      sym (sum_on w s sums row face j laid there) ∙ rw (one, same_a)

  -- A face that leads to its own row adds to it twice;
  pub held_self : j ≡ row → SumHeld w s sums row face F own F (add64 (add64 own a) a)
  held_self e =
      let again : at (set F (sums + row) (add64 own a)) (sums + row) ≡ add64 own a = get_or-set_same F (sums + row) (add64 own a) nan inside in
      record {
        is = sym (first ∙ rw (e, again) (set-set F (sums + row) (add64 own a) (add64 (add64 own a) a)));
        size = refl;
      }

  -- another adds to its neighbour in place.
  pub held_other : (j ≡ row → ⊥) → SumHeld w s sums row face F own (set F (sums + j) (add64 (at F (sums + j)) a)) (add64 own a)
  held_other ne =
      let still : at (set F (sums + row) (add64 own a)) (sums + j) ≡ at F (sums + j) =
      get_or-set_other F (sums + row) (sums + j) (add64 own a) nan (λ e. ne (omega arith)) in
      record {
        is = sym (first ∙ rw still (set_comm F (sums + row) (sums + j) (add64 own a) (add64 (at F (sums + j)) a) (λ e. ne (omega arith))));
        size = length-set F (sums + j) _;
      }

-- The invariant of the loop: with what is held laid into the store, what is left to do gives what the whole gives.
pub record Holding (w : List ℕ) (s : SymmetricMatrix) (sums row lo hi face : ℕ) (F G : List Float) (own : Float) : Type 0 where
  pub size : length G ≡ length F
  pub left : Left (sum_turn w s sums row) face hi (set G (sums + row) own) (for (sum_turn w s sums row) lo hi F)

-- At the start it is what stands there.
pub holding_start : (w : List ℕ) (s : SymmetricMatrix) (sums row lo hi : ℕ) (F : List Float) → Holding w s sums row lo hi lo F F (at F (sums + row))
holding_start w s sums row lo hi F = record { size = refl; left = rw (set-get_or F (sums + row) nan) left_start }

module _ {w : List ℕ} {s : SymmetricMatrix} {sums row lo hi face : ℕ} {F G : List Float} {own : Float} (u : Holding w s sums row lo hi face F G own) where
  -- A turn.
  pub holding_on : {H : List Float} {r : Float} → face < hi → SumHeld w s sums row face G own H r → Holding w s sums row lo hi (face + 1) F H r
  holding_on h d = record { size = d.size ∙ u.size; left = left_on u.left h d.is }

  -- At the end it is laid into the store.
  pub holding_done : hi ≤ face → SumFaced w s sums row lo hi F (set G (sums + row) own)
  holding_done h = record { is = left_end u.left h }
