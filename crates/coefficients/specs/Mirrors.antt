-- Question 10's values: those of mirrored entries agree (`is_symmetric` of matrix.rs). Definitions only.
use Rattle.std.specs.Prelude.{Bool, ◌&&◌, List, ℕ, Float}
use Rattle.std.specs.Float.Ieee.{le, of_bits}
use Rattle.std.specs.Float.{binary64}
use Rattle.float.specs.Float.{is_finite, abs_of, sub64}
use Rattle.store.specs.Region.{at, idx}
use Rattle.store.specs.Vector.{each}

-- the test of a pair: both are finite, and their rounded difference is at most 1e-12 (its bits are 3d719799812dea11) in absolute value
unfoldable pub pair_agrees : Float → Float → Bool
pair_agrees a b = is_finite a && is_finite b && le (abs_of (sub64 a b)) (of_bits binary64 0x3d71_9799_812d_ea11)

-- whether it holds of each face's upper and lower value
unfoldable pub mirrors_agree : ℕ → List ℕ → List ℕ → List Float → Bool
mirrors_agree faces upper lower values = each (λ k. pair_agrees (at values (idx upper k)) (at values (idx lower k))) faces
