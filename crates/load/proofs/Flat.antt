-- A last extent of 1 changes nothing: a box that is one cell deep is the flat one, and so is its load. Assumes nothing.
use Rattle.std.proofs.Common.{◌≡◌, ℕ, ◌*◌, ◌/◌, Bool, false, not, ◌&&◌, eqb, List, [], ◌∷◌, ◌++◌, refl, ap₂}
use mathlib.Core.Path.{fun_ext}
use native.Mathlib.Nat.{mod-one}
use Rattle.refusal.specs.Outcome.{Outcome, accepted, ask}
use Rattle.refusal.specs.Refusal.{bad_load}
use Rattle.load.specs.Box.{Grid, axes_from, along, has_ahead, has_behind, ahead_of, behind_of, cells_of, box, all_positive, extents_ok}
use Rattle.load.specs.Load.{Load, Room, room_ok, load_on, load_of}

-- the axis of an extent of 1 has no face
no_ahead : (s i : ℕ) → has_ahead (record { stride = s; extent = 1 }) i ≡ false
unfolding has_ahead along
no_ahead s i = rw (mod-one (i / s)) refl

no_behind : (s i : ℕ) → has_behind (record { stride = s; extent = 1 }) i ≡ false
unfolding has_behind along
no_behind s i = rw (mod-one (i / s)) refl

-- Ahead, behind, cells and the test of the extents stay.
ahead_flat : (es : List ℕ) (s i : ℕ) → ahead_of (axes_from s (es ++ (1 ∷ []))) i ≡ ahead_of (axes_from s es) i
unfolding ahead_of axes_from
ahead_flat [] s i = rw (no_ahead s i) refl
ahead_flat (e ∷ es) s i = rw (ahead_flat es (s * e) i) refl

behind_flat : (es : List ℕ) (s i : ℕ) → behind_of (axes_from s (es ++ (1 ∷ []))) i ≡ behind_of (axes_from s es) i
unfolding behind_of axes_from
behind_flat [] s i = rw (no_behind s i) refl
behind_flat (e ∷ es) s i = rw (behind_flat es (s * e) i) refl

cells_flat : (es : List ℕ) → cells_of (es ++ (1 ∷ [])) ≡ cells_of es
unfolding cells_of
cells_flat [] = refl
cells_flat (e ∷ es) = rw (cells_flat es) refl

positive_flat : (es : List ℕ) → all_positive (es ++ (1 ∷ [])) ≡ all_positive es
unfolding all_positive
positive_flat [] = refl
positive_flat (e ∷ es) = rw (positive_flat es) refl

extents_flat : (es : List ℕ) → extents_ok (es ++ (1 ∷ [])) ≡ extents_ok es
unfolding extents_ok
extents_flat es = rw (positive_flat es, cells_flat es) refl

-- The box stays.
pub box_flat : (es : List ℕ) → box (es ++ (1 ∷ [])) ≡ box es
box_flat es = grid_same (cells_flat es) (fun_ext (λ i. behind_flat es 1 i)) (fun_ext (λ i. ahead_flat es 1 i))
  where
    grid_same : {c d : ℕ} {b f a g : ℕ → List ℕ} → c ≡ d → b ≡ f → a ≡ g
        → ◌≡◌ {A = Grid} (record { cells = c; behind = b; ahead = a }) (record { cells = d; behind = f; ahead = g })
    grid_same x y z = rw (x, y, z) refl

-- The load stays, word for word, and so does its refusal.
pub load_flat : (seed : ℕ) (es : List ℕ) (room : Room) → load_of seed (es ++ (1 ∷ [])) room ≡ load_of seed es room
load_flat seed es room = ap₂ made (extents_flat es) (box_flat es)
  where
    made : Bool → Grid → Outcome Load
    made ok m = ask (not (eqb seed 0) && ok && room_ok m room) bad_load (accepted (load_on seed m))
