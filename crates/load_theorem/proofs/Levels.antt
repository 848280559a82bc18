-- Every level of a hierarchy that is built from a load is exactly the Galerkin product of the level above, whatever the controls, the weights and
-- the stores; and so it is after an update to the load of another seed. Nothing is asked but that the load is made and the build accepted.
-- Assumes nothing.
use mathlib.Core.Path.{◌≡◌, refl, subst}
use mathlib.Core.Bool.{Bool, true, false, not, ◌&&◌}
use mathlib.Core.List.{List, [], ◌∷◌}
use Prim.Native.Nat.{ℕ, ◌≤◌}
use native.Mathlib.Nat.{mul-le-mul}
use native.Mathlib.Omega.{arith}
use lib.Dec.{eqb, leb, ltb}
use lib.Ieee.{Float}
use borrow.Author.Tests.{ltb-true}
use Rattle.refusal.specs.declared.Refusal.{Refusal}
use Rattle.refusal.specs.Refusal.{bad_load}
use Rattle.refusal.specs.Outcome.{accepted, ask}
use Rattle.store.proofs.store.Each.{both_l, both_r}
use Rattle.options.specs.declared.options.MultigridOptions.{MultigridOptions}
use Rattle.hierarchy.specs.Level.{Hierarchy}
use Rattle.hierarchy.specs.First.{shapes_in}
use Rattle.hierarchy.specs.Build.{Lent, build_of}
use Rattle.update_levels.specs.Update.{update_of}
use Rattle.galerkin_levels.proofs.Theorem.{build_galerkin, update_galerkin}
use Rattle.load.specs.Box.{box, cells_of, all_positive, extents_ok}
use Rattle.load.specs.Load.{Load, load_on, Room, room_ok, load_of}
use Rattle.load.specs.Theorem.{whole_at}
use Rattle.load.proofs.Values.{box_whole}
use Rattle.load_theorem.specs.Levels.{input_from, ExactFrom}

-- A question that is passed holds, and its rest is the outcome.
asked_made : {A : Type 0} (holds : Bool) (q : Refusal) (a : A) {b : A} → ask holds q (accepted a) ≡ accepted b → (holds ≡ true) × (b ≡ a)
asked_made true q a {b} e = let same : b ≡ a = cc in (refl, same)
asked_made false q a e = absurd (let z : ◌≡◌ {A = ℕ} 0 1 = cc in omega arith)

-- A load that is made: its extents are in order, and it is the load on their box.
pub load_made : (seed : ℕ) (es : List ℕ) (room : Room) {l : Load} → load_of seed es room ≡ accepted l
    → (extents_ok es ≡ true) × (l ≡ load_on seed (box es))
load_made seed es room made =
    let some = not (eqb seed 0) in
    let fits = room_ok (box es) room in
    let a = asked_made (some && extents_ok es && fits) bad_load (load_on seed (box es)) made in
    (both_r some (extents_ok es) (both_l (some && extents_ok es) fits a.0), a.1)

-- Extents none of which is zero have a cell,
all_some : (es : List ℕ) → all_positive es ≡ true → 1 ≤ cells_of es
unfolding all_positive cells_of
all_some [] e = omega arith
all_some (extent ∷ rest) e =
    let own = ltb-true 0 extent (both_l (ltb 0 extent) (all_positive rest) e) in
    let more = all_some rest (both_r (ltb 0 extent) (all_positive rest) e) in
    mul-le-mul {n₁ = 1} {m₁ = 1} {n₂ = extent} {m₂ = cells_of rest} (omega arith) more

-- and so do those in order.
pub cells_some : (es : List ℕ) → extents_ok es ≡ true → 1 ≤ cells_of es
unfolding extents_ok
cells_some es e = all_some es (both_l (all_positive es) (leb (cells_of es) 65536) e)

module _ (seed : ℕ) (es : List ℕ) (room : Room) {l : Load} (made : load_of seed es room ≡ accepted l)
    (lent : Lent) (given : Bool) (weights : List Float) (o : MultigridOptions) {h : Hierarchy} (built : build_of lent (input_from l given weights o) ≡ accepted h) where
  -- the same build, of the load on the box
  built_on : build_of lent (input_from (load_on seed (box es)) given weights o) ≡ accepted h
  built_on = subst (λ (k : Load). build_of lent (input_from k given weights o) ≡ accepted h) (load_made seed es room made).1 built

  -- The Galerkin theorem of a load: with no further hypothesis, all levels that are built from it are exact.
  pub load_galerkin : ExactFrom seed es h.levels
  load_galerkin =
      build_galerkin lent (input_from (load_on seed (box es)) given weights o) (cells_some es (load_made seed es room made).0) built_on (whole_at seed (box es)) (box_whole seed es (load_made seed es room made).0)

  -- And so they are after an update to the load of another seed on the same box.
  pub load_update_galerkin : (other : ℕ) (lent-to : Room) {l' : Load} → load_of other es lent-to ≡ accepted l' → {k : Hierarchy}
      → update_of o (shapes_in h.levels) l'.pattern.offsets l'.pattern.columns l'.values ≡ accepted k → ExactFrom other es k.levels
  load_update_galerkin other lent-to {l'} made' {k} updated =
      let m = load_made other es lent-to made' in
      let on = load_on other (box es) in
      update_galerkin lent (input_from (load_on seed (box es)) given weights o) (cells_some es (load_made seed es room made).0) built_on o on.pattern.offsets on.pattern.columns on.values
      (subst (λ (j : Load). update_of o (shapes_in h.levels) j.pattern.offsets j.pattern.columns j.values ≡ accepted k) m.1 updated)
      (whole_at other (box es)) (box_whole other es m.0)
