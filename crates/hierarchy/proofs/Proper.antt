-- A coarse pattern is proper where the fine one is, and the aggregates of `pairs` are a map of the rows onto them. So merged steps
-- keep patterns proper, and what they lead to has the pattern that is made afresh from the level by the composed map.
-- Assumes nothing.
use mathlib.Core.Path.{◌≡◌, refl, sym, ap, ◌∙◌, subst}
use mathlib.Core.Bool.{Bool}
use mathlib.Core.List.{List}
use Prim.Native.Nat.{ℕ, ◌+◌, ◌-◌}
use native.Mathlib.Omega.{arith}
use Rattle.options.specs.declared.options.MultigridOptions.{MultigridOptions}
use Rattle.refusal.specs.Outcome.{Outcome, accepted}
use Rattle.aggregation.specs.Pairs.{Weighted, pairs_of}
use Rattle.aggregation.specs.Contract.{InRange}
use Rattle.aggregation.proofs.Numbers.{map_length, map_below, all_used}
use Rattle.pattern.specs.Pattern.{Pattern, entries, Valid, coarse, Maps, Onto}
use Rattle.pattern.proofs.pattern.Row.{offset_mono}
use Rattle.pattern.proofs.pattern.Coarse.{coarse_valid, coarse_rising, coarse_mirrored, coarse_diagonal}
use Rattle.hierarchy.specs.Level.{Level}
use Rattle.hierarchy.specs.Build.{Charge, Mesh, Merged, merged, weighted_by, paired, coarsened, merge_of}
use Rattle.hierarchy.specs.Steps.{even}
use Rattle.hierarchy.specs.Proper.{Proper, Joined}
use Rattle.hierarchy.proofs.Twice.{compose_maps, compose_onto, coarse_twice}
use Rattle.hierarchy.proofs.Accepted.{coarsened_is, Inner, joined_by, merge_keeps}

-- The coarse pattern of a map onto all aggregates is proper.
pub coarse_proper : {p : Pattern} {m : List ℕ} {c : ℕ} → Proper p → Maps m p.rows c → Onto m p.rows c → Proper (coarse p m c)
coarse_proper {p} {m} {c} f maps onto = record {
  valid = coarse_valid p m c;
  rising = coarse_rising p m c;
  mirrored = coarse_mirrored p m c f.valid maps f.mirrored;
  diagonal = coarse_diagonal p m c f.valid maps f.diagonal onto;
}

-- A valid pattern is in range.
pub valid_range : {p : Pattern} → Valid p → InRange p.rows (entries p) p.offsets p.columns
valid_range {p} v = record {
  ends = λ k h. let z = offset_mono v k p.rows h (omega arith) in let y = v.last in omega arith;
  below = v.inside;
}

module _ {e : ℕ} (a : Weighted) (forward : Bool) (ok : InRange a.rows e a.offsets a.columns) where
  -- `pairs` gives each row one of its aggregates, whatever the weights and the direction.
  pub paired_maps : Maps (pairs_of a forward).map a.rows (pairs_of a forward).count
  paired_maps = record { size = map_length a forward ok; below = map_below a forward ok }

  -- Each aggregate has a row.
  pub paired_onto : Onto (pairs_of a forward).map a.rows (pairs_of a forward).count
  paired_onto = record { hit = all_used a forward ok }

-- ---- merged steps

-- the pairing of a matrix with a valid pattern
module _ (o : MultigridOptions) (given : Bool) (stage : ℕ) (m : Mesh) (valid : Valid m.pattern) where
  -- It is a map of the rows.
  mesh_maps : Maps (paired o given stage m).map m.pattern.rows (paired o given stage m).count
  mesh_maps = paired_maps (weighted_by o given m) (even stage) (valid_range valid)

  -- It is onto.
  mesh_onto : Onto (paired o given stage m).map m.pattern.rows (paired o given stage m).count
  mesh_onto = paired_onto (weighted_by o given m) (even stage) (valid_range valid)

-- So it is before any merged step, of the first coarse matrix of a level.
pub first_joined : (o : MultigridOptions) (given : Bool) (stage : ℕ) (m : Mesh) → Proper m.pattern → let g = paired o given stage m in
    Joined m.pattern (merged (coarsened given m g.map g.count) g.map (stage + 1))
first_joined o given stage m f =
    let maps = mesh_maps o given stage m f.valid in
    let onto = mesh_onto o given stage m f.valid in
    record { proper = coarse_proper f maps onto; maps = maps; onto = onto; is = refl }

-- So it is after one merged step more.
joined_on : (o : MultigridOptions) (given : Bool) (p : Pattern) → Valid p → (s : Merged) → Joined p s → let g = paired o given s.stage s.mesh in
    Joined p (joined_by (coarsened given s.mesh g.map g.count) s g)
joined_on o given p valid s j =
    let g = paired o given s.stage s.mesh in
    let maps = mesh_maps o given s.stage s.mesh j.proper.valid in
    let onto = mesh_onto o given s.stage s.mesh j.proper.valid in
    rw j.maps.size (record {
      proper = coarse_proper j.proper maps onto;
      maps = compose_maps j.maps maps;
      onto = compose_onto j.onto onto;
      is = ap (λ (q : Pattern). coarse q g.map g.count) j.is ∙ coarse_twice valid j.maps g.map g.count;
    })

module _ (o : MultigridOptions) (given : Bool) where
  -- Merged steps keep a pattern proper, the map one of the level's rows onto its rows, and the pattern the one that the map makes.
  pub merge_proper : (p : Pattern) → Valid p → (steps level : ℕ) (s : Merged) {t : Merged}
      → merge_of o given steps level s ≡ accepted t → Joined p s → Joined p t
  merge_proper p valid =
      merge_keeps o given (Joined p) (λ s j. record { proper = j.proper; maps = j.maps; onto = j.onto; is = j.is }) (joined_on o given p valid)

-- ---- the next level

module _ {o : MultigridOptions} {given : Bool} {deeper : ℕ → Charge → Mesh → Outcome (List Level)} {stores used : Charge} {level stage : ℕ}
    {m : Mesh} {levels : List Level} (f : Proper m.pattern)
    (i : Inner o given deeper stores level stage used m (paired o given stage m) levels) where
  -- What the merged steps of a level with a proper pattern made.
  pub steps_proper : Joined m.pattern i.state
  steps_proper =
      let g = paired o given stage m in
      merge_proper o given m.pattern f.valid (o.merge_levels - 1) (level + 1) (merged i.first g.map (stage + 1)) i.steps
      (subst (λ (c : Mesh). Joined m.pattern (merged c g.map (stage + 1))) (coarsened_is given m g.map g.count i.coarser).1
      (first_joined o given stage m f))

  -- The matrix summed afresh from the level by the composed map has the pattern that the merged steps made.
  pub afresh_pattern : i.next.pattern ≡ i.state.mesh.pattern
  afresh_pattern =
      let s = i.state in
      sym (ap (λ (c : Mesh). c.pattern) (coarsened_is given m s.map s.mesh.pattern.rows i.afresh).1) ∙ sym steps_proper.is

  -- So the next level's pattern is proper.
  pub next_proper : Proper i.next.pattern
  next_proper = rw afresh_pattern steps_proper.proper
