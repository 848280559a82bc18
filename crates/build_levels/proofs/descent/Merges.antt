-- What the first coarse matrix and the merged steps lead to: how many pairings, how many rows, and a proper pattern.
-- Assumes nothing.
use mathlib.Core.Path.{◌≡◌, refl, ap, subst}
use mathlib.Core.Bool.{Bool, true, false, cond}
use mathlib.Core.List.{List}
use Prim.Native.Nat.{ℕ, zero, suc, ◌+◌, ◌-◌, ◌≤◌}
use native.Mathlib.Omega.{arith}
use lib.Dec.{eqb}
use Rattle.options.specs.declared.options.MultigridOptions.{MultigridOptions}
use Rattle.refusal.specs.Outcome.{accepted, ◌>>=◌}
use Rattle.refusal.proofs.Outcome.{accepted_one}
use Rattle.aggregation.specs.Pairs.{Pairing}
use Rattle.aggregation.proofs.Numbers.{count_most}
use Rattle.pattern.specs.Pattern.{Pattern, Valid, Maps, Onto}
use Rattle.pattern.proofs.pattern.Coarse.{coarse_valid}
use Rattle.hierarchy.specs.Build.{Mesh, Merged, merged, kernel_asked, weighted_by, paired, coarsened, coarsened_asked, few_coupled, merge_of}
use Rattle.hierarchy.specs.Steps.{even}
use Rattle.hierarchy.specs.Proper.{Proper, Joined}
use Rattle.hierarchy.proofs.Accepted.{then_split, coarsened_is, joined_by, merge_keeps}
use Rattle.hierarchy.proofs.Proper.{coarse_proper, valid_range, merge_proper}
use Rattle.build_levels.specs.Steps.{steps_of}

module _ (o : MultigridOptions) (given : Bool) where
  -- So many merged steps make at most so many pairings.
  merge_stage : (steps level : ℕ) (s : Merged) {t : Merged} → merge_of o given steps level s ≡ accepted t → t.stage ≤ s.stage + steps
  unfolding merge_of
  merge_stage zero level s {t} e = let h : s.stage ≡ t.stage = ap (λ (m : Merged). m.stage) (accepted_one e) in omega arith
  merge_stage (suc steps) level s {t} e =
      let k = then_split (kernel_asked level s.mesh) _ e in
      let g = paired o given s.stage s.mesh in
      go (λ s e. merge_stage steps level s e) g (few_coupled o s.mesh.pattern) (eqb g.count s.mesh.pattern.rows) k.2
    where
      go : ((s : Merged) → merge_of o given steps level s ≡ accepted t → t.stage ≤ s.stage + steps) → (g : Pairing) → (x y : Bool)
          → cond x (accepted s) (cond y (accepted (merged s.mesh s.map (s.stage + 1)))
          (◌>>=◌ (coarsened_asked given s.mesh g.map g.count) (λ next. merge_of o given steps level (joined_by next s g)))) ≡ accepted t
          → t.stage ≤ s.stage + suc steps
      go on g true y e = let h : s.stage ≡ t.stage = ap (λ (m : Merged). m.stage) (accepted_one e) in omega arith
      go on g false true e = let h : s.stage + 1 ≡ t.stage = ap (λ (m : Merged). m.stage) (accepted_one e) in omega arith
      go on g false false e =
          let a = then_split (coarsened_asked given s.mesh g.map g.count) _ e in
          let h : t.stage ≤ s.stage + 1 + steps = on (joined_by a.0 s g) a.2 in
          omega arith

  -- They never lead to more rows.
  merge_few : (n steps level : ℕ) (s : Merged) {t : Merged} → merge_of o given steps level s ≡ accepted t → Valid s.mesh.pattern
      → s.mesh.pattern.rows ≤ n → t.mesh.pattern.rows ≤ n
  merge_few n steps level s e valid h =
      (merge_keeps o given (λ (s : Merged). Valid s.mesh.pattern × (s.mesh.pattern.rows ≤ n)) (λ s z. z)
      (λ s z.
      let p = s.mesh.pattern in
      let g = paired o given s.stage s.mesh in
      let most : g.count ≤ p.rows =
      count_most (weighted_by o given s.mesh) (even s.stage) (valid_range z.0) in
      let few = z.1 in
      (coarse_valid p g.map g.count, omega arith))
      steps level s e (valid, h)).1

-- What the steps of a level of pattern p made: a proper pattern, which is the one that their map makes of p, with no more rows, by so
-- many pairings.
pub record Led (o : MultigridOptions) (p : Pattern) (stage : ℕ) (s : Merged) : Type 0 where
  pub joined : Joined p s
  pub few : s.mesh.pattern.rows ≤ p.rows
  pub staged : s.stage ≤ stage + 1 + (o.merge_levels - 1)

-- So it is from a level with a proper pattern and a map onto its aggregates.
pub led : (o : MultigridOptions) (given : Bool) (level stage : ℕ) (m : Mesh) (map : List ℕ) (count : ℕ) {s : Merged}
    → Proper m.pattern → Maps map m.pattern.rows count → Onto map m.pattern.rows count → count ≤ m.pattern.rows
    → steps_of o given level stage m map count ≡ accepted s → Led o m.pattern stage s
led o given level stage m map count {s} proper maps onto fewer e =
    let a = then_split (coarsened_asked given m map count) _ e in
    let c = (coarsened_is given m map count a.1).1 in
    let start : Joined m.pattern (merged (coarsened given m map count) map (stage + 1)) =
    record { proper = coarse_proper proper maps onto; maps = maps; onto = onto; is = refl } in
    let first : Joined m.pattern (merged a.0 map (stage + 1)) =
    subst (λ (d : Mesh). Joined m.pattern (merged d map (stage + 1))) c start in
    let few : a.0.pattern.rows ≤ m.pattern.rows = subst (λ (d : Mesh). d.pattern.rows ≤ m.pattern.rows) c fewer in
    record {
      joined = merge_proper o given m.pattern proper.valid (o.merge_levels - 1) (level + 1) (merged a.0 map (stage + 1)) a.2
          first;
      few = merge_few o given m.pattern.rows (o.merge_levels - 1) (level + 1) (merged a.0 map (stage + 1)) a.2
          first.proper.valid few;
      staged = merge_stage o given (o.merge_levels - 1) (level + 1) (merged a.0 map (stage + 1)) a.2;
    }
