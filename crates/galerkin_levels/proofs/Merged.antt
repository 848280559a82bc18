-- Merged steps from whole values: each matrix that they make is exactly the Galerkin product of the level with the map so far. So the
-- matrix that is summed afresh from the level by the composed map finds nothing to repair.
-- Assumes nothing.
use mathlib.Core.Path.{◌≡◌, refl, sym, ap, ◌∙◌, subst}
use mathlib.Core.Bool.{Bool}
use Prim.Native.Nat.{ℕ, ◌+◌}
use lib.IntN.{ℤ}
use Rattle.store.specs.Region.{at, idx}
use Rattle.options.specs.declared.options.MultigridOptions.{MultigridOptions}
use Rattle.refusal.specs.Outcome.{accepted}
use Rattle.galerkin.specs.Whole.{Whole}
use Rattle.galerkin.specs.Product.{galerkin_product}
use Rattle.pattern.specs.Pattern.{Pattern, row_of, column_of, coarse, Maps}
use Rattle.galerkin_theorem.specs.Theorem.{WholeValues, fine_matrix, coarse_matrix}
use Rattle.hierarchy.specs.Build.{Mesh, Merged, merged, weighted_by, paired, coarsened, merge_of}
use Rattle.hierarchy.specs.Steps.{even}
use Rattle.hierarchy.specs.Proper.{Proper}
use Rattle.hierarchy.proofs.Twice.{compose_maps}
use Rattle.hierarchy.proofs.Accepted.{joined_by, merge_keeps}
use Rattle.hierarchy.proofs.Proper.{coarse_proper, valid_range, paired_maps, paired_onto}
use Rattle.galerkin_levels.specs.Steps.{Matrix, MergedIs}
use Rattle.galerkin_levels.proofs.Dense.{dense_at, dense_none}
use Rattle.galerkin_levels.proofs.Down.{coarse_whole, coarse_dense}
use Rattle.galerkin_levels.proofs.Finest.{product_twice}

module _ (o : MultigridOptions) (given : Bool) (stage : ℕ) (m : Mesh) (f : Proper m.pattern) where
  -- The pairing of a matrix is a map of its rows,
  maps_of : Maps (paired o given stage m).map m.pattern.rows (paired o given stage m).count
  maps_of = paired_maps (weighted_by o given m) (even stage) (valid_range f.valid)

  -- and the coarse pattern is proper.
  proper_of : Proper (coarse m.pattern (paired o given stage m).map (paired o given stage m).count)
  proper_of = coarse_proper f maps_of (paired_onto (weighted_by o given m) (even stage) (valid_range f.valid))

-- What merged steps keep: a proper pattern, a map of the level's rows, and whole values of exactly the Galerkin product with that map.
record Stepped (p : Pattern) (z : ℕ → ℤ) (s : Merged) : Type 0 where
  proper : Proper s.mesh.pattern
  maps : Maps s.map p.rows s.mesh.pattern.rows
  wholes : ℕ → ℤ
  whole : WholeValues s.mesh.pattern s.mesh.values wholes
  is : fine_matrix s.mesh.pattern wholes ≡ coarse_matrix p s.map z

-- Such values are exactly that product.
stepped_is : {p : Pattern} (z : ℕ → ℤ) {s : Merged} → Stepped p z s → MergedIs p z s
stepped_is {p} z {s} t =
    let q = s.mesh.pattern in
    let f = t.proper in
    let entry : (i j : ℕ) → fine_matrix q t.wholes i j ≡ coarse_matrix p s.map z i j = λ i j. ap (λ (B : Matrix). B i j) t.is in
    record {
      exact = record {
        inside = λ e h. subst (Whole (at s.mesh.values e))
            (sym (dense_at q t.wholes f.valid f.rising e (row_of q e) (column_of q e) h refl refl) ∙ entry (row_of q e) (column_of q e))
            (t.whole.whole e h);
        outside = λ i j none. sym (entry i j) ∙ dense_none q t.wholes i j none;
      };
    }

module _ (given : Bool) (m : Mesh) (z : ℕ → ℤ) (f : Proper m.pattern) (fine : WholeValues m.pattern m.values z) where
  -- It is so before any merged step, of the first coarse matrix of a level,
  stepped_first : (o : MultigridOptions) (stage : ℕ) → let g = paired o given stage m in
      Stepped m.pattern z (merged (coarsened given m g.map g.count) g.map (stage + 1))
  stepped_first o stage =
      let maps = maps_of o given stage m f in
      record { proper = proper_of o given stage m f; maps = maps; wholes = _; whole = coarse_whole f maps fine; is = coarse_dense f maps fine }

  -- and after one merged step more.
  stepped_on : (o : MultigridOptions) (s : Merged) → Stepped m.pattern z s → let g = paired o given s.stage s.mesh in
      Stepped m.pattern z (joined_by (coarsened given s.mesh g.map g.count) s g)
  stepped_on o s t =
      let g = paired o given s.stage s.mesh in
      let maps = maps_of o given s.stage s.mesh t.proper in
      rw t.maps.size (record {
        proper = proper_of o given s.stage s.mesh t.proper;
        maps = compose_maps t.maps maps;
        wholes = _;
        whole = coarse_whole t.proper maps t.whole;
        is = coarse_dense t.proper maps t.whole ∙ ap (galerkin_product s.mesh.pattern.rows (idx g.map)) t.is
            ∙ product_twice f.valid t.maps g.map z;
      })

  -- Whatever their number, merged steps make exactly the Galerkin product of the level with the map so far.
  pub merged_galerkin : (o : MultigridOptions) (stage steps level : ℕ) {t : Merged} → let g = paired o given stage m in
      merge_of o given steps level (merged (coarsened given m g.map g.count) g.map (stage + 1)) ≡ accepted t → MergedIs m.pattern z t
  merged_galerkin o stage steps level e =
      let g = paired o given stage m in
      stepped_is z (merge_keeps o given (Stepped m.pattern z)
      (λ s t. record { proper = t.proper; maps = t.maps; wholes = t.wholes; whole = t.whole; is = t.is }) (stepped_on o) steps level
      (merged (coarsened given m g.map g.count) g.map (stage + 1)) e (stepped_first o stage))
