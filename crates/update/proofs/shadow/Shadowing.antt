-- The levels in the shadow, and the row sums that make a hierarchy of levels.
-- Assumes nothing.
use Rattle.refusal.specs.declared.Refusal.{Refusal}
use Rattle.std.specs.Prelude.{Result}
use mathlib.Core.Path.{◌≡◌, refl, sym, ap, ◌∙◌, subst}
use mathlib.Core.Bool.{Bool, cond}
use mathlib.Core.List.{List, ◌∷◌}
use Prim.Native.Nat.{ℕ, ◌+◌, ◌-◌, ◌≤◌}
use native.Mathlib.Omega.{arith}
use lib.ListN.{length}
use lib.Ieee.{Float}
use Rattle.float.specs.Float.{zero64}
use Rattle.store.specs.Region.{part, Kept}
use Rattle.store.specs.Vector.{filled}
use Rattle.store.proofs.store.Region.{wrote_at, kept_wrote}
use Rattle.options.specs.declared.options.MultigridOptions.{MultigridOptions}
use Rattle.options.specs.declared.options.MultigridResidualNorm.{MultigridResidualNorm}
use Rattle.options.specs.declared.options.MultigridSmoother.{MultigridSmoother}
use Rattle.matrix.specs.Kernel.{kernel_at, row_sums_of}
use Rattle.hierarchy.specs.Level.{Level}
use Rattle.hierarchy.specs.Refresh.{needs_dic, needs_sums, with_sums}
use Rattle.layout.specs.Layout.{rows_at, locate, level_at, words_end, floats_end, levels_at, image_end, view_of, image_of}
use Rattle.layout.specs.Parts.{kernel_in}
use Rattle.layout.proofs.Views.{floats_to, finest_rows_lem}
use Rattle.update_levels.specs.Level.{Under}
use Rattle.update_levels.specs.Steps.{Chain, StartOk, Renewed}
use Rattle.update_levels.proofs.levels.Chains.{opened}
use Rattle.update_levels.proofs.level.Levels.{kernel_ready}
use Rattle.update_levels.proofs.levels.Renewing.{bare_ok, levels_some, floats_end_lem}
use Rattle.update.specs.ShadowContract.{sums_start, SumOk, Summed, Smoothed, ShadowOk}
use Rattle.update.proofs.shadow.Moving.{image_shift, levels_stay}

-- The levels of a shadow end as far behind its start as those of the image.
pub shadow_end : (k : ℕ) (w : List ℕ) (image : ℕ) → image_end k w 0 image ≡ image + image_end k w 0 0
shadow_end k w image = ap (image_end k w 0) (omega arith) ∙ image_shift k w 0 0 image

-- Levels with the row sums of the first are a hierarchy.
sums_are : (o : MultigridOptions) (w : List ℕ) (G : List Float) (a b : ℕ) (rest : List Level)
    → with_sums o (level_at w G a b ∷ rest) ≡ record {
      levels = level_at w G a b ∷ rest;
      sums = cond (needs_sums o.residual_norm) (row_sums_of (kernel_at (kernel_in (locate w a b)) w G)) (filled (rows_at w a) zero64);
    }
unfolding with_sums level_at kernel_at
sums_are o w G a b rest = refl

-- What the levels require.
pub renew_ready : {levels : ℕ} {w : List ℕ} {size count image : ℕ} → ShadowOk levels w size count image → StartOk w size count levels image
renew_ready ok = record { ok = record { chain = ok.chain; some = ok.some }; many = ok.many }

-- The levels, renewed for a smoother that needs DIC data or none.
pub shadowed : {levels : ℕ} {w : List ℕ} {values F G : List Float} {image : ℕ} {v : Result Unit Refusal} {kind : MultigridSmoother} {dic : Bool} → dic ≡ needs_dic kind
    → Under dic (λ o. Renewed o levels 0 w values F G 0 image v) → Smoothed kind (λ o. Renewed o levels 0 w values F G 0 image v)
shadowed needed all o by = all o (ap needs_dic by ∙ sym needed)

-- The row sums end the image, and the levels end where they start.
module _ {levels : ℕ} {w : List ℕ} {image : ℕ} (some : 1 ≤ levels) (is : image ≡ image_of levels w) where
  -- What the row sums require.
  pub sums_ready : {size : ℕ} → Chain w size levels 0 0 0 → image ≤ size → SumOk w size image
  sums_ready {size} chain room =
      let first = opened chain some in
      let opens = first.is in
      let up = floats_to (levels - 1) w (words_end w 0) (floats_end w 0 0) in
      let e = floats_end_lem w 0 0 in
      let rows = finest_rows_lem levels w some in
      record {
        place = first.place;
        kernel = kernel_ready (bare_ok (record { chain = chain; some = some })) (sums_start w image) (omega arith);
        within = omega arith;
        room = room;
      }

  -- With them the levels are a hierarchy.
  pub with_sums_lem : (o : MultigridOptions) {norm : MultigridResidualNorm} → o.residual_norm ≡ norm → {F G : List Float} → image ≤ length F
      → Summed w F G norm image → view_of levels w G 0 ≡ with_sums o (levels_at levels w F 0 0)
  unfolding view_of
  with_sums_lem o {norm} under {F} {G} room summed =
      let s : Summed w F G o.residual_norm image = subst (λ (n : MultigridResidualNorm). Summed w F G n image) (sym under) summed in
      let rows = finest_rows_lem levels w some in
      let far : image_end levels w 0 0 ≡ sums_start w image = omega arith in
      let frame : Kept (sums_start w image) F G = kept_wrote s.wrote (omega arith) in
      let opens = levels_some levels w F 0 0 some in
      let stay : levels_at levels w G 0 0 ≡ levels_at levels w F 0 0 = levels_stay frame levels w 0 0 (omega arith) in
      let sums = ap (λ (n : ℕ). part (image_end levels w 0 0) n G) rows ∙ ap (λ (n : ℕ). part n (rows_at w 0) G) far ∙ wrote_at s.wrote (omega arith) in
      let made = sums_are o w F 0 0 (levels_at (levels - 1) w F (words_end w 0) (floats_end w 0 0)) in
      rw (stay, sums, opens) (sym made)
