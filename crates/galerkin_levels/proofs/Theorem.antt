-- The Galerkin theorem of a whole hierarchy: where the finest values are whole, mirrors are equal and absolute values sum to at most 2^53,
-- every level of an accepted build, and of an accepted update, is exactly the Galerkin product of the level above, and of the finest.
-- Nothing else is asked: questions 2, 3, 10 and 11 of the build gave the rest.
-- Assumes nothing.
use mathlib.Core.Path.{◌≡◌, sym, ap, ◌∙◌, subst}
use mathlib.Core.List.{List, [], ◌∷◌}
use Prim.Native.Nat.{ℕ, ◌≤◌}
use native.Mathlib.Omega.{arith}
use lib.IntN.{ℤ}
use lib.Ieee.{Float}
use Rattle.options.specs.declared.options.MultigridOptions.{MultigridOptions}
use Rattle.refusal.specs.Outcome.{accepted}
use Rattle.pattern.specs.Pattern.{Pattern, Valid}
use Rattle.galerkin_theorem.specs.Theorem.{WholeValues}
use Rattle.hierarchy.specs.Refresh.{refresh_of}
use Rattle.hierarchy.specs.Level.{Shape, Level, Hierarchy}
use Rattle.hierarchy.specs.Build.{Lent, Input, pattern_in, build_of}
use Rattle.hierarchy.specs.First.{shapes_in}
use Rattle.hierarchy.proofs.Accepted.{build_built}
use Rattle.hierarchy.proofs.First.{build_first}
use Rattle.hierarchy.proofs.Depth.{levels_kept}
use Rattle.update_levels.specs.Update.{update_of}
use Rattle.update.proofs.refresh.First.{update_first}
use Rattle.build_sound.specs.Laid.{Laid}
use Rattle.build_sound.proofs.Sound.{levels_laid}
use Rattle.galerkin_levels.specs.Levels.{ExactLevels}
use Rattle.galerkin_levels.proofs.Steps.{refresh_galerkin}
use Rattle.galerkin_levels.proofs.Finest.{galerkin_finest}

-- The pattern of laid levels is valid.
laid_valid : {most : ℕ} {p : Pattern} {levels : List Level} → Laid most p levels → Valid p
laid_valid (Laid.last small few is) = small.proper.valid
laid_valid (Laid.inner small maps is on) = small.proper.valid

-- Levels with the shapes of laid ones are laid.
laid_same : {most : ℕ} {p : Pattern} {levels : List Level} → Laid most p levels → (others : List Level) → shapes_in others ≡ shapes_in levels → Laid most p others
laid_same (Laid.last small few is) [] e = absurd (let z : ◌≡◌ {A = ℕ} 0 1 = cc in omega arith)
laid_same (Laid.last {l = l} small few is) (k ∷ []) e = let same : k.shape ≡ l.shape = cc in Laid.last small few (same ∙ is)
laid_same (Laid.last small few is) (k ∷ j ∷ others) e = absurd (let z : ◌≡◌ {A = ℕ} 0 1 = cc in omega arith)
laid_same (Laid.inner small maps is on) [] e = absurd (let z : ◌≡◌ {A = ℕ} 0 1 = cc in omega arith)
laid_same (Laid.inner {l = l} {rest = rest} small maps is on) (k ∷ others) e =
    let same : k.shape ≡ l.shape = cc in
    let after : shapes_in others ≡ shapes_in rest = cc in
    Laid.inner small maps (same ∙ is) (laid_same on others after)

-- The levels that a refresh of laid levels makes of whole values.
refresh_exact : (o : MultigridOptions) {most : ℕ} {p : Pattern} {levels : List Level} {values : List Float} {z : ℕ → ℤ} → Laid most p levels
    → refresh_of o 0 (shapes_in levels) values ≡ accepted levels → WholeValues p values z → ExactLevels p z levels
refresh_exact o {z = z} laid e fine =
    let g = refresh_galerkin o 0 laid e fine in
    record { steps = g; finest = galerkin_finest z (laid_valid laid) laid g }

-- Of a matrix with rows; one of none has no levels.
module _ (lent : Lent) (x : Input) {h : Hierarchy} (some : 1 ≤ x.rows) (built : build_of lent x ≡ accepted h) where
  -- The Galerkin theorem of an accepted build.
  pub build_galerkin : (z : ℕ → ℤ) → WholeValues (pattern_in x) x.values z → ExactLevels (pattern_in x) z h.levels
  build_galerkin z fine =
      let f = build_first lent x built in
      let same : f.levels ≡ h.levels = sym (levels_kept x.options f.levels) ∙ sym (ap (λ (k : Hierarchy). k.levels) f.is) in
      refresh_exact x.options (levels_laid lent x (build_built lent x some built))
      (subst (λ (ls : List Level). refresh_of x.options 0 (shapes_in ls) x.values ≡ accepted ls) same f.second) fine

  -- The Galerkin theorem of an accepted update of its levels, whatever the values before: an update leaves their shapes.
  pub update_galerkin : (o : MultigridOptions) (offsets columns : List ℕ) (values : List Float) {k : Hierarchy}
      → update_of o (shapes_in h.levels) offsets columns values ≡ accepted k → (z : ℕ → ℤ) → WholeValues (pattern_in x) values z
      → ExactLevels (pattern_in x) z k.levels
  update_galerkin o offsets columns values {k} e z fine =
      let f = update_first o (shapes_in h.levels) offsets columns values e in
      let same : f.levels ≡ k.levels = sym (levels_kept o f.levels) ∙ sym (ap (λ (j : Hierarchy). j.levels) f.is) in
      let shapes : shapes_in k.levels ≡ shapes_in h.levels = ap shapes_in (sym same) ∙ f.shapes in
      refresh_exact o (laid_same (levels_laid lent x (build_built lent x some built)) k.levels shapes)
      (ap (λ (s : List Shape). refresh_of o 0 s values) shapes ∙ f.second ∙ ap accepted same) fine
