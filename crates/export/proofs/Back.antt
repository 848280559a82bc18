-- Structs and what they stand for: a struct out of range is refused, every controls have a struct, and the handle that a build gives to C
-- is read back as the build's own.
-- Assumes nothing.
use Rattle.std.specs.Prelude.{Ok}
use mathlib.Core.Path.{◌≡◌, refl}
use mathlib.Core.Bool.{Bool, true, false, cond, ◌&&◌}
use lib.Dec.{leb}
use lib.Ieee.{round, of_bits, lt}
use Rattle.refusal.specs.Refusal.{invalid_controls}
use Rattle.refusal.specs.Outcome.{refused, passed}
use Rattle.float.specs.Float.{is_finite}
use Rattle.options.specs.declared.options.Handle.{Handle}
use Rattle.options.specs.declared.options.MultigridOptions.{MultigridOptions}
use Rattle.options.specs.declared.options.MultigridSmoother.{MultigridSmoother}
use Rattle.options.specs.declared.options.MultigridResidualNorm.{MultigridResidualNorm}
use Rattle.options.specs.declared.options.MultigridCoarseSolver.{MultigridCoarseSolver}
use Rattle.options.specs.Options.{default_options, within, tolerable, cap_allowed, valid_of, controls_asked}
use Rattle.export.specs.Flat.{is_set, smoother_of, residual_norm_of, coarse_solver_of}
use Rattle.export.specs.Structs.{in_range, controls_of, handle_of, smoother_number, residual_norm_number, coarse_solver_number, struct_of, with_cholesky, default_struct, built_struct}
use Rattle.export.specs.declared.structs.OptionsForC.{OptionsForC}

-- ---- out of range

-- One test of eight that fails is enough.
fails : (a b c d e f g : Bool) → (a && false && b && c && d && e && f && g) ≡ false
fails true b c d e f g = refl
fails false b c d e f g = refl

-- The controls of a struct out of range are not valid,
pub out_of_range_invalid : (o : OptionsForC) → in_range o ≡ false → valid_of (controls_of o) ≡ false
unfolding controls_of valid_of
out_of_range_invalid o e = rw e (fails (
    within 1 o.max_sweeps 64 && leb o.pre_sweeps o.max_sweeps && leb o.post_sweeps o.max_sweeps
    && within 1 o.finest_sweeps 64 && within 1 o.coarsest_cells 256)
    (within 1 o.merge_levels 4) (leb o.krylov_dimension 16) (tolerable o.coarse_absolute_tolerance)
    (tolerable o.coarse_relative_tolerance) (leb 1 o.coarse_max_iterations) (cap_allowed o.max_aggregate_cells))

-- so that question 6 refuses them: an enum's number or a yes or no out of range is refused by 6.
pub out_of_range : (o : OptionsForC) → in_range o ≡ false → controls_asked (controls_of o) ≡ refused invalid_controls
out_of_range o e = rw (out_of_range_invalid o e)

-- ---- there and back

smoother_back : (s : MultigridSmoother) → smoother_of (smoother_number s) ≡ s
smoother_back MultigridSmoother.GaussSeidel = refl
smoother_back MultigridSmoother.SymmetricGaussSeidel = refl
smoother_back MultigridSmoother.DicGaussSeidel = refl

norm_back : (n : MultigridResidualNorm) → residual_norm_of (residual_norm_number n) ≡ n
norm_back MultigridResidualNorm.AbsoluteL2 = refl
norm_back MultigridResidualNorm.NormalizedL1 = refl

solver_back : (s : MultigridCoarseSolver) → coarse_solver_of (coarse_solver_number s) ≡ s
solver_back MultigridCoarseSolver.PcgDic = refl
solver_back MultigridCoarseSolver.Cholesky = refl

scale_back : (b : Bool) → is_set (cond b 1 0) ≡ b
scale_back true = refl
scale_back false = refl

smoother_near : (s : MultigridSmoother) → leb (smoother_number s) 2 ≡ true
smoother_near MultigridSmoother.GaussSeidel = refl
smoother_near MultigridSmoother.SymmetricGaussSeidel = refl
smoother_near MultigridSmoother.DicGaussSeidel = refl

norm_near : (n : MultigridResidualNorm) → leb (residual_norm_number n) 1 ≡ true
norm_near MultigridResidualNorm.AbsoluteL2 = refl
norm_near MultigridResidualNorm.NormalizedL1 = refl

solver_near : (s : MultigridCoarseSolver) → leb (coarse_solver_number s) 1 ≡ true
solver_near MultigridCoarseSolver.PcgDic = refl
solver_near MultigridCoarseSolver.Cholesky = refl

scale_near : (b : Bool) → leb (cond b 1 0) 1 ≡ true
scale_near true = refl
scale_near false = refl

-- The struct of controls is in range.
pub struct_in_range : (o : MultigridOptions) → in_range (struct_of o) ≡ true
unfolding in_range struct_of
struct_in_range o =
    rw (
      smoother_near o.smoother,
      norm_near o.residual_norm,
      solver_near o.coarse_solver,
      scale_near o.scale_correction,
    )

-- The struct of controls stands for them.
pub controls_back : (o : MultigridOptions) → controls_of (struct_of o) ≡ o
unfolding controls_of struct_of
controls_back o =
    rw (
      struct_in_range o,
      smoother_back o.smoother,
      norm_back o.residual_norm,
      solver_back o.coarse_solver,
      scale_back o.scale_correction,
    )

-- The defaults of C stand for those of options.rs with Cholesky, and pass questions 6 and 7.
pub defaults_back : controls_of default_struct ≡ with_cholesky default_options
unfolding default_struct
defaults_back = controls_back (with_cholesky default_options)

pub defaults_pass : controls_asked (controls_of default_struct) ≡ passed
unfolding default_options valid_of is_finite round of_bits lt
defaults_pass = rw defaults_back

-- The struct that a build answers with stands for the handle of that build.
pub handle_back : (o : OptionsForC) (h : Handle) → h.options ≡ controls_of o → handle_of (built_struct o (Ok h)).hierarchy ≡ h
unfolding handle_of
handle_back o h e = rw (← e)
