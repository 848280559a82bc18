-- What the calls answer to options whose enums' numbers or yes or no are out of range: a build refuses by 6, after 1 to 5; the others, by
-- a handle with such options, refuse by 19, whatever the stores.
-- Assumes nothing.
use mathlib.Core.Path.{◌≡◌}
use mathlib.Core.Bool.{false, cond}
use mathlib.Core.List.{List}
use Prim.Native.Nat.{ℕ}
use Rattle.refusal.specs.Refusal.{invalid_controls}
use Rattle.refusal.specs.Outcome.{Outcome, refused, passed, ◌>>=◌}
use Rattle.options.specs.Options.{valid_of}
use Rattle.csr.specs.Questions.{matrix_asked}
use Rattle.csr.specs.Weights.{weights_asked}
use Rattle.pattern.specs.Pattern.{entries}
use Rattle.hierarchy.specs.Level.{Hierarchy}
use Rattle.hierarchy.specs.Build.{Lent, Input, pattern_in, build_of}
use Rattle.index_check.specs.Sound.{empty_sound, handle_sound, filled_sound, sound_of}
use Rattle.export.specs.declared.structs.OptionsForC.{OptionsForC}
use Rattle.export.specs.declared.structs.HierarchyForC.{HierarchyForC}
use Rattle.export.specs.Structs.{in_range, controls_of, handle_of}
use Rattle.export.proofs.Back.{out_of_range_invalid}

-- questions 1 to 5 of a build, and then a refusal by 6
abbrev invalid_after : Input → Outcome Hierarchy
invalid_after x = do
  _ ← matrix_asked x.rows x.offsets x.columns x.values
  _ ← cond x.given (weights_asked (entries (pattern_in x)) x.weights) passed
  refused invalid_controls

-- A build with such options refuses by 6, if not by one of 1 to 5.
pub build_out_of_range : (l : Lent) (x : Input) (o : OptionsForC) → x.options ≡ controls_of o → in_range o ≡ false → build_of l x ≡ invalid_after x
unfolding build_of
build_out_of_range l x o is e =
    let invalid : valid_of x.options ≡ false = rw is (out_of_range_invalid o e) in
    rw invalid

-- A handle with such options is that of no stores.
pub handle_out_of_range : (h : HierarchyForC) (w : List ℕ) (size records : ℕ) → in_range h.options ≡ false
    → sound_of (handle_of h) w size records ≡ false
unfolding handle_of sound_of empty_sound filled_sound handle_sound
handle_out_of_range h w size records e = rw (out_of_range_invalid h.options e)
