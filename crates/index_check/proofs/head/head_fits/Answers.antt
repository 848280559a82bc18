-- `head::head_fits` meets its contract.
use mathlib.Core.Path.{refl, sym, ◌∙◌}
use Rattle.index_check.proofs.sound.Laws.{head_told, head_sizes}
use Rattle.index_check.proofs.head.Laws.{fits_no, fits_last, fits_inner}
use native.Mathlib.Omega.{arith}
use Rattle.index_check.proofs.head.head_fits.Goals as goal

pub returns-then-not-head_sound : goal.returns-then-not-head_sound
returns-then-not-head_sound c = fits_no _ _ c.head_sound.ensures c.args.more c.if-not-head_sound.true

pub overflow_add-result : goal.overflow_add-result
overflow_add-result c = omega
    (arith, (head_sizes _ _ refl refl refl (head_told _ _ (sym c.head_sound.ensures ∙ c.if-not-head_sound.false))).0)

pub offset_bounds-w-a : goal.offset_bounds-w-a
offset_bounds-w-a c = omega
    (arith, (head_sizes _ _ refl refl refl (head_told _ _ (sym c.head_sound.ensures ∙ c.if-not-head_sound.false))).0)

pub bounds-w-a : goal.bounds-w-a
bounds-w-a c = omega
    (arith, (head_sizes _ _ refl refl refl (head_told _ _ (sym c.head_sound.ensures ∙ c.if-not-head_sound.false))).0)

pub returns-then-more-eq0 : goal.returns-then-more-eq0
returns-then-more-eq0 c = fits_last _ _ c.head_sound.ensures c.args.more
    c.if-not-head_sound.false c.if-more-eq0.true

pub overflow_add-result-2 : goal.overflow_add-result-2
overflow_add-result-2 c = omega
    (arith, (head_sizes _ _ refl refl refl (head_told _ _ (sym c.head_sound.ensures ∙ c.if-not-head_sound.false))).0)

pub offset_bounds-w-a-2 : goal.offset_bounds-w-a-2
offset_bounds-w-a-2 c = omega
    (arith, (head_sizes _ _ refl refl refl (head_told _ _ (sym c.head_sound.ensures ∙ c.if-not-head_sound.false))).0)

pub bounds-w-a-2 : goal.bounds-w-a-2
bounds-w-a-2 c = omega
    (arith, (head_sizes _ _ refl refl refl (head_told _ _ (sym c.head_sound.ensures ∙ c.if-not-head_sound.false))).0)

pub returns : goal.returns
returns c = fits_inner _ _ c.head_sound.ensures c.args.more
    c.if-not-head_sound.false c.if-more-eq0.false
