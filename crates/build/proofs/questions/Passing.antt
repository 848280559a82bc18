-- What the questions tell where they passed.
-- Assumes nothing.
use Rattle.refusal.specs.declared.Refusal.{Refusal}
use Rattle.std.specs.Prelude.{Result, Ok}
use mathlib.Core.Path.{◌≡◌, sym, ◌∙◌}
use mathlib.Core.Bool.{Bool, true, cond, ◌&&◌, ◌||◌}
use mathlib.Core.List.{List}
use Prim.Native.Nat.{ℕ, ◌+◌, ◌*◌}
use lib.Dec.{eqb, leb}
use lib.ListN.{length}
use lib.Ieee.{Float}
use borrow.Author.Tests.{leb-true, ne_eqb}
use Rattle.store.proofs.store.Each.{both_l, both_r}
use Rattle.options.specs.declared.options.MultigridOptions.{MultigridOptions}
use Rattle.refusal.specs.Refusal.{invalid_controls, not_cholesky, store_too_small}
use Rattle.options.specs.Options.{within, tolerable, cap_allowed, valid_of, is_cholesky, controls_asked}
use Rattle.refusal.specs.Outcome.{passed, ask, verdict_of}
use Rattle.csr.specs.Questions.{matrix_asked}
use Rattle.csr.specs.Weights.{weights_asked}
use Rattle.csr.proofs.csr.Laws.{asked_yes, matrix_valid, matrix_rising, matrix_sizes}
use Rattle.csr.proofs.weights.Laws.{weights_length}
use Rattle.hierarchy.specs.Build.{charge, fixed_charge, holds, Input}
use Rattle.build.specs.AskingContract.{weighed_asked, arrays_asked, room_asked, asked_of, lending, ArraysAsked, Asked, ControlsFit, ChargeOk, ArraysFit, Fitting}
use Rattle.build.proofs.questions.Chains.{then_passed}

amid : (a b c d e f g h i j k l : Bool) → (a && b && c && d && e && f && g && h && i && j && k && l) ≡ true
    → (e ≡ true) × (f ≡ true) × (g ≡ true) × (h ≡ true)
amid a b c d e f g h i j k l t =
    let t11 = both_l (a && b && c && d && e && f && g && h && i && j && k) l t in
    let t10 = both_l (a && b && c && d && e && f && g && h && i && j) k t11 in
    let t9 = both_l (a && b && c && d && e && f && g && h && i) j t10 in
    let t8 = both_l (a && b && c && d && e && f && g && h) i t9 in
    let t7 = both_l (a && b && c && d && e && f && g) h t8 in
    let t6 = both_l (a && b && c && d && e && f) g t7 in
    let t5 = both_l (a && b && c && d && e) f t6 in (
      both_r (a && b && c && d) e t5,
      both_r (a && b && c && d && e) f t6,
      both_r (a && b && c && d && e && f) g t7,
      both_r (a && b && c && d && e && f && g) h t8,
    )

-- Valid controls.
controls_fit : (o : MultigridOptions) → valid_of o ≡ true → ControlsFit o
unfolding valid_of
controls_fit o e =
    let t = amid (within 1 o.max_sweeps 64) (leb o.pre_sweeps o.max_sweeps) (leb o.post_sweeps o.max_sweeps)
    (within 1 o.finest_sweeps 64) (within 1 o.coarsest_cells 256) (within 1 o.max_levels 128) (within 1 o.merge_levels 4)
    (leb o.krylov_dimension 16) (tolerable o.coarse_absolute_tolerance) (tolerable o.coarse_relative_tolerance)
    (leb 1 o.coarse_max_iterations) (cap_allowed o.max_aggregate_cells) e in
    record {
      coarsest = leb-true o.coarsest_cells 256 (both_r (leb 1 o.coarsest_cells) (leb o.coarsest_cells 256) t.0);
      merges = leb-true o.merge_levels 4 (both_r (leb 1 o.merge_levels) (leb o.merge_levels 4) t.2);
      merge = leb-true 1 o.merge_levels (both_l (leb 1 o.merge_levels) (leb o.merge_levels 4) t.2);
      krylov = leb-true o.krylov_dimension 16 t.3;
      some = leb-true 1 o.max_levels (both_l (leb 1 o.max_levels) (leb o.max_levels 128) t.1);
      levels = leb-true o.max_levels 128 (both_r (leb 1 o.max_levels) (leb o.max_levels 128) t.1);
    }

weights_fit : (entries : ℕ) (given : Bool) (weights : List Float)
    → verdict_of (cond given (weights_asked entries weights) passed) ≡ Ok tt
    → given ≡ true → length weights ≡ entries
weights_fit entries given weights e g = weights_length entries weights (rw g at e)

-- Arrays and controls that passed.
pub arrays_fit : (x : Input) → verdict_of (arrays_asked x) ≡ Ok tt → ArraysFit x
unfolding arrays_asked
arrays_fit x e =
    let a = then_passed (matrix_asked x.rows x.offsets x.columns x.values)
    (weighed_asked (length x.columns) x.given x.weights x.options) e in
    let b = then_passed (cond x.given (weights_asked (length x.columns) x.weights) passed) (controls_asked x.options) a.1 in
    let c = asked_yes (valid_of x.options) invalid_controls
    (ask (is_cholesky x.options.coarse_solver) not_cholesky passed) b.1 in
    record {
      valid = matrix_valid x.rows x.offsets x.columns x.values a.0;
      rising = matrix_rising x.rows x.offsets x.columns x.values a.0;
      sizes = matrix_sizes x.rows x.offsets x.columns x.values a.0;
      weighed = weights_fit (length x.columns) x.given x.weights b.0;
      controls = controls_fit x.options c.0;
    }

-- No charge of such a matrix wraps.
pub charge_ok : {x : Input} {v : Result Unit Refusal} → ArraysAsked x v → v ≡ Ok tt → ChargeOk x.rows (length x.columns) x.options
charge_ok {x} a p =
    let f = arrays_fit x (sym a.answer ∙ p) in
    record { few = f.sizes.few; less = f.sizes.short; controls = f.controls }

-- The stores of a build with rows that passed.
pub fitting : {words floats records : ℕ} {x : Input} {v : Result Unit Refusal} → Asked (lending words floats records) x v → v ≡ Ok tt
    → (x.rows ≡ 0 → ⊥) → Fitting words floats x
unfolding asked_of room_asked
fitting {words} {floats} {records} {x} a p some =
    let o = x.options in
    let rows = x.rows in
    let entries = length x.columns in
    let fixed = fixed_charge o rows entries in
    let all = charge (fixed.words + (5 * rows + 4 * entries + 8)) (fixed.floats + (20 * rows + 4 * entries)) in
    let l = lending words floats records in
    let s = then_passed (arrays_asked x) (room_asked o l rows entries) (sym a.answer ∙ p) in
    let c = ask (eqb rows 0 || holds l.stores all) store_too_small passed in
    let u = asked_yes (holds l.stores fixed && leb o.max_levels records) store_too_small c s.1 in
    let z = asked_yes (holds l.stores all) store_too_small passed (rw (ne_eqb rows 0 some) at u.1) in
    record {
      arrays = arrays_fit x s.0;
      heldwords = leb-true all.words words (both_l (leb all.words words) (leb all.floats floats) z.0);
      heldfloats = leb-true all.floats floats (both_r (leb all.words words) (leb all.floats floats) z.0);
    }
