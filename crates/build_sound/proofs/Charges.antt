-- The charges of question 9 hold the image of the levels, its shadow and the scratch of a cycle.
-- Assumes nothing.
use mathlib.Core.Path.{◌≡◌, refl, ap, ◌∙◌}
use mathlib.Core.Bool.{true}
use mathlib.Core.List.{List}
use Prim.Native.Nat.{ℕ, zero, suc, ◌+◌, ◌*◌, ◌≤◌}
use native.Mathlib.Nat.{mul-le-mul, suc-mul, mul-suc, add-mul}
use native.Mathlib.Omega.{arith}
use lib.ListN.{length}
use lib.Ieee.{Float}
use Rattle.cholesky.specs.Triangle.{tri}
use Rattle.pattern.specs.Pattern.{Pattern, entries}
use Rattle.faces.specs.Faces.{coupled_count_of}
use Rattle.faces.proofs.faces.Laws.{faces_few, coupled_few}
use Rattle.hierarchy.specs.Level.{Shape, Level}
use Rattle.layout.specs.Layout.{rows_at, coupled_at, entries_at, faces_at, words_end, floats_end, levels_at, image_end, words_fit}
use Rattle.layout.proofs.Views.{finest_most}
use Rattle.index_check.specs.Sound.{scratch_end, cycle_start}
use Rattle.build_sound.specs.Laid.{Laid, last, inner, charges_of}
use Rattle.build_sound.proofs.Reading.{rows_told, entries_told, faces_told, coupled_told, coupled_none, view_first, shape_told, fit_split}

-- Twice a packed triangle of c rows.
tri_twice : (c : ℕ) → 2 * tri c ≡ c * c + c
unfolding tri
tri_twice zero = refl
tri_twice (suc c) =
    let on = tri_twice c in
    let square : suc c * suc c ≡ c * c + c + suc c = mul-suc (suc c) c ∙ ap (λ (x : ℕ). x + suc c) (suc-mul c c) in
    omega arith

-- It is at most the square of a bound of c, and c.
tri_most : (c most : ℕ) → c ≤ most → 2 * tri c ≤ most * most + c
tri_most c most h =
    let less : c * c ≤ most * most = mul-le-mul {n₁ = c} {m₁ = c} {n₂ = most} {m₂ = most} h h in
    omega (arith, tri_twice c)

-- Where the floats of a level end, by its sizes.
floats_told : (w : List ℕ) (a b : ℕ) {rows entries faces coupled : ℕ} → rows_at w a ≡ rows → entries_at w a ≡ entries → faces_at w a ≡ faces
    → coupled_at w a ≡ coupled → floats_end w a b ≡ b + entries + faces + rows + rows + rows + tri coupled
unfolding floats_end
floats_told w a b r e f c = rw (← r, ← e, ← f, ← c)

-- Twice the image of laid levels and their five vectors of scratch lie in their charges and the square of the coarsest rows.
pub charges_hold : {most : ℕ} {p : Pattern} {levels : List Level} → Laid most p levels → (w : List ℕ) (F : List Float) (a b s : ℕ)
    → levels_at (length levels) w F a b ≡ levels → words_fit (length levels) w a ≡ true
    → 2 * image_end (length levels) w a b + scratch_end (length levels) w a s ≤ 2 * b + s + charges_of levels + most * most
unfolding image_end scratch_end charges_of
charges_hold {most} {p} (last {l = l} small few is) w F a b s view fits =
    let here = shape_told w F a b (view_first w F a b 0 view).0 is in
    let ends = (fit_split 0 w a fits).0 in
    let r = rows_told w a small here in
    let floats = floats_told w a b r (entries_told w a small here) (faces_told w a small here) (coupled_told w a small here ends) in
    let tall : l.shape.pattern.rows ≡ p.rows = ap (λ (q : Shape). q.pattern.rows) is in
    let long : entries l.shape.pattern ≡ entries p = ap (λ (q : Shape). entries q.pattern) is in
    omega (arith, faces_few p, coupled_few p, tri_most (coupled_count_of p) most few)
charges_hold {most} {p} (inner {l = l} {rest = rest} small maps is on) w F a b s view fits =
    let v = view_first w F a b (length rest) view in
    let here = shape_told w F a b v.0 is in
    let f = fit_split (length rest) w a fits in
    let r = rows_told w a small here in
    let floats = floats_told w a b r (entries_told w a small here) (faces_told w a small here) (coupled_none w a small here) in
    let tall : l.shape.pattern.rows ≡ p.rows = ap (λ (q : Shape). q.pattern.rows) is in
    let long : entries l.shape.pattern ≡ entries p = ap (λ (q : Shape). entries q.pattern) is in
    let none = tri_twice 0 in
    let deeper = charges_hold on w F (words_end w a) (floats_end w a b) (s + 5 * rows_at w a) v.1 f.1 in
    omega (arith, faces_few p)

-- The fixed charge and those of laid levels hold the image, its shadow and the scratch of a solve.
pub solve_fits : {most : ℕ} {p : Pattern} {levels : List Level} → Laid most p levels → (w : List ℕ) (F : List Float) (krylov : ℕ) {size : ℕ}
    → levels_at (length levels) w F 0 0 ≡ levels → words_fit (length levels) w 0 ≡ true → rows_at w 0 ≡ p.rows
    → (12 + 2 * krylov) * p.rows + 8 * entries p + most * most + charges_of levels ≤ size
    → scratch_end (length levels) w 0 (cycle_start krylov (length levels) w) ≤ size
solve_fits {most} {p} {levels} laid w F krylov {size} view fits tall paid =
    let k = length levels in
    let n = p.rows in
    let hold = charges_hold laid w F 0 0 (cycle_start krylov k w) view fits in
    let vectors : (2 + 2 * krylov) * rows_at w 0 ≡ (2 + 2 * krylov) * n = ap (λ (r : ℕ). (2 + 2 * krylov) * r) tall in
    let more : 12 + 2 * krylov ≡ 10 + (2 + 2 * krylov) = omega arith in
    let split : (12 + 2 * krylov) * n ≡ 10 * n + (2 + 2 * krylov) * n = ap (λ (c : ℕ). c * n) more ∙ add-mul 10 (2 + 2 * krylov) n in
    omega (arith, finest_most k w)
