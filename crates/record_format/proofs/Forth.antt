-- What was read is written as it stood: the bytes of an accepted record are those of its numbers, NaNs apart. Assumes nothing.
use mathlib.Core.Path.{◌≡◌, refl, sym, ap, subst, ◌∙◌}
use mathlib.Core.Bool.{Bool, true, false, ◌&&◌}
use mathlib.Core.List.{List, [], ◌∷◌, ◌++◌}
use Prim.Native.Nat.{ℕ, zero, suc, ◌+◌, ◌*◌, ◌≤◌, ◌<◌}
use native.Mathlib.Omega.{arith}
use borrow.Author.Tests.{ltb-true, eqb-true}
use lib.Dec.{eqb, leb, ltb}
use lib.ListN.{length, take}
use lib.Seq.{take-length}
use lib.Ieee.{Float, nan}
use Rattle.refusal.specs.Outcome.{accepted, ask}
use Rattle.refusal.proofs.Outcome.{accepted_one}
use Rattle.store.specs.Region.{part}
use Rattle.store.specs.Vector.{tab}
use Rattle.store.proofs.store.Each.{both_l, both_r}
use Rattle.store.proofs.store.Vector.{get_d_tab, length_tab}
use Rattle.options.specs.declared.options.MultigridOptions.{MultigridOptions}
use Rattle.export.specs.Flat.{smoother_of, residual_norm_of, coarse_solver_of}
use Rattle.export.specs.Structs.{smoother_number, residual_norm_number, coarse_solver_number}
use Rattle.record_format.specs.declared.marks.Mark.{Mark}
use Rattle.record_format.specs.Bytes.{byte_at, u32_at, u64_at, float_at, words_at, floats_at, bytes4, bytes8, float_bytes, flat}
use Rattle.record_format.specs.Format.{bad_record, letters_of, marked, flag_number, controls_at, controls_ok, read_controls, counts_of, controls_bytes, Matrix, Problem, sizes_ok, matrix_length, matrix_at, matrix_ok, read_matrix, matrix_bytes, values_ok, read_values, values_bytes, problem_at, solve_ok, read_solve, solve_bytes}
use Rattle.record_format.specs.Theorem.{AllBytes, Number, AllNumbers}
use Rattle.record_format.proofs.Numbers.{part_join, part_tab, word_forth, long_forth, float_forth, flat_forth}

-- Of a question that ends in an acceptance, the answer was yes.
ask_told : {A : Type 0} (t : Bool) (a v : A) → ask t bad_record (accepted a) ≡ accepted v → (t ≡ true) × (v ≡ a)
ask_told true a v e = (refl, accepted_one (sym e))
ask_told false a v e = absurd (let none : ◌≡◌ {A = ℕ} 0 1 = cc in omega arith)

-- the whole of a list is a part of it
part_whole : (b : List ℕ) (n : ℕ) → length b ≡ n → part 0 n b ≡ b
unfolding part
part_whole b n e = ap (λ (k : ℕ). take k b) (sym e) ∙ take-length b

-- neighbouring parts are one, of a length that is told
join_to : (b : List ℕ) (a n m all middle : ℕ) → a + n ≡ middle → n + m ≡ all → part a n b ++ part middle m b ≡ part a all b
join_to b a n m all middle e f = ap (λ (k : ℕ). part a n b ++ part k m b) (sym e) ∙ part_join a n m b ∙ ap (λ (k : ℕ). part a k b) f

two : (m : Mark) → letters_of m ≡ byte_at (letters_of m) 0 ∷ byte_at (letters_of m) 1 ∷ []
two Mark.Controls = refl
two Mark.Matrix = refl
two Mark.Weights = refl
two Mark.Update = refl
two Mark.Solve = refl

-- parts that are equal, one behind another
both : {a a' b b' : List ℕ} → a ≡ a' → b ≡ b' → a ++ b ≡ a' ++ b'
both e f = cc

-- A record starts with the letters of its mark.
letters_forth : (m : Mark) (b : List ℕ) → marked m b ≡ true → 2 ≤ length b → letters_of m ≡ part 0 2 b
unfolding marked tab
letters_forth m b e fits =
    let x : byte_at b 0 ≡ byte_at (letters_of m) 0 = eqb-true (byte_at b 0) (byte_at (letters_of m) 0) (both_l (eqb (byte_at b 0) (byte_at (letters_of m) 0)) (eqb (byte_at b 1) (byte_at (letters_of m) 1)) e) in
    let y : byte_at b 1 ≡ byte_at (letters_of m) 1 = eqb-true (byte_at b 1) (byte_at (letters_of m) 1) (both_r (eqb (byte_at b 0) (byte_at (letters_of m) 0)) (eqb (byte_at b 1) (byte_at (letters_of m) 1)) e) in
    two m ∙ ap (λ (n : ℕ). n ∷ byte_at (letters_of m) 1 ∷ []) (sym x) ∙ ap (λ (n : ℕ). byte_at b 0 ∷ n ∷ []) (sym y) ∙ sym (part_tab 0 2 b fits)

-- floats that were read and are no NaNs
floats_forth : (b : List ℕ) → AllBytes b → (at n : ℕ) → at + 8 * n ≤ length b → AllNumbers (floats_at b at n) → flat float_bytes (floats_at b at n) ≡ part at (8 * n) b
floats_forth b all at n fits numbers =
    flat_forth 8 float_bytes float_at b Number (λ p h number. float_forth b p all h number) at n fits
    (λ k h. subst Number (get_d_tab (λ j. float_at b (at + 8 * j)) n k nan h) (numbers k (let l : length (floats_at b at n) ≡ n = length_tab (λ j. float_at b (at + 8 * j)) n in omega arith)))

words_forth : (b : List ℕ) → AllBytes b → (at n : ℕ) → at + 4 * n ≤ length b → flat bytes4 (words_at b at n) ≡ part at (4 * n) b
words_forth b all at n fits = flat_forth 4 bytes4 u32_at b (λ _. Unit {0}) (λ p h _. word_forth b p all h) at n fits (λ k h. tt)

-- ---- FW and UP

pub values_forth : (m : Mark) (entries : ℕ) (b : List ℕ) (values : List Float) → AllBytes b → read_values m entries b ≡ accepted values → AllNumbers values → values_bytes m values ≡ b
unfolding read_values values_ok values_bytes
values_forth m entries b values all e numbers =
    let told = ask_told (values_ok m entries b) (floats_at b 2 entries) values e in
    let long : length b ≡ 2 + 8 * entries = eqb-true (length b) (2 + 8 * entries) (both_r (leb entries 320 && marked m b) (eqb (length b) (2 + 8 * entries)) told.0) in
    let mark : marked m b ≡ true = both_r (leb entries 320) (marked m b) (both_l (leb entries 320 && marked m b) (eqb (length b) (2 + 8 * entries)) told.0) in
    let numbers' : AllNumbers (floats_at b 2 entries) = subst AllNumbers told.1 numbers in
    ap (λ (v : List Float). letters_of m ++ flat float_bytes v) told.1
    ∙ ap (λ (l : List ℕ). l ++ flat float_bytes (floats_at b 2 entries)) (letters_forth m b mark (omega arith))
    ∙ ap (λ (l : List ℕ). part 0 2 b ++ l) (floats_forth b all 2 entries (omega arith) numbers')
    ∙ part_join 0 2 (8 * entries) b
    ∙ part_whole b (2 + 8 * entries) long

-- ---- MX

-- the parts of an MX record are all of it
joined : (b : List ℕ) (rows entries : ℕ) → length b ≡ 14 + 4 * rows + 12 * entries
    → part 0 2 b ++ part 2 4 b ++ part 6 4 b ++ part 10 (4 * (rows + 1)) b ++ part (14 + 4 * rows) (4 * entries) b ++ part (14 + 4 * rows + 4 * entries) (8 * entries) b ≡ b
joined b rows entries long =
    ap (λ (l : List ℕ). l ++ part 6 4 b ++ part 10 (4 * (rows + 1)) b ++ part (14 + 4 * rows) (4 * entries) b ++ part (14 + 4 * rows + 4 * entries) (8 * entries) b) (part_join 0 2 4 b)
    ∙ ap (λ (l : List ℕ). l ++ part 10 (4 * (rows + 1)) b ++ part (14 + 4 * rows) (4 * entries) b ++ part (14 + 4 * rows + 4 * entries) (8 * entries) b) (part_join 0 6 4 b)
    ∙ ap (λ (l : List ℕ). l ++ part (14 + 4 * rows) (4 * entries) b ++ part (14 + 4 * rows + 4 * entries) (8 * entries) b) (join_to b 0 10 (4 * (rows + 1)) (14 + 4 * rows) 10 (omega arith) (omega arith))
    ∙ ap (λ (l : List ℕ). l ++ part (14 + 4 * rows + 4 * entries) (8 * entries) b) (join_to b 0 (14 + 4 * rows) (4 * entries) (14 + 4 * rows + 4 * entries) (14 + 4 * rows) (omega arith) (omega arith))
    ∙ join_to b 0 (14 + 4 * rows + 4 * entries) (8 * entries) (14 + 4 * rows + 12 * entries) (14 + 4 * rows + 4 * entries) (omega arith) (omega arith)
    ∙ part_whole b (14 + 4 * rows + 12 * entries) long

-- the arrays at their places are written as they stand
laid : (b : List ℕ) → AllBytes b → (rows entries : ℕ) → length b ≡ 14 + 4 * rows + 12 * entries → marked Mark.Matrix b ≡ true → u32_at b 2 ≡ rows → u32_at b 6 ≡ entries
    → AllNumbers (floats_at b (14 + 4 * rows + 4 * entries) entries)
    → letters_of Mark.Matrix ++ bytes4 (u32_at b 2) ++ bytes4 (u32_at b 6) ++ flat bytes4 (words_at b 10 (rows + 1)) ++ flat bytes4 (words_at b (14 + 4 * rows) entries)
    ++ flat float_bytes (floats_at b (14 + 4 * rows + 4 * entries) entries) ≡ b
laid b all rows entries long mark r n numbers =
    both (both (both (both (both (letters_forth Mark.Matrix b mark (omega arith)) (word_forth b 2 all (omega arith))) (word_forth b 6 all (omega arith))) (words_forth b all 10 (rows + 1) (omega arith)))
    (words_forth b all (14 + 4 * rows) entries (omega arith))) (floats_forth b all (14 + 4 * rows + 4 * entries) entries (omega arith) numbers)
    ∙ joined b rows entries long

pub matrix_forth : (b : List ℕ) (m : Matrix) → AllBytes b → read_matrix b ≡ accepted m → AllNumbers m.values → matrix_bytes m ≡ b
unfolding read_matrix matrix_ok matrix_bytes
matrix_forth b m all e numbers =
    let told = ask_told (matrix_ok b) (matrix_at b) m e in
    let rows : ℕ = u32_at b 2 in
    let entries : ℕ = u32_at b 6 in
    let long : length b ≡ 14 + 4 * rows + 12 * entries = eqb-true (length b) (matrix_length rows entries) (both_r (marked Mark.Matrix b && sizes_ok rows entries) (eqb (length b) (matrix_length rows entries)) told.0) in
    let mark : marked Mark.Matrix b ≡ true = both_l (marked Mark.Matrix b) (sizes_ok rows entries) (both_l (marked Mark.Matrix b && sizes_ok rows entries) (eqb (length b) (matrix_length rows entries)) told.0) in
    let numbers' : AllNumbers (floats_at b (14 + 4 * rows + 4 * entries) entries) = subst (λ (n : Matrix). AllNumbers n.values) told.1 numbers in
    ap matrix_bytes told.1 ∙ laid b all rows entries long mark refl refl numbers'

-- ---- SO

pub solve_forth : (rows : ℕ) (b : List ℕ) (p : Problem) → AllBytes b → read_solve rows b ≡ accepted p
    → Number p.limits.absolute_tolerance → Number p.limits.relative_tolerance → AllNumbers p.rhs → AllNumbers p.start → solve_bytes p ≡ b
unfolding read_solve solve_ok solve_bytes
solve_forth rows b p all e absolute relative rhs start =
    let told = ask_told (solve_ok rows b) (problem_at rows b) p e in
    let long : length b ≡ 26 + 16 * rows = eqb-true (length b) (26 + 16 * rows) (both_r (leb rows 64 && marked Mark.Solve b) (eqb (length b) (26 + 16 * rows)) told.0) in
    let mark : marked Mark.Solve b ≡ true = both_r (leb rows 64) (marked Mark.Solve b) (both_l (leb rows 64 && marked Mark.Solve b) (eqb (length b) (26 + 16 * rows)) told.0) in
    let absolute' : Number (float_at b 2) = subst (λ (q : Problem). Number q.limits.absolute_tolerance) told.1 absolute in
    let relative' : Number (float_at b 10) = subst (λ (q : Problem). Number q.limits.relative_tolerance) told.1 relative in
    let rhs' : AllNumbers (floats_at b 26 rows) = subst (λ (q : Problem). AllNumbers q.rhs) told.1 rhs in
    let start' : AllNumbers (floats_at b (26 + 8 * rows) rows) = subst (λ (q : Problem). AllNumbers q.start) told.1 start in
    ap solve_bytes told.1
    ∙ both (both (both (both (both (letters_forth Mark.Solve b mark (omega arith)) (float_forth b 2 all (omega arith) absolute')) (float_forth b 10 all (omega arith) relative')) (long_forth b 18 all (omega arith)))
    (floats_forth b all 26 rows (omega arith) rhs')) (floats_forth b all (26 + 8 * rows) rows (omega arith) start')
    ∙ ap (λ (l : List ℕ). l ++ part 10 8 b ++ part 18 8 b ++ part 26 (8 * rows) b ++ part (26 + 8 * rows) (8 * rows) b) (part_join 0 2 8 b)
    ∙ ap (λ (l : List ℕ). l ++ part 18 8 b ++ part 26 (8 * rows) b ++ part (26 + 8 * rows) (8 * rows) b) (part_join 0 10 8 b)
    ∙ ap (λ (l : List ℕ). l ++ part 26 (8 * rows) b ++ part (26 + 8 * rows) (8 * rows) b) (part_join 0 18 8 b)
    ∙ ap (λ (l : List ℕ). l ++ part (26 + 8 * rows) (8 * rows) b) (part_join 0 26 (8 * rows) b)
    ∙ join_to b 0 (26 + 8 * rows) (8 * rows) (26 + 16 * rows) (26 + 8 * rows) (omega arith) (omega arith)
    ∙ part_whole b (26 + 16 * rows) long

-- ---- CO

smoother_forth : (n : ℕ) → n < 3 → smoother_number (smoother_of n) ≡ n
smoother_forth zero h = refl
smoother_forth (suc zero) h = refl
smoother_forth (suc (suc zero)) h = refl
smoother_forth (suc (suc (suc n))) h = absurd (omega arith)

norm_forth : (n : ℕ) → n < 2 → residual_norm_number (residual_norm_of n) ≡ n
norm_forth zero h = refl
norm_forth (suc zero) h = refl
norm_forth (suc (suc n)) h = absurd (omega arith)

coarse_forth : (n : ℕ) → n < 2 → coarse_solver_number (coarse_solver_of n) ≡ n
coarse_forth zero h = refl
coarse_forth (suc zero) h = refl
coarse_forth (suc (suc n)) h = absurd (omega arith)

flag_forth : (n : ℕ) → n < 2 → flag_number (eqb n 1) ≡ n
flag_forth zero h = refl
flag_forth (suc zero) h = refl
flag_forth (suc (suc n)) h = absurd (omega arith)

-- What the test of a CO record tells.
record ControlsTold (b : List ℕ) : Type 0 where
  pub long : length b ≡ 110
  pub mark : marked Mark.Controls b ≡ true
  pub smoother : byte_at b 2 < 3
  pub norm : byte_at b 3 < 2
  pub coarse : byte_at b 76 < 2
  pub flag : byte_at b 101 < 2

controls_told : (b : List ℕ) → controls_ok b ≡ true → ControlsTold b
unfolding controls_ok
controls_told b e =
    let t₁ = eqb (length b) 110 in let t₂ = marked Mark.Controls b in let t₃ = ltb (byte_at b 2) 3 in
    let t₄ = ltb (byte_at b 3) 2 in let t₅ = ltb (byte_at b 76) 2 in let t₆ = ltb (byte_at b 101) 2 in
    let e₅ : t₁ && t₂ && t₃ && t₄ && t₅ ≡ true = both_l (t₁ && t₂ && t₃ && t₄ && t₅) t₆ e in
    let e₄ : t₁ && t₂ && t₃ && t₄ ≡ true = both_l (t₁ && t₂ && t₃ && t₄) t₅ e₅ in
    let e₃ : t₁ && t₂ && t₃ ≡ true = both_l (t₁ && t₂ && t₃) t₄ e₄ in
    let e₂ : t₁ && t₂ ≡ true = both_l (t₁ && t₂) t₃ e₃ in
    record {
      long = eqb-true (length b) 110 (both_l t₁ t₂ e₂);
      mark = both_r t₁ t₂ e₂;
      smoother = ltb-true (byte_at b 2) 3 (both_r (t₁ && t₂) t₃ e₃);
      norm = ltb-true (byte_at b 3) 2 (both_r (t₁ && t₂ && t₃) t₄ e₄);
      coarse = ltb-true (byte_at b 76) 2 (both_r (t₁ && t₂ && t₃ && t₄) t₅ e₅);
      flag = ltb-true (byte_at b 101) 2 (both_r (t₁ && t₂ && t₃ && t₄ && t₅) t₆ e);
    }

-- the parts of a CO record are all of it
controls_joined : (b : List ℕ) → length b ≡ 110 → part 0 2 b ++ part 2 2 b ++ part 4 72 b ++ part 76 1 b ++ part 77 8 b ++ part 85 8 b ++ part 93 8 b ++ part 101 1 b ++ part 102 8 b ≡ b
controls_joined b long =
    ap (λ (l : List ℕ). l ++ part 4 72 b ++ part 76 1 b ++ part 77 8 b ++ part 85 8 b ++ part 93 8 b ++ part 101 1 b ++ part 102 8 b) (part_join 0 2 2 b)
    ∙ ap (λ (l : List ℕ). l ++ part 76 1 b ++ part 77 8 b ++ part 85 8 b ++ part 93 8 b ++ part 101 1 b ++ part 102 8 b) (part_join 0 4 72 b)
    ∙ ap (λ (l : List ℕ). l ++ part 77 8 b ++ part 85 8 b ++ part 93 8 b ++ part 101 1 b ++ part 102 8 b) (part_join 0 76 1 b)
    ∙ ap (λ (l : List ℕ). l ++ part 85 8 b ++ part 93 8 b ++ part 101 1 b ++ part 102 8 b) (part_join 0 77 8 b)
    ∙ ap (λ (l : List ℕ). l ++ part 93 8 b ++ part 101 1 b ++ part 102 8 b) (part_join 0 85 8 b)
    ∙ ap (λ (l : List ℕ). l ++ part 101 1 b ++ part 102 8 b) (part_join 0 93 8 b)
    ∙ ap (λ (l : List ℕ). l ++ part 102 8 b) (part_join 0 101 1 b)
    ∙ part_join 0 102 8 b
    ∙ part_whole b 110 long

counts_forth : (b : List ℕ) → AllBytes b → length b ≡ 110 → flat bytes8 (counts_of (controls_at b)) ≡ part 4 72 b
unfolding tab
counts_forth b all long = flat_forth 8 bytes8 u64_at b (λ _. Unit {0}) (λ p h _. long_forth b p all h) 4 9 (omega arith) (λ k h. tt)

controls_laid : (b : List ℕ) → AllBytes b → ControlsTold b → Number (float_at b 77) → Number (float_at b 85) → controls_bytes (controls_at b) ≡ b
unfolding controls_bytes tab
controls_laid b all told absolute relative =
    let long : length b ≡ 110 = told.long in
    let kinds : smoother_number (smoother_of (byte_at b 2)) ∷ residual_norm_number (residual_norm_of (byte_at b 3)) ∷ [] ≡ part 2 2 b =
    ap (λ (n : ℕ). n ∷ residual_norm_number (residual_norm_of (byte_at b 3)) ∷ []) (smoother_forth (byte_at b 2) told.smoother)
    ∙ ap (λ (n : ℕ). byte_at b 2 ∷ n ∷ []) (norm_forth (byte_at b 3) told.norm) ∙ sym (part_tab 2 2 b (omega arith)) in
    let coarse : coarse_solver_number (coarse_solver_of (byte_at b 76)) ∷ [] ≡ part 76 1 b =
    ap (λ (n : ℕ). n ∷ []) (coarse_forth (byte_at b 76) told.coarse) ∙ sym (part_tab 76 1 b (omega arith)) in
    let flag : flag_number (eqb (byte_at b 101) 1) ∷ [] ≡ part 101 1 b =
    ap (λ (n : ℕ). n ∷ []) (flag_forth (byte_at b 101) told.flag) ∙ sym (part_tab 101 1 b (omega arith)) in
    both (both (both (both (both (both (both (both (letters_forth Mark.Controls b told.mark (omega arith)) kinds) (counts_forth b all long)) coarse) (float_forth b 77 all (omega arith) absolute))
    (float_forth b 85 all (omega arith) relative)) (long_forth b 93 all (omega arith))) flag) (long_forth b 102 all (omega arith))
    ∙ controls_joined b long

pub controls_forth : (b : List ℕ) (o : MultigridOptions) → AllBytes b → read_controls b ≡ accepted o → Number o.coarse_absolute_tolerance → Number o.coarse_relative_tolerance
    → controls_bytes o ≡ b
unfolding read_controls
controls_forth b o all e absolute relative =
    let told = ask_told (controls_ok b) (controls_at b) o e in
    ap controls_bytes told.1
    ∙ controls_laid b all (controls_told b told.0) (subst (λ (p : MultigridOptions). Number p.coarse_absolute_tolerance) told.1 absolute)
    (subst (λ (p : MultigridOptions). Number p.coarse_relative_tolerance) told.1 relative)
