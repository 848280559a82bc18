-- A record is read where its test passes, and refused by 32 where it does not. Assumes nothing.
use Rattle.std.specs.Prelude.{Ok, Err}
use mathlib.Core.Path.{◌≡◌, refl, sym, subst, ◌∙◌}
use mathlib.Core.Bool.{Bool, true, false, ◌&&◌}
use mathlib.Core.List.{List}
use Prim.Native.Nat.{ℕ, ◌+◌, ◌*◌, ◌≤◌, ◌<◌}
use native.Mathlib.Omega.{arith}
use borrow.Author.Tests.{leb-true, le-leb, lt-leb}
use lib.Dec.{eqb, leb}
use lib.ListN.{length}
use lib.Ieee.{Float}
use Rattle.refusal.specs.Outcome.{Outcome, accepted, refused}
use Rattle.store.specs.Region.{Wrote}
use Rattle.store.proofs.store.Each.{both_l, both_r}
use Rattle.options.specs.declared.options.MultigridOptions.{MultigridOptions}
use Rattle.options.specs.declared.options.MultigridSmoother.{MultigridSmoother}
use Rattle.options.specs.declared.options.MultigridResidualNorm.{MultigridResidualNorm}
use Rattle.options.specs.declared.options.MultigridCoarseSolver.{MultigridCoarseSolver}
use Rattle.export.specs.Flat.{smoother_of, residual_norm_of, coarse_solver_of}
use Rattle.solver.specs.declared.solver.LinearSolverOptions.{LinearSolverOptions}
use Rattle.record_format.specs.declared.marks.Mark.{Mark}
use Rattle.record_format.specs.Bytes.{u32_at, u64_at, float_at, floats_at}
use Rattle.record_format.specs.Format.{bad_record, marked, Matrix, Problem, controls_ok, controls_at, read_controls, sizes_ok, matrix_length, matrix_ok, matrix_at, read_matrix, values_ok, read_values, limits_at, problem_at, solve_ok, read_solve}
use Rattle.record_format.specs.Answers.{controlsAnswer, MatrixIs, ValuesAre, ProblemIs}
use Rattle.record_format.specs.Steps.{ByteIs, WordIs, Sizes, MatrixLaid, VectorsLaid}

-- ---- CO

-- The controls that were read field by field are those at their places.
pub controls_is : (b : List ℕ) {s norm solver flag p₁ p₂ p₃ p₄ p₅ p₆ p₇ p₈ p₉ limit cap : ℕ} {smoother : MultigridSmoother} {measure : MultigridResidualNorm} {coarse : MultigridCoarseSolver} {x y : Float}
    → ByteIs b 2 s → smoother ≡ smoother_of s → ByteIs b 3 norm → measure ≡ residual_norm_of norm
    → p₁ ≡ u64_at b 4 → p₂ ≡ u64_at b 12 → p₃ ≡ u64_at b 20 → p₄ ≡ u64_at b 28 → p₅ ≡ u64_at b 36 → p₆ ≡ u64_at b 44 → p₇ ≡ u64_at b 52 → p₈ ≡ u64_at b 60 → p₉ ≡ u64_at b 68
    → ByteIs b 76 solver → coarse ≡ coarse_solver_of solver → x ≡ float_at b 77 → y ≡ float_at b 85 → limit ≡ u64_at b 93 → ByteIs b 101 flag → cap ≡ u64_at b 102
    → (record {
      smoother = smoother;
      residual_norm = measure;
      pre_sweeps = p₁;
      post_sweeps = p₂;
      finest_sweeps = p₃;
      sweep_level_multiplier = p₄;
      max_sweeps = p₅;
      coarsest_cells = p₆;
      max_levels = p₇;
      merge_levels = p₈;
      krylov_dimension = p₉;
      coarse_solver = coarse;
      coarse_absolute_tolerance = x;
      coarse_relative_tolerance = y;
      coarse_max_iterations = limit;
      scale_correction = eqb flag 1;
      max_aggregate_cells = cap;
    }) ≡ controls_at b
controls_is b i e j f a₁ a₂ a₃ a₄ a₅ a₆ a₇ a₈ a₉ k g h₁ h₂ u l v =
    rw (e, i.is, f, j.is, a₁, a₂, a₃, a₄, a₅, a₆, a₇, a₈, a₉, g, k.is, h₁, h₂, u, l.is, v)

-- Bytes that pass are the controls at their places.
pub controls_accepts : (b : List ℕ) {t : Bool} → t ≡ controls_ok b → t ≡ true → read_controls b ≡ accepted (controls_at b)
unfolding read_controls
controls_accepts b told e = rw (sym told ∙ e)

pub controls_yes : (b : List ℕ) {t : Bool} {c : MultigridOptions} → t ≡ controls_ok b → t ≡ true → c ≡ controls_at b → Ok c ≡ controlsAnswer (read_controls b)
unfolding read_controls
controls_yes b told e f = rw (sym told ∙ e, f)

pub controls_no : (b : List ℕ) {t : Bool} → t ≡ controls_ok b → t ≡ false → Err bad_record ≡ controlsAnswer (read_controls b)
unfolding read_controls
controls_no b told e = rw (sym told ∙ e)

-- ---- MX

-- An MX record has sizes of a problem file.
pub matrix_sizes : {b : List ℕ} {t : Bool} {rows entries : ℕ} → t ≡ matrix_ok b → t ≡ true → WordIs b 2 rows → WordIs b 6 entries → Sizes rows entries
unfolding matrix_ok
matrix_sizes {b} {t} told e r n =
    let both : sizes_ok (u32_at b 2) (u32_at b 6) ≡ true = both_r (marked Mark.Matrix b) _ (both_l _ (eqb (length b) (matrix_length (u32_at b 2) (u32_at b 6))) (sym told ∙ e)) in
    let few : u32_at b 2 ≤ 64 = leb-true (u32_at b 2) 64 (both_l (leb (u32_at b 2) 64) (leb (u32_at b 6) 320) both) in
    let small : u32_at b 6 ≤ 320 = leb-true (u32_at b 6) 320 (both_r (leb (u32_at b 2) 64) (leb (u32_at b 6) 320) both) in
    record { few = omega arith; small = omega arith }

-- Bytes that pass are the matrix at its places.
pub matrix_accepts : (b : List ℕ) {t : Bool} → t ≡ matrix_ok b → t ≡ true → read_matrix b ≡ accepted (matrix_at b)
unfolding read_matrix
matrix_accepts b told e = rw (sym told ∙ e)

matrix_refuses : (b : List ℕ) {t : Bool} → t ≡ matrix_ok b → t ≡ false → read_matrix b ≡ refused bad_record
unfolding read_matrix
matrix_refuses b told e = rw (sym told ∙ e)

pub matrix_yes : {b O O' C C' : List ℕ} {F F' : List Float} {t : Bool} {rows entries : ℕ} → t ≡ matrix_ok b → t ≡ true → WordIs b 2 rows → WordIs b 6 entries
    → MatrixLaid b rows entries O O' C C' F F' → MatrixIs (read_matrix b) O O' C C' F F' (Ok (record { rows = rows; entries = entries }))
matrix_yes {b} {O} {O'} {C} {C'} {F} {F'} {t} {rows} {entries} told e r n laid =
    subst (λ (o : Outcome Matrix). MatrixIs o O O' C C' F F' (Ok (record { rows = rows; entries = entries }))) (sym (matrix_accepts b told e))
    (record {
      answer = rw (r.is, n.is);
      offsets = rw (← r.is) laid.offsets;
      columns = rw (← r.is, ← n.is) laid.columns;
      values = rw (← r.is, ← n.is) laid.values;
    })

pub matrix_no : (b : List ℕ) {O C : List ℕ} {F : List Float} {t : Bool} → t ≡ matrix_ok b → t ≡ false → MatrixIs (read_matrix b) O O C C F F (Err bad_record)
matrix_no b {O} {C} {F} told e =
    subst (λ (o : Outcome Matrix). MatrixIs o O O C C F F (Err bad_record)) (sym (matrix_refuses b told e))
    (record { answer = refl; offsets = refl; columns = refl; values = refl })

-- ---- FW and UP

pub values_ok_is : (m : Mark) (entries : ℕ) (b : List ℕ) {r : Bool} → entries ≤ 320 → r ≡ marked m b → r && eqb (length b) (2 + 8 * entries) ≡ values_ok m entries b
unfolding values_ok
values_ok_is m entries b few e = rw (le-leb entries 320 few, e)

pub values_ok_no : (m : Mark) (entries : ℕ) (b : List ℕ) → 320 < entries → false ≡ values_ok m entries b
unfolding values_ok
values_ok_no m entries b many = rw (lt-leb entries 320 many)

-- Such a record is of a problem file's number of entries.
pub values_few : (m : Mark) (entries : ℕ) (b : List ℕ) {t : Bool} → t ≡ values_ok m entries b → t ≡ true → entries ≤ 320
unfolding values_ok
values_few m entries b told e = leb-true entries 320 (both_l _ (marked m b) (both_l _ (eqb (length b) (2 + 8 * entries)) (sym told ∙ e)))

-- Bytes that pass are the floats behind the mark.
pub values_accepts : (m : Mark) (entries : ℕ) (b : List ℕ) {t : Bool} → t ≡ values_ok m entries b → t ≡ true → read_values m entries b ≡ accepted (floats_at b 2 entries)
unfolding read_values
values_accepts m entries b told e = rw (sym told ∙ e)

values_refuses : (m : Mark) (entries : ℕ) (b : List ℕ) {t : Bool} → t ≡ values_ok m entries b → t ≡ false → read_values m entries b ≡ refused bad_record
unfolding read_values
values_refuses m entries b told e = rw (sym told ∙ e)

pub values_yes : (m : Mark) (entries : ℕ) (b : List ℕ) {F F' : List Float} {t : Bool} → t ≡ values_ok m entries b → t ≡ true
    → Wrote 0 entries (floats_at b 2 entries) F F' → ValuesAre (read_values m entries b) F F' (Ok tt)
values_yes m entries b {F} {F'} told e laid =
    subst (λ (o : Outcome (List Float)). ValuesAre o F F' (Ok tt)) (sym (values_accepts m entries b told e)) (record { answer = refl; values = laid.is })

pub values_no : (m : Mark) (entries : ℕ) (b : List ℕ) {F : List Float} {t : Bool} → t ≡ values_ok m entries b → t ≡ false
    → ValuesAre (read_values m entries b) F F (Err bad_record)
values_no m entries b {F} told e =
    subst (λ (o : Outcome (List Float)). ValuesAre o F F (Err bad_record)) (sym (values_refuses m entries b told e)) (record { answer = refl; values = refl })

-- ---- SO

pub solve_ok_is : (rows : ℕ) (b : List ℕ) {r : Bool} → rows ≤ 64 → r ≡ marked Mark.Solve b → r && eqb (length b) (26 + 16 * rows) ≡ solve_ok rows b
unfolding solve_ok
solve_ok_is rows b few e = rw (le-leb rows 64 few, e)

pub solve_ok_no : (rows : ℕ) (b : List ℕ) → 64 < rows → false ≡ solve_ok rows b
unfolding solve_ok
solve_ok_no rows b many = rw (lt-leb rows 64 many)

-- Such a record is of a problem file's number of rows.
pub solve_few : (rows : ℕ) (b : List ℕ) {t : Bool} → t ≡ solve_ok rows b → t ≡ true → rows ≤ 64
unfolding solve_ok
solve_few rows b told e = leb-true rows 64 (both_l _ (marked Mark.Solve b) (both_l _ (eqb (length b) (26 + 16 * rows)) (sym told ∙ e)))

-- Bytes that pass are the solve at its places.
pub solve_accepts : (rows : ℕ) (b : List ℕ) {t : Bool} → t ≡ solve_ok rows b → t ≡ true → read_solve rows b ≡ accepted (problem_at rows b)
unfolding read_solve
solve_accepts rows b told e = rw (sym told ∙ e)

solve_refuses : (rows : ℕ) (b : List ℕ) {t : Bool} → t ≡ solve_ok rows b → t ≡ false → read_solve rows b ≡ refused bad_record
unfolding read_solve
solve_refuses rows b told e = rw (sym told ∙ e)

pub solve_yes : (rows : ℕ) (b : List ℕ) {R R' S S' : List Float} {t : Bool} {l : LinearSolverOptions} → t ≡ solve_ok rows b → t ≡ true
    → VectorsLaid b rows R R' S S' → l ≡ limits_at b → ProblemIs (read_solve rows b) R R' S S' (Ok l)
solve_yes rows b {R} {R'} {S} {S'} {t} {l} told e laid f =
    subst (λ (o : Outcome Problem). ProblemIs o R R' S S' (Ok l)) (sym (solve_accepts rows b told e))
    (record { answer = rw f; rhs = laid.rhs; start = laid.start })

pub solve_no : (rows : ℕ) (b : List ℕ) {R S : List Float} {t : Bool} → t ≡ solve_ok rows b → t ≡ false → ProblemIs (read_solve rows b) R R S S (Err bad_record)
solve_no rows b {R} {S} told e =
    subst (λ (o : Outcome Problem). ProblemIs o R R S S (Err bad_record)) (sym (solve_refuses rows b told e))
    (record { answer = refl; rhs = refl; start = refl })
