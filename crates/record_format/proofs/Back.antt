-- What is written is read back: every record within the sizes of a problem file is accepted, with the numbers that it was written of. Assumes nothing.
use mathlib.Core.Path.{◌≡◌, refl, ap, subst, ◌∙◌}
use mathlib.Core.Bool.{Bool, true, false}
use mathlib.Core.List.{List, [], ◌++◌, append_assoc, append-nil}
use Prim.Native.Nat.{ℕ, ◌+◌, ◌*◌, ◌≤◌}
use native.Mathlib.Omega.{arith}
use borrow.Author.Tests.{le-leb, eq-eqb}
use lib.Dec.{eqb, ltb}
use lib.ListN.{length, length-append}
use lib.Ieee.{Float, nan, binary64, to_bits}
use Rattle.refusal.specs.Outcome.{accepted}
use Rattle.options.specs.declared.options.MultigridSmoother.{MultigridSmoother}
use Rattle.options.specs.declared.options.MultigridResidualNorm.{MultigridResidualNorm}
use Rattle.options.specs.declared.options.MultigridCoarseSolver.{MultigridCoarseSolver}
use Rattle.options.specs.declared.options.MultigridOptions.{MultigridOptions}
use Rattle.export.specs.Flat.{smoother_of, residual_norm_of, coarse_solver_of}
use Rattle.export.specs.Structs.{smoother_number, residual_norm_number, coarse_solver_number}
use Rattle.record_format.specs.declared.marks.Mark.{Mark}
use Rattle.record_format.specs.Bytes.{u32_at, u64_at, float_at, words_at, floats_at, bytes4, bytes8, float_bytes, flat}
use Rattle.record_format.specs.Format.{letters_of, marked, flag_number, Matrix, Problem, controls_at, controls_ok, read_controls, controls_bytes, matrix_at, matrix_ok, read_matrix, matrix_bytes, values_ok, read_values, values_bytes, problem_at, solve_ok, read_solve, solve_bytes}
use Rattle.record_format.specs.Theorem.{Word, Long, Double, AllWords, AllDoubles, ControlsFit, MatrixFits, ProblemFits}
use Rattle.record_format.proofs.Numbers.{length_bytes4, length_bytes8, word_after, long_after, float_after, word_back, long_back, float_back, length_flat, flat_read}
use Rattle.record_format.proofs.Records.{controls_accepts, matrix_accepts, values_accepts, solve_accepts}

-- ---- marks

pub letters_marked : (m : Mark) (rest : List ℕ) → marked m (letters_of m ++ rest) ≡ true
unfolding marked
letters_marked Mark.Controls rest = refl
letters_marked Mark.Matrix rest = refl
letters_marked Mark.Weights rest = refl
letters_marked Mark.Update rest = refl
letters_marked Mark.Solve rest = refl

pub length_letters : (m : Mark) → length (letters_of m) ≡ 2
length_letters Mark.Controls = refl
length_letters Mark.Matrix = refl
length_letters Mark.Weights = refl
length_letters Mark.Update = refl
length_letters Mark.Solve = refl

-- ---- numbers behind other bytes

word_in : (before : List ℕ) (v : ℕ) (rest : List ℕ) (at : ℕ) → length before ≡ at → Word v → u32_at (before ++ (bytes4 v ++ rest)) at ≡ v
word_in before v rest at e h =
    ap (λ (p : ℕ). u32_at (before ++ (bytes4 v ++ rest)) p) (let z : at ≡ length before + 0 = omega arith in z)
    ∙ word_after before (bytes4 v ++ rest) 0 ∙ word_back v rest h

long_in : (before : List ℕ) (v : ℕ) (rest : List ℕ) (at : ℕ) → length before ≡ at → Long v → u64_at (before ++ (bytes8 v ++ rest)) at ≡ v
long_in before v rest at e h =
    ap (λ (p : ℕ). u64_at (before ++ (bytes8 v ++ rest)) p) (let z : at ≡ length before + 0 = omega arith in z)
    ∙ long_after before (bytes8 v ++ rest) 0 ∙ long_back v rest h

float_in : (before : List ℕ) (x : Float) (rest : List ℕ) (at : ℕ) → length before ≡ at → Double x → float_at (before ++ (float_bytes x ++ rest)) at ≡ x
float_in before x rest at e h =
    ap (λ (p : ℕ). float_at (before ++ (float_bytes x ++ rest)) p) (let z : at ≡ length before + 0 = omega arith in z)
    ∙ float_after before (float_bytes x ++ rest) 0 ∙ float_back x rest h

pub length_words : (l : List ℕ) → length (flat bytes4 l) ≡ 4 * length l
length_words l = length_flat 4 bytes4 u32_at 0 length_bytes4 word_after Word word_back l

pub length_floats : (l : List Float) → length (flat float_bytes l) ≡ 8 * length l
length_floats l = length_flat 8 float_bytes float_at nan (λ x. length_bytes8 (to_bits binary64 x)) float_after Double float_back l

words_in : (before l rest : List ℕ) (at n : ℕ) → length before ≡ at → length l ≡ n → AllWords l → words_at (before ++ (flat bytes4 l ++ rest)) at n ≡ l
words_in before l rest at n e f all = flat_read 4 bytes4 u32_at 0 length_bytes4 word_after Word word_back before l rest at n e f all

floats_in : (before : List ℕ) (l : List Float) (rest : List ℕ) (at n : ℕ) → length before ≡ at → length l ≡ n → AllDoubles l → floats_at (before ++ (flat float_bytes l ++ rest)) at n ≡ l
floats_in before l rest at n e f all =
    flat_read 8 float_bytes float_at nan (λ x. length_bytes8 (to_bits binary64 x)) float_after Double float_back before l rest at n e f all

floats_last : (before : List ℕ) (l : List Float) (at n : ℕ) → length before ≡ at → length l ≡ n → AllDoubles l → floats_at (before ++ flat float_bytes l) at n ≡ l
floats_last before l at n e f all =
    subst (λ (t : List ℕ). floats_at (before ++ t) at n ≡ l) (append-nil (flat float_bytes l)) (floats_in before l [] at n e f all)

-- ---- FW and UP

pub values_back : (m : Mark) (values : List Float) → length values ≤ 320 → AllDoubles values → read_values m (length values) (values_bytes m values) ≡ accepted values
unfolding values_bytes values_ok
values_back m values few all =
    let b : List ℕ = letters_of m ++ flat float_bytes values in
    let long : length b ≡ 2 + 8 * length values = length-append (letters_of m) (flat float_bytes values) ∙ (omega (arith, length_letters m, length_floats values)) in
    let ok : true ≡ values_ok m (length values) b = rw (le-leb (length values) 320 few, letters_marked m (flat float_bytes values), eq-eqb (length b) (2 + 8 * length values) long) in
    values_accepts m (length values) b ok refl ∙ ap accepted (floats_last (letters_of m) values 2 (length values) (length_letters m) refl all)

-- ---- MX

module _ (m : Matrix) (fit : MatrixFits m) where
  -- the bytes up to the offsets, up to the columns, up to the values
  abbrev head : List ℕ
  head = letters_of Mark.Matrix ++ bytes4 m.rows ++ bytes4 m.entries

  abbrev ends : List ℕ
  ends = head ++ flat bytes4 m.offsets

  abbrev places : List ℕ
  places = ends ++ flat bytes4 m.columns

  abbrev whole : List ℕ
  whole = places ++ flat float_bytes m.values

  length_head : length head ≡ 10
  length_head =
      length-append (letters_of Mark.Matrix ++ bytes4 m.rows) (bytes4 m.entries)
      ∙ (omega (arith, length-append (letters_of Mark.Matrix) (bytes4 m.rows), length_bytes4 m.rows, length_bytes4 m.entries))

  length_ends : length ends ≡ 14 + 4 * m.rows
  length_ends =
      let e : length m.offsets ≡ m.rows + 1 = fit.ends in
      length-append head (flat bytes4 m.offsets) ∙ (omega (arith, length_head, length_words m.offsets))

  length_places : length places ≡ 14 + 4 * m.rows + 4 * m.entries
  length_places =
      let e : length m.columns ≡ m.entries = fit.places in
      length-append ends (flat bytes4 m.columns) ∙ (omega (arith, length_ends, length_words m.columns))

  pub length_whole : length whole ≡ 14 + 4 * m.rows + 12 * m.entries
  length_whole =
      let e : length m.values ≡ m.entries = fit.all in
      length-append places (flat float_bytes m.values) ∙ (omega (arith, length_places, length_floats m.values))

  rows_back : u32_at whole 2 ≡ m.rows
  rows_back =
      let few : m.rows ≤ 64 = fit.few in
      ap (λ (b : List ℕ). u32_at b 2) (simp append_assoc) ∙ word_in (letters_of Mark.Matrix) m.rows (bytes4 m.entries ++ (flat bytes4 m.offsets ++ (flat bytes4 m.columns ++ flat float_bytes m.values))) 2 refl (omega arith)

  entries_back : u32_at whole 6 ≡ m.entries
  entries_back =
      let small : m.entries ≤ 320 = fit.small in
      ap (λ (b : List ℕ). u32_at b 6)
      (let e : whole ≡ (letters_of Mark.Matrix ++ bytes4 m.rows) ++ (bytes4 m.entries ++ (flat bytes4 m.offsets ++ (flat bytes4 m.columns ++ flat float_bytes m.values))) = simp append_assoc in e)
      ∙ word_in (letters_of Mark.Matrix ++ bytes4 m.rows) m.entries (flat bytes4 m.offsets ++ (flat bytes4 m.columns ++ flat float_bytes m.values)) 6
      (length-append (letters_of Mark.Matrix) (bytes4 m.rows) ∙ (omega (arith, length_bytes4 m.rows))) (omega arith)

  offsets_back : words_at whole 10 (m.rows + 1) ≡ m.offsets
  offsets_back =
      ap (λ (b : List ℕ). words_at b 10 (m.rows + 1))
      (append_assoc ends (flat bytes4 m.columns) (flat float_bytes m.values) ∙ append_assoc head (flat bytes4 m.offsets) (flat bytes4 m.columns ++ flat float_bytes m.values))
      ∙ words_in head m.offsets (flat bytes4 m.columns ++ flat float_bytes m.values) 10 (m.rows + 1) length_head fit.ends fit.starts

  columns_back : words_at whole (14 + 4 * m.rows) m.entries ≡ m.columns
  columns_back =
      ap (λ (b : List ℕ). words_at b (14 + 4 * m.rows) m.entries) (append_assoc ends (flat bytes4 m.columns) (flat float_bytes m.values))
      ∙ words_in ends m.columns (flat float_bytes m.values) (14 + 4 * m.rows) m.entries length_ends fit.places fit.neighbours

  values_at_back : floats_at whole (14 + 4 * m.rows + 4 * m.entries) m.entries ≡ m.values
  values_at_back = floats_last places m.values (14 + 4 * m.rows + 4 * m.entries) m.entries length_places fit.all fit.doubles

  matrix_passes : true ≡ matrix_ok whole
  unfolding matrix_ok
  matrix_passes =
      let mark : marked Mark.Matrix whole ≡ true =
      ap (marked Mark.Matrix) (let e : whole ≡ letters_of Mark.Matrix ++ (bytes4 m.rows ++ (bytes4 m.entries ++ (flat bytes4 m.offsets ++ (flat bytes4 m.columns ++ flat float_bytes m.values)))) = simp append_assoc in e)
      ∙ letters_marked Mark.Matrix (bytes4 m.rows ++ (bytes4 m.entries ++ (flat bytes4 m.offsets ++ (flat bytes4 m.columns ++ flat float_bytes m.values)))) in
      rw (mark, rows_back, entries_back, le-leb m.rows 64 fit.few, le-leb m.entries 320 fit.small, eq-eqb (length whole) (14 + 4 * m.rows + 12 * m.entries) length_whole)

  matrix_at_back : matrix_at whole ≡ m
  matrix_at_back = rw (rows_back, entries_back, offsets_back, columns_back, values_at_back)

-- Every matrix of a problem file is accepted, and is the one that was written.
pub matrix_back : (m : Matrix) → MatrixFits m → read_matrix (matrix_bytes m) ≡ accepted m
unfolding matrix_bytes
matrix_back m fit = matrix_accepts (matrix_bytes m) (matrix_passes m fit) refl ∙ ap accepted (matrix_at_back m fit)

-- ---- SO

module _ (rows : ℕ) (p : Problem) (fit : ProblemFits rows p) where
  -- the bytes up to the limit, up to the right-hand side, up to the start
  abbrev tolerances : List ℕ
  tolerances = letters_of Mark.Solve ++ float_bytes p.limits.absolute_tolerance ++ float_bytes p.limits.relative_tolerance

  abbrev limits : List ℕ
  limits = tolerances ++ bytes8 p.limits.max_iterations

  abbrev sides : List ℕ
  sides = limits ++ flat float_bytes p.rhs

  abbrev all : List ℕ
  all = sides ++ flat float_bytes p.start

  -- the bytes behind the limit
  abbrev vectors : List ℕ
  vectors = flat float_bytes p.rhs ++ flat float_bytes p.start

  length_one : length (letters_of Mark.Solve ++ float_bytes p.limits.absolute_tolerance) ≡ 10
  length_one =
      length-append (letters_of Mark.Solve) (float_bytes p.limits.absolute_tolerance) ∙ (omega (arith, length_bytes8 (to_bits binary64 p.limits.absolute_tolerance)))

  length_tolerances : length tolerances ≡ 18
  length_tolerances =
      length-append (letters_of Mark.Solve ++ float_bytes p.limits.absolute_tolerance) (float_bytes p.limits.relative_tolerance)
      ∙ (omega (arith, length_one, length_bytes8 (to_bits binary64 p.limits.relative_tolerance)))

  length_limits : length limits ≡ 26
  length_limits = length-append tolerances (bytes8 p.limits.max_iterations) ∙ (omega (arith, length_tolerances, length_bytes8 p.limits.max_iterations))

  length_sides : length sides ≡ 26 + 8 * rows
  length_sides = let e : length p.rhs ≡ rows = fit.sides in length-append limits (flat float_bytes p.rhs) ∙ (omega (arith, length_limits, length_floats p.rhs))

  length_all : length all ≡ 26 + 16 * rows
  length_all = let e : length p.start ≡ rows = fit.starts in length-append sides (flat float_bytes p.start) ∙ (omega (arith, length_sides, length_floats p.start))

  absolute_back : float_at all 2 ≡ p.limits.absolute_tolerance
  absolute_back =
      ap (λ (b : List ℕ). float_at b 2)
      (let e : all ≡ letters_of Mark.Solve ++ (float_bytes p.limits.absolute_tolerance ++ (float_bytes p.limits.relative_tolerance ++ (bytes8 p.limits.max_iterations ++ vectors))) = simp append_assoc in e)
      ∙ float_in (letters_of Mark.Solve) p.limits.absolute_tolerance (float_bytes p.limits.relative_tolerance ++ (bytes8 p.limits.max_iterations ++ vectors)) 2 refl fit.absolute

  relative_back : float_at all 10 ≡ p.limits.relative_tolerance
  relative_back =
      ap (λ (b : List ℕ). float_at b 10)
      (let e : all ≡ (letters_of Mark.Solve ++ float_bytes p.limits.absolute_tolerance) ++ (float_bytes p.limits.relative_tolerance ++ (bytes8 p.limits.max_iterations ++ vectors)) = simp append_assoc in e)
      ∙ float_in (letters_of Mark.Solve ++ float_bytes p.limits.absolute_tolerance) p.limits.relative_tolerance (bytes8 p.limits.max_iterations ++ vectors) 10 length_one fit.relative

  limit_back : u64_at all 18 ≡ p.limits.max_iterations
  limit_back =
      ap (λ (b : List ℕ). u64_at b 18)
      (let e : all ≡ tolerances ++ (bytes8 p.limits.max_iterations ++ vectors) = simp append_assoc in e)
      ∙ long_in tolerances p.limits.max_iterations vectors 18 length_tolerances fit.limit

  rhs_back : floats_at all 26 rows ≡ p.rhs
  rhs_back =
      ap (λ (b : List ℕ). floats_at b 26 rows) (append_assoc limits (flat float_bytes p.rhs) (flat float_bytes p.start))
      ∙ floats_in limits p.rhs (flat float_bytes p.start) 26 rows length_limits fit.sides fit.doubles

  start_back : floats_at all (26 + 8 * rows) rows ≡ p.start
  start_back = floats_last sides p.start (26 + 8 * rows) rows length_sides fit.starts fit.first

  solve_passes : true ≡ solve_ok rows all
  unfolding solve_ok
  solve_passes =
      let mark : marked Mark.Solve all ≡ true =
      ap (marked Mark.Solve) (let e : all ≡ letters_of Mark.Solve ++ (float_bytes p.limits.absolute_tolerance ++ (float_bytes p.limits.relative_tolerance ++ (bytes8 p.limits.max_iterations ++ vectors))) = simp append_assoc in e)
      ∙ letters_marked Mark.Solve (float_bytes p.limits.absolute_tolerance ++ (float_bytes p.limits.relative_tolerance ++ (bytes8 p.limits.max_iterations ++ vectors))) in
      rw (le-leb rows 64 fit.few, mark, eq-eqb (length all) (26 + 16 * rows) length_all)

  problem_at_back : problem_at rows all ≡ p
  problem_at_back = rw (absolute_back, relative_back, limit_back, rhs_back, start_back)

-- Every solve of a problem file is accepted, and is the one that was written.
pub solve_back : (rows : ℕ) (p : Problem) → ProblemFits rows p → read_solve rows (solve_bytes p) ≡ accepted p
unfolding solve_bytes
solve_back rows p fit = solve_accepts rows (solve_bytes p) (solve_passes rows p fit) refl ∙ ap accepted (problem_at_back rows p fit)

-- ---- CO

smoother_back : (s : MultigridSmoother) → smoother_of (smoother_number s) ≡ s
smoother_back MultigridSmoother.GaussSeidel = refl
smoother_back MultigridSmoother.SymmetricGaussSeidel = refl
smoother_back MultigridSmoother.DicGaussSeidel = refl

smoother_few : (s : MultigridSmoother) → ltb (smoother_number s) 3 ≡ true
smoother_few MultigridSmoother.GaussSeidel = refl
smoother_few MultigridSmoother.SymmetricGaussSeidel = refl
smoother_few MultigridSmoother.DicGaussSeidel = refl

norm_back : (n : MultigridResidualNorm) → residual_norm_of (residual_norm_number n) ≡ n
norm_back MultigridResidualNorm.AbsoluteL2 = refl
norm_back MultigridResidualNorm.NormalizedL1 = refl

norm_few : (n : MultigridResidualNorm) → ltb (residual_norm_number n) 2 ≡ true
norm_few MultigridResidualNorm.AbsoluteL2 = refl
norm_few MultigridResidualNorm.NormalizedL1 = refl

coarse_back : (c : MultigridCoarseSolver) → coarse_solver_of (coarse_solver_number c) ≡ c
coarse_back MultigridCoarseSolver.PcgDic = refl
coarse_back MultigridCoarseSolver.Cholesky = refl

coarse_few : (c : MultigridCoarseSolver) → ltb (coarse_solver_number c) 2 ≡ true
coarse_few MultigridCoarseSolver.PcgDic = refl
coarse_few MultigridCoarseSolver.Cholesky = refl

flag_back : (t : Bool) → eqb (flag_number t) 1 ≡ t
flag_back true = refl
flag_back false = refl

flag_few : (t : Bool) → ltb (flag_number t) 2 ≡ true
flag_few true = refl
flag_few false = refl

-- The bytes of controls are 110, and at each place stand those of its field: by computing.
controls_passes : (o : MultigridOptions) → true ≡ controls_ok (controls_bytes o)
unfolding controls_ok controls_bytes marked flat bytes8 bytes4
controls_passes o =
    rw (smoother_few o.smoother, norm_few o.residual_norm, coarse_few o.coarse_solver, flag_few o.scale_correction)

controls_at_back : (o : MultigridOptions) → ControlsFit o → controls_at (controls_bytes o) ≡ o
unfolding controls_bytes flat bytes8 bytes4 u64_at u32_at
controls_at_back o fit =
    rw (
      smoother_back o.smoother,
      norm_back o.residual_norm,
      long_back o.pre_sweeps [] (fit.counts 0 (omega arith)),
      long_back o.post_sweeps [] (fit.counts 1 (omega arith)),
      long_back o.finest_sweeps [] (fit.counts 2 (omega arith)),
      long_back o.sweep_level_multiplier [] (fit.counts 3 (omega arith)),
      long_back o.max_sweeps [] (fit.counts 4 (omega arith)),
      long_back o.coarsest_cells [] (fit.counts 5 (omega arith)),
      long_back o.max_levels [] (fit.counts 6 (omega arith)),
      long_back o.merge_levels [] (fit.counts 7 (omega arith)),
      long_back o.krylov_dimension [] (fit.counts 8 (omega arith)),
      coarse_back o.coarse_solver,
      float_back o.coarse_absolute_tolerance [] fit.absolute,
      float_back o.coarse_relative_tolerance [] fit.relative,
      long_back o.coarse_max_iterations [] fit.limit,
      flag_back o.scale_correction,
      long_back o.max_aggregate_cells [] fit.cap,
    )

-- All controls are accepted, and are those that were written.
pub controls_back : (o : MultigridOptions) → ControlsFit o → read_controls (controls_bytes o) ≡ accepted o
controls_back o fit = controls_accepts (controls_bytes o) (controls_passes o) refl ∙ ap accepted (controls_at_back o fit)
