-- A record is written part behind part, where its lengths pass; else nothing is. Assumes nothing.
use Rattle.std.specs.Prelude.{Result, Ok, Err}
use mathlib.Core.Path.{◌≡◌, refl, sym, ap, subst, ◌∙◌}
use mathlib.Core.Bool.{Bool, true, false}
use mathlib.Core.List.{List, [], ◌∷◌, ◌++◌, append_assoc}
use Prim.Native.Nat.{ℕ, ◌+◌, ◌-◌, ◌*◌, ◌≤◌, ◌<◌}
use native.Mathlib.Omega.{arith}
use borrow.Author.Tests.{leb-true, ltb-true, eqb-true, le-leb, lt-leb, lt-ltb, le-ltb, eq-eqb, ne_eqb}
use lib.Dec.{eqb, leb, ltb}
use lib.ListN.{length, get_or}
use lib.Ieee.{Float}
use Rattle.refusal.specs.Outcome.{Outcome, accepted, refused, passed, ask, verdict_of}
use Rattle.refusal.specs.Refusal.{too_large, bad_offsets, wrong_length, store_too_small}
use Rattle.refusal.specs.declared.Refusal.{Refusal}
use Rattle.refusal.proofs.Outcome.{never, passes, refuses, then_accepted, then_refused}
use Rattle.store.specs.Region.{Wrote}
use Rattle.options.specs.declared.options.MultigridOptions.{MultigridOptions}
use Rattle.solver.specs.declared.solver.LinearSolverOptions.{LinearSolverOptions}
use Rattle.export.specs.Structs.{smoother_number, residual_norm_number, coarse_solver_number}
use Rattle.record_format.specs.declared.marks.Mark.{Mark}
use Rattle.record_format.specs.Bytes.{bytes4, bytes8, float_bytes, flat}
use Rattle.record_format.specs.Format.{letters_of, flag_number, counts_of, controls_bytes, matrix_length, matrix_bytes, values_length, values_bytes, solve_length, solve_bytes}
use Rattle.record_format.specs.Steps.{MatrixSpace, ValuesSpace, SolveSpace}
use Rattle.record_format.specs.Writing.{matrix_of, matrix_room, values_room, solve_room, write_controls, write_matrix, write_values, write_solve, WrittenIs}
use Rattle.record_format.proofs.Written.{wrote_next}

-- the same length, said another way
wrote_size : {A : Type 0} {b n m : ℕ} {v F G : List A} → n ≡ m → Wrote b n v F G → Wrote b m v F G
wrote_size {A} {b} {n} {m} {v} {F} {G} e w = subst (λ (k : ℕ). Wrote b k v F G) e w

-- the same part, said another way
wrote_as : {A : Type 0} {b n : ℕ} {u v F G : List A} → u ≡ v → Wrote b n u F G → Wrote b n v F G
wrote_as {A} {b} {n} {u} {v} {F} {G} e w = subst (λ (l : List A). Wrote b n l F G) e w

-- ---- what is asked

passed_ask : (b : Bool) (q : Refusal) (rest : Outcome Unit) → ask b q rest ≡ passed → (b ≡ true) × (rest ≡ passed)
passed_ask true q rest e = (refl, e)
passed_ask false q rest e = never {o = refused q} refl e

module _ (offsets columns values size : ℕ) where
  pub matrix_rows : 65537 < offsets → Err too_large ≡ verdict_of (matrix_room offsets columns values size)
  unfolding matrix_room
  matrix_rows h = rw (lt-leb offsets 65537 h)

  pub matrix_entries : offsets ≤ 65537 → 1048576 < columns → Err too_large ≡ verdict_of (matrix_room offsets columns values size)
  unfolding matrix_room
  matrix_entries a h = rw (le-leb offsets 65537 a, lt-leb columns 1048576 h)

  pub matrix_none : offsets ≤ 65537 → columns ≤ 1048576 → offsets ≡ 0 → Err bad_offsets ≡ verdict_of (matrix_room offsets columns values size)
  unfolding matrix_room
  matrix_none a b h = rw (le-leb offsets 65537 a, le-leb columns 1048576 b, le-ltb 0 offsets (omega arith))

  pub matrix_uneven : offsets ≤ 65537 → columns ≤ 1048576 → (offsets ≡ 0 → ⊥) → (columns ≡ values → ⊥)
      → Err bad_offsets ≡ verdict_of (matrix_room offsets columns values size)
  unfolding matrix_room
  matrix_uneven a b some h = rw (le-leb offsets 65537 a, le-leb columns 1048576 b, lt-ltb 0 offsets (omega arith), ne_eqb columns values h)

  pub matrix_short : offsets ≤ 65537 → columns ≤ 1048576 → (offsets ≡ 0 → ⊥) → columns ≡ values → size < 14 + 4 * (offsets - 1) + 12 * columns
      → Err store_too_small ≡ verdict_of (matrix_room offsets columns values size)
  unfolding matrix_room
  matrix_short a b some e h =
      rw (le-leb offsets 65537 a, le-leb columns 1048576 b, lt-ltb 0 offsets (omega arith), eq-eqb columns values e, lt-leb (matrix_length (offsets - 1) columns) size h)

  pub matrix_goes : offsets ≤ 65537 → columns ≤ 1048576 → (offsets ≡ 0 → ⊥) → columns ≡ values → 14 + 4 * (offsets - 1) + 12 * columns ≤ size
      → (Ok tt) ≡ verdict_of (matrix_room offsets columns values size)
  unfolding matrix_room
  matrix_goes a b some e h =
      rw (le-leb offsets 65537 a, le-leb columns 1048576 b, lt-ltb 0 offsets (omega arith), eq-eqb columns values e, le-leb (matrix_length (offsets - 1) columns) size h)

  pub matrix_space : {v : Result Unit Refusal} → v ≡ verdict_of (matrix_room offsets columns values size) → v ≡ Ok tt → MatrixSpace offsets columns values size
  unfolding matrix_room
  matrix_space t told =
      let a = passed_ask (leb offsets 65537) too_large _ (passes (matrix_room offsets columns values size) t told) in
      let b = passed_ask (leb columns 1048576) too_large _ a.1 in
      let c = passed_ask (ltb 0 offsets) bad_offsets _ b.1 in
      let d = passed_ask (eqb columns values) bad_offsets _ c.1 in
      let e = passed_ask (leb (matrix_length (offsets - 1) columns) size) store_too_small passed d.1 in
      record {
        few = leb-true offsets 65537 a.0;
        small = leb-true columns 1048576 b.0;
        some = ltb-true 0 offsets c.0;
        same = eqb-true columns values d.0;
        fits = leb-true (matrix_length (offsets - 1) columns) size e.0;
      }

module _ (values size : ℕ) where
  pub values_many : 1048576 < values → Err too_large ≡ verdict_of (values_room values size)
  unfolding values_room
  values_many h = rw (lt-leb values 1048576 h)

  pub values_short : values ≤ 1048576 → size < 2 + 8 * values → Err store_too_small ≡ verdict_of (values_room values size)
  unfolding values_room
  values_short a h = rw (le-leb values 1048576 a, lt-leb (values_length values) size h)

  pub values_go : values ≤ 1048576 → 2 + 8 * values ≤ size → (Ok tt) ≡ verdict_of (values_room values size)
  unfolding values_room
  values_go a h = rw (le-leb values 1048576 a, le-leb (values_length values) size h)

  pub values_space : {v : Result Unit Refusal} → v ≡ verdict_of (values_room values size) → v ≡ Ok tt → ValuesSpace values size
  unfolding values_room
  values_space t told =
      let a = passed_ask (leb values 1048576) too_large _ (passes (values_room values size) t told) in
      let b = passed_ask (leb (values_length values) size) store_too_small passed a.1 in
      record { small = leb-true values 1048576 a.0; fits = leb-true (values_length values) size b.0 }

module _ (rhs start size : ℕ) where
  pub solve_many : 65536 < rhs → Err too_large ≡ verdict_of (solve_room rhs start size)
  unfolding solve_room
  solve_many h = rw (lt-leb rhs 65536 h)

  pub solve_uneven : rhs ≤ 65536 → (rhs ≡ start → ⊥) → Err wrong_length ≡ verdict_of (solve_room rhs start size)
  unfolding solve_room
  solve_uneven a h = rw (le-leb rhs 65536 a, ne_eqb rhs start h)

  pub solve_short : rhs ≤ 65536 → rhs ≡ start → size < 26 + 16 * rhs → Err store_too_small ≡ verdict_of (solve_room rhs start size)
  unfolding solve_room
  solve_short a e h = rw (le-leb rhs 65536 a, eq-eqb rhs start e, lt-leb (solve_length rhs) size h)

  pub solve_goes : rhs ≤ 65536 → rhs ≡ start → 26 + 16 * rhs ≤ size → (Ok tt) ≡ verdict_of (solve_room rhs start size)
  unfolding solve_room
  solve_goes a e h = rw (le-leb rhs 65536 a, eq-eqb rhs start e, le-leb (solve_length rhs) size h)

  pub solve_space : {v : Result Unit Refusal} → v ≡ verdict_of (solve_room rhs start size) → v ≡ Ok tt → SolveSpace rhs start size
  unfolding solve_room
  solve_space t told =
      let a = passed_ask (leb rhs 65536) too_large _ (passes (solve_room rhs start size) t told) in
      let b = passed_ask (eqb rhs start) wrong_length _ a.1 in
      let c = passed_ask (leb (solve_length rhs) size) store_too_small passed b.1 in
      record { few = leb-true rhs 65536 a.0; same = eqb-true rhs start b.0; fits = leb-true (solve_length rhs) size c.0 }

-- ---- what is answered

pub written_yes : {o : Outcome (List ℕ)} {b B B' : List ℕ} {r : ℕ} → o ≡ accepted b → Wrote 0 r b B B' → WrittenIs o B B' (Ok r)
written_yes {o} {b} {B} {B'} {r} e w = record { answer = rw (e, ← w.long); bytes = rw e w.is }

pub written_no : {o : Outcome (List ℕ)} {B : List ℕ} {q : Refusal} → o ≡ refused q → WrittenIs o B B (Err q)
written_no e = record { answer = rw e; bytes = rw e }

module _ (O C : List ℕ) (X : List Float) {B : List ℕ} {v : Result Unit Refusal} (t : v ≡ verdict_of (matrix_room (length O) (length C) (length X) (length B))) where
  pub matrix_written : {B' : List ℕ} {r : ℕ} → v ≡ Ok tt → Wrote 0 r (matrix_bytes (matrix_of O C X)) B B'
      → WrittenIs (write_matrix (length B) O C X) B B' (Ok r)
  unfolding write_matrix
  matrix_written told w =
      let room = matrix_room (length O) (length C) (length X) (length B) in
      written_yes (then_accepted room _ (passes room t told)) w

  pub matrix_unwritten : {q : Refusal} → v ≡ Err q → WrittenIs (write_matrix (length B) O C X) B B (Err q)
  unfolding write_matrix
  matrix_unwritten told =
      let room = matrix_room (length O) (length C) (length X) (length B) in
      written_no (then_refused room _ (refuses room t told))

module _ (m : Mark) (X : List Float) {B : List ℕ} {v : Result Unit Refusal} (t : v ≡ verdict_of (values_room (length X) (length B))) where
  pub values_written : {B' : List ℕ} {r : ℕ} → v ≡ Ok tt → Wrote 0 r (values_bytes m X) B B'
      → WrittenIs (write_values (length B) m X) B B' (Ok r)
  unfolding write_values
  values_written told w =
      let room = values_room (length X) (length B) in
      written_yes (then_accepted room _ (passes room t told)) w

  pub values_unwritten : {q : Refusal} → v ≡ Err q → WrittenIs (write_values (length B) m X) B B (Err q)
  unfolding write_values
  values_unwritten told =
      let room = values_room (length X) (length B) in
      written_no (then_refused room _ (refuses room t told))

module _ (l : LinearSolverOptions) (R S : List Float) {B : List ℕ} {v : Result Unit Refusal} (t : v ≡ verdict_of (solve_room (length R) (length S) (length B))) where
  pub solve_written : {B' : List ℕ} {r : ℕ} → v ≡ Ok tt → Wrote 0 r (solve_bytes (record { limits = l; rhs = R; start = S })) B B'
      → WrittenIs (write_solve (length B) l R S) B B' (Ok r)
  unfolding write_solve
  solve_written told w =
      let room = solve_room (length R) (length S) (length B) in
      written_yes (then_accepted room _ (passes room t told)) w

  pub solve_unwritten : {q : Refusal} → v ≡ Err q → WrittenIs (write_solve (length B) l R S) B B (Err q)
  unfolding write_solve
  solve_unwritten told =
      let room = solve_room (length R) (length S) (length B) in
      written_no (then_refused room _ (refuses room t told))

module _ (o : MultigridOptions) {B : List ℕ} where
  pub controls_written : {B' : List ℕ} → 110 ≤ length B → Wrote 0 110 (controls_bytes o) B B' → WrittenIs (write_controls (length B) o) B B' (Ok 110)
  unfolding write_controls
  controls_written h w = written_yes (rw (le-leb 110 (length B) h)) w

  pub controls_unwritten : length B < 110 → WrittenIs (write_controls (length B) o) B B (Err store_too_small)
  unfolding write_controls
  controls_unwritten h = written_no (rw (lt-leb 110 (length B) h))

-- ---- part behind part

-- A mark has two letters.
letters_pair : (m : Mark) → get_or (letters_of m) 0 0 ∷ get_or (letters_of m) 1 0 ∷ [] ≡ letters_of m
letters_pair Mark.Controls = refl
letters_pair Mark.Matrix = refl
letters_pair Mark.Weights = refl
letters_pair Mark.Update = refl
letters_pair Mark.Solve = refl

-- The letters of a mark are written, one behind the other.
pub mark_written : (m : Mark) {l F G H : List ℕ} → l ≡ letters_of m → Wrote 0 1 (get_or l 0 0 ∷ []) F G → Wrote 1 1 (get_or l 1 0 ∷ []) G H → Wrote 0 2 (letters_of m) F H
mark_written m {l} {F} {G} {H} e g h =
    subst (λ (k : List ℕ). Wrote 0 2 k F H) (ap (λ (k : List ℕ). get_or k 0 0 ∷ get_or k 1 0 ∷ []) e ∙ letters_pair m) (wrote_next g (omega arith) h)

pub sizes_written : (rows entries : ℕ) {F G H I : List ℕ} → Wrote 0 2 (letters_of Mark.Matrix) F G → Wrote 2 4 (bytes4 rows) G H → Wrote 6 4 (bytes4 entries) H I
    → Wrote 0 10 (letters_of Mark.Matrix ++ bytes4 rows ++ bytes4 entries) F I
sizes_written rows entries g h i = wrote_next (wrote_next g (omega arith) h) (omega arith) i

pub matrix_placed : (O C : List ℕ) (X : List Float) {size : ℕ} {F G H I J : List ℕ} → MatrixSpace (length O) (length C) (length X) size
    → Wrote 0 10 (letters_of Mark.Matrix ++ bytes4 (length O - 1) ++ bytes4 (length C)) F G
    → Wrote 10 (4 * length O) (flat bytes4 O) G H
    → Wrote (10 + 4 * (length O - 1 + 1)) (4 * length C) (flat bytes4 C) H I
    → Wrote (10 + 4 * (length O - 1 + 1) + 4 * length C) (8 * length X) (flat float_bytes X) I J
    → Wrote 0 (10 + 4 * (length O - 1 + 1) + 4 * length C + 8 * length C) (matrix_bytes (matrix_of O C X)) F J
unfolding matrix_bytes
matrix_placed O C X s g h i j =
    let some : 0 < length O = s.some in
    let same : length C ≡ length X = s.same in
    wrote_size (omega arith) (wrote_next (wrote_next (wrote_next g (omega arith) h) (omega arith) i) (omega arith) j)

pub values_placed : (m : Mark) (X : List Float) {F G H : List ℕ} → Wrote 0 2 (letters_of m) F G → Wrote 2 (8 * length X) (flat float_bytes X) G H
    → Wrote 0 (2 + 8 * length X) (values_bytes m X) F H
unfolding values_bytes
values_placed m X g h = wrote_next g (omega arith) h

pub limits_placed : (l : LinearSolverOptions) {F G H I J : List ℕ} → Wrote 0 2 (letters_of Mark.Solve) F G → Wrote 2 8 (float_bytes l.absolute_tolerance) G H
    → Wrote 10 8 (float_bytes l.relative_tolerance) H I → Wrote 18 8 (bytes8 l.max_iterations) I J
    → Wrote 0 26 (letters_of Mark.Solve ++ float_bytes l.absolute_tolerance ++ float_bytes l.relative_tolerance ++ bytes8 l.max_iterations) F J
limits_placed l g h i j = wrote_next (wrote_next (wrote_next g (omega arith) h) (omega arith) i) (omega arith) j

pub solve_placed : (l : LinearSolverOptions) (R S : List Float) {size : ℕ} {F G H I : List ℕ} → SolveSpace (length R) (length S) size
    → Wrote 0 26 (letters_of Mark.Solve ++ float_bytes l.absolute_tolerance ++ float_bytes l.relative_tolerance ++ bytes8 l.max_iterations) F G
    → Wrote 26 (8 * length R) (flat float_bytes R) G H → Wrote (26 + 8 * length R) (8 * length S) (flat float_bytes S) H I
    → Wrote 0 (26 + 8 * length R + 8 * length R) (solve_bytes (record { limits = l; rhs = R; start = S })) F I
unfolding solve_bytes
solve_placed l R S s g h i =
    let same : length R ≡ length S = s.same in
    wrote_size (omega arith) (wrote_next (wrote_next g (omega arith) h) (omega arith) i)

-- ---- CO

module _ (o : MultigridOptions) {F G H I : List ℕ} where
  pub kinds_placed : {a b : ℕ} → a ≡ smoother_number o.smoother → b ≡ residual_norm_number o.residual_norm
      → Wrote 0 2 (letters_of Mark.Controls) F G → Wrote 2 1 (a ∷ []) G H → Wrote 3 1 (b ∷ []) H I
      → Wrote 0 4 (letters_of Mark.Controls ++ (smoother_number o.smoother ∷ residual_norm_number o.residual_norm ∷ [])) F I
  kinds_placed {a} {b} e f g h i =
      wrote_as (ap (λ (k : ℕ). 67 ∷ 79 ∷ k ∷ b ∷ []) e ∙ ap (λ (k : ℕ). 67 ∷ 79 ∷ smoother_number o.smoother ∷ k ∷ []) f)
      (wrote_next (wrote_next g (omega arith) h) (omega arith) i)

  pub coarse_placed : {a : ℕ} → a ≡ coarse_solver_number o.coarse_solver → Wrote 76 1 (a ∷ []) F G
      → Wrote 77 8 (float_bytes o.coarse_absolute_tolerance) G H → Wrote 85 8 (float_bytes o.coarse_relative_tolerance) H I
      → Wrote 76 17 ((coarse_solver_number o.coarse_solver ∷ []) ++ float_bytes o.coarse_absolute_tolerance ++ float_bytes o.coarse_relative_tolerance) F I
  coarse_placed e g h i = wrote_next (wrote_next (wrote_as (ap (λ (k : ℕ). k ∷ []) e) g) (omega arith) h) (omega arith) i

  pub last_placed : {a : ℕ} → a ≡ flag_number o.scale_correction → Wrote 93 8 (bytes8 o.coarse_max_iterations) F G
      → Wrote 101 1 (a ∷ []) G H → Wrote 102 8 (bytes8 o.max_aggregate_cells) H I
      → Wrote 93 17 (bytes8 o.coarse_max_iterations ++ (flag_number o.scale_correction ∷ []) ++ bytes8 o.max_aggregate_cells) F I
  last_placed e g h i = wrote_next (wrote_next g (omega arith) (wrote_as (ap (λ (k : ℕ). k ∷ []) e) h)) (omega arith) i

three : (a b c d : List ℕ) → a ++ (b ++ c ++ d) ≡ a ++ b ++ c ++ d
three a b c d = sym (append_assoc a (b ++ c) d) ∙ ap (λ (l : List ℕ). l ++ d) (sym (append_assoc a b c))

-- a part of three, behind others, is three parts
wrote_three : (x y z : List ℕ) {b n m p : ℕ} {u F G H : List ℕ} → Wrote b n u F G → p ≡ b + n → Wrote p m (x ++ y ++ z) G H → Wrote b (n + m) (u ++ x ++ y ++ z) F H
wrote_three x y z {b} {n} {m} {p} {u} g e h = wrote_as (three u x y z) (wrote_next g e h)

pub controls_placed : (o : MultigridOptions) {F G H I J : List ℕ}
    → Wrote 0 4 (letters_of Mark.Controls ++ (smoother_number o.smoother ∷ residual_norm_number o.residual_norm ∷ [])) F G
    → Wrote 4 72 (flat bytes8 (counts_of o)) G H
    → Wrote 76 17 ((coarse_solver_number o.coarse_solver ∷ []) ++ float_bytes o.coarse_absolute_tolerance ++ float_bytes o.coarse_relative_tolerance) H I
    → Wrote 93 17 (bytes8 o.coarse_max_iterations ++ (flag_number o.scale_correction ∷ []) ++ bytes8 o.max_aggregate_cells) I J
    → Wrote 0 110 (controls_bytes o) F J
unfolding controls_bytes
controls_placed o g h i j =
    wrote_three (bytes8 o.coarse_max_iterations) (flag_number o.scale_correction ∷ []) (bytes8 o.max_aggregate_cells)
    (wrote_three (coarse_solver_number o.coarse_solver ∷ []) (float_bytes o.coarse_absolute_tolerance) (float_bytes o.coarse_relative_tolerance)
    (wrote_next g (omega arith) h) (omega arith) i) (omega arith) j
