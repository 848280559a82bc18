-- What a build left passes question 19.
-- Assumes nothing.
use Rattle.std.specs.Prelude.{Ok}
use mathlib.Core.Path.{◌≡◌, refl, sym, ap, ◌∙◌, subst}
use mathlib.Core.Bool.{Bool, true, false, ◌&&◌}
use mathlib.Core.List.{List}
use Prim.Native.Nat.{ℕ, zero, suc, ◌+◌, ◌-◌, ◌≤◌, ◌<◌}
use native.Mathlib.Omega.{arith}
use lib.ListN.{length}
use lib.Ieee.{Float}
use borrow.Author.Tests.{leb-true, le-leb, eq-eqb}
use Rattle.store.specs.Region.{idx}
use Rattle.store.proofs.store.Each.{both_l, both_r}
use Rattle.refusal.specs.Outcome.{accepted}
use Rattle.refusal.proofs.Outcome.{verdict_passed}
use Rattle.pattern.specs.Pattern.{Pattern, entries}
use Rattle.faces.specs.Faces.{mirrored_of}
use Rattle.faces.proofs.faces.Laws.{coupled_few, mirrored_is, diagonal_is}
use Rattle.csr.specs.Questions.{matrix_asked}
use Rattle.csr.proofs.csr.Laws.{matrix_valid, matrix_rising, matrix_sizes}
use Rattle.hierarchy.specs.Level.{Level, Hierarchy}
use Rattle.hierarchy.specs.Build.{holds, Lent, Input, pattern_in, mesh_in, build_of, symmetric_of}
use Rattle.hierarchy.proofs.Accepted.{fixed_in, charge_in, Built, build_asked, build_empty, build_built}
use Rattle.hierarchy.proofs.Depth.{levels_kept, build_levels}
use Rattle.layout.specs.Layout.{rows_at, last_at, entries_at, words_end, floats_end, levels_at, words_fit, view_of}
use Rattle.build.specs.Built.{handle_of}
use Rattle.index_check.specs.Sound.{head_sound, shape_in, arrays_sound, row_placed, targets_of, sums_of, walk_of, is_sound, scratch_end, cycle_start, empty_sound, handle_sound, filled_sound, sound_of}
use Rattle.index_check.proofs.sound.Walks.{ends_of, head_fits_lem, level_walked_lem, walk_closed, walk_none}
use Rattle.index_check.proofs.sound.Accepts.{walk_accepts}
use Rattle.index_check.proofs.sound.Question.{empty_sound_lem, filled_sound_lem}
use Rattle.build_sound.specs.Laid.{Small, Laid, last, inner, charges_of}
use Rattle.build_sound.proofs.Growth.{grow_diagonal, grow_laid, held, grow_paid}
use Rattle.build_sound.proofs.Reading.{last_arrays, inner_arrays, rows_told, last_told, entries_told, head_told, rows_placed_lem, coupled_told, coupled_none, view_first, shape_told, fit_split}
use Rattle.build_sound.proofs.Charges.{solve_fits}

-- ---- the walk

-- So many levels from a on, the first of pattern p, have a sound first head and are walked.
record Walked (w : List ℕ) (a level k : ℕ) (p : Pattern) : Type 0 where
  rows : rows_at w a ≡ p.rows
  long : entries_at w a ≡ entries p
  head : head_sound w a ≡ true
  walk : walk_of k w level a ≡ Ok tt

-- Two tests that hold hold together.
both : {a b : Bool} → a ≡ true → b ≡ true → (a && b) ≡ true
both e f = rw (e, f) refl

module _ (w : List ℕ) (level a : ℕ) (head : head_sound w a ≡ true) (placed : (row : ℕ) → row < rows_at w a → row_placed (shape_in w a) row ≡ true) where
  -- A level is walked with those after it,
  walked_on : (k : ℕ) → last_at w a ≡ ends_of k → arrays_sound (targets_of k w a) (sums_of k w a) (shape_in w a) ≡ true
      → walk_of k w (level + 1) (words_end w a) ≡ Ok tt → walk_of (suc k) w level a ≡ Ok tt
  walked_on k l arrays rest = walk_closed k w level a
      (record { head = head_fits_lem w a k head l; here = level_walked_lem w a (targets_of k w a) (sums_of k w a) level head arrays placed; rest = rest })

  -- and so is one with aggregates, whose links lead to the next.
  walked_inner : (k : ℕ) → 1 ≤ k → last_at w a ≡ false → arrays_sound (rows_at w (words_end w a)) (entries_at w (words_end w a)) (shape_in w a) ≡ true
      → walk_of k w (level + 1) (words_end w a) ≡ Ok tt → walk_of (suc k) w level a ≡ Ok tt
  walked_inner zero some l arrays rest = absurd (omega arith)
  walked_inner (suc k) some l arrays rest = walked_on (suc k) l arrays rest

-- There is a level.
laid_some : {most : ℕ} {p : Pattern} {levels : List Level} → Laid most p levels → 1 ≤ length levels
laid_some (last small few is) = omega arith
laid_some (inner small maps is on) = omega arith

-- Laid levels are walked.
walk_laid : {most : ℕ} {p : Pattern} {levels : List Level} → Laid most p levels → (w : List ℕ) (F : List Float) (a b level : ℕ)
    → levels_at (length levels) w F a b ≡ levels → words_fit (length levels) w a ≡ true → Walked w a level (length levels) p
walk_laid {most} {p} (last small few is) w F a b level view fits =
    let here = shape_told w F a b (view_first w F a b 0 view).0 is in
    let ends = (fit_split 0 w a fits).0 in
    let r = rows_told w a small here in
    let c = coupled_told w a small here ends in
    let head = head_told w a small here ends (omega (arith, coupled_few p)) in
    let arrays : arrays_sound (rows_at w a) 0 (shape_in w a) ≡ true = rw (here, r) (last_arrays small.proper) in
    record {
      rows = r;
      long = entries_told w a small here;
      head = head;
      walk = walked_on w level a head (rows_placed_lem w a small here) 0 (last_told w a small here) arrays (walk_none w (level + 1) (words_end w a));
    }
walk_laid {most} {p} (inner {rest = rest} {map = map} {count = count} small maps is on) w F a b level view fits =
    let v = view_first w F a b (length rest) view in
    let here = shape_told w F a b v.0 is in
    let f = fit_split (length rest) w a fits in
    let next = walk_laid on w F (words_end w a) (floats_end w a b) (level + 1) v.1 f.1 in
    let c = coupled_none w a small here in
    let head = head_told w a small here f.0 (omega arith) in
    let arrays : arrays_sound (rows_at w (words_end w a)) (entries_at w (words_end w a)) (shape_in w a) ≡ true =
    rw (here, next.long, next.rows) (inner_arrays small.proper maps) in
    record {
      rows = rows_told w a small here;
      long = entries_told w a small here;
      head = head;
      walk = walked_inner w level a head (rows_placed_lem w a small here) (length rest) (laid_some on) (last_told w a small here) arrays next.walk;
    }

-- ---- the build

module _ (l : Lent) (x : Input) {h : Hierarchy} (b : Built l x h) where
  -- The finest pattern is proper and small.
  finest_small : Small (pattern_in x)
  unfolding symmetric_of
  finest_small =
      let p = pattern_in x in
      let asked = verdict_passed (matrix_asked x.rows x.offsets x.columns x.values) b.asked.matrix in
      let valid = matrix_valid x.rows x.offsets x.columns x.values asked in
      let rising = matrix_rising x.rows x.offsets x.columns x.values asked in
      let sizes = matrix_sizes x.rows x.offsets x.columns x.values asked in
      let o = x.options in
      record {
        proper = record {
          valid = valid;
          rising = rising;
          mirrored = mirrored_is valid rising (both_l (mirrored_of p) _ b.symmetric);
          diagonal = diagonal_is 0 valid
              (grow_diagonal o x.given l.stores (o.max_levels - 1) 0 0 (charge_in x) (mesh_in x) b.grown);
        };
        few = omega (arith, sizes.few);
        short = omega (arith, sizes.short);
      }

  -- The levels of the hierarchy are those that were grown.
  levels_are : b.levels ≡ h.levels
  levels_are = sym (levels_kept x.options b.levels) ∙ ap (λ (k : Hierarchy). k.levels) b.is

  -- Its levels are laid,
  pub levels_laid : Laid x.options.coarsest_cells (pattern_in x) h.levels
  levels_laid =
      let o = x.options in
      subst (Laid o.coarsest_cells (pattern_in x)) levels_are
      (grow_laid o x.given l.stores (o.max_levels - 1) 0 0 (charge_in x) (mesh_in x) b.grown finest_small)

  -- and the stores hold the charges of all.
  levels_paid : (fixed_in x).floats + charges_of h.levels ≤ l.stores.floats
  levels_paid =
      let o = x.options in
      let paid = grow_paid o x.given l.stores (o.max_levels - 1) 0 0 (charge_in x) (mesh_in x) b.grown in
      rw (← levels_are) (paid.all (fixed_in x).floats refl (held l.stores (charge_in x) b.paid))

-- Of no rows its handle is one of no levels.
empty_built : (l : Lent) (x : Input) {h : Hierarchy} → x.rows ≡ 0 → build_of l x ≡ accepted h → empty_sound (handle_of x h) ≡ true
unfolding empty_sound
empty_built l x {h} none e =
    let a = build_asked l x e in
    let asked = verdict_passed (matrix_asked x.rows x.offsets x.columns x.values) a.matrix in
    let valid = matrix_valid x.rows x.offsets x.columns x.values asked in
    let levels : length h.levels ≡ 0 = ap (λ (k : Hierarchy). length k.levels) (sym (build_empty l x none e)) in
    let entries : length x.columns ≡ 0 = sym valid.last ∙ ap (idx x.offsets) none ∙ valid.first in
    both (both (both (both a.controls a.solver) (eq-eqb (length h.levels) 0 levels)) (eq-eqb x.rows 0 none)) (eq-eqb (length x.columns) 0 entries)

-- With rows the walk goes through its levels, and they fit.
filled_built : (l : Lent) (x : Input) {h : Hierarchy} → 1 ≤ x.rows → build_of l x ≡ accepted h → (w : List ℕ) (F : List Float)
    → view_of (length h.levels) w F 0 ≡ h → words_fit (length h.levels) w 0 ≡ true
    → length w ≡ l.stores.words → length F ≡ l.stores.floats
    → filled_sound (handle_of x h) w (length F) l.records ≡ true
unfolding filled_sound handle_sound view_of
filled_built l x {h} some e w F view fits words floats =
    let o = x.options in
    let b = build_built l x some e in
    let d = build_levels l x some e in
    let k = length h.levels in
    let krylov = o.krylov_dimension in
    let levels : levels_at k w F 0 0 ≡ h.levels = ap (λ (g : Hierarchy). g.levels) view in
    let laid = levels_laid l x b in
    let walked = walk_laid laid w F 0 0 0 levels fits in
    let tall : rows_at w 0 ≡ x.rows = walked.rows in
    let records : o.max_levels ≤ l.records = leb-true _ _ (both_r (holds l.stores (fixed_in x)) _ b.asked.room) in
    let paid = levels_paid l x b in
    let few = d.few in
    let size : scratch_end k w 0 (cycle_start krylov k w) ≤ length F = solve_fits laid w F krylov levels fits tall (omega arith) in
    both (both (both (both (both
    (both (both (both (both b.asked.controls b.asked.solver) (le-leb 1 x.rows some)) (le-leb 1 k d.some)) (le-leb k o.max_levels few))
    (le-leb k l.records (omega arith)))
    (sym (walk_accepts k w 0 0) ∙ ap is_sound walked.walk))
    (eq-eqb (rows_at w 0) x.rows tall))
    (eq-eqb (entries_at w 0) (length x.columns) walked.long))
    (le-leb (scratch_end k w 0 (cycle_start krylov k w)) (length F) size)

-- An accepted build's hierarchy, in stores of the sizes lent, passes question 19.
pub built_sound : (l : Lent) (x : Input) {h : Hierarchy} → build_of l x ≡ accepted h → (w : List ℕ) (F : List Float)
    → view_of (length h.levels) w F 0 ≡ h → words_fit (length h.levels) w 0 ≡ true
    → length w ≡ l.stores.words → length F ≡ l.stores.floats
    → sound_of (handle_of x h) w (length F) l.records ≡ true
built_sound l x {h} e w F view fits words floats = go x.rows refl
  where
    go : (n : ℕ) → x.rows ≡ n → sound_of (handle_of x h) w (length F) l.records ≡ true
    go zero none = empty_sound_lem (handle_of x h) w (length F) l.records (empty_built l x none e)
    go (suc n) some = filled_sound_lem (handle_of x h) w (length F) l.records (filled_built l x (omega arith) e w F view fits words floats)
