-- A level that stands at its place with its aggregates: the room below the temporaries, what the calls require, and what the first
-- coarse matrix and the merged steps leave.
-- Assumes nothing.
use Rattle.std.specs.Prelude.{Result, Err}
use mathlib.Core.Path.{◌≡◌, sym, ap, subst, ◌∙◌}
use mathlib.Core.Bool.{Bool, true, false}
use mathlib.Core.List.{List}
use Prim.Native.Nat.{ℕ, ◌+◌, ◌-◌, ◌≤◌, ◌<◌}
use native.Mathlib.Omega.{arith}
use lib.ListN.{length}
use lib.Ieee.{Float}
use Rattle.store.specs.Region.{idx, part}
use Rattle.store.proofs.store.Region.{get_d_part, kept_on, kept_less, kept_part}
use Rattle.store.proofs.store.Vector.{get_d_tab}
use Rattle.options.specs.declared.options.MultigridOptions.{MultigridOptions}
use Rattle.refusal.specs.declared.Refusal.{Refusal}
use Rattle.refusal.specs.Refusal.{bad_coarse_value}
use Rattle.refusal.specs.Outcome.{Outcome, accepted, refused}
use Rattle.refusal.proofs.Outcome.{ask_yes, ask_no, then_accepted, then_refused}
use Rattle.vector.specs.Finite.{all_finite}
use Rattle.matrix.specs.Kernel.{kernel_at, KernelOk}
use Rattle.pattern.specs.Pattern.{Pattern, entries, how_many, Valid}
use Rattle.pattern.proofs.pattern.Number.{many_mono}
use Rattle.pattern.proofs.pattern.Row.{offset_mono}
use Rattle.pattern.proofs.pattern.Coarse.{coarse_few}
use Rattle.faces.specs.Faces.{above, faces_of, face_offsets_of, neighbors_of}
use Rattle.faces.proofs.faces.Laws.{near, faces_half}
use Rattle.hierarchy.specs.Level.{kernel_of}
use Rattle.hierarchy.specs.Proper.{Proper}
use Rattle.hierarchy.specs.Build.{Mesh, Merged, merged, inner_shape, coarsened_asked, merge_of}
use Rattle.hierarchy.proofs.Proper.{coarse_proper}
use Rattle.layout.specs.declared.Place.{Place}
use Rattle.layout.specs.Parts.{kernel_in}
use Rattle.layout.specs.Placed.{Placed, coefficients_at}
use Rattle.layout.specs.SmootherContract.{SmootherOk}
use Rattle.coarsening.specs.declared.coarsen.Held.{Held}
use Rattle.coarsening.specs.declared.coarsen.Workspace.{Workspace}
use Rattle.coarsening.specs.declared.coarsen.Formation.{Formation}
use Rattle.coarsening.specs.CoarsenContract.{pattern_at, mesh_at, merged_in, coarse_at, WorkOk, StepOk, Stepped}
use Rattle.coarsening.specs.declared.merging.Merging.{Merging}
use Rattle.coarsening.specs.MergingContract.{merging_of, merge_at, MergeOk, MergeDone}
use Rattle.build_level.specs.declared.laying.Frontier.{Frontier}
use Rattle.build_level.specs.LayingContract.{level_in}
use Rattle.build_level.proofs.laying.Levels as laying
use Rattle.build_levels.specs.DescentContract.{DescendOk}
use Rattle.build_levels.specs.Steps.{steps_at, StepsDone}

-- No row's faces end behind the last.
starts_less : {q : Pattern} → Valid q → (i : ℕ) → i ≤ q.rows → idx (face_offsets_of q) i ≤ faces_of q
unfolding face_offsets_of faces_of
starts_less {q} v i h =
    let below = offset_mono v i q.rows h (omega arith) in
    let last = v.last in
    rw (get_d_tab (λ j. how_many (above q) (idx q.offsets j)) (q.rows + 1) i 0 (omega arith))
    (many_mono (above q) (idx q.offsets i) (entries q) (omega arith))

-- The temporaries stand in the stores.
work_inside : {words floats : ℕ} {t : Workspace} → WorkOk words floats t → (t.offsets ≤ words) × (t.values ≤ floats)
work_inside work = (omega arith, omega arith)

-- The kernel at a level's place lies below its DIC data.
kernel_ok : {w : List ℕ} {a b : ℕ} {p : Place} → Placed a b p → p.links ≤ length w → idx w (p.starts + p.rows) ≡ p.faces
    → ((i : ℕ) → i < p.rows → idx w (p.starts + i + 1) ≤ p.faces) → ((e : ℕ) → e < p.faces → idx w (p.neighbors + e) < p.rows)
    → KernelOk w p.dic (kernel_in p)
kernel_ok h inside last falls beside = record {
  starts = omega arith;
  columns = omega arith;
  own = omega arith;
  recip = omega arith;
  faces = omega arith;
  falls = rw last falls;
  near = rw last beside;
}

module _ {w : List ℕ} {size : ℕ} {o : MultigridOptions} {t : Workspace} {s : Frontier} {p : Place} {count : ℕ}
    (ok : DescendOk w size o t s p count) where
  -- the level's pattern
  abbrev own : Pattern
  own = pattern_at w (level_in t p)

  half : p.faces + p.faces ≤ p.entries
  half =
      let shapes = ok.level.stands.shapes in
      let proper = ok.level.stands.proper in
      omega (arith, faces_half proper.valid proper.rising proper.mirrored, shapes.count, shapes.most)

  -- The level's words end below the temporaries,
  pub words_below : p.positions + p.entries ≤ t.offsets
  words_below =
      let h = ok.level.stands.placed in
      let f = half in
      omega (arith, ok.level.rows, ok.level.most, laying.words_below ok.level.room)

  -- and so do its floats.
  pub floats_below : p.factor ≤ t.values
  floats_below =
      let h = ok.level.stands.placed in
      let f = half in
      omega (arith, ok.level.rows, ok.level.most, laying.floats_below ok.level.room)

  -- The header lies in the words.
  pub header_fits : s.a + 1 + 2 ≤ length w
  header_fits =
      let h = ok.level.stands.placed in
      let inside = work_inside ok.level.room.work in
      let below = words_below in
      omega (arith, inside.0)

  faces_at_lem : idx w (p.starts + p.rows) ≡ p.faces
  faces_at_lem = laying.faces_at_lem ok.level.stands.shapes ok.level.stands.proper.valid

  -- The kernel at the level's place is that of its shape.
  pub kernel_is : (F : List Float) (map : List ℕ) (n : ℕ) → let c = coefficients_at F p in
      kernel_at (kernel_in p) w F ≡ kernel_of (inner_shape own map n) c.diagonal c.inverse c.coefficients
  unfolding kernel_at
  kernel_is F map n = let shapes = ok.level.stands.shapes in rw (faces_at_lem, shapes.starts, shapes.neighbors)

  falls : (i : ℕ) → i < p.rows → idx w (p.starts + i + 1) ≤ p.faces
  falls i l =
      let shapes = ok.level.stands.shapes in
      let at : idx w (p.starts + (i + 1)) ≡ idx (face_offsets_of own) (i + 1) =
      sym (get_d_part p.starts (p.rows + 1) w (i + 1) 0 (omega arith)) ∙ ap (λ (v : List ℕ). idx v (i + 1)) shapes.starts in
      let same : idx w (p.starts + i + 1) ≡ idx w (p.starts + (i + 1)) = ap (idx w) (omega arith) in
      rw (same, at, shapes.count) (starts_less ok.level.stands.proper.valid (i + 1) (omega arith))

  beside : (e : ℕ) → e < p.faces → idx w (p.neighbors + e) < p.rows
  beside e l =
      let shapes = ok.level.stands.shapes in
      let at : idx w (p.neighbors + e) ≡ idx (neighbors_of own) e =
      sym (get_d_part p.neighbors p.faces w e 0 l) ∙ ap (λ (v : List ℕ). idx v e) shapes.neighbors in
      let count : p.faces ≡ faces_of own = shapes.count in
      rw at (near ok.level.stands.proper.valid e (rw count at l))

  -- What the DIC data require.
  pub smoother_requires : SmootherOk w size p
  smoother_requires =
      let h = ok.level.stands.placed in
      let inside = work_inside ok.level.room.work in
      let below = words_below in
      let under = floats_below in
      record { kernel = kernel_ok h (omega (arith, inside.0)) faces_at_lem falls beside; fits = omega (arith, inside.1) }

  -- What the first coarse matrix requires.
  pub step_requires : {m : Held} → m ≡ level_in t p → StepOk w size m p.links count t
  step_requires e =
      let h = ok.level.stands.placed in
      let r = ok.level.room in
      let k = r.work in
      let rows = ok.level.rows in
      let most = ok.level.most in
      let below = words_below in
      let under = floats_below in
      rw e (record {
        work = k;
        rows = omega arith;
        most = omega arith;
        offsets = omega arith;
        columns = omega arith;
        above = omega arith;
        values = omega arith;
        weights = omega arith;
        proper = ok.level.stands.proper;
        maps = ok.maps;
        onto = ok.onto;
        fewer = ok.fewer;
      })

-- ---- the first coarse matrix

module _ {w z : List ℕ} {F G : List Float} {o : MultigridOptions} {given : Bool} {t : Workspace} {s : Frontier} {p : Place} {count : ℕ}
    {m : Held} {r : Formation} (ok : DescendOk w (length F) o t s p count) (is : m ≡ level_in t p)
    (k : Stepped w z F G given m p.links count t r) where
  made : Stepped w z F G given (level_in t p) p.links count t r
  made = rw is at k

  -- the level's matrix, its aggregates and its first coarse matrix
  abbrev fine : Mesh
  fine = mesh_at w F given (level_in t p)

  abbrev links : List ℕ
  links = part p.links p.rows w

  abbrev first : Mesh
  first = coarse_at w F given (level_in t p) p.links count

  links_kept : part p.links p.rows z ≡ links
  links_kept =
      let h = ok.level.stands.placed in
      let work = ok.level.room.work in
      let below = words_below ok in
      kept_part made.words p.links p.rows (omega arith)

  -- What the merged steps require.
  pub merge_requires : MergeOk z (length G) t p.rows p.links count r.entries (s.stage + 1) (o.merge_levels - 1)
  merge_requires =
      let h = ok.level.stands.placed in
      let room = ok.level.room in
      let work = room.work in
      let below = words_below ok in
      let proper = ok.level.stands.proper in
      let few = coarse_few fine.pattern links count in
      record {
        work = rw (made.words.size, made.floats.size) work;
        within = omega (arith, ok.level.rows, room.few);
        fewer = ok.fewer;
        room = omega (arith, made.found, few, ok.level.stands.shapes.most, ok.level.most, room.less);
        below = omega arith;
        proper = subst Proper (ap (λ (c : Mesh). c.pattern) (sym made.mesh)) (coarse_proper proper ok.maps ok.onto);
        maps = rw links_kept ok.maps;
        onto = rw links_kept ok.onto;
        stages = omega (arith, ok.controls.merges, ok.controls.merge, ok.stages);
      }

  finite_is : all_finite (entries first.pattern) first.values ≡ r.finite
  finite_is = ap (λ (n : ℕ). all_finite n first.values) (sym made.found) ∙ sym made.finite

  -- A value of the first coarse matrix is not finite.
  pub steps_bad : r.finite ≡ false → StepsDone w z F G o given t s p count (Err bad_coarse_value)
  steps_bad e =
      let h = ok.level.stands.placed in
      let work = ok.level.room.work in
      let below = words_below ok in
      let told : steps_at o given w F t s p count ≡ refused bad_coarse_value =
      then_refused (coarsened_asked given fine links count) _
      (ask_no (all_finite (entries first.pattern) first.values) bad_coarse_value (accepted first) (finite_is ∙ e)) in
      record {
        answer = sym (ap merging_of told);
        mesh = λ x y. let none : ◌≡◌ {A = ℕ} 0 1 = cc in absurd (omega arith);
        links = λ x y. let none : ◌≡◌ {A = ℕ} 0 1 = cc in absurd (omega arith);
        words = kept_less made.words (omega arith);
        floats = made.floats;
      }

  -- The merged steps from it.
  pub steps_on : {y : List ℕ} {H : List Float} {a : Result Merging Refusal} → r.finite ≡ true
      → MergeDone o given z y G H t p.rows p.links count r.entries (s.stage + 1) (o.merge_levels - 1) (s.level + 1) a
      → StepsDone w y F H o given t s p count a
  steps_on {y} {H} {a} e done =
      let h = ok.level.stands.placed in
      let work = ok.level.room.work in
      let below = words_below ok in
      let on : Merged → Outcome Merged = merge_of o given (o.merge_levels - 1) (s.level + 1) in
      let same : steps_at o given w F t s p count
      ≡ merge_at o given z G t p.rows p.links count r.entries (s.stage + 1) (o.merge_levels - 1) (s.level + 1) =
      then_accepted (coarsened_asked given fine links count) _
      (ask_yes (all_finite (entries first.pattern) first.values) bad_coarse_value (accepted first) (finite_is ∙ e))
      ∙ ap (λ (c : Mesh). on (merged c links (s.stage + 1))) (sym made.mesh)
      ∙ ap (λ (l : List ℕ). on (merged (mesh_at z G given (merged_in t count r.entries)) l (s.stage + 1))) (sym links_kept) in
      record {
        answer = done.answer ∙ ap merging_of (sym same);
        mesh = λ x q. done.mesh x (sym same ∙ q);
        links = λ x q. done.links x (sym same ∙ q);
        words = kept_on (kept_less made.words (omega arith)) done.words;
        floats = kept_on made.floats done.floats;
      }
