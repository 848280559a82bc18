-- No answer depends on scratch: two calls in stores of the same sizes that agree outside scratch, with the same of all else, have the same
-- answer, solution and statistics, and leave stores that agree outside scratch. Whatever the handle and the stores: where question 19
-- refuses the one it refuses the other.
-- Assumes nothing.
use Rattle.solver.specs.declared.solver.LinearSolveReport.{LinearSolveReport}
use Rattle.refusal.specs.declared.Refusal.{Refusal}
use Rattle.std.specs.Prelude.{Result}
use mathlib.Core.Path.{◌≡◌, refl, sym, ap, ◌∙◌}
use mathlib.Core.Bool.{true, false}
use mathlib.Core.List.{List}
use mathlib.Core.Logic.{◌⊎◌, inl, inr}
use Prim.Native.Nat.{ℕ, ◌≤◌, ◌<◌}
use native.Mathlib.Omega.{arith}
use lib.Dec.{leb}
use lib.ListN.{length, get_or, take, length-take}
use lib.Seq.{ext_get_or, get_or-take}
use lib.Ieee.{Float, nan}
use borrow.Author.Tests.{leb-false, lt-leb}
use Rattle.store.specs.Region.{at, Kept}
use Rattle.store.proofs.store.Region.{kept_get}
use Rattle.pattern.proofs.pattern.Number.{bool?}
use Rattle.options.specs.declared.options.Handle.{Handle}
use Rattle.solver.specs.declared.solver.LinearSolverOptions.{LinearSolverOptions}
use Rattle.refusal.specs.Refusal.{unsound_stores}
use Rattle.refusal.specs.Outcome.{Outcome, accepted, refused, ask}
use Rattle.refusal.proofs.Outcome.{ask_yes, ask_no}
use Rattle.hierarchy.specs.Level.{Hierarchy}
use Rattle.layout.specs.Layout.{words_to, view_of, image_of}
use Rattle.index_check.specs.Sound.{sound_of}
use Rattle.iterations.specs.Iteration.{system_of}
use Rattle.iterations.specs.Iterate.{answer_of}
use Rattle.solve.specs.Solve.{solve_of}
use Rattle.solve.specs.Solved.{solved_at, solution_of}
use Rattle.solver.specs.declared.statistics.MultigridLevelStatistics.{MultigridLevelStatistics}
use Rattle.update.specs.Updated.{updated_at, hierarchy_of}
use Rattle.update.specs.Updated as updating
use Rattle.multigrid.specs.UpdatingCall.{updated_of, UpdateCall}
use Rattle.multigrid.specs.SolvingCall.{solved_of, records_of, SolveCall}
use Rattle.call_theorem.specs.Scratch.{value_at, scratch_float, Agree, Unread}
use Rattle.call_theorem.proofs.ScratchWords.{sound_told, view_told, image_end_told}
use Rattle.call_theorem.proofs.ScratchFloats.{neither_r, view_agrees, agrees_view}

-- Lists of one length whose elements below p are the same are kept below p.
kept_each : {A : Type 0} (d : A) (p : ℕ) {F G : List A} → length G ≡ length F → ((i : ℕ) → i < p → get_or G i d ≡ get_or F i d) → Kept p F G
kept_each d p {F} {G} size same =
    let g = length-take p G in
    let f = length-take p F in
    record {
      below = ext_get_or d (take p G) (take p F) (omega arith) (λ i h.
          let few : i < p = omega arith in
          get_or-take p G i d few ∙ same i few ∙ sym (get_or-take p F i d few));
      size = size;
    }

module _ (h : Handle) {w w' : List ℕ} {F F' : List Float} (a : Agree h.levels w w' F F') where
  -- The words that the levels stand in are the same.
  words_same : Kept (words_to h.levels w 0) w w'
  words_same = kept_each 0 (words_to h.levels w 0) a.wordsize (λ i l. a.words i (lt-leb (words_to h.levels w 0) i l))

  -- Question 19 has the same answer.
  sound_same : (records : ℕ) → sound_of h w' (length F') records ≡ sound_of h w (length F) records
  sound_same records =
      ap (λ (n : ℕ). sound_of h w' n records) a.floatsize ∙ sound_told h (length F) records words_same

  -- The stores hold the same hierarchy.
  view_same : view_of h.levels w' F' 0 ≡ view_of h.levels w F 0
  view_same = view_told h.levels F' words_same ∙ view_agrees h.levels w F F' a.floatsize a.floats

  -- ---- what the calls leave

  module _ {G G' : List Float} where
    -- Floats that agree outside scratch, in the same words.
    agree_on : length G' ≡ length G → ((i : ℕ) → scratch_float h.levels w i ≡ false → at G' i ≡ at G i) → Agree h.levels w w' G G'
    agree_on size same = record { wordsize = a.wordsize; words = a.words; floatsize = size; floats = same }

    -- Nothing was written.
    agree_still : G ≡ F → G' ≡ F' → Agree h.levels w w' G G'
    agree_still e f = rw (e, f) a

    -- Nothing below the shadow was written.
    agree_kept : {p p' : ℕ} → Kept p F G → Kept p' F' G' → image_of h.levels w ≤ p → image_of h.levels w ≤ p' → Agree h.levels w w' G G'
    agree_kept k k' low low' = agree_on (k'.size ∙ a.floatsize ∙ sym k.size) (λ i e.
        let inside : i < image_of h.levels w = leb-false (image_of h.levels w) i (past i e) in
        kept_get k' i nan (omega arith) ∙ a.floats i e ∙ sym (kept_get k i nan (omega arith)))
      where
        past : (i : ℕ) → scratch_float h.levels w i ≡ false → leb (image_of h.levels w) i ≡ false
        past i e = neither_r (value_at h.levels w 0 0 i) (leb (image_of h.levels w) i) e

    -- They hold the same hierarchy.
    agree_view : length G' ≡ length G → view_of h.levels w' G' 0 ≡ view_of h.levels w G 0 → Agree h.levels w w' G G'
    agree_view size e =
        agree_on size (agrees_view h.levels w G G' (sym (view_told h.levels G' words_same) ∙ e))

  -- ---- an update

  module _ {G G' : List Float} {records : ℕ} {offsets columns : List ℕ} {values : List Float} {r r' : Result Unit Refusal}
      (c : UpdateCall h w F G records offsets columns values r) (c' : UpdateCall h w' F' G' records offsets columns values r') where
    -- Both pass question 19.
    updated_sound : sound_of h w (length F) records ≡ true → (r' ≡ r) × Agree h.levels w w' G G'
    updated_sound passes =
        (c'.done.answer ∙ ap updating.updated_answer same ∙ sym c.done.answer, left (updated_of h w F records offsets columns values) refl)
      where
        found : updated_at h w' F' offsets columns values ≡ updated_at h w F offsets columns values
        found = rw view_same

        same : updated_of h w' F' records offsets columns values ≡ updated_of h w F records offsets columns values
        same =
            ask_yes (sound_of h w' (length F') records) unsound_stores (updated_at h w' F' offsets columns values) (sound_same records ∙ passes)
            ∙ found
            ∙ sym (ask_yes (sound_of h w (length F) records) unsound_stores (updated_at h w F offsets columns values) passes)

        size : length G' ≡ length G
        size = c'.done.size ∙ a.floatsize ∙ sym c.done.size

        left : (out : Outcome Hierarchy) → updated_of h w F records offsets columns values ≡ out → Agree h.levels w w' G G'
        left (accepted k) e = agree_view size
            (c'.done.view ∙ ap (hierarchy_of (view_of h.levels w' F' 0)) (same ∙ e)
            ∙ sym (c.done.view ∙ ap (hierarchy_of (view_of h.levels w F 0)) e))
        left (refused q) e =
            let end = image_end_told h.levels words_same in
            agree_kept (c.done.kept q e) (c'.done.kept q (same ∙ e)) (omega arith) (omega arith)

    -- Neither does.
    updated_unsound : sound_of h w (length F) records ≡ false → (r' ≡ r) × Agree h.levels w w' G G'
    updated_unsound fails =
        let fails' : sound_of h w' (length F') records ≡ false = sound_same records ∙ fails in
        let x = ask_no (sound_of h w (length F) records) unsound_stores (updated_at h w F offsets columns values) fails in
        let x' = ask_no (sound_of h w' (length F') records) unsound_stores (updated_at h w' F' offsets columns values) fails' in
        (c'.done.answer ∙ ap updating.updated_answer (x' ∙ sym x) ∙ sym c.done.answer, agree_still (c.unsound fails) (c'.unsound fails'))

    update_same : (r' ≡ r) × Agree h.levels w w' G G'
    update_same = go (bool? (sound_of h w (length F) records))
      where
        go : (sound_of h w (length F) records ≡ true) ⊎ (sound_of h w (length F) records ≡ false)
            → (r' ≡ r) × Agree h.levels w w' G G'
        go (inl passes) = updated_sound passes
        go (inr fails) = updated_unsound fails

  -- ---- a solve

  module _ {G G' : List Float} {t u u' : List MultigridLevelStatistics} {rhs x y y' : List Float} {s : LinearSolverOptions} {r r' : Result LinearSolveReport Refusal}
      (c : SolveCall h w F G t u rhs x y s r) (c' : SolveCall h w' F' G' t u' rhs x y' s r') where
    -- What they told is the same where their outcome is.
    told_same : solved_of h w' F' (length t) rhs x s ≡ solved_of h w F (length t) rhs x s → (r' ≡ r) × (y' ≡ y) × (u' ≡ u)
    told_same same = (
      c'.answer ∙ ap answer_of same ∙ sym c.answer,
      c'.solution ∙ ap (solution_of x) same ∙ sym c.solution,
      c'.statistics ∙ ap (records_of h.levels t) same ∙ sym c.statistics,
    )

    -- Both pass question 19.
    solved_sound : sound_of h w (length F) (length t) ≡ true → (r' ≡ r) × (y' ≡ y) × (u' ≡ u) × Agree h.levels w w' G G'
    solved_sound passes =
        let same : solved_of h w' F' (length t) rhs x s ≡ solved_of h w F (length t) rhs x s =
        ask_yes (sound_of h w' (length F') (length t)) unsound_stores (solved_at h w' F' rhs x s) (sound_same (length t) ∙ passes)
        ∙ ap (λ (b : Hierarchy). solve_of (system_of h.options b) s rhs x) view_same
        ∙ sym (ask_yes (sound_of h w (length F) (length t)) unsound_stores (solved_at h w F rhs x s) passes) in
        let end = image_end_told h.levels words_same in
        let told = told_same same in
        (told.0, told.1, told.2, agree_kept c.floats c'.floats (omega arith) (omega arith))

    -- Neither does.
    solved_unsound : sound_of h w (length F) (length t) ≡ false → (r' ≡ r) × (y' ≡ y) × (u' ≡ u) × Agree h.levels w w' G G'
    solved_unsound fails =
        let fails' : sound_of h w' (length F') (length t) ≡ false = sound_same (length t) ∙ fails in
        let told = told_same (ask_no (sound_of h w' (length F') (length t)) unsound_stores (solved_at h w' F' rhs x s) fails'
        ∙ sym (ask_no (sound_of h w (length F) (length t)) unsound_stores (solved_at h w F rhs x s) fails)) in
        (told.0, told.1, told.2, agree_still (c.unsound fails) (c'.unsound fails'))

    solve_same : (r' ≡ r) × (y' ≡ y) × (u' ≡ u) × Agree h.levels w w' G G'
    solve_same = go (bool? (sound_of h w (length F) (length t)))
      where
        go : (sound_of h w (length F) (length t) ≡ true) ⊎ (sound_of h w (length F) (length t) ≡ false)
            → (r' ≡ r) × (y' ≡ y) × (u' ≡ u) × Agree h.levels w w' G G'
        go (inl passes) = solved_sound passes
        go (inr fails) = solved_unsound fails

  -- ---- the calls

  -- No answer of a call depends on scratch.
  pub scratch_unread : (t : List MultigridLevelStatistics) → Unread h w w' F F' t
  scratch_unread t = record {
    update = λ c c'. update_same c c';
    solve = λ c c'. solve_same c c';
    statistics = rw (sound_same (length t));
  }
