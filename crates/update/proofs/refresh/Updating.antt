-- The update, each way out said of the definitions.
-- Assumes nothing.
use Rattle.std.specs.Prelude.{Result, Err}
use mathlib.Core.Path.{◌≡◌, refl, sym, ap, ◌∙◌, subst}
use mathlib.Core.Bool.{Bool, true, false}
use mathlib.Core.List.{List, ◌∷◌}
use Prim.Native.Nat.{ℕ, ◌-◌, ◌≤◌}
use native.Mathlib.Omega.{arith}
use lib.ListN.{length}
use lib.Ieee.{Float}
use Rattle.store.specs.Region.{Kept}
use Rattle.store.proofs.store.Region.{kept_on, kept_self}
use Rattle.options.specs.declared.options.Handle.{Handle}
use Rattle.options.specs.declared.options.MultigridOptions.{MultigridOptions}
use Rattle.options.specs.declared.options.MultigridResidualNorm.{MultigridResidualNorm}
use Rattle.refusal.specs.declared.Refusal.{Refusal}
use Rattle.refusal.specs.Refusal.{not_symmetric, other_pattern}
use Rattle.refusal.specs.Outcome.{Outcome, accepted, refused, passed, ask, verdict_of, is_refused, ◌>>=◌}
use Rattle.refusal.proofs.Outcome.{then_accepted, then_refused, passes, went_on_lem, never}
use Rattle.coefficients.specs.Mirrors.{mirrors_agree}
use Rattle.hierarchy.specs.Level.{Shape, Level, Hierarchy, empty_hierarchy}
use Rattle.hierarchy.specs.First.{shapes_in}
use Rattle.hierarchy.specs.Refresh.{with_sums}
use Rattle.hierarchy.proofs.Accepted.{ask_split}
use Rattle.layout.specs.Layout.{entries_at, locate, words_end, floats_end, levels_at, view_of, image_of}
use Rattle.layout.proofs.Views.{floats_to, view_empty}
use Rattle.index_check.specs.Sound.{shape_in}
use Rattle.index_check.specs.SoundContract.{LevelsOk}
use Rattle.update_levels.specs.Update.{same_pattern, empty_pattern, renew_of, update_of}
use Rattle.update_levels.specs.Steps.{shapes_at, Renewed}
use Rattle.update_levels.proofs.levels.Chains.{Opened, opened}
use Rattle.update_levels.proofs.diagonals.Outcomes.{told_accepted, told_refused}
use Rattle.update_levels.proofs.levels.Renewing.{shapes_some, floats_end_lem}
use Rattle.update_levels.specs.Level.{FacesReady}
use Rattle.update.specs.Arrays.{asked_of, empty_asked, AskOk, Asked}
use Rattle.update.proofs.questions.Questions.{many_values}
use Rattle.update.specs.ShadowContract.{SumOk, Summed, With, ShadowOk}
use Rattle.update.proofs.shadow.Moving.{shapes_are, view_stays}
use Rattle.update.proofs.shadow.Shadowing.{shadow_end, sums_ready, with_sums_lem}
use Rattle.update.specs.Updated.{updated_at, updated_answer, hierarchy_of, UpdateDone}
use Rattle.update.specs.Steps.{CommitOk, Committed, AttemptOk, attempt_of, Attempted, UpdateOk}

-- ---- the update

-- Two questions and then the rest.
asks_then : {A : Type 0} (a b : Bool) (p q : Refusal) (rest : Outcome A) → ask a p (ask b q rest) ≡ ◌>>=◌ (ask a p (ask b q passed)) (λ _. rest)
asks_then true true p q rest = refl
asks_then true false p q rest = refl
asks_then false b p q rest = refl

module _ {levels : ℕ} {w : List ℕ} {size : ℕ} (ok : AttemptOk levels w size) where
  -- The finest level is sound.
  finest : Opened w size levels 0 0 0
  finest =
      let few = ok.few in
      let room = ok.room in
      opened (record { walk = ok.walk; room = omega arith; few = omega arith; fits = ok.fits }) ok.some

  -- What the start of the shadow requires.
  pub start_ready : LevelsOk w levels
  start_ready = record { sound = ok.walk; some = ok.some; few = ok.few }

  module _ {image : ℕ} (at : image ≡ image_of levels w) where
    -- What the questions require.
    pub ask_ready : AskOk w size (image)
    ask_ready =
        let o = finest in
        let heads = o.here.heads in
        let is = at in
        let room = ok.room in
        let fits = ok.fits in
        let opens = o.is in
        let up = floats_to (levels - 1) w (words_end w 0) (floats_end w 0 0) in
        let e = floats_end_lem w 0 0 in
        record {
          place = record { words = o.place.words; floats = omega arith };
          inside = heads;
          pattern = record { offsets = omega arith; columns = omega arith };
          uppers = o.here.uppers;
          lowers = o.here.lowers;
          room = omega arith;
        }

    -- What the copy requires.
    pub commit_ready : {now : ℕ} → now ≡ size → CommitOk levels w now (image)
    commit_ready e =
        let is = at in
        let room = ok.room in
        let few = ok.few in
        rw e (record {
          chain = record { walk = ok.walk; room = omega arith; few = omega arith; fits = ok.fits };
          some = ok.some;
          is = is;
          room = omega arith;
        })

    -- What the row sums require.
    pub sums_ready_at : {now : ℕ} → now ≡ size → SumOk w now (image)
    sums_ready_at e = let c = commit_ready e in let room = c.room in sums_ready c.some c.is c.chain (omega arith)

    module _ {A B : List Float} (offsets columns : List ℕ) (values : List Float) {v : Result Unit Refusal} (told : Asked w A B offsets columns values (image) v)
        (pass : is_refused v ≡ false) where
      -- There are as many values as entries.
      many : length values ≡ entries_at w 0
      many =
          let s = shape_in w 0 in
          many_values offsets columns values ask_ready
          (ask_split (same_pattern s offsets columns values) other_pattern
          (ask (mirrors_agree (length s.uppers) s.uppers s.lowers values) not_symmetric passed)
          (passes (asked_of s offsets columns values) told.answer (went_on_lem v pass))).0

      -- The coefficients of the finest level stand in the shadow.
      pub faces_ready : FacesReady w values B (locate w 0 (image))
      faces_ready = told.taken (went_on_lem v pass)

      -- What the shadow requires.
      pub shadow_ready : {now : ℕ} → now ≡ size → ShadowOk levels w now (length values) (image)
      shadow_ready {now} same =
          let few = ok.few in
          let room = ok.room in
          let is = at in
          let far = shadow_end levels w (image) in
          let fits : now ≤ 18446744073709551615 = omega (arith, ok.fits) in
          record {
            chain = record { walk = ok.walk; room = omega arith; few = omega arith; fits = fits };
            some = ok.some;
            is = is;
            room = omega arith;
            many = many;
          }

module _ {levels : ℕ} {w : List ℕ} (F : List Float) (ok : AttemptOk levels w (length F)) (o : MultigridOptions) (offsets columns : List ℕ)
    (values : List Float) where
  -- the update's outcome
  abbrev out : Outcome Hierarchy
  out = attempt_of o levels w F offsets columns values

  -- the questions' outcome
  abbrev asked : Outcome Unit
  asked = asked_of (shape_in w 0) offsets columns values

  -- the levels' outcome
  abbrev renewed : Outcome (List Level)
  renewed = renew_of o 0 (shapes_at levels w 0) values

  -- that of the hierarchy
  abbrev summed : Outcome Hierarchy
  summed = ◌>>=◌ renewed (λ ls. accepted (with_sums o ls))

  -- The update asks, and then renews the levels.
  out_is : out ≡ ◌>>=◌ asked (λ _. summed)
  unfolding view_of update_of
  out_is =
      let s = shape_in w 0 in
      let some = shapes_some levels w 0 ok.some in
      ap (λ (l : List Shape). update_of o l offsets columns values) (shapes_are levels w F 0 0 ∙ some)
      ∙ asks_then (same_pattern s offsets columns values) (mirrors_agree (length s.uppers) s.uppers s.lowers values)
      other_pattern not_symmetric (◌>>=◌ (renew_of o 0 (s ∷ shapes_at (levels - 1) w (words_end w 0)) values) (λ ls. accepted (with_sums o ls)))
      ∙ ap (λ (l : List Shape). ◌>>=◌ asked (λ _. ◌>>=◌ (renew_of o 0 l values) (λ ls. accepted (with_sums o ls)))) (sym some)

  -- What a refusal leaves.
  refused_done : {G : List Float} {q : Refusal} {r : Result Unit Refusal} → out ≡ refused q → r ≡ Err q → Kept (image_of levels w) F G
      → Attempted levels w F G out r
  refused_done {G} {q} {r} e f k =
      let z : view_of levels w G 0 ≡ view_of levels w F 0 = view_stays k levels w (omega arith) in
      record {
        answer = f ∙ sym (ap verdict_of e);
        view = z ∙ sym (ap (hierarchy_of (view_of levels w F 0)) e);
        kept = λ _ _. k;
        size = k.size;
      }

  module _ {image : ℕ} (at : image ≡ image_of levels w) {E : List Float} {v : Result Unit Refusal} (told : Asked w F E offsets columns values (image) v) where
    -- Question 31 or 10 refuses: nothing below the shadow was written.
    pub attempt_asked_no : is_refused v ≡ true → Attempted levels w F E out v
    attempt_asked_no stop =
        let no = told_refused asked told.answer stop in
        refused_done (out_is ∙ then_refused asked (λ _. summed) no.1) no.2 (subst (λ (n : ℕ). Kept n F E) at told.kept)

    module _ (pass : is_refused v ≡ false) {G : List Float} {r : Result Unit Refusal} (done : Renewed o levels 0 w values E G 0 (image) r) where
      -- What the levels leave.
      frame : Kept (image) F G
      frame = kept_on told.kept done.kept

      -- Once 31 and 10 have passed, the levels are renewed.
      through : out ≡ summed
      through = out_is ∙ then_accepted asked (λ _. summed) (passes asked told.answer (went_on_lem v pass))

      -- A level refuses: nothing below the shadow was written.
      pub attempt_no : is_refused r ≡ true → Attempted levels w F G out r
      attempt_no stop =
          let no = told_refused renewed done.answer stop in
          refused_done (through ∙ then_refused renewed (λ ls. accepted (with_sums o ls)) no.1) no.2 (subst (λ (n : ℕ). Kept n F G) at frame)

      -- The levels of the shadow are those of the image, and the row sums are made.
      pub attempt_yes : is_refused r ≡ false → {H : List Float} → Committed levels w G H (image)
          → {norm : MultigridResidualNorm} → o.residual_norm ≡ norm → {K : List Float} → Summed w H K norm (image)
          → Attempted levels w F K out r
      attempt_yes go {H} copied under {K} sums =
          let a = told_accepted renewed done.answer go in
          let is-out : out ≡ accepted (with_sums o a.0) = through ∙ then_accepted renewed (λ ls. accepted (with_sums o ls)) a.1 in
          let room = ok.room in
          let im = at in
          let size : length H ≡ length F = copied.size ∙ frame.size in
          let view : view_of levels w K 0 ≡ with_sums o (levels_at levels w H 0 0) = with_sums_lem ok.some im o under (omega arith) sums in
          record {
            answer = went_on_lem r go ∙ sym (ap verdict_of is-out);
            view = view ∙ ap (with_sums o) (copied.same ∙ done.levels a.0 a.1) ∙ sym (ap (hierarchy_of (view_of levels w F 0)) is-out);
            kept = λ q f. never f is-out;
            size = sums.wrote.size ∙ size;
          }

-- ---- the answer of an update

-- What the attempt requires.
pub attempt_ready : {h : Handle} {w : List ℕ} {size : ℕ} → UpdateOk h w size → (h.levels ≡ 0 → ⊥) → size ≤ 18446744073709551615 → AttemptOk h.levels w size
attempt_ready ok filled fits = record { some = omega (arith, filled); few = ok.few; walk = ok.walk; room = ok.room; fits = fits }

-- The answer is that of the outcome.
answer_is : (out : Outcome Hierarchy) → verdict_of out ≡ updated_answer out
answer_is (accepted k) = refl
answer_is (refused q) = refl

-- The attempt under the options of the handle is the update.
pub update_done : (h : Handle) {w : List ℕ} {F G : List Float} (offsets columns : List ℕ) (values : List Float) {v : Result Unit Refusal}
    → With h.options.smoother h.options.residual_norm (λ o. Attempted h.levels w F G (attempt_of o h.levels w F offsets columns values) v)
    → UpdateDone h w F G (updated_at h w F offsets columns values) v
update_done h {w} {F} offsets columns values all =
    let d = all h.options refl refl in
    record {
      answer = d.answer ∙ answer_is (updated_at h w F offsets columns values);
      view = d.view;
      kept = d.kept;
      size = d.size;
    }

-- ---- no levels

-- the outcome of an update of no levels
abbrev emptied : List ℕ → List ℕ → List Float → Outcome Hierarchy
emptied offsets columns values = ask (empty_pattern offsets columns values) other_pattern (accepted empty_hierarchy)

-- Its answer is that of question 31, and its hierarchy the empty one.
emptied_is : (b : Bool) (q : Refusal) → (verdict_of (ask b q passed) ≡ updated_answer (ask b q (accepted empty_hierarchy)))
    × (empty_hierarchy ≡ hierarchy_of empty_hierarchy (ask b q (accepted empty_hierarchy)))
emptied_is true q = (refl, refl)
emptied_is false q = (refl, refl)

-- Where there are no levels an update leaves the stores as they are.
pub update_empty : (h : Handle) (w : List ℕ) (F : List Float) (offsets columns : List ℕ) (values : List Float) → h.levels ≡ 0 → {v : Result Unit Refusal}
    → v ≡ verdict_of (empty_asked offsets columns values) → UpdateDone h w F F (updated_at h w F offsets columns values) v
unfolding update_of
update_empty h w F offsets columns values none ev =
    let view : view_of h.levels w F 0 ≡ empty_hierarchy = ap (λ (n : ℕ). view_of n w F 0) none ∙ view_empty w F in
    let out : updated_at h w F offsets columns values ≡ emptied offsets columns values =
    ap (λ (k : Hierarchy). update_of h.options (shapes_in k.levels) offsets columns values) view in
    let told = emptied_is (empty_pattern offsets columns values) other_pattern in
    record {
      answer = ev ∙ told.0 ∙ sym (ap updated_answer out);
      view = view ∙ told.1 ∙ sym (ap (hierarchy_of empty_hierarchy) out) ∙ ap (λ (k : Hierarchy). hierarchy_of k (updated_at h w F offsets columns values)) (sym view);
      kept = λ _ _. kept_self;
      size = refl;
    }
