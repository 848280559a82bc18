-- The whole build: what its steps require of one another, and each way out.
-- Assumes nothing.
use Rattle.std.specs.Prelude.{Result, Ok, Err}
use mathlib.Core.Path.{◌≡◌, refl, sym, ap, ◌∙◌, subst}
use mathlib.Core.Bool.{Bool, true, false, cond}
use mathlib.Core.List.{List, []}
use Prim.Native.Nat.{ℕ, ◌+◌, ◌-◌, ◌*◌, ◌≤◌}
use native.Mathlib.Omega.{arith}
use lib.ListN.{length}
use borrow.Author.Tests.{eq-eqb, ne_eqb}
use lib.Ieee.{Float}
use Rattle.float.specs.Float.{zero64}
use Rattle.store.specs.Region.{part, Kept}
use Rattle.store.specs.Vector.{filled}
use Rattle.store.proofs.store.Each.{both_l}
use Rattle.store.proofs.store.Region.{length_part, kept_part}
use Rattle.store.proofs.store.Vector.{length_tab}
use Rattle.options.specs.declared.options.MultigridOptions.{MultigridOptions}
use Rattle.options.specs.declared.options.Handle.{Handle}
use Rattle.refusal.specs.declared.Refusal.{Refusal}
use Rattle.refusal.specs.Refusal.{not_symmetric}
use Rattle.refusal.specs.Outcome.{Outcome, accepted, refused, ask, ◌>>=◌}
use Rattle.refusal.proofs.Outcome.{accepted_one}
use Rattle.coefficients.specs.Mirrors.{mirrors_agree}
use Rattle.pattern.specs.Pattern.{Pattern, entries, Valid, Rising, Mirrored}
use Rattle.faces.specs.Faces.{faces_of, uppers_of, lowers_of, mirrored_of}
use Rattle.faces.proofs.faces.Laws.{mirrored_is}
use Rattle.hierarchy.specs.Level.{Level, Hierarchy, empty_hierarchy}
use Rattle.hierarchy.specs.Refresh.{with_sums}
use Rattle.hierarchy.specs.Build.{charge, Charge, fixed_charge, and_level, Mesh, Input, pattern_in, mesh_in, symmetric_of, grow_of, build_of}
use Rattle.hierarchy.proofs.Depth as depth
use Rattle.layout.specs.Layout.{image_end, words_fit, view_of}
use Rattle.layout.specs.Headers.{heads_at, heads_of}
use Rattle.layout.proofs.Views.{view_empty}
use Rattle.coarsening.specs.declared.coarsen.Workspace.{Workspace}
use Rattle.coarsening.specs.CoarsenContract.{WorkOk}
use Rattle.build_level.specs.declared.laying.Frontier.{Frontier}
use Rattle.build_level.specs.LayingContract.{frontier_at}
use Rattle.build_level.specs.declared.coarsest.Growth.{Growth}
use Rattle.build_level.specs.CoarsestContract.{Levels}
use Rattle.build_levels.specs.GrowingContract.{grow_at, Grown}
use Rattle.build.specs.Built.{lent_of, built_of, BuildDone}
use Rattle.build.specs.AskingContract.{lending, asked_of, Asked, Fitting, Spaced}
use Rattle.build.proofs.questions.Chains.{passed_then, refused_then}
use Rattle.build.specs.Finest.{LoadOk, Loaded, finest_at, SymmetricOk, SymmetricDone, finest_of, SumsOk, Summed}
use Rattle.build.specs.Steps.{rest_of, after_room, empty_made, LevelsOk, levels_made, LevelsDone, Tried, Begun, Attempted, Cleared}
use Rattle.build.proofs.Chain.{build_asked}
use Rattle.build.proofs.First.{Leading, grow_leading, sums_ok, viewed}

-- ---- the levels

-- What an answer of levels tells.
record Answered (z : List ℕ) (out : Outcome (List Level)) (k end : ℕ) : Type 0 where
  ls : List Level
  is : out ≡ accepted ls
  count : k ≡ length ls
  ends : end ≡ image_end (length ls) z 0 0

answered : {w z : List ℕ} {F H : List Float} {t : Workspace} {g : Result Growth Refusal} {m : Growth} (out : Outcome (List Level))
    → Levels w z F H t 0 0 0 out g
    → g ≡ Ok m → Answered z out m.levels m.end
answered {w} {z} {F} {H} {t} {g} {m} (accepted ls) l e =
    let told = l.made ls refl in
    let same : m ≡ record { levels = 0 + length ls; end = image_end (length ls) z 0 0 } = cc in
    let count : m.levels ≡ 0 + length ls = ap (λ (x : Growth). x.levels) same in
    record { ls = ls; is = refl; count = omega arith; ends = ap (λ (x : Growth). x.end) same }
answered (refused q) l e = let m = l.refusal q refl in absurd (let none : ◌≡◌ {A = ℕ} 0 1 = cc in omega arith)

not_answered : {w z : List ℕ} {F H : List Float} {t : Workspace} {g : Result Growth Refusal} {q : Refusal} (out : Outcome (List Level))
    → Levels w z F H t 0 0 0 out g
    → g ≡ Err q → out ≡ refused q
not_answered (accepted ls) l e = let m = l.made ls refl in absurd (let none : ◌≡◌ {A = ℕ} 0 1 = cc in omega arith)
not_answered (refused q) l e = let m = l.refusal q refl in cc

-- An outcome is not both.
one_way : {A : Type 0} {o : Outcome A} {a : A} {q : Refusal} → o ≡ accepted a → o ≡ refused q → ⊥
one_way e f = let none : ◌≡◌ {A = ℕ} 0 1 = cc in omega arith

refused_one : {A : Type 0} {o : Outcome A} {p q : Refusal} → o ≡ refused p → o ≡ refused q → p ≡ q
refused_one e f = cc

module _ {w z : List ℕ} {F H : List Float} {o : MultigridOptions} {given : Bool} {t : Workspace} {s : Frontier} {g : Result Growth Refusal}
    (ok : LevelsOk w (length F) o t) (start : s ≡ finest_of o t) (grown : Grown w z F H o given t s g) where
  levels : Levels w z F H t 0 0 0 (grow_at o given w F t (finest_of o t)) g
  levels = (rw start at grown).levels

  module _ {grew : Growth} (made : g ≡ Ok grew) where
    abbrev k : ℕ
    k = grew.levels

    abbrev end : ℕ
    end = grew.end

    told : Answered z (grow_at o given w F t (finest_of o t)) k end
    told = answered (grow_at o given w F t (finest_of o t)) levels made

    leading : Leading (finest_at w t) told.ls
    leading =
        let c = finest_of o t in
        grow_leading o given (charge (length w) (length F)) c.more 0 0 (charge c.words c.floats) (frontier_at w F given t c) told.is

    many : entries (finest_at w t) ≡ t.entries
    many = let work = ok.frontier.room.work in length_part t.columns t.entries w (omega arith)

    room : end + t.rows ≤ length H
    room =
        let below = levels.ends told.ls told.is in
        let is = told.ends in
        let work = ok.frontier.room.work in
        let size = levels.floats.size in
        omega arith

    -- What the row sums require.
    pub grown_sums : SumsOk z (length H) end t.rows t.entries
    grown_sums =
        sums_ok z H ok.frontier.valid leading (levels.view told.ls told.is) (levels.fits told.ls told.is)
        refl many ok.frontier.room.work.few ok.frontier.room.work.less told.ends room

    pub grown_made : {G : List Float} → Summed z H G o end t.rows
        → LevelsDone w z F G o given t (Ok (record { options = o; levels = k; rows = t.rows; entries = t.entries }))
    grown_made {G} sums =
        let same : (ls : List Level) → grow_at o given w F t (finest_of o t) ≡ accepted ls → told.ls ≡ ls =
        λ ls e. accepted_one (sym told.is ∙ e) in
        let view : view_of (length told.ls) z G 0 ≡ with_sums o told.ls =
        viewed z H ok.frontier.valid leading (levels.view told.ls told.is) (levels.fits told.ls told.is) refl
        told.ends room sums in
        record {
          made = λ ls e. subst
              (λ (l : List Level). Ok (record { options = o; levels = k; rows = t.rows; entries = t.entries }) ≡ levels_made o t l)
              (same ls e) (ap (λ (n : ℕ). Ok (record { options = o; levels = n; rows = t.rows; entries = t.entries })) told.count);
          refusal = λ q e. absurd (one_way told.is e);
          view = λ ls e. subst (λ (l : List Level). view_of (length l) z G 0 ≡ with_sums o l) (same ls e) view;
          fits = λ ls e. levels.fits ls e;
          heads = λ ls e. levels.heads ls e;
          wordsize = levels.words.size;
          floatsize = sums.wrote.size ∙ levels.floats.size;
        }

  pub grown_refused : {q : Refusal} → g ≡ Err q → LevelsDone w z F H o given t (Err q)
  grown_refused {q} e =
      let none_is : grow_at o given w F t (finest_of o t) ≡ refused q = not_answered (grow_at o given w F t (finest_of o t)) levels e in
      record {
        made = λ ls a. absurd (one_way a none_is);
        refusal = λ p a. ap Err (refused_one none_is a);
        view = λ ls a. absurd (one_way a none_is);
        fits = λ ls a. absurd (one_way a none_is);
        heads = λ ls a. absurd (one_way a none_is);
        wordsize = levels.words.size;
        floatsize = levels.floats.size;
      }

-- ---- ways out

-- Row sums change no level.
levels_of : (o : MultigridOptions) (ls : List Level) → (with_sums o ls).levels ≡ ls
levels_of o ls = depth.levels_kept o ls

mirrors_of_lem : (p : Pattern) (values : List Float) → symmetric_of p values ≡ true → mirrored_of p ≡ true
unfolding symmetric_of
mirrors_of_lem p values e = both_l (mirrored_of p) (mirrors_agree (faces_of p) (uppers_of p) (lowers_of p) values) e

meshes : {p q : Pattern} {a b c d : List Float} → p ≡ q → a ≡ b → c ≡ d
    → ◌≡◌ {A = Mesh} (record { pattern = p; values = a; weights = c }) (record { pattern = q; values = b; weights = d })
meshes e f g = rw (e, f, g)

weights_of : (given : Bool) {a b : List Float} → (given ≡ true → a ≡ b) → cond given a [] ≡ cond given b []
weights_of true f = f refl
weights_of false f = refl

ask_no : {A : Type 0} (a : Bool) (q : Refusal) (rest : Outcome A) → a ≡ false → ask a q rest ≡ refused q
ask_no a q rest e = rw e

ask_yes : {A : Type 0} (a : Bool) (q : Refusal) (rest : Outcome A) → a ≡ true → ask a q rest ≡ rest
ask_yes a q rest e = rw e

-- An attempt that refuses.
refusing : {w z : List ℕ} {F G : List Float} {x : Input} {q : Refusal} (out : Outcome Hierarchy) → out ≡ refused q → length z ≡ length w
    → length G ≡ length F → Tried w z F G out x (Err q)
refusing {w} {z} {F} {G} {x} {q} out e m n = record {
  answer = sym (ap (built_of x) e);
  view = λ h a. absurd (one_way a e);
  fits = λ h a. absurd (one_way a e);
  heads = λ h a. absurd (one_way a e);
  wordsize = m;
  floatsize = n;
}

grow_same : (o : MultigridOptions) (given : Bool) (more : ℕ) {c d e f : Charge} {m n : Mesh} → c ≡ d → e ≡ f → m ≡ n
    → grow_of o given c more 0 0 e m ≡ grow_of o given d more 0 0 f n
grow_same o given more p q r = rw (p, q, r)

-- The charge of the finest matrix, said of the temporaries' sizes.
rooms : (krylov square offsets values : ℕ) {rows entries words floats r e : ℕ} → r ≡ rows → e ≡ entries
    → 16 * rows + 12 * entries + 64 + (5 * rows + 4 * entries + 8) ≤ words
    → (12 + 2 * krylov) * rows + 8 * entries + square + (20 * rows + 4 * entries) ≤ floats
    → offsets + (16 * rows + 12 * entries + 64) ≡ words → values + ((12 + 2 * krylov) * rows + 8 * entries) ≡ floats
    → (16 * r + 12 * e + 64 + (5 * r + 4 * e + 8) ≤ words) × ((12 + 2 * krylov) * r + 8 * e + square + (20 * r + 4 * e) ≤ floats)
    × (offsets + (16 * r + 12 * e + 64) ≡ words) × (values + ((12 + 2 * krylov) * r + 8 * e) ≡ floats)
rooms krylov square offsets values p q a b c d = rw (p, q) (a, b, c, d)

-- ---- from question 10 on

module _ {words floats : ℕ} {x : Input} {t : Workspace} (fit : Fitting words floats x)
    (space : Spaced words floats x.rows (length x.columns) x.options.krylov_dimension t) where
  pub load_ok : LoadOk words floats x.offsets x.columns x.values x.given x.weights t
  load_ok =
      let a = fit.arrays in
      record {
        work = space.work;
        rowed = a.valid.size ∙ ap (λ (n : ℕ). n + 1) (sym space.tall);
        listed = sym space.most;
        valued = a.sizes.counted ∙ sym space.most;
        weighed = λ g. a.weighed g ∙ sym space.most;
      }

  module _ {w z : List ℕ} {F G : List Float} (words-is : words ≡ length w) (floats-is : floats ≡ length F)
      (load : Loaded w z F G x.offsets x.columns x.values x.given x.weights t) where
    same_pattern_lem : {y : List ℕ} → Kept t.starts z y → finest_at y t ≡ pattern_in x
    same_pattern_lem {y} kept =
        let work = space.work in
        let rowed : part t.offsets (t.rows + 1) y ≡ x.offsets = kept_part kept t.offsets (t.rows + 1) (omega arith) ∙ load.rowed in
        let listed : part t.columns t.entries y ≡ x.columns = kept_part kept t.columns t.entries (omega arith) ∙ load.listed in
        rw (rowed, listed, space.tall)

    pattern_is : finest_at z t ≡ pattern_in x
    pattern_is = rw (load.rowed, load.listed, space.tall)

    pub symmetric_ok : SymmetricOk z x.values t
    symmetric_ok =
        let work = space.work in
        let size = load.wordsize in
        record {
          few = work.few;
          less = work.less;
          offsets = omega arith;
          columns = omega arith;
          starts = omega arith;
          neighbors = work.neighbors;
          uppers = work.uppers;
          lowers = omega arith;
          valid = subst (λ (p : Pattern). Valid p) (sym pattern_is) fit.arrays.valid;
          rising = subst (λ (p : Pattern). Rising p) (sym pattern_is) fit.arrays.rising;
          counted = fit.arrays.sizes.counted ∙ sym space.most;
        }

    module _ {y : List ℕ} {r : Bool} (asked : SymmetricDone z y x.values t r) where
      answer_is : r ≡ symmetric_of (pattern_in x) x.values
      answer_is = asked.answer ∙ ap (λ (p : Pattern). symmetric_of p x.values) pattern_is

      finest_is : finest_at y t ≡ pattern_in x
      finest_is = same_pattern_lem asked.words

      -- What the levels require.
      pub levels_ok : r ≡ true → LevelsOk y (length G) x.options t
      levels_ok holds =
          let a = fit.arrays in
          let c = a.controls in
          let work = space.work in
          let tall = space.tall in
          let most = space.most in
          let size = load.wordsize in
          let floatsize = load.floatsize in
          let kept = asked.words.size in
          let deep : words ≡ length y = omega arith in
          let long : floats ≡ length G = omega arith in
          let room = rooms x.options.krylov_dimension (x.options.coarsest_cells * x.options.coarsest_cells) t.offsets
          t.values tall most fit.heldwords fit.heldfloats space.ends space.tops in
          record {
            controls = c;
            frontier = record {
              controls = record { coarsest = c.coarsest; merges = c.merges; merge = c.merge };
              room = record {
                work = subst (λ (n : ℕ). WorkOk n (length G) t) deep (subst (λ (n : ℕ). WorkOk words n t) long work);
                few = omega arith;
                less = omega arith;
                ends = room.2 ∙ deep;
                tops = room.3 ∙ long;
                below = omega arith;
                under = omega arith;
                heldwords = omega (arith, room.0);
                heldfloats = omega (arith, room.1);
              };
              valid = subst (λ (p : Pattern). Valid p) (sym finest_is) a.valid;
              rising = subst (λ (p : Pattern). Rising p) (sym finest_is) a.rising;
              mirrored = subst (λ (p : Pattern). Mirrored p) (sym finest_is)
                  (mirrored_is a.valid a.rising (mirrors_of_lem (pattern_in x) x.values (sym answer_is ∙ holds)));
              levels = omega (arith, c.levels);
              stages = omega (arith, c.levels);
            };
          }

      mesh_is : frontier_at y G x.given t (finest_of x.options t) ≡ mesh_in x
      mesh_is = meshes finest_is load.valued (weights_of x.given load.weighed)

      used_is : charge (finest_of x.options t).words (finest_of x.options t).floats
          ≡ and_level (pattern_in x) (fixed_charge x.options x.rows (length x.columns))
      used_is = rw (space.tall, space.most)

      stores_is : charge (length y) (length G) ≡ charge (length w) (length F)
      stores_is = rw (asked.words.size ∙ load.wordsize, load.floatsize)

      -- The levels from the temporaries are those of the matrix.
      grow_is : grow_at x.options x.given y G t (finest_of x.options t)
          ≡ grow_of x.options x.given (charge (length w) (length F)) (x.options.max_levels - 1) 0 0
          (and_level (pattern_in x) (fixed_charge x.options x.rows (length x.columns))) (mesh_in x)
      grow_is = grow_same x.options x.given (x.options.max_levels - 1) stores_is used_is mesh_is

      pub begun_asymmetric : r ≡ false → Begun w y F G x (Err not_symmetric)
      unfolding rest_of
      begun_asymmetric fails =
          refusing (rest_of (charge (length w) (length F)) x)
          (ask_no (symmetric_of (pattern_in x) x.values) not_symmetric _ (sym answer_is ∙ fails))
          (asked.words.size ∙ load.wordsize) load.floatsize

      rest_is : r ≡ true → rest_of (charge (length w) (length F)) x
          ≡ ◌>>=◌ (grow_at x.options x.given y G t (finest_of x.options t)) (λ ls. accepted (with_sums x.options ls))
      unfolding rest_of
      rest_is holds =
          ask_yes (symmetric_of (pattern_in x) x.values) not_symmetric _ (sym answer_is ∙ holds)
          ∙ ap (λ (out : Outcome (List Level)). ◌>>=◌ out (λ ls. accepted (with_sums x.options ls))) (sym grow_is)

      pub begun_levels : r ≡ true → {v : List ℕ} {H : List Float} {b : Result Handle Refusal} → LevelsDone y v G H x.options x.given t b
          → Begun w v F H x b
      begun_levels holds {v} {H} {b} done =
          go (grow_at x.options x.given y G t (finest_of x.options t)) refl (rest_is holds)
        where
          handle_is : (ls : List Level) → levels_made x.options t ls ≡ built_of x (accepted (with_sums x.options ls))
          handle_is ls = rw (levels_of x.options ls, space.tall, space.most)

          go : (out : Outcome (List Level)) → grow_at x.options x.given y G t (finest_of x.options t) ≡ out
              → rest_of (charge (length w) (length F)) x ≡ ◌>>=◌ out (λ ls. accepted (with_sums x.options ls)) → Begun w v F H x b
          go (accepted ls) e q = record {
            answer = done.made ls e ∙ handle_is ls ∙ sym (ap (built_of x) q);
            view = λ h a. subst (λ (k : Hierarchy). view_of (length k.levels) v H 0 ≡ k) (accepted_one (sym q ∙ a))
                (ap (λ (l : List Level). view_of (length l) v H 0) (levels_of x.options ls) ∙ done.view ls e);
            fits = λ h a. subst (λ (k : Hierarchy). words_fit (length k.levels) v 0 ≡ true) (accepted_one (sym q ∙ a))
                (ap (λ (l : List Level). words_fit (length l) v 0) (levels_of x.options ls) ∙ done.fits ls e);
            heads = λ h a. subst (λ (k : Hierarchy). heads_at (length k.levels) v 0 ≡ heads_of k.levels) (accepted_one (sym q ∙ a))
                (ap (λ (l : List Level). heads_at (length l) v 0) (levels_of x.options ls) ∙ done.heads ls e
                ∙ ap heads_of (sym (levels_of x.options ls)));
            wordsize = done.wordsize ∙ asked.words.size ∙ load.wordsize;
            floatsize = done.floatsize ∙ load.floatsize;
          }
          go (refused q) e a =
              rw (done.refusal q e) (refusing (rest_of (charge (length w) (length F)) x) a (done.wordsize ∙ asked.words.size ∙ load.wordsize)
              (done.floatsize ∙ load.floatsize))

-- ---- the whole

-- An attempt that makes no levels.
emptied : {w : List ℕ} {F : List Float} {x : Input} {out : Outcome Hierarchy} {r : Result Handle Refusal} → r ≡ empty_made x.options x.rows (length x.columns)
    → out ≡ accepted empty_hierarchy → Tried w w F F out x r
unfolding words_fit heads_at heads_of
emptied {w} {F} {x} e is = record {
  answer = e ∙ sym (ap (built_of x) is);
  view = λ h a. subst (λ (k : Hierarchy). view_of (length k.levels) w F 0 ≡ k) (accepted_one (sym is ∙ a)) (view_empty w F);
  fits = λ h a. subst (λ (k : Hierarchy). words_fit (length k.levels) w 0 ≡ true) (accepted_one (sym is ∙ a)) refl;
  heads = λ h a. subst (λ (k : Hierarchy). heads_at (length k.levels) w 0 ≡ heads_of k.levels) (accepted_one (sym is ∙ a)) refl;
  wordsize = refl;
  floatsize = refl;
}

module _ (w : List ℕ) (F : List Float) {x : Input} {records : ℕ} {v : Result Unit Refusal} (asked : Asked (lending (length w) (length F) records) x v) where
  -- What follows the questions.
  after_is : v ≡ Ok tt → build_of (lent_of w F records) x ≡ after_room (charge (length w) (length F)) x
  after_is p =
      let l = lent_of w F records in
      build_asked l x ∙ passed_then (asked_of l x) (after_room (charge (length w) (length F)) x) (sym asked.answer ∙ p)

  pub attempt_on : {z : List ℕ} {G : List Float} {r : Result Handle Refusal} → v ≡ Ok tt → (x.rows ≡ 0 → ⊥) → Begun w z F G x r → Attempted w z F G x records r
  attempt_on {z} {G} {r} p some begun =
      let out = rest_of (charge (length w) (length F)) x in
      let rest : after_room (charge (length w) (length F)) x ≡ out = rw (ne_eqb x.rows 0 some) in
      subst (λ (out : Outcome Hierarchy). Tried w z F G out x r) (sym (after_is p ∙ rest)) begun

  -- Of no rows: the stores stay as they were, and hold no levels.
  pub attempt_empty : {r : Result Handle Refusal} → v ≡ Ok tt → x.rows ≡ 0 → r ≡ empty_made x.options x.rows (length x.columns)
      → Attempted w w F F x records r
  attempt_empty {r} p none e =
      let rest : after_room (charge (length w) (length F)) x ≡ accepted empty_hierarchy = rw (eq-eqb x.rows 0 none) in
      emptied e (after_is p ∙ rest)

  pub attempt_no : {q : Refusal} → v ≡ Err q → Attempted w w F F x records (Err q)
  attempt_no {q} p =
      let l = lent_of w F records in
      refusing (build_of l x)
      (build_asked l x ∙ refused_then (asked_of l x) (after_room (charge (length w) (length F)) x) q (sym asked.answer ∙ p)) refl refl

not_both : {h : Handle} {q : Refusal} → Ok h ≡ Err q → ⊥
not_both e = let none : ◌≡◌ {A = ℕ} 0 1 = cc in omega arith

module _ (records : ℕ) {w z : List ℕ} {F G : List Float} {x : Input} {r : Result Handle Refusal} (t : Attempted w z F G x records r) where
  pub done_made : {h : Handle} → r ≡ Ok h → BuildDone w z F G x records (Ok h)
  done_made e = record {
    answer = sym e ∙ t.answer;
    view = t.view;
    fits = t.fits;
    heads = t.heads;
    words = λ q a. absurd (not_both (sym e ∙ t.answer ∙ ap (built_of x) a));
    floats = λ q a. absurd (not_both (sym e ∙ t.answer ∙ ap (built_of x) a));
    wordsize = t.wordsize;
    floatsize = t.floatsize;
  }

  pub done_refused : {q : Refusal} {u : List ℕ} {H : List Float} → r ≡ Err q → Cleared z u G H
      → BuildDone w u F H x records (Err q)
  done_refused {q} {u} {H} e c = record {
    answer = sym e ∙ t.answer;
    view = λ h k. absurd (not_both (sym (ap (built_of x) k) ∙ sym t.answer ∙ e));
    fits = λ h k. absurd (not_both (sym (ap (built_of x) k) ∙ sym t.answer ∙ e));
    heads = λ h k. absurd (not_both (sym (ap (built_of x) k) ∙ sym t.answer ∙ e));
    words = λ p k. c.words ∙ ap (λ (n : ℕ). filled n 0) t.wordsize;
    floats = λ p k. c.floats ∙ ap (λ (n : ℕ). filled n zero64) t.floatsize;
    wordsize = ap length c.words ∙ length_tab (λ _. 0) (length z) ∙ t.wordsize;
    floatsize = ap length c.floats ∙ length_tab (λ _. zero64) (length G) ∙ t.floatsize;
  }
