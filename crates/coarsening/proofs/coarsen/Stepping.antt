-- The weights, a step and a repair: what the copies need, and what they leave together.
-- Assumes nothing.
use mathlib.Core.Path.{◌≡◌, ◌∙◌, refl, ap}
use mathlib.Core.Bool.{Bool, true, false, cond}
use mathlib.Core.List.{List, []}
use Prim.Native.Nat.{ℕ, ◌+◌, ◌≤◌}
use native.Mathlib.Omega.{arith}
use lib.ListN.{length}
use lib.Ieee.{Float}
use Rattle.store.specs.Region.{part, Wrote, CopyOk}
use Rattle.store.proofs.store.Region.{wrote_at, wrote_off, kept_wrote, kept_on, kept_less, kept_part, kept_self}
use Rattle.pattern.specs.Pattern.{Pattern, entries}
use Rattle.pattern.proofs.pattern.Number.{not_both}
use Rattle.pattern.proofs.pattern.Row.{offset_mono}
use Rattle.pattern.proofs.pattern.Coarse.{coarse_valid}
use Rattle.galerkin.specs.Contract.{restrict_weights_of}
use Rattle.hierarchy.specs.Build.{Mesh}
use Rattle.coarsening.specs.declared.coarsen.Held.{Held}
use Rattle.coarsening.specs.declared.coarsen.Workspace.{Workspace}
use Rattle.coarsening.specs.declared.coarsen.Formation.{Formation}
use Rattle.coarsening.specs.CoarsenContract.{pattern_at, next_in, merged_in, coarse_at, StepOk, Stepped, RepairOk, Repaired}
use Rattle.coarsening.specs.CoarsenContract.{Formed, WeighOk, Weighed, SettleOk, Settled, FloatsOk, Floats}
use Rattle.coarsening.proofs.coarsen.Regions.{copied_first, copied_second, copied_kept}
use Rattle.coarsening.proofs.coarsen.Forming.{coarse_in, places_in, coarse_room, fine, place_near}

-- ---- weights

-- A function of weights that are given.
where_given : (given : Bool) (f : List Float → List Float) (u v : List Float) → (given ≡ true → u ≡ f v)
    → cond given u [] ≡ cond given (f (cond given v [])) []
where_given true f u v e = e refl
where_given false f u v e = refl

-- Weights that are given.
pub weighed : {w : List ℕ} {F G : List Float} {m : Held} {count : ℕ} {t : Workspace} {n : ℕ} {given : Bool}
    → WeighOk w (length F) m count t n
    → Wrote t.coarse_weights n (restrict_weights_of n m.entries (part t.positions m.entries w)
    (part m.weights m.entries F) count (part t.coarse_offsets (count + 1) w) (part t.coarse_columns n w)) F G
    → Weighed w F G m count t n given
weighed ok h = record { weights = λ _. wrote_at h (omega arith); kept = kept_wrote h (omega arith) }

-- None.
pub unweighed : {w : List ℕ} {F : List Float} {m : Held} {count : ℕ} {t : Workspace} {n : ℕ} {given : Bool} → given ≡ false
    → Weighed w F F m count t n given
unweighed none = record { weights = λ some. absurd (not_both some none); kept = kept_self }

-- ---- copies

-- The pattern, copied.
pub settled : {w x z : List ℕ} {count n : ℕ} {t : Workspace} {offsets columns : ℕ} → SettleOk (length w) count n t offsets columns
    → Wrote offsets (count + 1) (part t.coarse_offsets (count + 1) w) w x → Wrote columns n (part t.coarse_columns n x) x z
    → Settled w z count n t offsets columns
settled {w} {x} {z} {count} {n} {t} ok first second = record {
  starts = copied_first t.coarse_offsets t.coarse_columns first second (omega arith) (omega arith);
  targets = copied_second t.coarse_offsets t.coarse_columns first second (omega arith) (omega arith) ok.room;
  kept = copied_kept t.coarse_offsets t.coarse_columns first second (omega arith);
}

module _ {F G : List Float} {n values weights to beside : ℕ} {given : Bool} (ok : FloatsOk (length F) n values weights to beside)
    (first : Wrote to n (part values n F) F G) where
  -- The values, copied, and the weights behind them.
  pub floats_both : {H : List Float} → Wrote beside n (part weights n G) G H → Floats F H n values weights to beside given
  floats_both second = record {
    first = copied_first values weights first second ok.order (omega arith);
    second = λ _. copied_second values weights first second ok.order ok.under ok.fits;
    kept = copied_kept values weights first second ok.order;
  }

  -- The values alone.
  pub floats_one : given ≡ false → Floats F G n values weights to beside given
  floats_one none = record {
    first = wrote_at first (omega arith);
    second = λ some. absurd (not_both some none);
    kept = kept_wrote first (omega arith);
  }

-- ---- the whole

-- a matrix of its parts
abbrev mesh : Pattern → List Float → List Float → Mesh
mesh p v u = record { pattern = p; values = v; weights = u }

-- Matrices of equal parts are equal.
mesh_same : {p q : Pattern} {v u x y : List Float} → p ≡ q → v ≡ u → x ≡ y → mesh p v x ≡ mesh q u y
mesh_same e f g = rw (e, f, g)

module _ {w x : List ℕ} {F G : List Float} {m : Held} {map count : ℕ} {t : Workspace} {r : Formation}
    (ok : StepOk w (length F) m map count t) (made : Formed w x F G m map count t r) where
  -- The coarse matrix has no more entries than there is room for.
  room : r.entries ≤ t.entries
  room = coarse_room ok made.found

  -- Its offsets.
  offsets_are : part t.coarse_offsets (count + 1) x ≡ (coarse_in w m map count).offsets
  offsets_are = ap (λ (p : Pattern). p.offsets) made.pattern

  -- Its columns.
  columns_are : part t.coarse_columns r.entries x ≡ (coarse_in w m map count).columns
  columns_are = ap (λ (p : Pattern). p.columns) made.pattern

  -- The weights have what they need.
  pub weigh_ok : WeighOk x (length G) m count t r.entries
  weigh_ok =
      let l = ok.work in
      let h = room in
      let size = made.words.size in
      let long = made.floats.size in
      let valid = coarse_valid (pattern_at w m) (part map m.rows w) count in
      record {
        sums = record {
          table = omega arith;
          below = omega arith;
          room = omega arith;
          near = place_near ok x made.positions made.found;
        };
        rows = record {
          starts = omega arith;
          table = omega arith;
          room = omega arith;
          ends = λ row i. rw (offsets_are, made.found, ← valid.last) (offset_mono valid (row + 1) count (omega arith) (omega arith));
        };
      }

  -- ---- a step

  -- The merged matrix's pattern has room.
  pub merged_ok : SettleOk (length x) count r.entries t t.merged_offsets t.merged_columns
  merged_ok =
      let l = ok.work in
      let h = room in
      let size = made.words.size in
      record { order = omega arith; below = omega arith; firsts = omega arith; room = omega arith }

  module _ {H : List Float} {given : Bool} (weights : Weighed x G H m count t r.entries given) where
    -- So have its values and weights.
    pub merged_floats : FloatsOk (length H) r.entries t.coarse_values t.coarse_weights
        t.merged_values t.merged_weights
    merged_floats =
        let l = ok.work in
        let h = room in
        let size = made.floats.size in
        let long = weights.kept.size in
        record { order = omega arith; below = omega arith; under = omega arith; room = omega arith; fits = omega arith }

    module _ {z : List ℕ} {K : List Float} (words : Settled x z count r.entries t t.merged_offsets t.merged_columns)
        (floats : Floats H K r.entries t.coarse_values t.coarse_weights t.merged_values t.merged_weights given) where
      -- The merged matrix has the coarse pattern.
      merged_pattern : pattern_at z (merged_in t count r.entries) ≡ (coarse_at w F given m map count).pattern
      merged_pattern = rw (words.starts, words.targets) made.pattern

      -- Its values.
      merged_values : part t.merged_values r.entries K ≡ (coarse_at w F given m map count).values
      merged_values =
          let l = ok.work in
          let h = room in
          floats.first ∙ kept_part weights.kept t.coarse_values r.entries (omega arith) ∙ made.values

      -- Its weights, where they are given.
      merged_weights : given ≡ true → part t.merged_weights r.entries K
          ≡ restrict_weights_of (entries (coarse_in w m map count)) (entries (pattern_at w m))
          (places_in w m map count) (part m.weights m.entries F) count
          (coarse_in w m map count).offsets (coarse_in w m map count).columns
      merged_weights told = floats.second told ∙ weights.weights told
          ∙ rw (
            offsets_are,
            columns_are,
            made.positions,
            kept_part made.floats m.weights m.entries ok.weights,
            fine ok,
            ← made.found,
          )

      -- And none where they are not.
      mesh_weights : cond given (part t.merged_weights r.entries K) [] ≡ (coarse_at w F given m map count).weights
      mesh_weights = where_given given
          (λ u. restrict_weights_of (entries (coarse_in w m map count)) (entries (pattern_at w m))
          (places_in w m map count) u count
          (coarse_in w m map count).offsets (coarse_in w m map count).columns)
          (part t.merged_weights r.entries K) (part m.weights m.entries F) merged_weights

      -- The coarse matrix stands where merged steps keep theirs.
      pub stepped : Stepped w z F K given m map count t r
      stepped =
          let l = ok.work in
          record {
            found = made.found;
            finite = made.finite;
            mesh = mesh_same merged_pattern merged_values mesh_weights;
            words = kept_on (kept_less made.words (omega arith)) words.kept;
            floats = kept_on (kept_less (kept_on made.floats (kept_less weights.kept (omega arith))) (omega arith)) floats.kept;
          }

-- ---- a repair

module _ {w x : List ℕ} {F G : List Float} {m : Held} {map count : ℕ} {t : Workspace} {to : ℕ} {r : Formation}
    (ok : RepairOk w (length F) m map count t to) (made : Formed w x F G m map count t r) where
  -- The positions have room.
  pub positions_ok : CopyOk (length x) m.entries t.positions to
  positions_ok =
      let s = ok.step in
      let l = s.work in
      let size = made.words.size in
      record { source = omega arith; target = omega arith; clear = omega arith }

  -- So have the next level's values and weights.
  pub next_floats : FloatsOk (length G) r.entries t.coarse_values t.merged_weights t.values t.weights
  next_floats =
      let l = ok.step.work in
      let h = room ok.step made in
      let size = made.floats.size in
      record { order = omega arith; below = omega arith; under = omega arith; room = omega arith; fits = omega arith }

  -- And its pattern, whatever was written.
  pub next_ok : {n : ℕ} {v y : List ℕ} → Wrote to n v x y → SettleOk (length y) count r.entries t t.offsets t.columns
  next_ok copied =
      let s = ok.step in
      let l = s.work in
      let h = room s made in
      let size = made.words.size in
      let long = copied.size in
      record { order = omega arith; below = omega arith; firsts = omega arith; room = omega arith }

  module _ {y z : List ℕ} {K : List Float} {given : Bool} (copied : Wrote to m.entries (part t.positions m.entries x) x y)
      (words : Settled y z count r.entries t t.offsets t.columns)
      (floats : Floats G K r.entries t.coarse_values t.merged_weights t.values t.weights given) where
    -- The next level's matrix has the coarse pattern.
    next_pattern : pattern_at z (next_in t count r.entries) ≡ (coarse_at w F given m map count).pattern
    next_pattern =
        let s = ok.step in
        let l = s.work in
        let h = room s made in
        rw (
          words.starts,
          words.targets,
          wrote_off copied t.coarse_offsets (count + 1) (omega arith),
          wrote_off copied t.coarse_columns r.entries (omega arith),
        ) made.pattern

    -- The positions stand at the level, and the coarse matrix is the next level's.
    pub repaired : Repaired w z F K given m map count t to r
    repaired =
        let s = ok.step in
        let l = s.work in
        let h = room s made in
        let size = made.words.size in
        record {
          found = made.found;
          finite = made.finite;
          positions = kept_part words.kept to m.entries ok.room ∙ wrote_at copied (omega arith) ∙ made.positions;
          pattern = next_pattern;
          values = floats.first ∙ made.values;
          weights = λ told. floats.second told ∙ kept_part made.floats t.merged_weights r.entries (omega arith);
          words = kept_on (kept_less made.words (omega arith))
              (kept_on (kept_wrote copied (omega arith)) (kept_less words.kept (omega arith)));
          floats = kept_on (kept_less made.floats (omega arith)) floats.kept;
        }
