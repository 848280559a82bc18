-- Merged steps: what each call requires, and the ways out.
-- Assumes nothing.
use Rattle.std.specs.Prelude.{Result, Ok, Err, Option, Some, None}
use mathlib.Core.Path.{◌≡◌, refl, sym, ap, ◌∙◌}
use mathlib.Core.Bool.{Bool, true, false}
use mathlib.Core.List.{List}
use Prim.Native.Nat.{ℕ, zero, suc, ◌+◌, ◌-◌, ◌≤◌}
use native.Mathlib.Omega.{arith}
use borrow.Author.Tests.{eq-eqb, ne_eqb}
use lib.Dec.{eqb}
use lib.ListN.{length}
use lib.Ieee.{Float}
use Rattle.options.specs.declared.options.MultigridOptions.{MultigridOptions}
use Rattle.refusal.specs.declared.Refusal.{Refusal}
use Rattle.refusal.specs.Refusal.{bad_coarse_value}
use Rattle.refusal.specs.Outcome.{Outcome, accepted, refused}
use Rattle.store.specs.Region.{part, Kept}
use Rattle.store.proofs.store.Region.{kept_on, kept_less, kept_self, kept_part}
use Rattle.vector.specs.Finite.{all_finite}
use Rattle.aggregation.specs.Pairs.{Weighted, Pairing}
use Rattle.aggregation.specs.Contract.{InRange}
use Rattle.aggregation.proofs.Numbers.{count_most}
use Rattle.pattern.specs.Pattern.{entries, coarse, Maps, Onto, compose_of}
use Rattle.pattern.proofs.pattern.Coarse.{coarse_few}
use Rattle.hierarchy.specs.Build.{Mesh, Merged, merged, coarsened, merge_of, weighted_by}
use Rattle.hierarchy.specs.Steps.{even, joined_step, merge_step}
use Rattle.hierarchy.proofs.Proper.{coarse_proper, valid_range, paired_maps, paired_onto}
use Rattle.hierarchy.proofs.Twice.{compose_maps, compose_onto}
use Rattle.coarsening.specs.declared.coarsen.Workspace.{Workspace}
use Rattle.coarsening.specs.declared.coarsen.Formation.{Formation}
use Rattle.coarsening.specs.CoarsenContract.{pattern_at, mesh_at, merged_in, coarse_at}
use Rattle.coarsening.specs.declared.merging.Merging.{Merging}
use Rattle.coarsening.specs.MergingContract.{merging_of, MergeOk, merge_at, MergeDone}
use Rattle.coarsening.specs.Steps.{PairOk, paired_at, PairDone, JoinOk, JoinDone}
use Rattle.coarsening.proofs.merging.Pairing.{size, same_offsets, same_columns}

-- The answer where the steps end with so many rows and entries after so many pairings.
abbrev pub ended : ℕ → ℕ → ℕ → Result Merging Refusal
ended rows most stage = Ok (record { count = rows; entries = most; stage = stage })

-- A step more.
merge_more : (o : MultigridOptions) (given : Bool) (steps level : ℕ) (s : Merged) → (steps ≡ 0 → ⊥)
    → merge_of o given steps level s ≡ merge_step o given (merge_of o given (steps - 1) level) level s
unfolding merge_of
merge_more o given zero level s h = absurd (h refl)
merge_more o given (suc n) level s h = let e : suc n - 1 ≡ n = omega arith in rw e

module _ {w : List ℕ} (F : List Float) {t : Workspace} {rows map count most stage steps : ℕ}
    (ok : MergeOk w (length F) t rows map count most stage steps) where
  -- What the pairing requires.
  pub pair_requires : PairOk w (length F) t count most
  pair_requires = record { work = ok.work; few = omega arith; room = ok.room; proper = ok.proper }

  module _ (o : MultigridOptions) (given : Bool) (level : ℕ) where
    abbrev here : Mesh
    here = mesh_at w F given (merged_in t count most)

    abbrev links : List ℕ
    links = part map rows w

    abbrev all : Outcome Merged
    all = merge_at o given w F t rows map count most stage steps level

    -- The steps end with the matrix that stands there.
    merge_ends : {z : List ℕ} (last : ℕ) → all ≡ accepted (merged here links last) → Kept t.map w z
        → MergeDone o given w z F F t rows map count most stage steps level (ended count most last)
    merge_ends {z} last e k =
        let work = ok.work in
        let long : length (part t.merged_columns most w) ≡ most = size pair_requires in
        let below : part map rows z ≡ part map rows w = kept_part k map rows (omega arith) in
        let mesh : mesh_at z F given (merged_in t count (entries here.pattern)) ≡ here =
        rw (long, same_offsets pair_requires k, same_columns pair_requires k) in
        record {
          answer = rw (e, long);
          mesh = λ s i. let same : s ≡ merged here links last = cc in rw same mesh;
          links = λ s i. let same : s ≡ merged here links last = cc in rw same below;
          words = kept_less k (omega arith);
          floats = kept_self;
        }

    -- The steps end with a refusal.
    merge_refuses : {z : List ℕ} {G : List Float} {q : Refusal} → all ≡ refused q → Kept map w z → Kept t.merged_values F G
        → MergeDone o given w z F G t rows map count most stage steps level (Err q)
    merge_refuses e k l = record {
      answer = rw e;
      mesh = λ s i. let x : ◌≡◌ {A = ℕ} 0 1 = cc in absurd (omega arith);
      links = λ s i. let x : ◌≡◌ {A = ℕ} 0 1 = cc in absurd (omega arith);
      words = k;
      floats = l;
    }

    -- No step is left.
    pub merge_none : steps ≡ 0 → MergeDone o given w w F F t rows map count most stage steps level (ended count most stage)
    unfolding merge_of
    merge_none e = merge_ends stage (rw e) kept_self

    module _ {z : List ℕ} {found : Result (Option ℕ) Refusal} (more : steps ≡ 0 → ⊥) (p : PairDone o given w z F t count most stage level found) where
      abbrev further : Merged → Outcome Merged
      further = merge_of o given (steps - 1) level

      opened : all ≡ merge_step o given further level (merged here links stage)
      opened = merge_more o given steps level (merged here links stage) more

      map_kept : Kept map w z
      map_kept = let work = ok.work in kept_less p.words (omega arith)

      links_same : part map rows z ≡ part map rows w
      links_same = let work = ok.work in kept_part p.words map rows (omega arith)

      -- Question 12 or 13 refused.
      pub merge_refused : {q : Refusal} → found ≡ Err q
          → MergeDone o given w z F F t rows map count most stage steps level (Err q)
      merge_refused e = merge_refuses (opened ∙ p.step further links ∙ rw e) map_kept kept_self

      -- Few rows are coupled.
      pub merge_few : found ≡ Ok None → MergeDone o given w z F F t rows map count most stage steps level (ended count most stage)
      merge_few e = merge_ends stage (opened ∙ p.step further links ∙ rw e) p.words

      module _ {joined : ℕ} (e : found ≡ Ok (Some joined)) where
        abbrev pairing : Pairing
        pairing = paired_at o given w F t count most stage

        abbrev graph : Weighted
        graph =
            weighted_by o given here

        counted : joined ≡ pairing.count
        counted = p.joined joined e

        stepped : all ≡ joined_step o given further (merged here links stage) pairing
        stepped = opened ∙ p.step further links ∙ rw e

        -- The pairing joined nothing.
        pub merge_alone : joined ≡ count
            → MergeDone o given w z F F t rows map count most stage steps level (ended count most (stage + 1))
        merge_alone h =
            let alone : eqb pairing.count count ≡ true = rw (← counted) (eq-eqb joined count h) in
            merge_ends (stage + 1) (stepped ∙ rw alone) p.words

        range : InRange count most here.pattern.offsets here.pattern.columns
        range = rw (size pair_requires) at (valid_range ok.proper.valid)

        joins : Maps pairing.map count joined
        joins = rw counted (paired_maps graph (even stage) range)

        onto : Onto pairing.map count joined
        onto = rw counted (paired_onto graph (even stage) range)

        fewer : joined ≤ count
        fewer = rw counted (count_most graph (even stage) range)

        -- What follows the pairing requires.
        pub join_requires : JoinOk z (length F) t rows map count most joined
        join_requires =
            let work = ok.work in
            let next : part t.map count z ≡ pairing.map = p.map joined e in
            record {
              pair = record {
                work = rw p.words.size work;
                few = omega arith;
                room = ok.room;
                proper = rw (same_offsets pair_requires p.words, same_columns pair_requires p.words) ok.proper;
              };
              below = ok.below;
              maps = rw links_same ok.maps;
              joins = rw next joins;
              onto = rw next onto;
              fewer = fewer;
            }

        module _ {y : List ℕ} {G : List Float} {r : Formation} (apart : joined ≡ count → ⊥)
            (j : JoinDone given z y F G t rows map count most joined r) where
          abbrev next : Mesh
          next = coarsened given here pairing.map joined

          next_same : coarse_at z F given (merged_in t count most) t.map joined ≡ next
          next_same = rw (same_offsets pair_requires p.words, same_columns pair_requires p.words, p.map joined e)

          mesh_is : mesh_at y G given (merged_in t joined r.entries) ≡ next
          mesh_is = j.mesh ∙ next_same

          many : r.entries ≡ entries next.pattern
          many = j.found ∙ ap (λ (m : Mesh). entries m.pattern) next_same

          finite : r.finite ≡ all_finite (entries next.pattern) next.values
          finite =
              j.finite ∙ ap (λ (m : Mesh). all_finite r.entries m.values) next_same
              ∙ ap (λ (n : ℕ). all_finite n next.values) many

          links_is : part map rows y ≡ compose_of rows links pairing.map
          links_is = rw (links_same, p.map joined e) at j.links

          less : eqb joined count ≡ false
          less = ne_eqb joined count apart

          frame : Kept map w y
          frame = kept_on map_kept j.words

          -- A value of the coarse matrix is not finite.
          pub merge_bad : r.finite ≡ false
              → MergeDone o given w y F G t rows map count most stage steps level (Err bad_coarse_value)
          merge_bad b = merge_refuses (stepped ∙ rw (← counted, less, sym finite ∙ b)) frame j.floats

          module _ (good : r.finite ≡ true) where
            -- The steps from there on.
            goes_on : all ≡ merge_at o given y G t rows map joined r.entries (stage + 1) (steps - 1) level
            goes_on =
                let long : length links ≡ rows = ok.maps.size in
                stepped ∙ rw (← counted, less, sym finite ∙ good, mesh_is, links_is, long)

            -- What they require.
            pub merge_requires : MergeOk y (length G) t rows map joined r.entries (stage + 1) (steps - 1)
            merge_requires =
                let work = ok.work in
                let few = fewer in
                let less : entries next.pattern ≤ entries here.pattern = coarse_few here.pattern pairing.map joined in
                let long : entries here.pattern ≡ most = size pair_requires in
                let found : r.entries ≡ entries next.pattern = many in
                let pattern : pattern_at y (merged_in t joined r.entries) ≡ coarse here.pattern pairing.map joined =
                ap (λ (m : Mesh). m.pattern) mesh_is in
                record {
                  work = rw (frame.size, j.floats.size) work;
                  within = ok.within;
                  fewer = omega arith;
                  room = omega arith;
                  below = ok.below;
                  proper = rw pattern (coarse_proper ok.proper joins onto);
                  maps = rw links_is (compose_maps ok.maps joins);
                  onto = rw links_is (compose_onto ok.onto onto);
                  stages = omega arith;
                }

            -- Their answer is the answer.
            pub merge_on : {x : List ℕ} {H : List Float} {v : Result Merging Refusal}
                → MergeDone o given y x G H t rows map joined r.entries (stage + 1) (steps - 1) level v
                → MergeDone o given w x F H t rows map count most stage steps level v
            merge_on d = record {
              answer = d.answer ∙ ap merging_of (sym goes_on);
              mesh = λ s i. d.mesh s (sym goes_on ∙ i);
              links = λ s i. d.links s (sym goes_on ∙ i);
              words = kept_on frame d.words;
              floats = kept_on j.floats d.floats;
            }
