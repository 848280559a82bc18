-- The choice of a level's aggregates.
-- Assumes nothing.
use mathlib.Core.Path.{◌≡◌, refl, sym, ◌∙◌}
use mathlib.Core.Bool.{Bool, true, false, cond, not, ◌||◌}
use mathlib.Core.List.{List, []}
use Prim.Native.Nat.{ℕ, ◌+◌, ◌≤◌}
use native.Mathlib.Omega.{arith}
use lib.Dec.{eqb, leb}
use lib.Ieee.{Float}
use Rattle.store.specs.Region.{part}
use Rattle.store.proofs.store.Region.{kept_self}
use Rattle.options.specs.declared.options.MultigridOptions.{MultigridOptions}
use Rattle.aggregation.specs.declared.Graph.{Graph}
use Rattle.aggregation.specs.Pairs.{strengths_of, pairs_of}
use Rattle.aggregation.specs.Layout.{weighted_at, GraphOk, Paired}
use Rattle.pattern.specs.Pattern.{Pattern, entries}
use Rattle.faces.specs.declared.faces.Faces.{Faces}
use Rattle.faces.specs.Faces.{coupled_count_of}
use Rattle.faces.specs.Contract.{CoupledOk, CoupledCount}
use Rattle.faces.proofs.faces.Entries.{offset_few}
use Rattle.faces.proofs.faces.Laws.{faces_half}
use Rattle.hierarchy.specs.Build.{paired}
use Rattle.hierarchy.specs.Steps.{even, ends_at}
use Rattle.layout.specs.declared.Place.{Place}
use Rattle.layout.specs.Parts.{faces_in}
use Rattle.coarsening.specs.declared.coarsen.Workspace.{Workspace}
use Rattle.coarsening.specs.CoarsenContract.{pattern_at, mesh_at}
use Rattle.build_level.specs.declared.laying.Frontier.{Frontier}
use Rattle.build_level.specs.LayingContract.{level_in, ChooseOk, Chosen}
use Rattle.build_level.specs.Inner.{graph_in}
use Rattle.build_level.proofs.laying.Levels.{words_below, floats_below}

-- Strengths stand where either of the two lists does.
either_fits : (n size a b : ℕ) (given : Bool) → a + n ≤ size → b + n ≤ size → cond given a b + n ≤ size
either_fits n size a b true h l = h
either_fits n size a b false h l = l

-- The strengths that are read are those of the definition.
strengths_are : (given : Bool) (a b n : ℕ) (F : List Float)
    → strengths_of (not given) (part (cond given a b) n F) ≡ strengths_of (not given) (cond given (cond given (part a n F) []) (part b n F))
strengths_are true a b n F = refl
strengths_are false a b n F = refl

module _ {w : List ℕ} {size : ℕ} {o : MultigridOptions} {t : Workspace} {s : Frontier} {p : Place} (ok : ChooseOk w size o t s p) where
  -- the pattern of the level
  abbrev q : Pattern
  q = pattern_at w (level_in t p)

  half : p.faces + p.faces ≤ p.entries
  half =
      let proper = ok.stands.proper in
      let h = faces_half proper.valid proper.rising proper.mirrored in
      omega (arith, h, ok.stands.shapes.count, ok.stands.shapes.most)

  -- Its coupled rows may be counted.
  pub coupled_ok : {u : Faces} → u ≡ faces_in p → CoupledOk w u
  coupled_ok {u} is =
      let room = ok.room in
      let below = words_below room in
      let work = room.work in
      let placed = ok.stands.placed in
      let proper = ok.stands.proper in
      let few = half in
      rw is (record {
        ordered = record {
          standing = record {
            few = omega (arith, ok.rows);
            less = omega (arith, ok.most);
            offsets = omega arith;
            columns = omega arith;
            inside = omega (arith, ok.rows, ok.most);
            valid = proper.valid;
          };
          rising = proper.rising;
        };
        diagonal = proper.diagonal;
      })

  -- Its aggregates may be chosen.
  pub graph_ok : {g : Graph} {cap : ℕ} (given : Bool) → g ≡ graph_in given t p cap → GraphOk w size g
  graph_ok given is =
      let room = ok.room in
      let below = words_below room in
      let under = floats_below room in
      let work = room.work in
      let placed = ok.stands.placed in
      let proper = ok.stands.proper in
      let few = half in
      let many : entries q ≡ p.entries = sym ok.stands.shapes.most in
      rw is (record {
        few = omega (arith, ok.rows);
        offsets = omega arith;
        columns = omega arith;
        map = omega (arith, ok.rows, ok.most);
        weights = either_fits p.entries size t.weights p.values given (omega (arith, ok.most)) (omega (arith, ok.rows, ok.most));
        pattern = record {
          ends = λ k h. omega (arith, many, offset_few proper.valid k h);
          below = λ e h. proper.valid.inside e (omega (arith, many));
        };
      })

  module _ {u : Faces} {coupled : ℕ} {last : Bool} (is : u ≡ faces_in p) (counted : CoupledCount w u coupled)
      (asked : last ≡ (leb coupled o.coarsest_cells || eqb p.faces 0 || eqb s.more 0)) where
    ending : last ≡ ends_at o s.more q
    ending =
        let count : coupled ≡ coupled_count_of q = (rw is at counted).count in
        asked ∙ rw (count, ok.stands.shapes.count)

    -- The last level keeps its rows.
    pub chosen_last : {F : List Float} {given : Bool} → last ≡ true → Chosen w w F o given t s p p.rows
    chosen_last {F} {given} told =
        let ends : ends_at o s.more q ≡ true = sym ending ∙ told in
        record {
          count = rw ends;
          links = λ other. let z : ◌≡◌ {A = ℕ} 0 1 = cc in absurd (omega arith);
          words = kept_self;
        }

    -- Any other has the aggregates of `pairs`.
    pub chosen_pairs : {F : List Float} {given : Bool} {z : List ℕ} {g : Graph} {r : ℕ} → last ≡ false
        → g ≡ graph_in given t p o.max_aggregate_cells → Paired g (pairs_of (weighted_at g w F) (even s.stage)) w z r → Chosen w z F o given t s p r
    chosen_pairs {F} {given} {z} {g} {r} told at_p done =
        let graph = graph_in given t p o.max_aggregate_cells in
        let ends : ends_at o s.more q ≡ false = sym ending ∙ told in
        let here : Paired graph (pairs_of (weighted_at graph w F) (even s.stage)) w z r = rw at_p at done in
        let same : Paired graph (paired o given s.stage (mesh_at w F given (level_in t p))) w z r =
        rw (strengths_are given t.weights p.values p.entries F) at here in
        record {
          count = rw ends same.count;
          links = λ e. same.words.map;
          words = same.words.below;
        }
