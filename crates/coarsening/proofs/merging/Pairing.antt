-- A merged step up to its pairing: what each call requires, and the ways out.
-- Assumes nothing.
use Rattle.std.specs.Prelude.{Result, Ok, Err, Some, None}
use mathlib.Core.Path.{◌≡◌, refl, sym, ap, ◌∙◌}
use mathlib.Core.Bool.{Bool, true, false, cond}
use mathlib.Core.List.{List}
use Prim.Native.Nat.{ℕ, ◌+◌, ◌≤◌, ◌<◌}
use native.Mathlib.Omega.{arith}
use borrow.Author.Tests.{le-leb, lt-leb}
use lib.ListN.{length}
use lib.Ieee.{Float}
use Rattle.float.specs.Float.{div64, one64}
use Rattle.options.specs.declared.options.MultigridOptions.{MultigridOptions}
use Rattle.refusal.specs.declared.Refusal.{Refusal}
use Rattle.refusal.specs.Outcome.{accepted, refused}
use Rattle.store.specs.Region.{idx, part, Kept}
use Rattle.store.specs.Vector.{tab}
use Rattle.store.proofs.store.Region.{length_part, get_d_part, kept_wrote, kept_on, kept_less, kept_part}
use Rattle.coefficients.specs.Update.{entry_of, Coefficients, kernel_update_of}
use Rattle.coefficients.specs.Contract.{after}
use Rattle.aggregation.specs.declared.Graph.{Graph}
use Rattle.aggregation.specs.Pairs.{pairs_of}
use Rattle.aggregation.specs.Contract.{InRange}
use Rattle.aggregation.specs.Layout.{weighted_at, GraphOk, Paired}
use Rattle.pattern.specs.Pattern.{Pattern, entries}
use Rattle.faces.specs.declared.faces.Faces.{Faces}
use Rattle.faces.specs.Faces.{uppers_of, diagonals_of, coupled_count_of}
use Rattle.faces.specs.Contract.{DiagonalsOk, DiagonalsDone, CoupledOk, CoupledCount}
use Rattle.faces.proofs.faces.Laws.{diagonal_was, diagonal_entry}
use Rattle.hierarchy.specs.Build.{Mesh, kernel_asked, paired, few_coupled}
use Rattle.hierarchy.specs.Steps.{even}
use Rattle.hierarchy.proofs.Proper.{valid_range}
use Rattle.coarsening.specs.declared.coarsen.Workspace.{Workspace}
use Rattle.coarsening.specs.CoarsenContract.{pattern_at, mesh_at, merged_in}
use Rattle.coarsening.specs.Steps.{faces_in, graph_in, RowsOk, RowsAsked, PairOk, paired_at, PairDone}

module _ {w : List ℕ} {floats : ℕ} {t : Workspace} {count most : ℕ} (ok : PairOk w floats t count most) where
  -- The matrix made last has so many entries.
  pub size : entries (pattern_at w (merged_in t count most)) ≡ most
  size = let k = ok.work in length_part t.merged_columns most w (omega arith)

  module _ {z : List ℕ} (kept : Kept t.map w z) where
    -- Its row offsets are as they were.
    pub same_offsets : part t.merged_offsets (count + 1) z ≡ part t.merged_offsets (count + 1) w
    same_offsets = let k = ok.work in kept_part kept t.merged_offsets (count + 1) (omega arith)

    -- Its columns are as they were.
    pub same_columns : part t.merged_columns most z ≡ part t.merged_columns most w
    same_columns = let k = ok.work in kept_part kept t.merged_columns most (omega arith)

-- The diagonal entries of that matrix stand in the temporaries, and below them nothing changed.
pub record Ready (w z : List ℕ) (floats : ℕ) (t : Workspace) (count most : ℕ) (s : Faces) : Type 0 where
  pub ok : PairOk w floats t count most
  pub place : s ≡ faces_in t count most
  pub owns : part t.diagonals count z ≡ diagonals_of (pattern_at w (merged_in t count most))
  pub kept : Kept t.starts w z

module _ {w : List ℕ} {floats : ℕ} {t : Workspace} {count most : ℕ} {s : Faces} (ok : PairOk w floats t count most)
    (e : s ≡ faces_in t count most) where
  -- What `diagonals` requires.
  pub diagonals_requires : DiagonalsOk w s
  diagonals_requires = let k = ok.work in rw e (record {
    ordered = record {
      standing = record {
        few = omega arith;
        less = omega arith;
        offsets = omega arith;
        columns = omega arith;
        inside = omega arith;
        valid = ok.proper.valid;
      };
      rising = ok.proper.rising;
    };
    below = omega arith;
    room = omega arith;
  })

  -- What it leaves: no row lacks its diagonal entry.
  pub ready : {z : List ℕ} {level : ℕ} {v : Result Unit Refusal} → DiagonalsDone w z s level v → Ready w z floats t count most s
  ready {z} {level} {v} d =
      let k = ok.work in
      let done : DiagonalsDone w z (faces_in t count most) level v = rw e at d in
      let pass : v ≡ Ok tt = done.verdict ∙ diagonal_was level ok.proper.diagonal in
      record { ok = ok; place = e; owns = done.diagonals pass; kept = kept_wrote done.only (omega arith) }

module _ {w z : List ℕ} {floats : ℕ} {t : Workspace} {count most : ℕ} {s : Faces} (r : Ready w z floats t count most s) where
  abbrev own : Pattern
  own = pattern_at w (merged_in t count most)

  map_kept : Kept t.map w z
  map_kept = let k = r.ok.work in kept_less r.kept (omega arith)

  offsets_are : part t.merged_offsets (count + 1) z ≡ part t.merged_offsets (count + 1) w
  offsets_are = same_offsets r.ok map_kept

  columns_are : part t.merged_columns most z ≡ part t.merged_columns most w
  columns_are = same_columns r.ok map_kept

  -- What the questions of the rows require.
  pub rows_requires : RowsOk z floats count most t.diagonals t.merged_values
  rows_requires =
      let k = r.ok.work in
      let l = r.kept.size in
      record {
        words = omega arith;
        near = λ i h.
            let e : idx z (t.diagonals + i) ≡ idx (diagonals_of own) i =
            sym (get_d_part t.diagonals count z i 0 h) ∙ ap (λ (v : List ℕ). idx v i) r.owns in
            let b = (diagonal_entry r.ok.proper.valid r.ok.proper.rising r.ok.proper.diagonal i h).0 in
            let n = size r.ok in
            omega arith;
        image = omega arith;
      }

  -- What `coupled_count` requires.
  pub coupled_requires : CoupledOk z s
  coupled_requires = let k = r.ok.work in let l = r.kept.size in rw r.place (record {
    ordered = record {
      standing = record {
        few = omega arith;
        less = omega arith;
        offsets = omega arith;
        columns = omega arith;
        inside = omega arith;
        valid = rw (offsets_are, columns_are) r.ok.proper.valid;
      };
      rising = rw (offsets_are, columns_are) r.ok.proper.rising;
    };
    diagonal = rw (offsets_are, columns_are) r.ok.proper.diagonal;
  })

  -- What `pairs` requires.
  pub graph_requires : {g : Graph} {cap : ℕ} (given : Bool) → g ≡ graph_in t count most given cap → GraphOk z floats g
  graph_requires given e =
      let k = r.ok.work in
      let l = r.kept.size in
      let range : InRange count most own.offsets own.columns = rw (size r.ok) at (valid_range r.ok.proper.valid) in
      rw e (record {
        few = omega arith;
        offsets = omega arith;
        columns = omega arith;
        map = omega arith;
        weights = weights_in given;
        pattern = rw (offsets_are, columns_are) range;
      })
    where
      weights_in : (given : Bool) → cond given t.merged_weights t.merged_values + most ≤ floats
      weights_in true = let k = r.ok.work in omega arith
      weights_in false = let k = r.ok.work in omega arith

  module _ (o : MultigridOptions) (given : Bool) (F : List Float) (stage level : ℕ) where
    abbrev mesh : Mesh
    mesh = mesh_at w F given (merged_in t count most)

    abbrev made : Coefficients
    made = record {
      diagonal = tab (entry_of (diagonals_of own) mesh.values) count;
      inverse = tab (λ row. div64 one64 (entry_of (diagonals_of own) mesh.values row)) count;
      coefficients = tab (entry_of (uppers_of own) mesh.values) (length (uppers_of own));
    }

    -- The verdict on the rows is that on the kernel.
    kernel : {v : Result Unit Refusal} → RowsAsked z F count most t.diagonals t.merged_values level v
        → kernel_asked level mesh ≡ after v (accepted made)
    unfolding kernel_update_of
    kernel a = rw r.owns at (a.asked (accepted made))

    -- A row was refused.
    pub pair_refused : {v : Result Unit Refusal} {q : Refusal} → RowsAsked z F count most t.diagonals t.merged_values level v
        → v ≡ Err q → PairDone o given w z F t count most stage level (Err q)
    unfolding after
    pair_refused {v} {q} a e =
        let told : kernel_asked level mesh ≡ refused q = kernel a ∙ rw e in
        record {
          step = λ further map. rw told;
          joined = λ c b. let x : ◌≡◌ {A = ℕ} 0 1 = cc in absurd (omega arith);
          map = λ c b. let x : ◌≡◌ {A = ℕ} 0 1 = cc in absurd (omega arith);
          words = map_kept;
        }

    module _ {v : Result Unit Refusal} {coupled : ℕ} (a : RowsAsked z F count most t.diagonals t.merged_values level v)
        (yes : v ≡ Ok tt) (n : CoupledCount z s coupled) where
      told : kernel_asked level mesh ≡ accepted made
      unfolding after
      told = kernel a ∙ rw yes

      counted : coupled ≡ coupled_count_of own
      counted = rw (r.place, offsets_are, columns_are) at n.count

      -- Few rows are coupled.
      pub pair_few : coupled ≤ o.coarsest_cells → PairDone o given w z F t count most stage level (Ok None)
      pair_few l =
          let few : few_coupled o own ≡ true = rw (← counted) (le-leb _ _ l) in
          record {
            step = λ further map. rw (told, few);
            joined = λ c b. let x : ◌≡◌ {A = ℕ} 0 1 = cc in absurd (omega arith);
            map = λ c b. let x : ◌≡◌ {A = ℕ} 0 1 = cc in absurd (omega arith);
            words = map_kept;
          }

      -- The rows are paired.
      module _ {y : List ℕ} {g : Graph} {joined : ℕ} (i : g ≡ graph_in t count most given o.max_aggregate_cells)
          (p : Paired g (pairs_of (weighted_at g z F) (even stage)) z y joined) where
        -- the matrix as `pairs` takes it
        abbrev graph : Bool → Graph
        graph given = graph_in t count most given o.max_aggregate_cells

        weights_same : (given : Bool) → pairs_of (weighted_at (graph given) w F) (even stage)
            ≡ paired o given stage (mesh_at w F given (merged_in t count most))
        weights_same true = refl
        weights_same false = refl

        pairing_same : pairs_of (weighted_at (graph given) z F) (even stage) ≡ paired_at o given w F t count most stage
        pairing_same = rw (offsets_are, columns_are) (weights_same given)

        done : Paired (graph given) (paired_at o given w F t count most stage) z y joined
        done = rw pairing_same at (rw i at p)

        pub pair_paired : o.coarsest_cells < coupled → PairDone o given w y F t count most stage level (Ok (Some joined))
        pair_paired l =
            let k = r.ok.work in
            let size = r.kept.size in
            let many : few_coupled o own ≡ false = rw (← counted) (lt-leb _ _ l) in
            record {
              step = λ further map. rw (told, many);
              joined = λ c b. let x : c ≡ joined = cc in x ∙ done.count;
              map = λ c b. done.words.map;
              words = kept_on map_kept done.words.below;
            }
