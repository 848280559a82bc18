-- The last level and its three ways out: too many coupled rows, a bad pivot, and the level in the stores.
-- Assumes nothing.
use Rattle.std.specs.Prelude.{Result, Ok, Err}
use mathlib.Core.Path.{◌≡◌, refl, sym, ap, ◌∙◌}
use mathlib.Core.Bool.{Bool, true, cond}
use mathlib.Core.List.{List, [], ◌∷◌}
use Prim.Native.Nat.{ℕ, ◌+◌, ◌≤◌, ◌<◌}
use native.Mathlib.Omega.{arith}
use lib.Dec.{eqb}
use lib.ListN.{length}
use lib.Ieee.{Float}
use borrow.Author.Tests.{le-leb, lt-leb}
use Rattle.float.specs.Float.{zero64}
use Rattle.store.specs.Region.{idx, part, Kept}
use Rattle.store.specs.Vector.{filled}
use Rattle.store.proofs.store.Region.{get_d_part, kept_part, kept_get, kept_less, kept_self}
use Rattle.options.specs.declared.options.MultigridOptions.{MultigridOptions}
use Rattle.refusal.specs.declared.Refusal.{Refusal}
use Rattle.refusal.specs.Refusal.{too_many_coupled}
use Rattle.refusal.specs.Outcome.{Outcome, accepted, refused}
use Rattle.refusal.proofs.Outcome.{refuses}
use Rattle.coefficients.specs.Update.{Coefficients}
use Rattle.cholesky.specs.Triangle.{tri}
use Rattle.cholesky.specs.Factor.{cholesky_of}
use Rattle.cholesky.specs.Contract.{factor_at}
use Rattle.pattern.specs.Pattern.{Pattern}
use Rattle.pattern.proofs.pattern.Place.{length_those}
use Rattle.faces.specs.Faces.{coupled_of, coupled_count_of, coupled_rows_of}
use Rattle.faces.specs.Contract.{pattern_at}
use Rattle.faces.proofs.faces.Laws.{coupled_near, coupled_few}
use Rattle.faces.proofs.faces.Standing.{next_less}
use Rattle.hierarchy.specs.Level.{Shape, Numbers, Level, csr_of}
use Rattle.hierarchy.specs.Build.{Mesh, last_shape, last_level}
use Rattle.layout.specs.declared.Place.{Place}
use Rattle.layout.specs.Layout.{last_at, coupled_at, locate, shape_at, numbers_at, level_at, words_end, floats_end, levels_at, image_end, words_fit}
use Rattle.layout.specs.Headers.{head_at, heads_at, head_of, heads_of}
use Rattle.layout.specs.Parts.{faces_in, terminal_in}
use Rattle.layout.specs.Placed.{Shapes, coefficients_at}
use Rattle.layout.proofs.Places.{located}
use Rattle.coarsening.specs.declared.coarsen.Workspace.{Workspace}
use Rattle.coarsening.specs.CoarsenContract.{mesh_at}
use Rattle.build_level.specs.declared.laying.Frontier.{Frontier}
use Rattle.build_level.specs.LayingContract.{level_in, Stands}
use Rattle.build_level.specs.Steps.{ListOk, Listed, factor_of, FactorOk, FactorDone}
use Rattle.build_level.specs.CoarsestContract.{Levels, LastOk, Ended}
use Rattle.build_level.proofs.coarsest.Sizes.{Below, below, standing}

-- ---- the definition, by its answers

-- the factor that question 15 asks for
abbrev asked : ℕ → Mesh → Outcome (List Float)
asked level m =
    let rows = coupled_rows_of m.pattern in
    cholesky_of level (csr_of (last_shape m.pattern) m.values) (length rows) rows

-- the level with that factor
abbrev whole : Mesh → Coefficients → List Float → Level
whole m c factor = record {
  shape = last_shape m.pattern;
  numbers = record {
    coefficients = c.coefficients;
    diagonal = c.diagonal;
    inverse = c.inverse;
    dic = filled m.pattern.rows zero64;
    factor = factor;
  };
}

module _ (o : MultigridOptions) (level : ℕ) (m : Mesh) (c : Coefficients) where
  -- Question 14 refuses.
  last_many : o.coarsest_cells < coupled_count_of m.pattern → last_level o level m c ≡ refused too_many_coupled
  last_many h = rw (lt-leb (coupled_count_of m.pattern) o.coarsest_cells h)

  -- Question 15 refuses.
  last_refused : {q : Refusal} → coupled_count_of m.pattern ≤ o.coarsest_cells → asked level m ≡ refused q → last_level o level m c ≡ refused q
  last_refused h e = rw (le-leb (coupled_count_of m.pattern) o.coarsest_cells h, e)

  -- Both pass.
  last_accepted : {factor : List Float} → coupled_count_of m.pattern ≤ o.coarsest_cells → asked level m ≡ accepted factor
      → last_level o level m c ≡ accepted (whole m c factor ∷ [])
  last_accepted h e = rw (le-leb (coupled_count_of m.pattern) o.coarsest_cells h, e)

-- ---- levels that are left

module _ {w z : List ℕ} {F G : List Float} {t : Workspace} {level a b : ℕ} {out : Outcome (List Level)} (words : Kept a w z) (floats : Kept b F G) where
  -- A refusal.
  pub levels_refused : {q : Refusal} → out ≡ refused q → Levels w z F G t level a b out (Err q)
  levels_refused {q} e = record {
    made = λ ls h. let none : ◌≡◌ {A = ℕ} 0 1 = cc in absurd (omega arith);
    refusal = λ r h. let same : q ≡ r = cc in rw same refl;
    view = λ ls h. let none : ◌≡◌ {A = ℕ} 0 1 = cc in absurd (omega arith);
    fits = λ ls h. let none : ◌≡◌ {A = ℕ} 0 1 = cc in absurd (omega arith);
    heads = λ ls h. let none : ◌≡◌ {A = ℕ} 0 1 = cc in absurd (omega arith);
    ends = λ ls h. let none : ◌≡◌ {A = ℕ} 0 1 = cc in absurd (omega arith);
    words = words;
    floats = floats;
  }

  -- One level.
  levels_one : {l : Level} {end : ℕ} → out ≡ accepted (l ∷ []) → level_at z G a b ≡ l → floats_end z a b ≡ end → words_end z a ≤ length z
      → head_at z a ≡ head_of l.shape → end + t.rows ≤ t.values → Levels w z F G t level a b out (Ok (record { levels = level + 1; end = end }))
  unfolding levels_at image_end words_fit heads_at heads_of
  levels_one {l} {end} e is top room head low = record {
    made = λ ls h. rw (ls_is ls h, top) refl;
    refusal = λ r h. let none : ◌≡◌ {A = ℕ} 0 1 = cc in absurd (omega arith);
    view = λ ls h. rw (ls_is ls h, is) refl;
    fits = λ ls h. rw (ls_is ls h, le-leb (words_end z a) (length z) room) refl;
    heads = λ ls h. rw (ls_is ls h, head) refl;
    ends = λ ls h. rw (ls_is ls h, top) low;
    words = words;
    floats = floats;
  }
    where
      ls_is : (ls : List Level) → out ≡ accepted ls → ls ≡ l ∷ []
      ls_is ls h = cc

-- ---- the words in the stores

module _ {w z : List ℕ} {a b : ℕ} {t : Workspace} {p : Place} {coupled : ℕ} (stands : Stands w t a b p) (l : Listed w z a p coupled) where
  -- The shape that stood there stands there.
  shapes_listed : Shapes z a p (pattern_at w (faces_in p))
  shapes_listed =
      let h = stands.placed in
      let s = stands.shapes in
      record {
        rows = s.rows;
        most = s.most;
        count = s.count;
        head = kept_get l.kept a 0 (omega arith) ∙ s.head;
        offsets = l.between p.offsets (p.rows + 1) (omega arith) (omega arith) ∙ s.offsets;
        columns = l.between p.columns p.entries (omega arith) (omega arith) ∙ s.columns;
        starts = l.between p.starts (p.rows + 1) (omega arith) (omega arith) ∙ s.starts;
        diagonals = l.between p.diagonals p.rows (omega arith) (omega arith) ∙ s.diagonals;
        neighbors = l.between p.neighbors p.faces (omega arith) (omega arith) ∙ s.neighbors;
        uppers = l.between p.uppers p.faces (omega arith) (omega arith) ∙ s.uppers;
        lowers = l.between p.lowers p.faces (omega arith) (omega arith) ∙ s.lowers;
      }

  place_listed : locate z a b ≡ p
  place_listed = located stands.placed shapes_listed stands.proper.valid

  last_listed : last_at z a ≡ true
  last_listed = ap (λ (n : ℕ). eqb n 1) l.last

  coupled_listed : coupled_at z a ≡ coupled
  coupled_listed = ap (λ (x : Bool). cond x (idx z (a + 2)) 0) last_listed ∙ l.count

  words_listed : words_end z a ≡ p.links + coupled
  unfolding words_end
  words_listed =
      let q = locate z a b in
      ap (λ (x : Bool). cond x (q.links + coupled_at z a) (q.positions + q.entries)) last_listed
      ∙ ap (λ (x : Place). x.links + coupled_at z a) place_listed
      ∙ ap (λ (n : ℕ). p.links + n) coupled_listed

  floats_listed : floats_end z a b ≡ p.factor + tri coupled
  unfolding floats_end
  floats_listed =
      ap (λ (x : Place). x.factor + tri (coupled_at z a)) place_listed
      ∙ ap (λ (n : ℕ). p.factor + tri n) coupled_listed

  level_listed : (G : List Float) → level_at z G a b ≡ record { shape = shape_at z p true coupled; numbers = numbers_at G p coupled }
  unfolding level_at
  level_listed G =
      let of : Place → Bool → ℕ → Level = λ x last n. record { shape = shape_at z x last n; numbers = numbers_at G x n } in
      ap (λ (x : Place). of x (last_at z a) (coupled_at z a)) place_listed
      ∙ ap (λ (x : Bool). of p x (coupled_at z a)) last_listed
      ∙ ap (λ (n : ℕ). of p true n) coupled_listed

-- A part of no elements is empty.
no_part : {A : Type 0} (a : ℕ) (F : List A) → part a 0 F ≡ []
unfolding part
no_part a F = refl

-- There are as many coupled rows as are counted.
coupled_long : (p : Pattern) → length (coupled_rows_of p) ≡ coupled_count_of p
unfolding coupled_rows_of coupled_count_of
coupled_long p = length_those (coupled_of p) p.rows

-- ---- what the steps require

module _ {w : List ℕ} {size : ℕ} {o : MultigridOptions} {t : Workspace} {s : Frontier} {p : Place} (ok : LastOk w size o t s p)
    {coupled : ℕ} (count : coupled ≡ coupled_count_of (pattern_at w (faces_in p))) (few : coupled ≤ o.coarsest_cells) where
  bounds : Below (length w) size t s p coupled
  bounds = below ok coupled few

  few_rows : coupled ≤ p.rows
  few_rows = omega (arith, count, coupled_few (pattern_at w (faces_in p)))

  -- What the coupled rows require.
  pub list_ok : ListOk w s.a p coupled
  list_ok =
      let b = bounds in
      let rows = few_rows in
      record {
        level = standing ok;
        count = count;
        small = omega (arith, ok.controls.coarsest);
        offsets = omega (arith, b.offsets);
        columns = omega (arith, b.offsets, b.columns);
        below = omega (arith, b.diagonals, b.neighbors, b.uppers, b.lowers, b.links);
        room = omega (arith, b.room);
      }

  -- The level fits the floats.
  pub end_ok : p.factor + tri coupled ≤ size
  end_ok = let b = bounds in omega (arith, b.ends, b.inside)

  -- What the factor requires.
  pub factor_ok : {z : List ℕ} → Listed w z s.a p coupled → FactorOk z size p coupled
  factor_ok {z} l =
      let b = bounds in
      let rows = few_rows in
      let words = l.kept.size in
      record {
        terminal = record {
          offsets = omega arith;
          columns = omega arith;
          coupled = omega arith;
          values = omega arith;
          factor = omega arith;
          near = λ k h. rw (← get_d_part p.links coupled z k 0 h, l.rows) (coupled_near (pattern_at w (faces_in p)) k (omega (arith, count)));
          ends = λ r h.
              let e : p.offsets + r + 1 ≡ p.offsets + (r + 1) = omega arith in
              let same : idx z (p.offsets + r + 1) ≡ idx w (p.offsets + r + 1) =
              ap (idx z) e ∙ sym (get_d_part p.offsets (p.rows + 1) z (r + 1) 0 (omega arith))
              ∙ ap (λ (v : List ℕ). idx v (r + 1)) (l.between p.offsets (p.rows + 1) (omega arith) (omega arith))
              ∙ get_d_part p.offsets (p.rows + 1) w (r + 1) 0 (omega arith) ∙ ap (idx w) (sym e) in
              rw same (next_less (standing ok).ordered.standing r h);
        };
        values = omega arith;
        dic = omega arith;
      }

-- ---- the ways

module _ {w : List ℕ} (F : List Float) {o : MultigridOptions} {t : Workspace} {s : Frontier} {p : Place} (ok : LastOk w (length F) o t s p)
    {coupled : ℕ} (count : coupled ≡ coupled_count_of (pattern_at w (faces_in p))) (given : Bool) where
  -- Too many coupled rows.
  pub ended_many : o.coarsest_cells < coupled → Ended w w F F o given t s p (Err too_many_coupled)
  ended_many h = record {
    levels = levels_refused kept_self kept_self
        (last_many o s.level (mesh_at w F given (level_in t p)) (coefficients_at F p) (omega (arith, count)));
  }

  module _ (few : coupled ≤ o.coarsest_cells) {z : List ℕ} (l : Listed w z s.a p coupled) where
    counted : coupled_count_of (pattern_at w (faces_in p)) ≤ o.coarsest_cells
    counted = omega (arith, count)

    asked_is : asked s.level (mesh_at w F given (level_in t p)) ≡ factor_of z F p coupled s.level
    asked_is =
        let b = bounds ok count few in
        let h1 : part p.offsets (p.rows + 1) z ≡ part p.offsets (p.rows + 1) w = l.between p.offsets (p.rows + 1) (omega arith) (omega arith) in
        let h2 : part p.columns p.entries z ≡ part p.columns p.entries w = l.between p.columns p.entries (omega arith) (omega arith) in
        let h3 = l.rows in
        let h4 : length (coupled_rows_of (pattern_at w (faces_in p))) ≡ coupled = coupled_long (pattern_at w (faces_in p)) ∙ sym count in
        cc

    shape_whole : shape_at z p true coupled ≡ last_shape (pattern_at w (faces_in p))
    shape_whole =
        let h = shapes_listed ok.level.stands l in
        let h0 = h.offsets in
        let h1 = h.columns in
        let h2 = h.starts in
        let h3 = h.neighbors in
        let h4 = h.uppers in
        let h5 = h.lowers in
        let h6 = h.diagonals in
        let h7 = l.rows in
        let h8 = no_part p.positions z in
        cc

    head_whole : head_at z s.a ≡ head_of (last_shape (pattern_at w (faces_in p)))
    head_whole =
        let h0 = (shapes_listed ok.level.stands l).head in
        let h1 = l.last in
        let h2 : idx z (s.a + 2) ≡ length (coupled_rows_of (pattern_at w (faces_in p))) =
        l.count ∙ count ∙ sym (coupled_long (pattern_at w (faces_in p))) in
        cc

    module _ {G : List Float} {v : Result Unit Refusal} (d : FactorDone z F G p coupled s.level v) where
      low : Kept s.a w z
      low = kept_less l.kept (omega arith)

      under : Kept s.b F G
      under = let b = bounds ok count few in kept_less d.kept (omega arith)

      -- A bad pivot.
      pub ended_pivot : {q : Refusal} → v ≡ Err q → Ended w z F G o given t s p (Err q)
      ended_pivot {q} e = record {
        levels = levels_refused low under
            (last_refused o s.level (mesh_at w F given (level_in t p)) (coefficients_at F p) counted
            (asked_is ∙ refuses (factor_of z F p coupled s.level) d.answer e));
      }

      numbers_whole : numbers_at G p coupled
          ≡ (whole (mesh_at w F given (level_in t p)) (coefficients_at F p) (factor_at (terminal_in p coupled) G)).numbers
      numbers_whole =
          let b = bounds ok count few in
          let k = d.kept in
          let h2 : part p.coefficients p.faces G ≡ part p.coefficients p.faces F = kept_part k p.coefficients p.faces (omega arith) in
          let h3 : part p.diagonal p.rows G ≡ part p.diagonal p.rows F = kept_part k p.diagonal p.rows (omega arith) in
          let h4 : part p.inverse p.rows G ≡ part p.inverse p.rows F = kept_part k p.inverse p.rows (omega arith) in
          let h5 = d.dic in
          cc

      -- The level.
      pub ended_made : {size : ℕ} → v ≡ Ok tt → size ≡ tri coupled → Ended w z F G o given t s p (Ok (record { levels = s.level + 1; end = p.factor + size }))
      ended_made {size} e is =
          let b = bounds ok count few in
          let stands = ok.level.stands in
          let rows = few_rows ok count few in
          record {
            levels = levels_one low under
                (last_accepted o s.level (mesh_at w F given (level_in t p)) (coefficients_at F p) counted (asked_is ∙ d.factor e))
                (level_listed stands l G ∙ ap (λ (x : Shape). record { shape = x; numbers = numbers_at G p coupled }) shape_whole
                ∙ ap (λ (x : Numbers). record { shape = last_shape (pattern_at w (faces_in p)); numbers = x }) numbers_whole)
                (floats_listed stands l ∙ ap (λ (n : ℕ). p.factor + n) (sym is))
                (rw (words_listed stands l, l.kept.size) (omega (arith, b.room)))
                head_whole
                (omega (arith, b.ends));
          }
