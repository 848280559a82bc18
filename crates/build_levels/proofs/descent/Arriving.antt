-- The descent in the stores: what its calls require, its ways out, and what stands there where it arrives.
-- Assumes nothing.
use Rattle.std.specs.Prelude.{Result, Ok, Err}
use mathlib.Core.Path.{◌≡◌, refl, sym, ap, subst, ◌∙◌}
use mathlib.Core.Bool.{Bool, true, false, cond}
use mathlib.Core.List.{List, []}
use Prim.Native.Nat.{ℕ, ◌+◌, ◌≤◌, ◌<◌}
use native.Mathlib.Omega.{arith}
use lib.Dec.{eqb}
use lib.ListN.{length}
use lib.Ieee.{Float}
use Rattle.store.specs.Region.{idx, part, Wrote, Kept}
use Rattle.store.specs.Vector.{filled}
use Rattle.store.proofs.store.Region.{get_d_part, wrote_at, wrote_off, kept_wrote, kept_on, kept_less, kept_part, kept_get}
use Rattle.store.proofs.store.Vector.{get_d_tab}
use Rattle.options.specs.declared.options.MultigridOptions.{MultigridOptions}
use Rattle.refusal.specs.declared.Refusal.{Refusal}
use Rattle.refusal.specs.Refusal.{bad_coarse_value}
use Rattle.refusal.specs.Outcome.{accepted, refused}
use Rattle.refusal.proofs.Outcome.{ask_yes, ask_no, then_accepted, then_refused, accepted_one}
use Rattle.vector.specs.Finite.{all_finite}
use Rattle.matrix.specs.Kernel.{Kernel}
use Rattle.dic.specs.Dic.{Settled}
use Rattle.cholesky.specs.Triangle.{tri}
use Rattle.pattern.specs.Pattern.{Pattern, entries, coarse_positions, Maps, Onto}
use Rattle.pattern.proofs.pattern.Coarse.{coarse_few}
use Rattle.hierarchy.specs.Level.{Shape, Numbers, kernel_of}
use Rattle.hierarchy.specs.Refresh.{needs_dic, inner_numbers}
use Rattle.hierarchy.specs.Steps.{smoother_of}
use Rattle.hierarchy.specs.Proper.{Proper}
use Rattle.hierarchy.specs.Build.{Mesh, Merged, inner_shape, coarsened, coarsened_asked}
use Rattle.layout.specs.declared.Place.{Place}
use Rattle.layout.specs.Layout.{last_at, coupled_at, entries_at, locate, shape_at, numbers_at, level_at, words_end, floats_end}
use Rattle.layout.specs.Headers.{head_at, head_of}
use Rattle.layout.specs.Placed.{Shapes, coefficients_at}
use Rattle.layout.specs.SmootherContract.{smoother_at}
use Rattle.layout.proofs.Places.{located}
use Rattle.coarsening.specs.declared.coarsen.Held.{Held}
use Rattle.coarsening.specs.declared.coarsen.Workspace.{Workspace}
use Rattle.coarsening.specs.declared.coarsen.Formation.{Formation}
use Rattle.coarsening.specs.CoarsenContract.{pattern_at, mesh_at, next_in, coarse_at, RepairOk, Repaired}
use Rattle.coarsening.specs.declared.merging.Merging.{Merging}
use Rattle.build_level.specs.declared.laying.Frontier.{Frontier}
use Rattle.build_level.specs.LayingContract.{level_in}
use Rattle.build_levels.specs.DescentContract.{Descent, next_of, descending_of, DescendOk, descent_at, Arrived, Descended}
use Rattle.build_levels.specs.Steps.{steps_of, steps_at, StepsDone}
use Rattle.build_levels.proofs.descent.Ways.{settled_no, settled_yes, merging_no, Made, merging_yes, way_numbers, way_steps, way_afresh}
use Rattle.build_levels.proofs.descent.Merges.{Led, led}
use Rattle.build_levels.proofs.descent.Regions.{Same, same_wrote, same_kept, same_on, pattern_same, shapes_same}
use Rattle.build_levels.proofs.descent.Levels.{words_below, floats_below, kernel_is}

-- A refused descent.
descended_no : {w z : List ℕ} {F G : List Float} {o : MultigridOptions} {given : Bool} {t : Workspace} {s : Frontier} {p : Place} {count : ℕ}
    {q : Refusal} → descent_at o given w F t s p count ≡ refused q → Kept s.a w z → Kept s.b F G
    → Descended w z F G o given t s p count (Err q)
descended_no e k l = record {
  answer = sym (ap descending_of e);
  arrived = λ d x. let none : ◌≡◌ {A = ℕ} 0 1 = cc in absurd (omega arith);
  words = k;
  floats = l;
}

-- Weights that are read where they are given.
weights_on : (given : Bool) {u v x : List Float} → cond given u [] ≡ x → (given ≡ true → v ≡ u) → cond given v [] ≡ x
weights_on true e f = f refl ∙ e
weights_on false e f = e

-- A level that is not the last, at the place that its words tell.
level_at_lem : (w : List ℕ) (F : List Float) (a b : ℕ) {p : Place} → locate w a b ≡ p → last_at w a ≡ false
    → level_at w F a b ≡ record { shape = shape_at w p false 0; numbers = numbers_at F p 0 }
unfolding level_at
level_at_lem w F a b {p} e last =
    ap (λ (q : Place). record { shape = shape_at w q (last_at w a) (coupled_at w a); numbers = numbers_at F q (coupled_at w a) }) e
    ∙ ap (λ (l : Bool). record { shape = shape_at w p l (cond l (idx w (a + 2)) 0); numbers = numbers_at F p (cond l (idx w (a + 2)) 0) }) last

-- Where its words end,
words_at_lem : (w : List ℕ) (a b : ℕ) {p : Place} → locate w a b ≡ p → last_at w a ≡ false → words_end w a ≡ p.positions + p.entries
unfolding words_end
words_at_lem w a b {p} e last =
    let at : (locate w a b).positions ≡ p.positions = ap (λ (q : Place). q.positions) e in
    let most : entries_at w a ≡ p.entries = ap (λ (q : Place). q.entries) e in
    ap (λ (l : Bool). cond l ((locate w a 0).links + cond l (idx w (a + 2)) 0) ((locate w a 0).positions + entries_at w a)) last ∙ omega arith

-- and its floats.
floats_at_lem : (w : List ℕ) (a b : ℕ) {p : Place} → locate w a b ≡ p → last_at w a ≡ false → floats_end w a b ≡ p.factor
unfolding floats_end tri
floats_at_lem w a b {p} e last =
    let at : (locate w a b).factor ≡ p.factor = ap (λ (q : Place). q.factor) e in
    ap (λ (l : Bool). (locate w a b).factor + tri (cond l (idx w (a + 2)) 0)) last ∙ omega arith

-- ---- the header

module _ {w w1 : List ℕ} {size : ℕ} {o : MultigridOptions} {t : Workspace} {s : Frontier} {p : Place} {count : ℕ}
    (ok : DescendOk w size o t s p count) (h : Wrote (s.a + 1) 2 (filled 2 0) w w1) where
  links_same : part p.links p.rows w1 ≡ part p.links p.rows w
  links_same = let l = ok.level.stands.placed in (same_wrote h p.positions).parts p.links p.rows (omega arith) (omega arith)

  own_same : pattern_at w1 (level_in t p) ≡ pattern_at w (level_in t p)
  own_same = pattern_same ok.level.stands.placed (same_wrote h p.links) (omega arith) t

  -- The level stands as before.
  pub opened : DescendOk w1 size o t s p count
  opened =
      let l = ok.level in
      record {
        controls = ok.controls;
        level = record {
          room = rw h.size l.room;
          rows = l.rows;
          most = l.most;
          stands = record {
            placed = l.stands.placed;
            shapes = rw own_same (shapes_same l.stands.placed (same_wrote h p.links) (omega arith) l.stands.shapes);
            proper = rw own_same l.stands.proper;
          };
        };
        fewer = ok.fewer;
        maps = rw links_same ok.maps;
        onto = rw links_same ok.onto;
        stages = ok.stages;
        levels = ok.levels;
      }

  -- The two words of its header that a last level would tell of are zeros,
  zeros_told : (k : ℕ) → k < 2 → idx w1 (s.a + 1 + k) ≡ 0
  zeros_told k i =
      let l = ok.level.stands.placed in
      let work = ok.level.room.work in
      let below = words_below ok in
      let at : part (s.a + 1) 2 w1 ≡ filled 2 0 = wrote_at h (omega arith) in
      sym (get_d_part (s.a + 1) 2 w1 k 0 i) ∙ ap (λ (v : List ℕ). idx v k) at ∙ get_d_tab (λ _. 0) 2 k 0 i

  -- the first, which says that it is not the last,
  last_told : idx w1 (s.a + 1) ≡ 0
  last_told = ap (idx w1) (omega arith) ∙ zeros_told 0 (omega arith)

  -- and the second.
  none_told : idx w1 (s.a + 2) ≡ 0
  none_told = ap (idx w1) (omega arith) ∙ zeros_told 1 (omega arith)

-- ---- the DIC data

module _ {w w1 : List ℕ} {F F1 : List Float} {o : MultigridOptions} {t : Workspace} {s : Frontier} {p : Place} {count : ℕ} {v : Result Unit Refusal}
    {needed : Bool} (ok : DescendOk w (length F) o t s p count) (h : Wrote (s.a + 1) 2 (filled 2 0) w w1) (by : needed ≡ needs_dic o.smoother)
    (stood : Settled p.dic p.rows (smoother_at needed s.level w1 F p) F F1 v) where
  -- the DIC data as the options ask for them
  abbrev d : Settled p.dic p.rows (smoother_at (needs_dic o.smoother) s.level w1 F p) F F1 v
  d = rw by at stood

  -- the level's pattern, its aggregates, and its numbers with the DIC data
  abbrev own : Pattern
  own = pattern_at w (level_in t p)

  abbrev links : List ℕ
  links = part p.links p.rows w

  abbrev numbers : Numbers
  numbers = record {
    coefficients = part p.coefficients p.faces F;
    diagonal = part p.diagonal p.rows F;
    inverse = part p.inverse p.rows F;
    dic = d.held;
    factor = [];
  }

  abbrev fine : Bool → Mesh
  fine given = mesh_at w F given (level_in t p)

  -- The level stands as before.
  pub settled_on : DescendOk w1 (length F1) o t s p count
  settled_on = rw d.wrote.size (opened ok h)

  mesh_same : (given : Bool) → mesh_at w1 F1 given (level_in t p) ≡ fine given
  mesh_same given =
      let l = ok.level.stands.placed in
      let work = ok.level.room.work in
      let under = floats_below ok in
      let h0 = own_same ok h in
      let off = wrote_off d.wrote in
      let h1 : part p.values p.entries F1 ≡ part p.values p.entries F = off p.values p.entries (omega arith) in
      let h2 : part t.weights p.entries F1 ≡ part t.weights p.entries F = off t.weights p.entries (omega arith) in
      cc

  abbrev kernel : Kernel
  kernel = let c = coefficients_at F p in kernel_of (inner_shape own links count) c.diagonal c.inverse c.coefficients

  dic_is : smoother_at (needs_dic o.smoother) s.level w1 F p ≡ smoother_of o s.level kernel
  dic_is =
      let c = coefficients_at F p in
      ap (λ (k : Kernel). smoother_of o s.level k) (kernel_is (opened ok h) F links count
      ∙ ap (λ (q : Pattern). kernel_of (inner_shape q links count) c.diagonal c.inverse c.coefficients) (own_same ok h))

  numbers_no : {q : Refusal} → v ≡ Err q
      → inner_numbers o s.level (inner_shape own links count) (coefficients_at F p) ≡ refused q
  numbers_no e = then_refused (smoother_of o s.level kernel) _ (sym dic_is ∙ d.is ∙ settled_no d.held e)

  numbers_yes : v ≡ Ok tt
      → inner_numbers o s.level (inner_shape own links count) (coefficients_at F p) ≡ accepted numbers
  numbers_yes e = then_accepted (smoother_of o s.level kernel) _ (sym dic_is ∙ d.is ∙ settled_yes d.held e)

  -- The DIC data are refused.
  pub descend_numbers : (given : Bool) {q : Refusal} → v ≡ Err q → Descended w w1 F F1 o given t s p count (Err q)
  descend_numbers given e =
      let l = ok.level.stands.placed in
      descended_no (way_numbers o given s.level s.stage (fine given) (coefficients_at F p) links count (numbers_no e))
      (kept_wrote h (omega arith)) (kept_wrote d.wrote (omega arith))

  -- ---- the steps

  module _ {w2 : List ℕ} {F2 : List Float} {given : Bool} {r : Result Merging Refusal} (yes : v ≡ Ok tt)
      (g : StepsDone w1 w2 F1 F2 o given t s p count r) where
    steps_same : steps_at o given w1 F1 t s p count ≡ steps_at o given w F t s p count
    steps_same =
        ap (λ (m : Mesh). steps_of o given s.level s.stage m (part p.links p.rows w1) count) (mesh_same given)
        ∙ ap (λ (l : List ℕ). steps_of o given s.level s.stage (fine given) l count) (links_same ok h)

    words_kept : Kept s.a w w2
    words_kept = let l = ok.level.stands.placed in kept_on (kept_wrote h (omega arith)) (kept_less g.words (omega arith))

    floats_kept : Kept s.b F F2
    floats_kept =
        let l = ok.level.stands.placed in
        let work = ok.level.room.work in
        let under = floats_below ok in
        kept_on (kept_wrote d.wrote (omega arith)) (kept_less g.floats (omega arith))

    -- The steps are refused.
    pub descend_steps : {q : Refusal} → r ≡ Err q → Descended w w2 F F2 o given t s p count (Err q)
    descend_steps e =
        descended_no (way_steps o given s.level s.stage (fine given) (coefficients_at F p) links count (numbers_yes yes)
        (sym steps_same ∙ merging_no (steps_at o given w1 F1 t s p count) g.answer e)) words_kept floats_kept

    module _ {ended : Merging} (told : r ≡ Ok ended) where
      abbrev rows : ℕ
      rows = ended.count

      abbrev stage : ℕ
      stage = ended.stage

      found : Made (steps_at o given w1 F1 t s p count) rows stage
      found = merging_yes (steps_at o given w1 F1 t s p count) g.answer told

      -- what the steps made
      abbrev x : Merged
      x = found.steps

      made : steps_at o given w F t s p count ≡ accepted x
      made = sym steps_same ∙ found.is

      all : Led o own s.stage x
      all = led o given s.level s.stage (fine given) links count ok.level.stands.proper ok.maps ok.onto ok.fewer made

      links_made : part p.links p.rows w2 ≡ x.map
      links_made = g.links x found.is

      mesh_kept : mesh_at w2 F2 given (level_in t p) ≡ fine given
      mesh_kept =
          let l = ok.level.stands.placed in
          let work = ok.level.room.work in
          let under = floats_below ok in
          let most = ok.level.most in
          let less = ok.level.room.less in
          let h0 = pattern_same l (same_kept g.words (omega arith)) (omega arith) t in
          let on = kept_part g.floats in
          let h1 : part p.values p.entries F2 ≡ part p.values p.entries F1 = on p.values p.entries (omega arith) in
          let h2 : part t.weights p.entries F2 ≡ part t.weights p.entries F1 = on t.weights p.entries (omega arith) in
          let same : mesh_at w2 F2 given (level_in t p) ≡ mesh_at w1 F1 given (level_in t p) = cc in
          same ∙ mesh_same given

      own_kept : pattern_at w2 (level_in t p) ≡ own
      own_kept = ap (λ (c : Mesh). c.pattern) mesh_kept

      -- What the matrix summed afresh requires.
      pub repair_requires : {m : Held} → m ≡ level_in t p → RepairOk w2 (length F2) m p.links rows t p.positions
      repair_requires e =
          let l = ok.level.stands.placed in
          let room = ok.level.room in
          let work = room.work in
          let below = words_below ok in
          let under = floats_below ok in
          let few = room.few in
          let less = room.less in
          let owned = ok.level.rows in
          let most = ok.level.most in
          rw e (record {
            step = record {
              work = rw (words_kept.size, floats_kept.size) work;
              rows = omega arith;
              most = omega arith;
              offsets = omega arith;
              columns = omega arith;
              above = omega arith;
              values = omega arith;
              weights = omega arith;
              proper = rw own_kept ok.level.stands.proper;
              maps = subst (λ (c : ℕ). Maps (part p.links p.rows w2) p.rows c) found.counted (rw links_made all.joined.maps);
              onto = subst (λ (c : ℕ). Onto (part p.links p.rows w2) p.rows c) found.counted (rw links_made all.joined.onto);
              fewer = omega (arith, found.counted, all.few);
            };
            offsets = omega arith;
            columns = omega arith;
            above = omega arith;
            room = below;
            values = omega arith;
          })

      -- ---- the matrix summed afresh

      module _ {w3 : List ℕ} {F3 : List Float} {m : Held} {n : Formation} (is : m ≡ level_in t p)
          (k : Repaired w2 w3 F2 F3 given m p.links rows t p.positions n) where
        formed : Repaired w2 w3 F2 F3 given (level_in t p) p.links rows t p.positions n
        formed = rw is at k

        abbrev next : Mesh
        next = coarsened given (fine given) x.map x.mesh.pattern.rows

        next_is : coarse_at w2 F2 given (level_in t p) p.links rows ≡ next
        next_is =
            ap (λ (c : Mesh). coarsened given c (part p.links p.rows w2) rows) mesh_kept
            ∙ ap (λ (l : List ℕ). coarsened given (fine given) l rows) links_made
            ∙ ap (λ (c : ℕ). coarsened given (fine given) x.map c) (sym found.counted)

        size : n.entries ≡ entries next.pattern
        size = formed.found ∙ ap (λ (c : Mesh). entries c.pattern) next_is

        finite : all_finite (entries next.pattern) next.values ≡ n.finite
        finite = sym (formed.finite ∙ ap (λ (c : Mesh). all_finite n.entries c.values) next_is
            ∙ ap (λ (e : ℕ). all_finite e next.values) size)

        words_under : Kept s.a w w3
        words_under = let l = ok.level.stands.placed in kept_on words_kept (kept_less formed.words (omega arith))

        floats_under : Kept s.b F F3
        floats_under =
            let l = ok.level.stands.placed in
            let under = floats_below ok in
            kept_on floats_kept (kept_less formed.floats (omega arith))

        -- A value of it is not finite.
        pub descend_bad : n.finite ≡ false → Descended w w3 F F3 o given t s p count (Err bad_coarse_value)
        descend_bad e =
            descended_no (way_afresh o given s.level s.stage (fine given) (coefficients_at F p) links count (numbers_yes yes) made
            ∙ then_refused (coarsened_asked given (fine given) x.map x.mesh.pattern.rows) _
            (ask_no (all_finite (entries next.pattern) next.values) bad_coarse_value (accepted next) (finite ∙ e)))
            words_under floats_under

        -- ---- where it arrives

        stays : Same s.a p.links w w3
        stays =
            let l = ok.level.stands.placed in
            same_on (same_wrote h p.links) (same_on (same_kept g.words (omega arith))
            (same_kept (kept_less formed.words (omega arith)) (omega arith)))

        shapes : Shapes w3 s.a p own
        shapes = shapes_same ok.level.stands.placed stays (omega arith) ok.level.stands.shapes

        place_is : locate w3 s.a s.b ≡ p
        place_is = located ok.level.stands.placed shapes ok.level.stands.proper.valid

        header_stays : (i : ℕ) → i < s.a + 3 → idx w3 i ≡ idx w1 i
        header_stays i k =
            let l = ok.level.stands.placed in
            kept_get formed.words i 0 (omega arith) ∙ kept_get g.words i 0 (omega arith)

        last : last_at w3 s.a ≡ false
        last = ap (λ (i : ℕ). eqb i 1) (header_stays (s.a + 1) (omega arith) ∙ last_told ok h)

        head_is : head_at w3 s.a ≡ head_of (inner_shape own x.map x.mesh.pattern.rows)
        head_is =
            let h0 = shapes.head in
            let h1 = header_stays (s.a + 1) (omega arith) ∙ last_told ok h in
            let h2 = header_stays (s.a + 2) (omega arith) ∙ none_told ok h in
            cc

        links_stay : part p.links p.rows w3 ≡ x.map
        links_stay = let l = ok.level.stands.placed in kept_part formed.words p.links p.rows (omega arith) ∙ links_made

        positions : part p.positions p.entries w3 ≡ coarse_positions own x.map x.mesh.pattern.rows
        positions =
            formed.positions
            ∙ ap (λ (q : Pattern). coarse_positions q (part p.links p.rows w2) rows) own_kept
            ∙ ap (λ (l : List ℕ). coarse_positions own l rows) links_made
            ∙ ap (λ (c : ℕ). coarse_positions own x.map c) (sym found.counted)

        shape_is : shape_at w3 p false 0 ≡ inner_shape own x.map x.mesh.pattern.rows
        shape_is =
            let h0 = shapes.offsets in
            let h1 = shapes.columns in
            let h2 = shapes.starts in
            let h3 = shapes.neighbors in
            let h4 = shapes.uppers in
            let h5 = shapes.lowers in
            let h6 = shapes.diagonals in
            let h7 = links_stay in
            let h8 = positions in
            cc

        floats_stay : (b e : ℕ) → b + e ≤ p.factor → part b e F3 ≡ part b e F1
        floats_stay b e i =
            let l = ok.level.stands.placed in
            let work = ok.level.room.work in
            let under = floats_below ok in
            kept_part formed.floats b e (omega arith) ∙ kept_part g.floats b e (omega arith)

        numbers_stay : (b e : ℕ) → b + e ≤ p.dic → part b e F3 ≡ part b e F
        numbers_stay b e i = let l = ok.level.stands.placed in floats_stay b e (omega arith) ∙ wrote_off d.wrote b e (omega arith)

        numbers_is : numbers_at F3 p 0 ≡ numbers
        unfolding tri part
        numbers_is =
            let l = ok.level.stands.placed in
            let work = ok.level.room.work in
            let under = floats_below ok in
            let h1 = numbers_stay p.coefficients p.faces (omega arith) in
            let h2 = numbers_stay p.diagonal p.rows (omega arith) in
            let h3 = numbers_stay p.inverse p.rows (omega arith) in
            let h4 : part p.dic p.rows F3 ≡ d.held =
            floats_stay p.dic p.rows (omega arith) ∙ wrote_at d.wrote (omega arith) in
            cc

        -- the descent that was made
        abbrev whole : Descent
        whole = record { numbers = numbers; steps = x; next = next }

        level_is : level_at w3 F3 s.a s.b ≡ record { shape = inner_shape own x.map x.mesh.pattern.rows; numbers = numbers }
        level_is = level_at_lem w3 F3 s.a s.b place_is last
            ∙ ap (λ (q : Shape). record { shape = q; numbers = numbers_at F3 p 0 }) shape_is
            ∙ ap (λ (q : Numbers). record { shape = inner_shape own x.map x.mesh.pattern.rows; numbers = q }) numbers_is

        next_there : mesh_at w3 F3 given (next_in t x.mesh.pattern.rows (entries next.pattern)) ≡ next_of whole
        next_there =
            let h0 : pattern_at w3 (next_in t x.mesh.pattern.rows (entries next.pattern)) ≡ next.pattern =
            ap (λ (c : ℕ). pattern_at w3 (next_in t c (entries next.pattern))) found.counted
            ∙ ap (λ (e : ℕ). pattern_at w3 (next_in t rows e)) (sym size) ∙ formed.pattern ∙ ap (λ (c : Mesh). c.pattern) next_is in
            let h1 : part t.values (entries next.pattern) F3 ≡ next.values =
            ap (λ (e : ℕ). part t.values e F3) (sym size) ∙ formed.values ∙ ap (λ (c : Mesh). c.values) next_is in
            let same : n.entries ≡ entries x.mesh.pattern = size ∙ sym (ap entries all.joined.is) in
            let h2 : cond given (part t.weights (entries next.pattern) F3) [] ≡ x.mesh.weights =
            weights_on given (ap (λ (c : Mesh). c.weights) (g.mesh x found.is))
            (λ e. ap (λ (i : ℕ). part t.weights i F3) (sym size) ∙ formed.weights e
            ∙ ap (λ (i : ℕ). part t.merged_weights i F2) same) in
            cc

        arrives : Arrived w3 F3 given t s p (fine given) whole
        arrives = record {
          level = level_is;
          head = head_is;
          wordsend = words_at_lem w3 s.a s.b place_is last;
          floatsend = floats_at_lem w3 s.a s.b place_is last;
          next = next_there;
          rows = refl;
          proper = subst Proper all.joined.is all.joined.proper;
          fewer = all.few;
          less = omega (arith, coarse_few own x.map x.mesh.pattern.rows, ok.level.stands.shapes.most);
          stage = omega (arith, all.staged, ok.controls.merges, ok.controls.merge);
        }

        -- The next level's matrix stands in the temporaries.
        pub descend_done : n.finite ≡ true → Descended w w3 F F3 o given t s p count (Ok (record { count = rows; entries = n.entries; stage = stage }))
        descend_done e =
            let told : descent_at o given w F t s p count ≡ accepted whole =
            way_afresh o given s.level s.stage (fine given) (coefficients_at F p) links count (numbers_yes yes) made
            ∙ then_accepted (coarsened_asked given (fine given) x.map x.mesh.pattern.rows) _
            (ask_yes (all_finite (entries next.pattern) next.values) bad_coarse_value (accepted next) (finite ∙ e)) in
            let answer : Ok (record { count = rows; entries = n.entries; stage = stage }) ≡ descending_of (accepted whole) =
            let h0 = found.counted in let h1 = size in let h2 = found.staged in cc in
            record {
              answer = answer ∙ sym (ap descending_of told);
              arrived = λ q f. subst (Arrived w3 F3 given t s p (fine given)) (accepted_one (sym told ∙ f)) arrives;
              words = words_under;
              floats = floats_under;
            }
