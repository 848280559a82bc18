-- The cycle over the levels: what its calls require, and a law for each way out.
-- Assumes nothing.
use Rattle.std.specs.Prelude.{Result, Ok, Err}
use mathlib.Core.Path.{◌≡◌, refl, sym, ap, ◌∙◌, subst}
use mathlib.Core.Bool.{Bool, true, false}
use mathlib.Core.List.{List, ◌∷◌}
use Prim.Native.Nat.{ℕ, zero, suc, ◌+◌, ◌*◌, ◌-◌, ◌≤◌, ◌<◌}
use native.Mathlib.Nat.{add-zero}
use native.Mathlib.Omega.{arith}
use lib.ListN.{length}
use lib.Ieee.{Float}
use Rattle.float.specs.Float.{zero64}
use Rattle.store.specs.Region.{idx, part, Kept}
use Rattle.store.specs.Vector.{filled}
use Rattle.store.proofs.store.Region.{kept_on, kept_less, kept_self, kept_part}
use Rattle.options.specs.declared.options.MultigridOptions.{MultigridOptions}
use Rattle.options.specs.Counts.{pre_sweeps_of, post_sweeps_of}
use Rattle.refusal.specs.declared.Refusal.{Refusal}
use Rattle.refusal.specs.Outcome.{Outcome, accepted, refused, verdict_of, ◌>>=◌}
use Rattle.refusal.proofs.Outcome.{then_accepted, then_refused, verdict_refused, refuses, then_then, never, accepts_it}
use Rattle.cholesky.specs.Triangle.{tri}
use Rattle.matrix.specs.Kernel.{Kernel, kernel_at}
use Rattle.matrix.proofs.matrix.Kernel.{kernel_kept}
use Rattle.smoother.specs.Smooth.{smooth_of}
use Rattle.correction.specs.Transfer.{restrict_of, prolong_of}
use Rattle.hierarchy.specs.Level.{Level}
use Rattle.layout.specs.declared.Place.{Place}
use Rattle.layout.specs.Layout.{rows_at, last_at, entries_at, faces_at, locate, level_at, words_end, floats_end, levels_at, words_to, image_end}
use Rattle.layout.specs.PlaceContract.{PlaceOk}
use Rattle.layout.proofs.Views.{floats_to, levels_kept}
use Rattle.index_check.specs.Sound.{walk_of, scratch_end}
use Rattle.index_check.proofs.sound.Facts.{Here, Passed, passed, ends_of, targets_of, sums_of}
use Rattle.cycle.specs.declared.visit.Inner.{Inner}
use Rattle.cycle.specs.Visit.{InnerOk, residual_at, residual_place, matrix_at, residual_in, smoothed_at}
use Rattle.cycle.proofs.visit.Laws.{residual_ends}
use Rattle.cycle.specs.Cycle.{Cycled, cycled, count_of, visited, swept, rows_first, residual_after, corrected, end_of, up_of, cycle_of}
use Rattle.cycle.specs.Contract.{cycle_at, CycleOk, CycleDone, level_in, inner_in, next_in, inner_at, EndOk, StepOk}
use Rattle.cycle.specs.Contract.{Visited, DownDone, end_at, up_at}

-- ---- the levels, the first apart

module _ (left : ℕ) (some : 1 ≤ left) where
  -- There is a first level,
  more_than : left ≡ suc (left - 1)
  more_than = omega arith

  -- whose floats come before those of the rest,
  image_open : (w : List ℕ) (a b : ℕ) → image_end left w a b ≡ image_end (left - 1) w (words_end w a) (floats_end w a b)
  unfolding image_end
  image_open w a b = ap (λ (k : ℕ). image_end k w a b) more_than

  -- and whose vectors do,
  scratch_open : (w : List ℕ) (a s : ℕ) → scratch_end left w a s ≡ scratch_end (left - 1) w (words_end w a) (s + 5 * rows_at w a)
  unfolding scratch_end
  scratch_open w a s = ap (λ (k : ℕ). scratch_end k w a s) more_than

  -- and which leads the list.
  levels_open : (w : List ℕ) (F : List Float) (a b : ℕ)
      → levels_at left w F a b ≡ level_at w F a b ∷ levels_at (left - 1) w F (words_end w a) (floats_end w a b)
  unfolding levels_at
  levels_open w F a b = ap (λ (k : ℕ). levels_at k w F a b) more_than

  -- Its rows.
  first_rows : (w : List ℕ) (F : List Float) (a b : ℕ) → rows_first (levels_at left w F a b) ≡ rows_at w a
  unfolding level_at
  first_rows w F a b = ap rows_first (levels_open w F a b)

-- Scratch ends behind where it starts.
pub scratch_to : (k : ℕ) (w : List ℕ) (a s : ℕ) → s ≤ scratch_end k w a s
unfolding scratch_end
scratch_to zero w a s = omega arith
scratch_to (suc k) w a s = omega (arith, scratch_to k w (words_end w a) (s + 5 * rows_at w a))

-- The words of levels that the index check passed end in the store.
pub walk_to : (k : ℕ) (w : List ℕ) (level a : ℕ) → a ≤ length w → walk_of k w level a ≡ Ok tt → words_to k w a ≤ length w
unfolding words_to
walk_to zero w level a h e = h
walk_to (suc k) w level a h e = let p = passed k e in walk_to k w (level + 1) (words_end w a) p.here.words p.rest

-- The floats of a level end with its factor.
floats_from : (w : List ℕ) (a b : ℕ) → (locate w a b).factor ≤ floats_end w a b
unfolding floats_end
floats_from w a b = omega arith

-- ---- what the requirement tells of the first level

module _ {left : ℕ} {w : List ℕ} {size depth a b s : ℕ} (ok : CycleOk left w size depth a b s) where
  -- The index check passed it,
  opened : Passed (left - 1) w depth a
  opened = passed (left - 1) (subst (λ (k : ℕ). walk_of k w depth a ≡ Ok tt) (more_than left ok.some) ok.sound)

  -- its floats end below the scratch,
  first_image : floats_end w a b ≤ s
  first_image =
      let h = ok.image in
      let e = image_open left ok.some w a b in
      omega (arith, floats_to (left - 1) w (words_end w a) (floats_end w a b))

  -- and its vectors end in the store.
  first_room : s + 5 * rows_at w a ≤ size
  first_room =
      let h = ok.scratch in
      let e = scratch_open left ok.some w a s in
      omega (arith, scratch_to (left - 1) w (words_end w a) (s + 5 * rows_at w a))

  -- What its place requires.
  pub place_ok : s ≤ 18446744073709551615 → PlaceOk w a b
  place_ok h = record { words = opened.here.words; floats = omega (arith, first_image, floats_from w a b) }

  -- Its counters are among those there are.
  pub deep_enough : depth < 128
  deep_enough = omega (arith, ok.some, ok.deep)

  module _ (one : left ≡ 1) where
    -- It is the last,
    last_is : last_at w a ≡ true
    last_is = opened.last ∙ ap (λ (k : ℕ). ends_of (k - 1)) one

    -- its links are rows of its own,
    last_here : Here w a (rows_at w a) 0
    last_here = subst (λ (k : ℕ). Here w a (targets_of (k - 1) w a) (sums_of (k - 1) w a)) one opened.here

    -- and its factor ends below the scratch.
    image_last : (locate w a b).factor + tri (idx w (a + 2)) ≤ s
    unfolding floats_end
    image_last = let h = first_image in rw last_is at h

    -- What the last level requires.
    pub end_ok : s ≤ 18446744073709551615 → EndOk w size depth a b s
    end_ok fits =
        let h = last_here in
        let few : idx w (a + 2) ≤ rows_at w a = let z = h.few in rw last_is at z in
        let links : (locate w a b).links + idx w (a + 2) ≤ length w = let z = h.linked in rw last_is at z in
        let near : (k : ℕ) → k < idx w (a + 2) → idx w ((locate w a b).links + k) < rows_at w a = let z = h.links in rw last_is at z in
        let image = image_last in
        record {
          place = place_ok fits;
          last = record { links = links; near = near; inverses = omega arith; factors = image; few = few; room = first_room };
          deep = deep_enough;
        }

  module _ (more : left ≡ 1 → ⊥) where
    -- Another level comes,
    two : 1 ≤ left - 1
    two = let h = ok.some in omega arith

    -- so it is not the last,
    inner_is : last_at w a ≡ false
    inner_is = opened.last ∙ ap ends_of (more_than (left - 1) two)

    -- its links are rows of the next,
    inner_here : Here w a (rows_at w (words_end w a)) (entries_at w (words_end w a))
    inner_here =
        subst (λ (k : ℕ). Here w a (targets_of k w a) (sums_of k w a)) (more_than (left - 1) two) opened.here

    -- its words end with the positions,
    words_inner : (locate w a b).positions + entries_at w a ≡ words_end w a
    unfolding words_end
    words_inner = rw inner_is

    -- its floats before a factor,
    floats_inner : (locate w a b).factor ≡ floats_end w a b
    unfolding floats_end tri
    floats_inner = rw inner_is (omega arith)

    -- and the rest meets the requirement.
    deep_in : CycleOk (left - 1) w size (depth + 1) (words_end w a) (floats_end w a b) (s + 5 * rows_at w a)
    deep_in =
        let some = ok.some in
        let image = ok.image in
        let scratch = ok.scratch in
        let deep = ok.deep in
        let i = image_open left ok.some w a b in
        let c = scratch_open left ok.some w a s in
        record { some = two; sound = opened.rest; image = omega arith; scratch = omega arith; deep = omega arith }

    -- The rows of the next level.
    next_is : next_in w (locate w a b) ≡ rows_at w (words_end w a)
    next_is = ap (idx w) words_inner

    -- Its words follow.
    next_within : (locate w a b).positions + entries_at w a < length w
    next_within = let h = opened_deep.here.heads in omega (arith, words_inner)
      where
        opened_deep : Passed (left - 1 - 1) w (depth + 1) (words_end w a)
        opened_deep =
            passed (left - 1 - 1)
            (subst (λ (k : ℕ). walk_of k w (depth + 1) (words_end w a) ≡ Ok tt) (more_than (left - 1) two) opened.rest)

    -- What the visit of the level requires.
    inner_ok : InnerOk w size (inner_at w a b s)
    inner_ok =
        let h = inner_here in
        let image : (locate w a b).factor ≤ s = omega (arith, first_image, floats_inner) in
        let linked : (locate w a b).links + rows_at w a ≤ length w = let z = h.linked in rw inner_is at z in
        let near : (k : ℕ) → k < rows_at w a → idx w ((locate w a b).links + k) < rows_at w (words_end w a) = let z = h.links in rw inner_is at z in
        let heads = h.heads in
        let room = first_room_of deep_in in
        let starts : idx w ((locate w a b).starts + rows_at w a) ≡ faces_at w a = refl in
        let next = next_is in
        record {
          kernel = record {
            starts = omega arith;
            columns = omega arith;
            own = omega arith;
            recip = omega arith;
            faces = omega arith;
            falls = h.starts;
            near = h.neighbors;
          };
          dics = omega arith;
          links = linked;
          near = rw next near;
          xs = omega arith;
          works = omega arith;
          corrections = omega arith;
          products = omega arith;
          nexts = omega arith;
          coarses = omega arith;
          room = omega arith;
        }
      where
        first_room_of : {left' depth' a' b' s' : ℕ} → CycleOk left' w size depth' a' b' s' → s' + 5 * rows_at w a' ≤ size
        first_room_of {left'} {depth'} {a'} {b'} {s'} k =
            let h = k.scratch in
            let c = scratch_open left' k.some w a' s' in
            omega (arith, scratch_to (left' - 1) w (words_end w a') (s' + 5 * rows_at w a'))

    -- The next level's vectors end in the store.
    next_room : s + 5 * rows_at w a + 5 * next_in w (locate w a b) ≤ size
    next_room =
        let d = deep_in in
        let h = d.scratch in
        let c = scratch_open (left - 1) d.some w (words_end w a) (s + 5 * rows_at w a) in
        let next = next_is in
        omega (arith, scratch_to (left - 1 - 1) w (words_end w (words_end w a)) (s + 5 * rows_at w a + 5 * rows_at w (words_end w a)))

    -- What the ways down and up require.
    pub step_ok_lem : size ≤ 18446744073709551615 → StepOk w size depth a b s
    step_ok_lem fits =
        let room = next_room in
        record { next = record { place = place_ok (omega arith); within = next_within; vectors = omega arith }; inner = inner_ok; deep = deep_enough }

    -- The place of the next level.
    pub after_within : {p : Place} → p ≡ locate w a b → p.positions + p.entries < length w
    after_within e = rw e next_within

    pub scratch_within : {p : Place} → p ≡ locate w a b → s + 5 * p.rows ≤ size
    scratch_within e = rw e first_room

    -- In stores of the same size, what the deeper cycle requires,
    pub deep_on : {p : Place} {k : ℕ} → p ≡ locate w a b → k ≡ size
        → CycleOk (left - 1) w k (depth + 1) (p.positions + p.entries) p.factor (s + 5 * p.rows)
    deep_on e same = rw (e, same, words_inner, floats_inner) deep_in

    -- and the way up.
    pub step_on : {k : ℕ} → size ≤ 18446744073709551615 → k ≡ size → StepOk w k depth a b s
    step_on fits same = let all = step_ok_lem fits in rw same all

-- ---- the definition, by its cases

-- The last level,
level_last : (w : List ℕ) (F : List Float) (a b : ℕ) → last_at w a ≡ true → level_at w F a b ≡ level_in w F (locate w a b) true (idx w (a + 2))
unfolding level_at
level_last w F a b e = rw e

-- and another.
level_inner : (w : List ℕ) (F : List Float) (a b : ℕ) → last_at w a ≡ false → level_at w F a b ≡ inner_in w F (locate w a b)
unfolding level_at
level_inner w F a b e = rw e

module _ (o : MultigridOptions) (w : List ℕ) (F : List Float) (depth a b s : ℕ) (deeper : List Level) (t : List ℕ) where
  -- the level as its visit has it, its rows, right-hand side and x
  abbrev I : Inner
  I = inner_at w a b s

  abbrev rows : ℕ
  rows = rows_at w a

  abbrev pre : ℕ
  pre = pre_sweeps_of o depth

  -- The last level ends the cycle.
  cycle_last : (x : List Float)
      → cycle_of o (level_in w F (locate w a b) true (idx w (a + 2)) ∷ deeper) depth (part s rows F) x t
      ≡ end_at w F (visited depth t) depth a b s
  unfolding cycle_of end_of end_at
  cycle_last x = refl

  -- the deeper levels' outcome, from the residual that y leaves and so many rows
  abbrev deep_of : ℕ → List Float → Outcome Cycled
  deep_of n y =
      cycle_of o deeper (depth + 1) (restrict_of n rows (part I.links rows w) (residual_in w F I pre y)) (filled n zero64) (visited depth t)

  -- the way up from what they gave
  abbrev after_of : List Float → Cycled → Outcome Cycled
  after_of y d = up_of o (inner_in w F (locate w a b)) depth (part s rows F) (residual_in w F I pre y) y d

  -- down, the deeper levels, and up
  abbrev inner_of : ℕ → Outcome Cycled
  inner_of n = ◌>>=◌ (smoothed_at w F I o.smoother pre) (λ y. ◌>>=◌ (deep_of n y) (λ d. after_of y d))

  -- Another level goes down, deeper and up.
  cycle_inner : cycle_of o (inner_in w F (locate w a b) ∷ deeper) depth (part s rows F) (part (s + rows) rows F) t ≡ inner_of (rows_first deeper)
  unfolding cycle_of residual_after kernel_at
  cycle_inner = refl

-- ---- the way up, by what it reads

module _ (o : MultigridOptions) (depth n : ℕ) (links : List ℕ) where
  -- the way up of a level from its matrix, DIC reciprocals, right-hand side, residual, the next level's x, x and counters
  abbrev up_with : Kernel → List Float → List Float → List Float → List Float → List Float → List ℕ → Outcome Cycled
  up_with k dic rhs r e x u =
      ◌>>=◌ (◌>>=◌ (corrected o.scale_correction k r (prolong_of n links e) x) (λ y. smooth_of k dic rhs o.smoother (post_sweeps_of o depth) y))
      (λ z. accepted (cycled z (swept depth (pre_sweeps_of o depth) (post_sweeps_of o depth) u)))

  -- It depends on nothing else.
  up_same : {k k' : Kernel} {dic dic' rhs rhs' r r' e e' x x' : List Float} {u u' : List ℕ} → k ≡ k' → dic ≡ dic' → rhs ≡ rhs' → r ≡ r' → e ≡ e'
      → x ≡ x' → u ≡ u' → up_with k dic rhs r e x u ≡ up_with k' dic' rhs' r' e' x' u'
  up_same h1 h2 h3 h4 h5 h6 h7 = rw (h1, h2, h3, h4, h5, h6, h7)

-- It is the definition's chain.
up_chain : (o : MultigridOptions) (w : List ℕ) (F : List Float) (depth a b s : ℕ) (r x : List Float) (d : Cycled)
    → up_with o depth (rows_at w a) (part (locate w a b).links (rows_at w a) w) (matrix_at w F (inner_at w a b s)) (part (locate w a b).dic (rows_at w a) F)
    (part s (rows_at w a) F) r d.x x d.counts
    ≡ up_of o (inner_in w F (locate w a b)) depth (part s (rows_at w a) F) r x d
unfolding up_of corrected kernel_at
up_chain o w F depth a b s r x d =
    let P = locate w a b in
    let n = rows_at w a in
    then_then (corrected o.scale_correction (matrix_at w F (inner_at w a b s)) r (prolong_of n (part P.links n w) d.x) x)
    (λ y. smooth_of (matrix_at w F (inner_at w a b s)) (part P.dic n F) (part s n F) o.smoother (post_sweeps_of o depth) y)
    (λ z. accepted (cycled z (swept depth (pre_sweeps_of o depth) (post_sweeps_of o depth) d.counts)))

-- ---- the ways out

module _ (o : MultigridOptions) (left : ℕ) (w : List ℕ) (F : List Float) (t : List ℕ) {t₁ : List ℕ} (depth a b s : ℕ)
    (ok : CycleOk left w (length F) depth a b s) (first : t₁ ≡ count_of (4 * depth + 0) 1 t) where
  -- The first count is that of a visit.
  ct : t₁ ≡ visited depth t
  ct = first ∙ ap (λ (i : ℕ). count_of i 1 t) (add-zero (4 * depth))

  -- the level's place and as its visit has it, and its rows
  abbrev P : Place
  P = locate w a b

  abbrev g : Inner
  g = inner_at w a b s

  abbrev n : ℕ
  n = rows_at w a

  abbrev whole : Outcome Cycled
  whole = cycle_at o left w F t depth a b s

  -- what a visit gives is the cycle's
  done_as : {G : List Float} {u : List ℕ} {r : Result Unit Refusal} (out : Outcome Cycled) → whole ≡ out → Visited s n out F G u r
      → CycleDone o left w F G t u depth a b s r
  done_as out e v = record {
    answer = v.answer ∙ ap verdict_of (sym e);
    x = λ c y. v.x c (sym e ∙ y);
    counts = λ c y. v.counts c (sym e ∙ y);
    floats = v.floats;
  }

  -- and so is a refusal
  refused_as : {G : List Float} (u : List ℕ) {q : Refusal} → whole ≡ refused q → Kept (s + n) F G
      → CycleDone o left w F G t u depth a b s (Err q)
  refused_as u e k = record {
    answer = sym (verdict_refused whole e);
    x = λ c y. never e y;
    counts = λ c y. never e y;
    floats = k;
  }

  -- The last level.
  pub done_last : {G : List Float} {u : List ℕ} {r : Result Unit Refusal} → left ≡ 1 → Visited s n (end_at w F t₁ depth a b s) F G u r
      → CycleDone o left w F G t u depth a b s r
  done_last {G} {u} {r} one v =
      let v' : Visited s n (end_at w F (visited depth t) depth a b s) F G u r = rw ct at v in
      let rest = levels_at (left - 1) w F (words_end w a) (floats_end w a b) in
      let levels = levels_open left ok.some w F a b ∙ ap (λ (l : Level). l ∷ rest) (level_last w F a b (last_is ok one)) in
      done_as (end_at w F (visited depth t) depth a b s)
      (ap (λ (ls : List Level). cycle_of o ls depth (part s n F) (part (s + n) n F) t) levels ∙ cycle_last o w F depth a b s rest t (part (s + n) n F)) v'

  module _ (more : left ≡ 1 → ⊥) {D : List Float} {t₂ : List ℕ} {v : Result Unit Refusal} (d : DownDone o w F D t₁ t₂ depth a b s v) where
    -- the levels after it, the next one's rows, and the outcomes on the way
    abbrev deeper : List Level
    deeper = levels_at (left - 1) w F (words_end w a) (floats_end w a b)

    abbrev N : ℕ
    N = next_in w P

    abbrev out : Outcome (List Float)
    out = smoothed_at w F g o.smoother (pre_sweeps_of o depth)

    abbrev deep_out : List Float → Outcome Cycled
    deep_out y = deep_of o w F depth a b s deeper t N y

    abbrev after : List Float → Cycled → Outcome Cycled
    after y c = after_of o w F depth a b s deeper t y c

    -- The cycle by its three parts.
    whole_is : whole ≡ inner_of o w F depth a b s deeper t N
    whole_is =
        let levels = levels_open left ok.some w F a b ∙ ap (λ (l : Level). l ∷ deeper) (level_inner w F a b (inner_is ok more)) in
        ap (λ (ls : List Level). cycle_of o ls depth (part s n F) (part (s + n) n F) t) levels
        ∙ cycle_inner o w F depth a b s deeper t
        ∙ ap (inner_of o w F depth a b s deeper t) (first_rows (left - 1) (two ok more) w F (words_end w a) (floats_end w a b) ∙ sym (next_is ok more))

    -- Question 25 before the deeper levels.
    pub done_down : {q : Refusal} → v ≡ Err q → CycleDone o left w F D t t₂ depth a b s (Err q)
    done_down {q} told =
        let no = refuses out d.down.visit.moved.answer told in
        refused_as t₂ (whole_is ∙ then_refused out (λ y. ◌>>=◌ (deep_out y) (λ c. after y c)) no) d.down.visit.moved.floats

    module _ (told : v ≡ Ok tt) {p : Place} (at : p ≡ locate w a b) {E : List Float} {u : List ℕ} {v' : Result Unit Refusal}
        (c : CycleDone o (left - 1) w D E t₂ u (depth + 1) (p.positions + p.entries) p.factor (s + 5 * p.rows) v') where
      -- x after the way down.
      y_as : (y : List Float) × (out ≡ accepted y)
      y_as = accepts_it out d.down.visit.moved.answer told

      -- The deeper cycle at the next level's place.
      c' : CycleDone o (left - 1) w D E (visited depth t) u (depth + 1) (words_end w a) (floats_end w a b) (s + 5 * n) v'
      c' =
          let same = d.counts ∙ ct in
          rw (at, words_inner ok more, floats_inner ok more, same) at c

      -- The way down left the levels as they were,
      same_levels : levels_at (left - 1) w D (words_end w a) (floats_end w a b) ≡ deeper
      same_levels =
          let fits = walk_to (left - 1) w (depth + 1) (words_end w a) (opened ok).here.words (opened ok).rest in
          let image = (deep_in ok more).image in
          let room = first_room ok in
          (levels_kept (left - 1) (words_end w a) (floats_end w a b) {e = length w} {e' = s} kept_self (kept_less d.down.visit.moved.floats (omega arith)) fits
          (omega (arith, ok.image, image_open left ok.some w a b)) (omega arith) (omega arith)).0

      -- so the deeper cycle is the definition's.
      same : cycle_at o (left - 1) w D (visited depth t) (depth + 1) (words_end w a) (floats_end w a b) (s + 5 * n) ≡ deep_out y_as.0
      same =
          let next = next_is ok more in
          let l = d.down.visit.left y_as.0 y_as.1 in
          ap (λ (ls : List Level). cycle_of o ls (depth + 1) (part (s + 5 * n) (rows_at w (words_end w a)) D)
          (part (s + 5 * n + rows_at w (words_end w a)) (rows_at w (words_end w a)) D) (visited depth t)) same_levels
          ∙ ap (λ (k : ℕ). cycle_of o deeper (depth + 1) (part (s + 5 * n) k D) (part (s + 5 * n + k) k D) (visited depth t)) (sym next)
          ∙ ap (λ (z : List Float). cycle_of o deeper (depth + 1) z (part (s + 5 * n + N) N D) (visited depth t)) l.rhs
          ∙ ap (λ (z : List Float). cycle_of o deeper (depth + 1) (restrict_of N n (part P.links n w) (residual_in w F g (pre_sweeps_of o depth) y_as.0)) z (visited depth t))
          l.zeros

      -- The cycle after the way down.
      whole_deep : whole ≡ ◌>>=◌ (deep_out y_as.0) (λ z. after y_as.0 z)
      whole_deep = whole_is ∙ then_accepted out (λ y. ◌>>=◌ (deep_out y) (λ z. after y z)) y_as.1

      -- Below x nothing changed.
      held : Kept (s + n) F E
      held = kept_on d.down.visit.moved.floats (kept_less c'.floats (omega arith))

      -- A refusal of the deeper levels.
      pub done_deep : {q : Refusal} → v' ≡ Err q → CycleDone o left w F E t u depth a b s (Err q)
      done_deep {q} q-told =
          let no = refuses (deep_out y_as.0) (c'.answer ∙ ap verdict_of same) q-told in
          refused_as u (whole_deep ∙ then_refused (deep_out y_as.0) (λ z. after y_as.0 z) no) held

      module _ (passed_on : v' ≡ Ok tt) {G : List Float} {u' : List ℕ} {r : Result Unit Refusal}
          (h : Visited s n (up_at o w E u depth a b s) E G u' r) where
        -- What the deeper levels gave.
        z_as : (z : Cycled) × (deep_out y_as.0 ≡ accepted z)
        z_as = accepts_it (deep_out y_as.0) (c'.answer ∙ ap verdict_of same) passed_on

        -- the way up reads what the way down and the deeper levels left
        up_is : up_at o w E u depth a b s ≡ after y_as.0 z_as.0
        unfolding up_at
        up_is =
            let y = y_as.0 in
            let z = z_as.0 in
            let pre' = pre_sweeps_of o depth in
            let ok' = inner_ok ok more in
            let low : Kept s F E = kept_less held (omega arith) in
            let kernel : matrix_at w E g ≡ matrix_at w F g = kernel_kept ok'.kernel low in
            let dic : part P.dic n E ≡ part P.dic n F = kept_part low P.dic n ok'.dics in
            let rhs : part s n E ≡ part s n F = kept_part held s n (omega arith) in
            let l = d.down.visit.left y y_as.1 in
            let res : residual_at g.vectors n pre' E ≡ residual_in w F g pre' y =
            kept_part c'.floats (residual_place g.vectors pre') n (omega (arith, residual_ends ok' pre')) ∙ l.residual in
            let xs : part (s + n) n E ≡ y = kept_part c'.floats (s + n) n (omega arith) ∙ d.down.visit.moved.is y y_as.1 in
            let cx : part (s + 5 * n + N) N E ≡ z.x =
            ap (λ (k : ℕ). part (s + 5 * n + k) k E) (next_is ok more) ∙ c'.x z (same ∙ z_as.1) in
            let cu : u ≡ z.counts = c'.counts z (same ∙ z_as.1) in
            up_same o depth n (part P.links n w) kernel dic rhs res cx xs cu ∙ up_chain o w F depth a b s (residual_in w F g pre' y) y z

        -- The way up.
        pub done_up : CycleDone o left w F G t u' depth a b s r
        done_up =
            done_as (up_at o w E u depth a b s)
            (whole_deep ∙ then_accepted (deep_out y_as.0) (λ z. after y_as.0 z) z_as.1 ∙ sym up_is)
            (record { answer = h.answer; x = h.x; counts = h.counts; floats = kept_on held h.floats })
