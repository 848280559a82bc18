-- A level of the build and what lies ahead of it: a law for each way out, over the definitions alone.
-- Assumes nothing.
use Rattle.std.specs.Prelude.{Result, Ok, Err}
use Rattle.std.specs.declared.ops.ControlFlow.TheVariants.{Continue, Break}
use mathlib.Core.Path.{◌≡◌, refl, sym, ap, ◌∙◌, subst}
use mathlib.Core.Bool.{Bool, true, false, cond, ◌&&◌}
use mathlib.Core.List.{List, ◌∷◌}
use Prim.Native.Nat.{ℕ, zero, suc, ◌+◌, ◌-◌, ◌*◌, ◌≤◌, ◌<◌}
use native.Mathlib.Omega.{arith}
use lib.Dec.{eqb, leb}
use lib.ListN.{length}
use lib.Ieee.{Float}
use borrow.Author.Tests.{leb-true, le-leb, lt-leb, eq-eqb, ne_eqb}
use Rattle.store.specs.Region.{idx, part, Kept}
use Rattle.store.proofs.store.Each.{both_l, both_r}
use Rattle.store.proofs.store.Region.{length_part, kept_self, kept_on, kept_less, kept_get}
use Rattle.options.specs.declared.options.MultigridOptions.{MultigridOptions}
use Rattle.refusal.specs.declared.Refusal.{Refusal}
use Rattle.refusal.specs.Refusal.{store_too_small}
use Rattle.refusal.specs.Outcome.{Outcome, accepted, refused, ◌>>=◌, ask}
use Rattle.refusal.proofs.Outcome.{ask_yes, ask_no, then_accepted, then_refused, accepted_one, then_then}
use Rattle.coefficients.specs.Update.{Coefficients}
use Rattle.aggregation.specs.Pairs.{Pairing}
use Rattle.aggregation.proofs.Numbers.{count_most}
use Rattle.pattern.specs.Pattern.{Pattern, entries}
use Rattle.pattern.proofs.pattern.Number.{not_both}
use Rattle.faces.specs.Faces.{faces_of, diagonals_asked}
use Rattle.faces.proofs.faces.Laws.{faces_half}
use Rattle.hierarchy.specs.Level.{Numbers, Level}
use Rattle.hierarchy.specs.Refresh.{inner_numbers}
use Rattle.hierarchy.specs.Proper.{Proper}
use Rattle.hierarchy.specs.Build.{charge, Charge, fixed_charge, and_level, holds, inner_shape, Mesh, Merged, merged, kernel_asked, paired, coarsened_asked, last_level, merge_of, grow_of}
use Rattle.hierarchy.specs.Steps.{ends_at, inner_level, deeper_of}
use Rattle.hierarchy.proofs.Accepted.{grow_is, then_split, ends_zero}
use Rattle.hierarchy.proofs.Proper.{valid_range, first_joined}
use Rattle.layout.specs.declared.Place.{Place}
use Rattle.layout.specs.Layout.{place_of, level_at, words_end, floats_end, levels_at, image_end, words_fit}
use Rattle.layout.specs.Headers.{head_at, heads_at, head_of, heads_of}
use Rattle.layout.specs.Placed.{Shapes, coefficients_at}
use Rattle.layout.proofs.Places.{placed}
use Rattle.layout.proofs.Views.{level_kept, words_rise}
use Rattle.coarsening.specs.declared.coarsen.Workspace.{Workspace}
use Rattle.coarsening.specs.declared.merging.Merging.{Merging}
use Rattle.coarsening.specs.CoarsenContract.{pattern_at, mesh_at, next_in}
use Rattle.build_level.specs.declared.laying.Frontier.{Frontier}
use Rattle.build_level.specs.LayingContract.{frontier_at, level_in, RoomOk, FrontierOk, laid_of, laying_of, Stands, StandsFor, Laid, ChooseOk, Chosen}
use Rattle.build_level.specs.declared.coarsest.Growth.{Growth}
use Rattle.build_level.specs.CoarsestContract.{Levels, LastOk, Ended}
use Rattle.build_level.proofs.coarsest.Ways.{levels_refused}
use Rattle.build_levels.specs.DescentContract.{Descent, next_of, descent_of, descending_of, DescendOk, descent_at, Arrived, Descended}
use Rattle.build_levels.proofs.descent.Regions.{Same, same_kept, pattern_same, shapes_same}
use Rattle.build_levels.specs.GrowingContract.{grow_at, Grown}
use Rattle.build_levels.specs.Ahead.{paired_level, paired_at, before, Ahead, Onward, Advanced, LeadOk, next_after, pick_onward, charged_of, ChargeOk}

-- ---- the definition opened

module _ (o : MultigridOptions) (given : Bool) (stores : Charge) where
  -- The levels from one on: the questions of its matrix, and then it is the last or paired.
  grow_opens : (more level stage : ℕ) (used : Charge) (m : Mesh)
      → grow_of o given stores more level stage used m ≡ ◌>>=◌ (laid_of level m) (paired_level o given stores more level stage used m)
  grow_opens more level stage used m =
      grow_is o given stores more level stage used m
      ∙ sym (then_then (diagonals_asked level m.pattern) (λ _. kernel_asked level m) (paired_level o given stores more level stage used m))

  -- Where a level may follow, the deeper levels are a build of one level less.
  deeper_is : (more n level : ℕ) → more ≡ n + 1 → deeper_of o given stores more level ≡ grow_of o given stores n (level + 1)
  deeper_is zero n level e = absurd (omega arith)
  deeper_is (suc k) n level e = let h : k ≡ n = omega arith in ap (λ (j : ℕ). grow_of o given stores j (level + 1)) h

-- A level that no level may follow is the last.
more_some : (o : MultigridOptions) (more : ℕ) (p : Pattern) → ends_at o more p ≡ false → 1 ≤ more
more_some o zero p e = absurd (not_both (ends_zero o p) e)
more_some o (suc k) p e = omega arith

abbrev descent : Numbers → Merged → Mesh → Descent
descent n s e = record { numbers = n; steps = s; next = e }

-- A descent of four computations, and then the rest, is the four and the rest.
descent_chain : {X : Type 0} (n : Outcome Numbers) (first : Outcome Mesh) (steps : Mesh → Outcome Merged) (next : Merged → Outcome Mesh)
    (rest : Descent → Outcome X)
    → ◌>>=◌ n (λ n. ◌>>=◌ first (λ f. ◌>>=◌ (steps f) (λ s. ◌>>=◌ (next s) (λ e. rest (descent n s e)))))
    ≡ ◌>>=◌ (◌>>=◌ n (λ n. ◌>>=◌ first (λ f. ◌>>=◌ (steps f) (λ s. ◌>>=◌ (next s) (λ e. accepted (descent n s e)))))) rest
descent_chain (refused q) first steps next rest = refl
descent_chain (accepted n) (refused q) steps next rest = refl
descent_chain (accepted n) (accepted f) steps next rest = go (steps f)
  where
    end : (s : Merged) (e : Outcome Mesh) → ◌>>=◌ e (λ e. rest (descent n s e)) ≡ ◌>>=◌ (◌>>=◌ e (λ e. accepted (descent n s e))) rest
    end s (accepted e) = refl
    end s (refused q) = refl

    go : (x : Outcome Merged) → ◌>>=◌ x (λ s. ◌>>=◌ (next s) (λ e. rest (descent n s e)))
        ≡ ◌>>=◌ (◌>>=◌ x (λ s. ◌>>=◌ (next s) (λ e. accepted (descent n s e)))) rest
    go (accepted s) = end s (next s)
    go (refused q) = refl

-- the level that a descent from the matrix m leaves
abbrev left_of : Mesh → Descent → Level
left_of m d = record { shape = inner_shape m.pattern d.steps.map d.steps.mesh.pattern.rows; numbers = d.numbers }

-- the rest of `innerLevel` after the descent: 9 of the next level, and the levels from there
abbrev further_of : (ℕ → Charge → Mesh → Outcome (List Level)) → Charge → Charge → Mesh → Descent → Outcome (List Level)
further_of deeper stores used m d =
    ask (holds stores (and_level d.next.pattern used)) store_too_small
    (before (left_of m d) (deeper d.steps.stage (and_level d.next.pattern used) (next_of d)))

-- A level with aggregates is the descent and that rest.
inner_opens : (o : MultigridOptions) (given : Bool) (deeper : ℕ → Charge → Mesh → Outcome (List Level)) (stores : Charge) (level stage : ℕ)
    (used : Charge) (m : Mesh) (c : Coefficients) (g : Pairing) → inner_level o given deeper stores level stage used m c g
    ≡ ◌>>=◌ (descent_of o given level stage m c g.map g.count) (further_of deeper stores used m)
inner_opens o given deeper stores level stage used m c g =
    descent_chain (inner_numbers o level (inner_shape m.pattern g.map g.count) c) (coarsened_asked given m g.map g.count)
    (λ first. merge_of o given (o.merge_levels - 1) (level + 1) (merged first g.map (stage + 1)))
    (λ s. coarsened_asked given m s.map s.mesh.pattern.rows) (further_of deeper stores used m)

-- ---- answers

-- The levels end,
abbrev ends : Growth → Result Onward Refusal
ends g = Ok (Break g)

-- or go on,
abbrev goes_on : Frontier → Result Onward Refusal
goes_on n = Ok (Continue n)

-- or one is refused.
abbrev stops : Refusal → Result Onward Refusal
stops q = Err q

-- What a call answered is one of the two.
pub then_is : {x : Result Onward Refusal} {y z : Onward} → x ≡ Ok y → y ≡ z → x ≡ Ok z
then_is e h = cc

same_ended : {g h : Growth} → ends g ≡ ends h → g ≡ h
same_ended e = cc

same_next : {n k : Frontier} → goes_on n ≡ goes_on k → n ≡ k
same_next e = cc

same_refusal : {q p : Refusal} → stops q ≡ stops p → q ≡ p
same_refusal e = cc

ended_next : {g : Growth} {n : Frontier} → ends g ≡ goes_on n → ⊥
ended_next e = let z : ◌≡◌ {A = ℕ} 0 1 = cc in omega arith

ended_stops : {g : Growth} {q : Refusal} → ends g ≡ stops q → ⊥
ended_stops e = let z : ◌≡◌ {A = ℕ} 0 1 = cc in omega arith

next_stops : {n : Frontier} {q : Refusal} → goes_on n ≡ stops q → ⊥
next_stops e = let z : ◌≡◌ {A = ℕ} 0 1 = cc in omega arith

-- The answer of so many levels whose floats end there.
abbrev grown : ℕ → ℕ → Result Growth Refusal
grown levels end = Ok (record { levels = levels; end = end })

same_made : {i j k l : ℕ} → i ≡ j → k ≡ l → grown i k ≡ grown j l
same_made e h = rw (e, h)

-- How a level goes on by the charge of the next.
abbrev onward_by : Result Frontier Refusal → Result Onward Refusal
onward_by (Ok n) = goes_on n
onward_by (Err q) = stops q

-- An answer of the questions of a level that refuses is their refusal,
laid_refused : {q : Refusal} (m : Mesh) (x : Outcome Coefficients) → Err q ≡ laying_of m x → x ≡ refused q
laid_refused m (accepted c) e = let z : ◌≡◌ {A = ℕ} 0 1 = cc in absurd (omega arith)
laid_refused m (refused p) e = cc

-- and one that does not has its coefficients and the faces.
laid_done : {faces : ℕ} (m : Mesh) (x : Outcome Coefficients) → Ok faces ≡ laying_of m x
    → (c : Coefficients) × (x ≡ accepted c) × (faces ≡ faces_of m.pattern)
laid_done m (accepted c) e = (c, refl, cc)
laid_done m (refused p) e = let z : ◌≡◌ {A = ℕ} 0 1 = cc in absurd (omega arith)

-- So it is with a descent that refuses,
descent_refused : {q : Refusal} (x : Outcome Descent) → Err q ≡ descending_of x → x ≡ refused q
descent_refused (accepted d) e = let z : ◌≡◌ {A = ℕ} 0 1 = cc in absurd (omega arith)
descent_refused (refused p) e = cc

-- What a descent that arrives answers.
record Answered (x : Outcome Descent) (count entered stage : ℕ) : Type 0 where
  made : Descent
  is : x ≡ accepted made
  rows : count ≡ made.steps.mesh.pattern.rows
  most : entered ≡ entries made.next.pattern
  stages : stage ≡ made.steps.stage

descent_done : {m : Merging} (x : Outcome Descent) → Ok m ≡ descending_of x → Answered x m.count m.entries m.stage
descent_done {m} (accepted d) e =
    let same : m ≡ record { count = d.steps.mesh.pattern.rows; entries = entries d.next.pattern; stage = d.steps.stage } = cc in
    record {
      made = d;
      is = refl;
      rows = ap (λ (x : Merging). x.count) same;
      most = ap (λ (x : Merging). x.entries) same;
      stages = ap (λ (x : Merging). x.stage) same;
    }
descent_done (refused p) e = let z : ◌≡◌ {A = ℕ} 0 1 = cc in absurd (omega arith)

-- ---- levels

module _ {w z : List ℕ} {F G : List Float} {t : Workspace} {level a b : ℕ} {out : Outcome (List Level)} where
  -- Levels after writes above where they start.
  levels_after : {w₁ : List ℕ} {F₁ : List Float} {r : Result Growth Refusal} {out₁ : Outcome (List Level)} → Levels w₁ z F₁ G t level a b out₁ r → out ≡ out₁
      → Kept a w w₁ → Kept b F F₁ → Levels w z F G t level a b out r
  levels_after l e words floats = record {
    made = λ ls h. l.made ls (sym e ∙ h);
    refusal = λ q h. l.refusal q (sym e ∙ h);
    view = λ ls h. l.view ls (sym e ∙ h);
    fits = λ ls h. l.fits ls (sym e ∙ h);
    heads = λ ls h. l.heads ls (sym e ∙ h);
    ends = λ ls h. l.ends ls (sym e ∙ h);
    words = kept_on words l.words;
    floats = kept_on floats l.floats;
  }

-- ---- one level more, at the front

module _ (k : ℕ) (z : List ℕ) (a b : ℕ) {a' b' : ℕ} (words : words_end z a ≡ a') (floats : floats_end z a b ≡ b') where
  image_front : image_end (suc k) z a b ≡ image_end k z a' b'
  unfolding image_end
  image_front = rw (words, floats)

  levels_front : (G : List Float) → levels_at (suc k) z G a b ≡ level_at z G a b ∷ levels_at k z G a' b'
  unfolding levels_at
  levels_front G = rw (words, floats)

  fit_front : a' ≤ length z → words_fit k z a' ≡ true → words_fit (suc k) z a ≡ true
  unfolding words_fit
  fit_front h e = rw (words, le-leb a' (length z) h, e)

  heads_front : heads_at (suc k) z a ≡ head_at z a ∷ heads_at k z a'
  unfolding heads_at
  heads_front = rw words

module _ {w z y : List ℕ} {F G H : List Float} {o : MultigridOptions} {given : Bool} {t : Workspace} {s n : Frontier}
    {out : Outcome (List Level)} {r : Result Growth Refusal} (h : Ahead w z F G o given t s out n) (g : Grown z y G H o given t n r) where
  abbrev deep : Levels z y G H t n.level n.a n.b (grow_at o given z G t n) r
  deep = g.levels

  in_words : n.a ≤ length z
  in_words = let room = h.frontier.room in let l = room.below in let k = room.heldwords in omega arith

  in_floats : n.b ≤ length G
  in_floats = let room = h.frontier.room in let l = room.under in let k = room.heldfloats in omega arith

  -- the level before the next frontier is as it was
  level_still : (level_at y H s.a s.b ≡ level_at z G s.a s.b) × (words_end y s.a ≡ n.a) × (floats_end y s.a s.b ≡ n.b)
  level_still =
      let e = h.wordsend in
      let f = h.floatsend in
      let k = level_kept s.a s.b deep.words deep.floats (omega arith) (omega arith) in_words in_floats in
      (k.0, k.1 ∙ e, k.2 ∙ f)

  -- the levels are that one and the deeper ones
  consed : (ls : List Level) → out ≡ accepted ls
      → (rest : List Level) × (grow_at o given z G t n ≡ accepted rest) × (level_at z G s.a s.b ∷ rest ≡ ls)
  consed ls e =
      let x = then_split (grow_at o given z G t n) (λ (rest : List Level). accepted (level_at z G s.a s.b ∷ rest)) (sym h.outcome ∙ e) in
      (x.0, x.1, accepted_one x.2)

  made_on : (ls : List Level) → out ≡ accepted ls → r ≡ grown (s.level + length ls) (image_end (length ls) y s.a s.b)
  made_on ls e =
      let x = consed ls e in
      let k = level_still in
      let up = h.level in
      subst (λ (ls : List Level). r ≡ grown (s.level + length ls) (image_end (length ls) y s.a s.b)) x.2
      (deep.made x.0 x.1 ∙ same_made (omega arith) (sym (image_front (length x.0) y s.a s.b k.1 k.2)))

  refused_on : (q : Refusal) → out ≡ refused q → r ≡ Err q
  refused_on q e = deep.refusal q (then_not (grow_at o given z G t n) (sym h.outcome ∙ e))
    where
      then_not : (x : Outcome (List Level)) → before (level_at z G s.a s.b) x ≡ refused q → x ≡ refused q
      then_not (accepted ls) e = let z : ◌≡◌ {A = ℕ} 0 1 = cc in absurd (omega arith)
      then_not (refused p) e = cc

  view_on : (ls : List Level) → out ≡ accepted ls → levels_at (length ls) y H s.a s.b ≡ ls
  view_on ls e =
      let x = consed ls e in
      let k = level_still in
      subst (λ (ls : List Level). levels_at (length ls) y H s.a s.b ≡ ls) x.2
      (levels_front (length x.0) y s.a s.b k.1 k.2 H ∙ rw (k.0, deep.view x.0 x.1))

  fits_on : (ls : List Level) → out ≡ accepted ls → words_fit (length ls) y s.a ≡ true
  fits_on ls e =
      let x = consed ls e in
      let k = level_still in
      let size = deep.words.size in
      let here = in_words in
      subst (λ (ls : List Level). words_fit (length ls) y s.a ≡ true) x.2
      (fit_front (length x.0) y s.a s.b k.1 k.2 (omega arith) (deep.fits x.0 x.1))

  -- the header of the level before is as it was
  head_still : head_at y s.a ≡ head_of (level_at z G s.a s.b).shape
  head_still =
      let e = h.wordsend in
      let rise = words_rise z s.a in
      let h0 : idx y s.a ≡ idx z s.a = kept_get deep.words s.a 0 (omega arith) in
      let h1 : idx y (s.a + 1) ≡ idx z (s.a + 1) = kept_get deep.words (s.a + 1) 0 (omega arith) in
      let h2 : idx y (s.a + 2) ≡ idx z (s.a + 2) = kept_get deep.words (s.a + 2) 0 (omega arith) in
      let same : head_at y s.a ≡ head_at z s.a = cc in
      same ∙ h.head

  heads_on : (ls : List Level) → out ≡ accepted ls → heads_at (length ls) y s.a ≡ heads_of ls
  unfolding heads_of
  heads_on ls e =
      let x = consed ls e in
      let k = level_still in
      subst (λ (ls : List Level). heads_at (length ls) y s.a ≡ heads_of ls) x.2
      (heads_front (length x.0) y s.a s.b k.1 k.2 ∙ rw (head_still, deep.heads x.0 x.1))

  ends_on : (ls : List Level) → out ≡ accepted ls → image_end (length ls) y s.a s.b + t.rows ≤ t.values
  ends_on ls e =
      let x = consed ls e in
      let k = level_still in
      subst (λ (ls : List Level). image_end (length ls) y s.a s.b + t.rows ≤ t.values) x.2
      (rw (image_front (length x.0) y s.a s.b k.1 k.2) (deep.ends x.0 x.1))

  -- The levels from the next frontier on make those from here on.
  levels_on : Levels w y F H t s.level s.a s.b out r
  levels_on = record {
    made = made_on;
    refusal = refused_on;
    view = view_on;
    fits = fits_on;
    heads = heads_on;
    ends = ends_on;
    words = kept_on h.words (kept_less deep.words h.above);
    floats = kept_on h.floats (kept_less deep.floats h.over);
  }

-- ---- `grow`

-- The loop of `grow` stands at the frontier n: the levels from there on make those from s on, whatever they are.
pub record Left (w z : List ℕ) (F G : List Float) (o : MultigridOptions) (given : Bool) (t : Workspace) (s n : Frontier) : Type 0 where
  pub frontier : FrontierOk z (length G) o t n
  pub words : length z ≡ length w
  pub floats : length G ≡ length F
  pub whole : (y : List ℕ) (H : List Float) (r : Result Growth Refusal) → Grown z y G H o given t n r → Grown w y F H o given t s r

-- Before the first level all levels are left.
pub left_start : {w : List ℕ} {F : List Float} {o : MultigridOptions} {given : Bool} {t : Workspace} {s : Frontier}
    → FrontierOk w (length F) o t s → Left w w F F o given t s s
left_start ok = record { frontier = ok; words = refl; floats = refl; whole = λ y H r g. g }

-- The next frontier has fewer levels to follow.
pub next_fewer : {w z : List ℕ} {F G : List Float} {o : MultigridOptions} {given : Bool} {t : Workspace} {s n : Frontier} {x : Result Onward Refusal}
    → Advanced w z F G o given t s (grow_at o given w F t s) x → x ≡ goes_on n → n.more < s.more
next_fewer {n = n} a e = let h = (a.next n e).more in omega arith

module _ {w z y : List ℕ} {F G H : List Float} {o : MultigridOptions} {given : Bool} {t : Workspace} {s n : Frontier} {x : Result Onward Refusal}
    (left : Left w z F G o given t s n) (a : Advanced z y G H o given t n (grow_at o given z G t n) x) where
  -- The levels end with this one: with it those from s on are whole.
  pub left_ended : {g : Growth} → x ≡ ends g → Grown w y F H o given t s (Ok g)
  left_ended {g} e = left.whole y H (Ok g) (record { levels = a.ended g e })

  -- The level is refused: so is the whole.
  pub left_refused : {q : Refusal} → x ≡ stops q → Grown w y F H o given t s (Err q)
  left_refused {q} e = left.whole y H (Err q) (record { levels = a.refusal q e })

  -- One level fewer is left.
  pub left_next : {m : Frontier} → x ≡ goes_on m → Left w y F H o given t s m
  left_next {m} e =
      let h = a.next m e in
      record {
        frontier = h.frontier;
        words = h.words.size ∙ left.words;
        floats = h.floats.size ∙ left.floats;
        whole = λ v K r g. left.whole v K r (record { levels = levels_on h g });
      }

-- ---- ways out of a level

module _ {w z : List ℕ} {F G : List Float} {o : MultigridOptions} {given : Bool} {t : Workspace} {s : Frontier} {out : Outcome (List Level)} where
  -- A level with which the levels end.
  advanced_ended : {g : Growth} → Levels w z F G t s.level s.a s.b out (Ok g) → Advanced w z F G o given t s out (ends g)
  advanced_ended {g} l = record {
    ended = λ x e. subst (λ (y : Growth). Levels w z F G t s.level s.a s.b out (Ok y)) (same_ended e) l;
    refusal = λ q e. absurd (ended_stops e);
    next = λ n e. absurd (ended_next e);
  }

  -- A level that is refused.
  advanced_refused : {q : Refusal} → Levels w z F G t s.level s.a s.b out (Err q) → Advanced w z F G o given t s out (stops q)
  advanced_refused {q} l = record {
    ended = λ g e. absurd (ended_stops (sym e));
    refusal = λ p e. subst (λ (x : Refusal). Levels w z F G t s.level s.a s.b out (Err x)) (same_refusal e) l;
    next = λ n e. absurd (next_stops (sym e));
  }

  -- A level that leads on.
  advanced_next : {n : Frontier} → Ahead w z F G o given t s out n → Advanced w z F G o given t s out (goes_on n)
  advanced_next {n} h = record {
    ended = λ g e. absurd (ended_next (sym e));
    refusal = λ q e. absurd (next_stops e);
    next = λ k e. subst (λ (m : Frontier). Ahead w z F G o given t s out m) (same_next e) h;
  }

  -- A level after writes above where it starts.
  advanced_after : {w₁ : List ℕ} {F₁ : List Float} {out₁ : Outcome (List Level)} {r : Result Onward Refusal}
      → Advanced w₁ z F₁ G o given t s out₁ r → out ≡ out₁
      → Kept s.a w w₁ → Kept s.b F F₁ → Advanced w z F G o given t s out r
  advanced_after a e words floats = record {
    ended = λ g q. levels_after (a.ended g q) e words floats;
    refusal = λ p q. levels_after (a.refusal p q) e words floats;
    next = λ n q. let h = a.next n q in record {
      frontier = h.frontier;
      more = h.more;
      level = h.level;
      head = h.head;
      wordsend = h.wordsend;
      floatsend = h.floatsend;
      above = h.above;
      over = h.over;
      outcome = e ∙ h.outcome;
      words = kept_on words h.words;
      floats = kept_on floats h.floats;
    };
  }

-- ---- the choice between the last level and the way down

-- a matrix with another pattern
abbrev of_pattern : Mesh → Pattern → Mesh
of_pattern m q = record { pattern = q; values = m.values; weights = m.weights }

-- Of two tests in a row, where the choice was the rows the first end is taken,
picks_last : {A : Type 0} (x : Bool) {count rows : ℕ} (n : ℕ) (l i : A) → count ≡ cond x rows n → count ≡ rows
    → cond x l (cond (eqb n rows) l i) ≡ l
picks_last true n l i e h = refl
picks_last false {count} {rows} n l i e h = let q : eqb n rows ≡ true = eq-eqb n rows (sym e ∙ h) in rw q

-- and where it was not, the other.
picks_inner : {A : Type 0} (x : Bool) {count rows n : ℕ} (l i : A) → count ≡ cond x rows n → (count ≡ rows → ⊥)
    → (cond x l (cond (eqb n rows) l i) ≡ i) × (x ≡ false) × (count ≡ n)
picks_inner true l i e h = absurd (h e)
picks_inner false {count} {rows} {n} l i e h = let q : eqb n rows ≡ false = ne_eqb n rows (λ r. h (e ∙ r)) in (rw q refl, refl, e)

module _ {w z : List ℕ} {F : List Float} {o : MultigridOptions} {given : Bool} {t : Workspace} {s : Frontier} {p : Place} {count : ℕ}
    (ok : LeadOk w (length F) o t s p) (ch : Chosen w z F o given t s p count) where
  abbrev m : Mesh
  m = mesh_at w F given (level_in t p)

  abbrev g : Pairing
  g = paired o given s.stage m

  abbrev stores : Charge
  stores = charge (length w) (length F)

  abbrev used : Charge
  used = charge s.words s.floats

  -- the two ways of the definition
  abbrev ending : Outcome (List Level)
  ending = last_level o s.level m (coefficients_at F p)

  abbrev inner : Outcome (List Level)
  inner = inner_level o given (deeper_of o given stores s.more s.level) stores s.level s.stage used m (coefficients_at F p) g

  standing : Stands w t s.a s.b p
  standing = ok.level.stands

  -- Below the links the choice leaves everything: the level's pattern,
  below_same : Same s.a p.links w z
  below_same = let l = standing.placed in same_kept ch.words (omega arith)

  pattern_still : pattern_at z (level_in t p) ≡ pattern_at w (level_in t p)
  pattern_still = pattern_same standing.placed below_same (omega arith) t

  -- and its matrix,
  mesh_still : mesh_at z F given (level_in t p) ≡ m
  mesh_still = ap (of_pattern m) pattern_still

  -- and what it stands on.
  choose_still : ChooseOk z (length F) o t s p
  choose_still =
      let back = sym pattern_still in
      record {
        room = subst (λ (n : ℕ). RoomOk n (length F) o t s) (sym ch.words.size) ok.level.room;
        rows = ok.level.rows;
        most = ok.level.most;
        stands = record {
          placed = standing.placed;
          shapes = subst (Shapes z s.a p) back (shapes_same standing.placed below_same (omega arith) standing.shapes);
          proper = subst Proper back standing.proper;
        };
      }

  words_still : Kept s.a w z
  words_still = let l = standing.placed in kept_less ch.words (omega arith)

  -- The last level may be made.
  pub last_ok : LastOk z (length F) o t s p
  last_ok = record { controls = ok.controls; level = choose_still; count = let h = ok.levels in omega arith }

  -- The last level is the definition's.
  led_levels : {y : List ℕ} {G : List Float} {r : Result Growth Refusal} → count ≡ s.rows → Ended z y F G o given t s p r
      → Levels w y F G t s.level s.a s.b (paired_at o given w F t s p) r
  led_levels e d =
      let last = picks_last (ends_at o s.more m.pattern) g.count ending inner ch.count (e ∙ sym ok.level.rows) in
      levels_after d.levels
      (last ∙ ap (λ (x : Mesh). last_level o s.level x (coefficients_at F p)) (sym mesh_still)) words_still kept_self

  module _ {y : List ℕ} {G : List Float} {r : Result Growth Refusal} (e : count ≡ s.rows) (d : Ended z y F G o given t s p r) where
    -- It is made,
    pub led_last : {g : Growth} → r ≡ Ok g → Advanced w y F G o given t s (paired_at o given w F t s p) (ends g)
    led_last h =
        advanced_ended (subst (λ (x : Result Growth Refusal). Levels w y F G t s.level s.a s.b (paired_at o given w F t s p) x) h (led_levels e d))

    -- or refused.
    pub led_last_no : {q : Refusal} → r ≡ Err q → Advanced w y F G o given t s (paired_at o given w F t s p) (stops q)
    led_last_no h =
        advanced_refused (subst (λ (x : Result Growth Refusal). Levels w y F G t s.level s.a s.b (paired_at o given w F t s p) x) h (led_levels e d))

  module _ (ne : count ≡ s.rows → ⊥) where
    -- The pairing joins some rows, and it is the one at the links.
    picked : (paired_at o given w F t s p ≡ inner) × (ends_at o s.more m.pattern ≡ false) × (count ≡ g.count)
    picked = picks_inner (ends_at o s.more m.pattern) ending inner ch.count (λ e. ne (e ∙ ok.level.rows))

    linked : part p.links p.rows z ≡ g.map
    linked = ch.links picked.1

    -- A level may follow.
    some_more : 1 ≤ s.more
    some_more = more_some o s.more m.pattern picked.1

    -- The way down may be taken.
    pub descend_ok : DescendOk z (length F) o t s p count
    descend_ok =
        let j = first_joined o given s.stage m standing.proper in
        let few : g.count ≤ p.rows = count_most _ _ (valid_range standing.proper.valid) in
        let same = picked.2 in
        let more = some_more in
        let levels = ok.levels in
        let stages = ok.stages in
        record {
          controls = ok.controls;
          level = choose_still;
          fewer = omega arith;
          maps = rw (linked, same) j.maps;
          onto = rw (linked, same) j.onto;
          stages = omega arith;
          levels = omega arith;
        }

    -- The level is the descent, and what the definition does after it.
    leads : paired_at o given w F t s p
        ≡ ◌>>=◌ (descent_at o given z F t s p count) (further_of (deeper_of o given stores s.more s.level) stores used m)
    leads =
        let same : descent_at o given z F t s p count ≡ descent_of o given s.level s.stage m (coefficients_at F p) g.map g.count =
        ap (λ (x : Mesh). descent_of o given s.level s.stage x (coefficients_at F p) (part p.links p.rows z) count) mesh_still
        ∙ ap (λ (l : List ℕ). descent_of o given s.level s.stage m (coefficients_at F p) l count) linked
        ∙ ap (λ (n : ℕ). descent_of o given s.level s.stage m (coefficients_at F p) g.map n) picked.2 in
        picked.0
        ∙ inner_opens o given (deeper_of o given stores s.more s.level) stores s.level s.stage used m (coefficients_at F p) g
        ∙ ap (λ (x : Outcome Descent). ◌>>=◌ x (further_of (deeper_of o given stores s.more s.level) stores used m)) (sym same)

    module _ {y : List ℕ} {G : List Float} {d : Result Merging Refusal} (down : Descended z y F G o given t s p count d) where
      words_down : Kept s.a w y
      words_down = kept_on words_still down.words

      -- A descent that refuses.
      pub led_refused : {q : Refusal} → d ≡ Err q
          → Advanced w y F G o given t s (paired_at o given w F t s p) (stops q)
      led_refused e =
          let x = descent_refused (descent_at o given z F t s p count) (sym e ∙ down.answer) in
          advanced_refused (levels_refused words_down down.floats (leads ∙ then_refused (descent_at o given z F t s p count) _ x))

      module _ {to : Merging} (e : d ≡ Ok to) where
        abbrev rows : ℕ
        rows = to.count

        abbrev entered : ℕ
        entered = to.entries

        abbrev stage : ℕ
        stage = to.stage

        answered : Answered (descent_at o given z F t s p count) rows entered stage
        answered = descent_done (descent_at o given z F t s p count) (sym e ∙ down.answer)

        abbrev made : Descent
        made = answered.made

        arrived : Arrived y G given t s p (mesh_at z F given (level_in t p)) made
        arrived = down.arrived made answered.is

        abbrev n : Frontier
        n = next_after s p rows entered stage

        -- Twice the faces are no more than the entries.
        half : p.faces + p.faces ≤ p.entries
        half =
            let q = standing.proper in
            let h = faces_half q.valid q.rising q.mirrored in
            let c = standing.shapes.count in
            let f = standing.shapes.most in
            omega arith

        -- the room, by the stores as they are now
        room : RoomOk (length y) (length G) o t s
        room = rw (words_down.size, down.floats.size) ok.level.room

        -- where the level ends
        record Edges : Type 0 where
          words : p.positions + p.entries ≤ s.a + (5 * s.rows + 4 * s.entries + 8)
          floats : p.factor ≤ s.b + (3 * s.rows + 2 * s.entries)
          above : s.a ≤ p.positions + p.entries
          over : s.b ≤ p.factor
          fewer : rows ≤ s.rows
          less : entered ≤ s.entries

        edges : Edges
        edges =
            let l = standing.placed in
            let h = half in
            let c = ok.level.rows in
            let f = ok.level.most in
            let rows_are = arrived.fewer in
            let entries_are = arrived.less in
            let x = answered.rows in
            let y = answered.most in
            record {
              words = omega arith;
              floats = omega arith;
              above = omega arith;
              over = omega arith;
              fewer = omega arith;
              less = omega arith;
            }

        -- The next level's charge may be asked.
        pub charged_ok : ChargeOk (length y) (length G) s p rows entered
        charged_ok =
            let x = edges in
            let h = room in
            let a = h.work.few in
            let b = h.work.less in
            let c = h.few in
            let d = h.less in
            let more = some_more in
            let levels = ok.levels in
            record {
              heldwords = h.heldwords;
              heldfloats = h.heldfloats;
              few = let i = x.fewer in omega arith;
              less = let i = x.less in omega arith;
              end = let i = x.words in let j = h.below in let k = h.heldwords in omega arith;
              level = omega arith;
              more = more;
            }

        -- the charge of the next level
        charge_is : and_level made.next.pattern used ≡ charge n.words n.floats
        charge_is =
            let x : made.next.pattern.rows ≡ rows = arrived.rows ∙ sym answered.rows in
            let z : entries made.next.pattern ≡ entered = sym answered.most in
            rw (x, z)

        stores_are : stores ≡ charge (length y) (length G)
        stores_are = rw (words_down.size, down.floats.size)

        -- whether the stores hold it
        abbrev held : Bool
        held = holds (charge (length y) (length G)) (charge n.words n.floats)

        held_is : holds stores (and_level made.next.pattern used) ≡ held
        held_is = ap (λ (x : Charge). holds x (and_level made.next.pattern used)) stores_are
            ∙ ap (holds (charge (length y) (length G))) charge_is

        -- the levels from the next frontier on
        abbrev deepest : Outcome (List Level)
        deepest = deeper_of o given stores s.more s.level made.steps.stage (and_level made.next.pattern used) (next_of made)

        further : paired_at o given w F t s p ≡ ask held store_too_small (before (left_of m made) deepest)
        further = leads
            ∙ then_accepted (descent_at o given z F t s p count) (further_of (deeper_of o given stores s.more s.level) stores used m)
            answered.is
            ∙ ap (λ (x : Bool). ask x store_too_small (before (left_of m made) deepest)) held_is

        next_mesh : frontier_at y G given t n ≡ next_of made
        next_mesh = ap (λ (k : ℕ). mesh_at y G given (next_in t k entered)) answered.rows
            ∙ ap (λ (k : ℕ). mesh_at y G given (next_in t made.steps.mesh.pattern.rows k)) answered.most ∙ arrived.next

        deepest_is : deepest ≡ grow_at o given y G t n
        deepest_is =
            let one : s.more ≡ s.more - 1 + 1 = (let more = some_more in omega arith) in
            let paid = and_level made.next.pattern used in
            let now = charge (length y) (length G) in
            let grown : Charge → ℕ → Charge → Mesh → Outcome (List Level) = λ x k c v. grow_of o given x (s.more - 1) (s.level + 1) k c v in
            ap (λ (f : ℕ → Charge → Mesh → Outcome (List Level)). f made.steps.stage paid (next_of made))
            (deeper_is o given stores s.more (s.more - 1) s.level one)
            ∙ ap (λ (x : Charge). grown x made.steps.stage paid (next_of made)) stores_are
            ∙ ap (λ (k : ℕ). grown now k paid (next_of made)) (sym answered.stages)
            ∙ ap (λ (c : Charge). grown now stage c (next_of made)) charge_is
            ∙ ap (grown now stage (charge n.words n.floats)) (sym next_mesh)

        level_is : left_of m made ≡ level_at y G s.a s.b
        level_is = ap (λ (x : Mesh). left_of x made) (sym mesh_still) ∙ sym arrived.level

        -- the room of the next level
        next_room : held ≡ true → RoomOk (length y) (length G) o t n
        next_room fit =
            let h = room in
            let x = edges in
            record {
              work = h.work;
              few = let i = x.fewer in let j = h.few in omega arith;
              less = let i = x.less in let j = h.less in omega arith;
              ends = h.ends;
              tops = h.tops;
              below = raised (fixed_charge o t.rows t.entries).words x.words h.below;
              under = lifted (fixed_charge o t.rows t.entries).floats x.floats h.under;
              heldwords = leb-true n.words (length y) (both_l (leb n.words (length y)) (leb n.floats (length G)) fit);
              heldfloats = leb-true n.floats (length G) (both_r (leb n.words (length y)) (leb n.floats (length G)) fit);
            }
          where
            raised : (fixed : ℕ) {end low words : ℕ} → end ≤ low → low + fixed ≤ words
                → end + (5 * rows + 4 * entered + 8) + fixed ≤ words + (5 * rows + 4 * entered + 8)
            raised fixed i j = omega arith

            lifted : (fixed : ℕ) {end low floats : ℕ} → end ≤ low → low + t.rows + fixed ≤ floats
                → end + (3 * rows + 2 * entered) + t.rows + fixed ≤ floats + (20 * rows + 4 * entered)
            lifted fixed i j = omega arith

        next_frontier : held ≡ true → FrontierOk y (length G) o t n
        next_frontier fit =
            let proper = subst Proper (sym (ap (λ (x : Mesh). x.pattern) next_mesh)) arrived.proper in
            let more = some_more in
            let levels = ok.levels in
            let stages = ok.stages in
            let x = answered.stages in
            let y = arrived.stage in
            record {
              controls = ok.controls;
              room = next_room fit;
              valid = proper.valid;
              rising = proper.rising;
              mirrored = proper.mirrored;
              levels = omega arith;
              stages = omega arith;
            }

        ahead : held ≡ true → Ahead w y F G o given t s (paired_at o given w F t s p) n
        ahead fit = record {
          frontier = next_frontier fit;
          more = let more = some_more in omega arith;
          level = refl;
          head = arrived.head ∙ sym (ap (λ (l : Level). head_of l.shape) arrived.level);
          wordsend = arrived.wordsend;
          floatsend = arrived.floatsend;
          above = edges.above;
          over = edges.over;
          outcome = further ∙ ask_yes held store_too_small (before (left_of m made) deepest) fit
              ∙ ap (λ (l : Level). before l deepest) level_is ∙ ap (before (level_at y G s.a s.b)) deepest_is;
          words = words_down;
          floats = down.floats;
        }

        -- The next level is charged: where the stores do not hold it, a refusal, else it lies ahead.
        led_by : {r : Result Frontier Refusal} → r ≡ charged_of (length y) (length G) n
            → Advanced w y F G o given t s (paired_at o given w F t s p) (onward_by r)
        led_by h = subst (λ (x : Result Frontier Refusal). Advanced w y F G o given t s (paired_at o given w F t s p) (onward_by x)) (sym h) (go held refl)
          where
            go : (x : Bool) → held ≡ x → Advanced w y F G o given t s (paired_at o given w F t s p) (onward_by (pick_onward x n))
            go true fit = advanced_next (ahead fit)
            go false lack = advanced_refused (levels_refused words_down down.floats
                (further ∙ ask_no held store_too_small (before (left_of m made) deepest) lack))

        module _ {r : Result Frontier Refusal} (h : r ≡ charged_of (length y) (length G) n) where
          -- It lies ahead,
          pub led_charged : {k : Frontier} → r ≡ Ok k → Advanced w y F G o given t s (paired_at o given w F t s p) (goes_on k)
          led_charged e = subst (λ (x : Result Frontier Refusal). Advanced w y F G o given t s (paired_at o given w F t s p) (onward_by x)) e (led_by h)

          -- or the stores do not hold it.
          pub led_short : {q : Refusal} → r ≡ Err q → Advanced w y F G o given t s (paired_at o given w F t s p) (stops q)
          led_short e = subst (λ (x : Result Frontier Refusal). Advanced w y F G o given t s (paired_at o given w F t s p) (onward_by x)) e (led_by h)

-- ---- a level that is laid

module _ {w z : List ℕ} {F G : List Float} {o : MultigridOptions} {given : Bool} {t : Workspace} {s : Frontier} {r : Result ℕ Refusal}
    (ok : FrontierOk w (length F) o t s) (laid : Laid w z F G given t s r) where
  abbrev here : Mesh
  here = frontier_at w F given t s

  opened : grow_at o given w F t s ≡ ◌>>=◌ (laid_of s.level here)
      (paired_level o given (charge (length w) (length F)) s.more s.level s.stage (charge s.words s.floats) here)
  opened = grow_opens o given (charge (length w) (length F)) s.more s.level s.stage (charge s.words s.floats) here

  -- Its questions refuse.
  pub laid_no : {q : Refusal} → r ≡ Err q
      → Advanced w z F G o given t s (grow_at o given w F t s) (stops q)
  laid_no e =
      let x = laid_refused here (laid_of s.level here) (sym e ∙ laid.answer) in
      advanced_refused (levels_refused laid.words laid.floats (opened ∙ then_refused (laid_of s.level here) _ x))

  module _ {faces : ℕ} (e : r ≡ Ok faces) where
    passed_as : (c : Coefficients) × (laid_of s.level here ≡ accepted c) × (faces ≡ faces_of here.pattern)
    passed_as = laid_done here (laid_of s.level here) (sym e ∙ laid.answer)

    -- Twice the faces are no more than the entries.
    faces_room : faces + faces ≤ s.entries
    faces_room =
        let h = faces_half ok.valid ok.rising ok.mirrored in
        let work = ok.room.work in
        let less = ok.room.less in
        let long : length (part t.columns s.entries w) ≡ s.entries = length_part t.columns s.entries w (omega arith) in
        let is = passed_as.2 in
        omega arith

    -- Its place has room.
    pub place_ok : length w ≤ 18446744073709551615 → length F ≤ 18446744073709551615
        → (s.a + 4 * s.rows + s.entries + 3 * faces + 5 ≤ 18446744073709551615)
        × (s.b + 3 * s.rows + s.entries + faces ≤ 18446744073709551615)
    place_ok words floats =
        let h = faces_room in
        let below = ok.room.below in
        let under = ok.room.under in
        let heldwords = ok.room.heldwords in
        let heldfloats = ok.room.heldfloats in
        (omega arith, omega arith)

    stands_for : StandsFor z G given t s.a s.b (place_of s.a s.b s.rows s.entries faces) here passed_as.0
    stands_for =
        laid.stands passed_as.0 (place_of s.a s.b s.rows s.entries faces) passed_as.1 placed refl refl passed_as.2

    module _ {p : Place} (at : p ≡ place_of s.a s.b s.rows s.entries faces) where
      -- It may be led on.
      pub lead_ok : LeadOk z (length G) o t s p
      lead_ok = subst (LeadOk z (length G) o t s) (sym at) (record {
        controls = ok.controls;
        level = record {
          room = rw (laid.words.size, laid.floats.size) ok.room;
          rows = refl;
          most = refl;
          stands = stands_for.stands;
        };
        levels = ok.levels;
        stages = ok.stages;
      })

      -- What it leads to is the definition's.
      pub laid_led : {y : List ℕ} {H : List Float} {x : Result Onward Refusal} → Advanced z y G H o given t s (paired_at o given z G t s p) x
          → Advanced w y F H o given t s (grow_at o given w F t s) x
      laid_led a =
          let c = passed_as.0 in
          let q = place_of s.a s.b s.rows s.entries faces in
          let level : Charge → Mesh → Coefficients → Outcome (List Level) =
          λ stores m c. paired_level o given stores s.more s.level s.stage (charge s.words s.floats) m c in
          let stores : charge (length z) (length G) ≡ charge (length w) (length F) = rw (laid.words.size, laid.floats.size) in
          let same : paired_at o given z G t s q ≡ level (charge (length w) (length F)) here c =
          ap (λ (x : Charge). level x (mesh_at z G given (level_in t q)) (coefficients_at G q)) stores
          ∙ ap (λ (x : Mesh). level (charge (length w) (length F)) x (coefficients_at G q)) stands_for.mesh
          ∙ ap (level (charge (length w) (length F)) here) stands_for.coefficients in
          let step = opened ∙ then_accepted (laid_of s.level here) (level (charge (length w) (length F)) here) passed_as.1 in
          advanced_after a (step ∙ sym same ∙ ap (paired_at o given z G t s) (sym at)) laid.words laid.floats

-- ---- question 9 of the next level

-- Of two tests the second fails.
pick_lack : (a b : Bool) (n : Frontier) → b ≡ false → Err store_too_small ≡ pick_onward (a && b) n
pick_lack true b n e = rw e
pick_lack false b n e = refl

module _ (words floats : ℕ) (n : Frontier) where
  -- The words do not hold the charge.
  pub words_short : words < n.words → Err store_too_small ≡ charged_of words floats n
  words_short h = let e : leb n.words words ≡ false = lt-leb n.words words h in rw e

  -- The floats do not.
  pub floats_short : floats < n.floats → Err store_too_small ≡ charged_of words floats n
  floats_short h = pick_lack (leb n.words words) (leb n.floats floats) n (lt-leb n.floats floats h)

  -- Both do.
  pub both_hold : n.words ≤ words → n.floats ≤ floats → Ok n ≡ charged_of words floats n
  both_hold h k =
      let e : leb n.words words ≡ true = le-leb n.words words h in
      let f : leb n.floats floats ≡ true = le-leb n.floats floats k in
      rw (e, f)
