-- The levels, one after the other: what the calls require, a turn of the loop, and the loop.
-- Assumes nothing.
use Rattle.std.specs.Prelude.{Result, Ok}
use mathlib.Core.Path.{◌≡◌, refl, sym, ap, ◌∙◌, subst}
use mathlib.Core.Bool.{Bool, true, false, cond}
use mathlib.Core.List.{List, [], ◌∷◌}
use Prim.Native.Nat.{ℕ, zero, suc, ◌+◌, ◌-◌, ◌≤◌, ◌<◌}
use native.Mathlib.Nat.{sub-zero}
use native.Mathlib.Numerals.{sub-one}
use native.Mathlib.Omega.{arith}
use lib.ListN.{length}
use lib.Ieee.{Float}
use Rattle.store.specs.Region.{idx, part, Wrote}
use Rattle.store.proofs.store.Region.{get_d_part, length_part, wrote_at, kept_wrote, kept_on, kept_less, kept_self}
use Rattle.options.specs.declared.options.MultigridOptions.{MultigridOptions}
use Rattle.refusal.specs.declared.Refusal.{Refusal}
use Rattle.refusal.specs.Refusal.{bad_coarse_value}
use Rattle.refusal.specs.Outcome.{Outcome, accepted, refused, ask, verdict_of, is_refused, ◌>>=◌}
use Rattle.refusal.proofs.Outcome.{then_accepted, then_refused, went_on_lem, accepted_one, then_then, never, accepts_it}
use Rattle.vector.specs.Finite.{all_finite}
use Rattle.pattern.specs.Pattern.{entries}
use Rattle.cholesky.specs.Triangle.{tri}
use Rattle.hierarchy.specs.Level.{Shape, Numbers, Level}
use Rattle.hierarchy.specs.Refresh.{numbers_of, coarse_values}
use Rattle.hierarchy.proofs.Accepted.{then_split}
use Rattle.layout.specs.declared.Place.{Place}
use Rattle.layout.specs.Layout.{rows_at, last_at, coupled_at, entries_at, faces_at, locate, numbers_at, level_at, words_end, floats_end, levels_at}
use Rattle.layout.proofs.Views.{level_kept}
use Rattle.index_check.specs.Sound.{shape_in}
use Rattle.layout.specs.PlaceContract.{PlaceOk}
use Rattle.index_check.proofs.sound.Facts.{Here, targets_of, sums_of, ends_of}
use Rattle.update_levels.specs.Standing.{diagonals_stand}
use Rattle.update_levels.specs.Update.{renew_of}
use Rattle.update_levels.specs.Level.{Under, Always, LevelOk, LevelReady, level_of, level_renewed, LevelDone, CoarseOk, coarse_at, FacesReady}
use Rattle.update_levels.specs.Steps.{Chain, TurnOk, turn_of, Turned, shapes_at, renew_at, RenewOk, Renewed, RestOk, StartOk}
use Rattle.update_levels.proofs.levels.Chains.{Opened, opened}
use Rattle.update_levels.proofs.diagonals.Outcomes.{verdict_then, told_refused}
use Rattle.update_levels.proofs.levels.Turning.{no_tri}

-- ---- what the calls require

-- What the words and floats of the level at a and b tell.
level_ok : {w : List ℕ} {size a b targets sums : ℕ} (coupled : ℕ) → Here w a targets sums → (locate w a b).factor + tri coupled ≤ size
    → (locate w a 0).links + coupled ≤ length w → ((k : ℕ) → k < coupled → idx w ((locate w a 0).links + k) < rows_at w a)
    → LevelOk w size (locate w a b) coupled
level_ok {w} {size} {a} {b} coupled h room inside near =
    let heads = h.heads in
    record {
      offsets = omega arith;
      columns = omega arith;
      starts = omega arith;
      diagonals = omega arith;
      neighbors = omega arith;
      uppers = omega arith;
      links = inside;
      faces = refl;
      ends = h.offsets;
      falls = h.starts;
      own = h.diagonals;
      near = h.neighbors;
      sides = h.uppers;
      coupling = near;
      image = omega arith;
      sided = omega arith;
      diagonal = omega arith;
      inverse = omega arith;
      dic = omega arith;
      room = room;
    }

-- The floats of a level end with its factor.
pub floats_end_lem : (w : List ℕ) (a b : ℕ) → floats_end w a b ≡ (locate w a b).factor + tri (coupled_at w a)
unfolding floats_end
floats_end_lem w a b = refl

module _ {w : List ℕ} {size left level a b : ℕ} (ok : RenewOk w size left level a b) where
  -- The level is sound, and so are those after it.
  opening : Opened w size left level a b
  opening = opened ok.chain ok.some

  -- What its place requires.
  pub renew_place : PlaceOk w a b
  renew_place = opening.place

  -- Its header stands in the words.
  pub renew_header : a + 3 ≤ length w
  renew_header = let h = opening.here.heads in omega arith

  -- What the level requires, coupled rows apart.
  pub bare_ok : LevelOk w size (locate w a b) 0
  bare_ok =
      let t = no_tri in
      let ends = opening.ends in
      let e = floats_end_lem w a b in
      let heads = opening.here.heads in
      level_ok 0 opening.here (omega arith) (omega arith) (λ k h. absurd (omega arith))

  module _ {p : Place} (is : p ≡ locate w a b) where
    module _ (one : left ≡ 1) where
      -- None follows,
      none_left : left - 1 ≡ 0
      none_left = omega arith

      -- so it is the last,
      is_last : last_at w a ≡ true
      is_last = opening.last ∙ ap ends_of none_left

      -- and its header tells its coupled rows.
      coupled_is : {coupled : ℕ} → coupled ≡ idx w (a + 2) → coupled_at w a ≡ coupled
      coupled_is e = ap (λ (l : Bool). cond l (idx w (a + 2)) 0) is_last ∙ sym e

      -- What the last level requires.
      pub last_ready : {coupled : ℕ} → coupled ≡ idx w (a + 2) → LevelReady w size p true coupled
      last_ready {coupled} e =
          let o = opening in
          let c = coupled_is e in
          let l = is_last in
          let heads = o.here.heads in
          let linked : (locate w a 0).links + coupled ≤ length w =
          subst (λ (n : ℕ). (locate w a 0).links + n ≤ length w) (ap (λ (b : Bool). cond b (coupled_at w a) (rows_at w a)) l ∙ c) o.here.linked in
          let rows : targets_of (left - 1) w a ≡ rows_at w a = ap (λ (n : ℕ). targets_of n w a) none_left in
          let room : (locate w a b).factor + tri coupled ≤ size =
          subst (λ (n : ℕ). (locate w a b).factor + tri n ≤ size) c (subst (λ (n : ℕ). n ≤ size) (floats_end_lem w a b) o.ends) in
          let near : (k : ℕ) → k < coupled → idx w ((locate w a 0).links + k) < rows_at w a =
          subst (λ (n : ℕ). (k : ℕ) → k < coupled → idx w ((locate w a 0).links + k) < n) rows
          (subst (λ (n : ℕ). (k : ℕ) → k < n → idx w ((locate w a 0).links + k) < targets_of (left - 1) w a)
          (ap (λ (b : Bool). cond b (coupled_at w a) (rows_at w a)) l ∙ c) o.here.links) in
          rw is (record {
            level = level_ok coupled o.here room linked near;
            none = λ f. absurd (let none : ◌≡◌ {A = ℕ} 0 1 = cc in omega arith);
          })

    module _ (more : 2 ≤ left) where
      -- One follows,
      some_left : 1 ≤ left - 1
      some_left = omega arith

      -- so it does not end the levels,
      ends_more : (n : ℕ) → 1 ≤ n → ends_of n ≡ false
      ends_more zero h = absurd (omega arith)
      ends_more (suc n) h = refl

      -- its positions are entries of the next,
      sums_more : (n : ℕ) → 1 ≤ n → sums_of n w a ≡ entries_at w (words_end w a)
      sums_more zero h = absurd (omega arith)
      sums_more (suc n) h = refl

      -- its header says so,
      not_last : last_at w a ≡ false
      not_last = opening.last ∙ ends_more (left - 1) some_left

      -- and it has no coupled rows.
      none_coupled : coupled_at w a ≡ 0
      none_coupled = ap (λ (l : Bool). cond l (idx w (a + 2)) 0) not_last

      -- Its floats end where the factor of a last level would start.
      pub ends_at : floats_end w a b ≡ (locate w a b).factor
      ends_at = floats_end_lem w a b ∙ ap (λ (n : ℕ). (locate w a b).factor + tri n) none_coupled ∙ ap (λ (n : ℕ). (locate w a b).factor + n) no_tri ∙ omega arith

      -- Where its words end.
      pub inner_words : words_end w a ≤ length w
      inner_words = opening.here.words

      -- The levels from the next one on.
      rest_is : Chain w size (left - 1) (level + 1) (words_end w a) (locate w a b).factor
      rest_is = subst (λ (n : ℕ). Chain w size (left - 1) (level + 1) (words_end w a) n) ends_at opening.rest

      -- The next level is sound.
      further : Opened w size (left - 1) (level + 1) (words_end w a) (locate w a b).factor
      further = opened rest_is some_left

      module _ {next : ℕ} (at : next ≡ words_end w a) where
        -- What the next place requires.
        pub next_place : PlaceOk w next p.factor
        next_place = rw (at, is) further.place

        -- What the levels after it require.
        pub next_ready : RenewOk w size (left - 1) (level + 1) next p.factor
        next_ready = rw (at, is) (record { chain = rest_is; some = some_left })

        -- What its values require.
        coarse_ready : {t : Place} → t ≡ locate w next p.factor → CoarseOk w size p t
        coarse_ready {t} there =
            let o = opening in
            let n = further in
            let x = words_end w a in
            let y = (locate w a b).factor in
            let heads = o.here.heads in
            let deep = n.here.heads in
            let under = n.ends in
            let up = floats_end_lem w x y in
            let l = not_last in
            let placed : (locate w a 0).positions + entries_at w a ≤ length w + 0 =
            subst (λ (l : Bool). (locate w a 0).positions + cond l 0 (entries_at w a) ≤ length w + cond l (rows_at w a) 0) l o.here.placed in
            let near : (k : ℕ) → k < entries_at w a → idx w ((locate w a 0).positions + k) < entries_at w x =
            subst (λ (n : ℕ). (k : ℕ) → k < entries_at w a → idx w ((locate w a 0).positions + k) < n) (sums_more (left - 1) some_left)
            (subst (λ (l : Bool). (k : ℕ) → k < cond l 0 (entries_at w a) → idx w ((locate w a 0).positions + k) < sums_of (left - 1) w a) l o.here.positions) in
            rw (there, at, is) (record {
              sums = record {
                table = omega arith;
                below = omega arith;
                room = omega arith;
                near = λ k h. rw (get_d_part (locate w a 0).positions (entries_at w a) w k 0 h) (near k h);
              };
              faces = record {
                uppers = omega arith;
                lowers = omega arith;
                room = omega arith;
                up = λ k h. rw (get_d_part (locate w x 0).uppers (faces_at w x) w k 0 h) (n.here.uppers k h);
                low = λ k h. rw (get_d_part (locate w x 0).lowers (faces_at w x) w k 0 h) (n.here.lowers k h);
              };
            })

        -- What a turn requires.
        pub turn_ready : {t : Place} → t ≡ locate w next p.factor → TurnOk w size p t
        turn_ready {t} there = record {
          level = subst (λ (q : Place). LevelOk w size q 0) (sym is) bare_ok;
          coarse = coarse_ready there;
          after = rw there (omega arith);
        }

-- ---- the definition, opened

-- The shapes of one level,
shapes_one : (left : ℕ) (w : List ℕ) (a : ℕ) → left ≡ 1 → shapes_at left w a ≡ shape_in w a ∷ []
unfolding shapes_at
shapes_one left w a e = rw e

-- and of at least one.
pub shapes_some : (left : ℕ) (w : List ℕ) (a : ℕ) → 1 ≤ left → shapes_at left w a ≡ shape_in w a ∷ shapes_at (left - 1) w (words_end w a)
unfolding shapes_at
shapes_some zero w a h = absurd (omega arith)
shapes_some (suc k) w a h = ap (λ (n : ℕ). shape_in w a ∷ shapes_at n w (words_end w a)) (sym (sub-one (suc k)))

-- The levels of at least one.
pub levels_some : (left : ℕ) (w : List ℕ) (G : List Float) (a b : ℕ) → 1 ≤ left
    → levels_at left w G a b ≡ level_at w G a b ∷ levels_at (left - 1) w G (words_end w a) (floats_end w a b)
unfolding levels_at
levels_some zero w G a b h = absurd (omega arith)
levels_some (suc k) w G a b h =
    ap (λ (n : ℕ). level_at w G a b ∷ levels_at n w G (words_end w a) (floats_end w a b)) (sym (sub-one (suc k)))

-- No levels are an empty list.
levels_none : (left : ℕ) (w : List ℕ) (G : List Float) (a b : ℕ) → left ≡ 0 → levels_at left w G a b ≡ []
unfolding levels_at
levels_none left w G a b e = rw e

module _ (o : MultigridOptions) (level : ℕ) (s : Shape) (values : List Float) where
  -- a level with its numbers
  abbrev leveled : Numbers → Level
  leveled n = record { shape = s; numbers = n }

  -- The last level,
  renew_one : renew_of o level (s ∷ []) values ≡ ◌>>=◌ (level_of o level s values) (λ n. accepted (leveled n ∷ []))
  unfolding renew_of
  renew_one = sym (then_then (diagonals_stand level s) (λ _. numbers_of o level s values) (λ n. accepted (leveled n ∷ [])))

  -- the levels after another,
  abbrev onward : Shape → List Shape → Numbers → Outcome (List Level)
  onward t rest n =
      ask (all_finite (entries t.pattern) (coarse_values o s t values)) bad_coarse_value
      (◌>>=◌ (renew_of o (level + 1) (t ∷ rest) (coarse_values o s t values)) (λ ls. accepted (leveled n ∷ ls)))

  -- and that one.
  renew_more : (t : Shape) (rest : List Shape) → renew_of o level (s ∷ t ∷ rest) values ≡ ◌>>=◌ (level_of o level s values) (onward t rest)
  unfolding renew_of
  renew_more t rest = sym (then_then (diagonals_stand level s) (λ _. numbers_of o level s values) (onward t rest))

-- The level in the stores by its numbers.
level_is : (w : List ℕ) (G : List Float) (a b : ℕ) {n : Numbers} → numbers_at G (locate w a b) (coupled_at w a) ≡ n
    → level_at w G a b ≡ record { shape = shape_in w a; numbers = n }
unfolding level_at
level_is w G a b e = ap (λ (m : Numbers). record { shape = shape_in w a; numbers = m }) e

-- A question between two computations may be asked before the first of them is handed on.
ask_then : {A B : Type 0} (x : Outcome A) (holds : Bool) (q : Refusal) (f : A → Outcome B)
    → ◌>>=◌ x (λ a. ask holds q (f a)) ≡ ◌>>=◌ (◌>>=◌ x (λ a. ask holds q (accepted a))) f
ask_then (accepted a) true q f = refl
ask_then (accepted a) false q f = refl
ask_then (refused p) holds q f = refl

-- ---- a turn of the loop

-- The levels from the values `old` of the first.
module _ {w : List ℕ} (old F : List Float) {left level a b : ℕ} (ok : RenewOk w (length F) left level a b) (o : MultigridOptions)
    {p : Place} (is : p ≡ locate w a b) where
  -- The last level.
  pub renewed_last : left ≡ 1 → {coupled : ℕ} → coupled ≡ idx w (a + 2) → {G : List Float} {r : Result Unit Refusal}
      → LevelDone w old F G o p true coupled level r → Renewed o left level w old F G a b r
  renewed_last one {coupled} e {G} {r} done =
      let l = is_last ok is one in
      let c = coupled_is ok is one e in
      let made : LevelDone w old F G o (locate w a b) (last_at w a) (coupled_at w a) level r =
      subst (λ (z : Bool). LevelDone w old F G o (locate w a b) z (coupled_at w a) level r) (sym l)
      (subst (λ (n : ℕ). LevelDone w old F G o (locate w a b) true n level r) (sym c)
      (subst (λ (q : Place). LevelDone w old F G o q true coupled level r) is done)) in
      let whole : renew_at o left level w old a ≡ ◌>>=◌ (level_of o level (shape_in w a) old) (λ n. accepted (leveled o level (shape_in w a) old n ∷ [])) =
      ap (λ (s : List Shape). renew_of o level s old) (shapes_one left w a one) ∙ renew_one o level (shape_in w a) old in
      record {
        answer = made.answer ∙ sym (verdict_then (level_of o level (shape_in w a) old) (λ n. leveled o level (shape_in w a) old n ∷ [])) ∙ sym (ap verdict_of whole);
        levels = λ ls t.
            let s = then_split (level_of o level (shape_in w a) old) (λ n. accepted (leveled o level (shape_in w a) old n ∷ [])) (sym whole ∙ t) in
            levels_some left w G a b ok.some
            ∙ ap (λ (x : Level). x ∷ levels_at (left - 1) w G (words_end w a) (floats_end w a b)) (level_is w G a b (made.numbers s.0 s.1))
            ∙ ap (λ (x : List Level). leveled o level (shape_in w a) old s.0 ∷ x) (levels_none (left - 1) w G (words_end w a) (floats_end w a b) (none_left ok is one))
            ∙ accepted_one s.2;
        kept = kept_less made.kept (omega arith);
      }

  module _ (more : 2 ≤ left) {next : ℕ} (at : next ≡ words_end w a) {t : Place} (there : t ≡ locate w next p.factor)
      {G : List Float} {v : Result Unit Refusal} (done : Turned w old F G o p t level v) where
    -- where the next level starts
    abbrev x : ℕ
    x = words_end w a

    -- and its floats
    abbrev y : ℕ
    y = (locate w a b).factor

    -- the shapes of this level,
    abbrev own : Shape
    own = shape_in w a

    -- of the next
    abbrev under : Shape
    under = shape_in w x

    -- and of those after it
    abbrev after : List Shape
    after = shapes_at (left - 1 - 1) w (words_end w x)

    -- the values of the next level
    abbrev coarse : List Float
    coarse = coarse_values o own under old

    -- the turn of the definition
    abbrev asked : Outcome Numbers
    asked = ◌>>=◌ (level_of o level own old) (λ n. ask (all_finite (entries under.pattern) coarse) bad_coarse_value (accepted n))

    -- the level with its numbers before the levels after it
    abbrev before : Numbers → List Level → List Level
    before n ls = leveled o level own old n ∷ ls

    -- the levels after it
    abbrev deeper : Outcome (List Level)
    deeper = renew_of o (level + 1) (under ∷ after) coarse

    -- The next level stands there.
    stands : t ≡ locate w x y
    stands = there ∙ ap (λ (n : ℕ). locate w n p.factor) at ∙ ap (λ (q : Place). locate w x q.factor) is

    -- The turn is done at its places.
    made : Turned w old F G o (locate w a b) (locate w x y) level v
    made =
        subst (λ (q : Place). Turned w old F G o (locate w a b) q level v)
        stands
        (subst (λ (q : Place). Turned w old F G o q t level v) is done)

    -- The shapes from the next level on.
    next_shapes : shapes_at (left - 1) w x ≡ under ∷ after
    next_shapes = shapes_some (left - 1) w x (some_left ok is more)

    -- The definition goes by this level and the next.
    whole : renew_at o left level w old a ≡ ◌>>=◌ asked (λ n. ◌>>=◌ deeper (λ ls. accepted (before n ls)))
    whole =
        ap (λ (s : List Shape). renew_of o level s old) (shapes_some left w a ok.some ∙ ap (λ (s : List Shape). own ∷ s) next_shapes)
        ∙ renew_more o level own old under after
        ∙ ask_then (level_of o level own old) (all_finite (entries under.pattern) coarse) bad_coarse_value (λ n. ◌>>=◌ deeper (λ ls. accepted (before n ls)))

    -- There are as many values as the next level has entries.
    entries_under : entries under.pattern ≡ entries_at w x
    entries_under =
        let heads = (further ok is more).here.heads in
        length_part (locate w x 0).columns (entries_at w x) w (omega arith)

    -- The values of the next level are those of the definition,
    coarse_is : coarse_at w old (locate w a b) (locate w x y) ≡ coarse
    coarse_is =
        let heads = (opening ok).here.heads in
        let deep = (further ok is more).here.heads in
        let l = not_last ok is more in
        let e0 = entries_under in
        let e1 : entries own.pattern ≡ entries_at w a = length_part (locate w a 0).columns (entries_at w a) w (omega arith) in
        let e2 : length (part (locate w x 0).uppers (faces_at w x) w) ≡ faces_at w x = length_part (locate w x 0).uppers (faces_at w x) w (omega arith) in
        let e4 : own.positions ≡ part (locate w a 0).positions (entries_at w a) w =
        ap (λ (z : Bool). part (locate w a 0).positions (cond z 0 (entries_at w a)) w) l in
        sym (rw (e0, e1, e2, e4))

    -- and so is the turn.
    turn_is : turn_of o level w old (locate w a b) (locate w x y) ≡ asked
    turn_is =
        let fin : all_finite (entries_at w x) (coarse_at w old (locate w a b) (locate w x y)) ≡ all_finite (entries under.pattern) coarse =
        ap (all_finite (entries_at w x)) coarse_is ∙ ap (λ (n : ℕ). all_finite n coarse) (sym entries_under) in
        let same : level_renewed o false 0 level w old (locate w a b) ≡ level_of o level own old =
        ap (λ (z : Bool). level_renewed o z 0 level w old (locate w a b)) (sym (not_last ok is more))
        ∙ ap (λ (n : ℕ). level_renewed o (last_at w a) n level w old (locate w a b)) (sym (none_coupled ok is more)) in
        ap (λ (z : Bool). ◌>>=◌ (level_renewed o false 0 level w old (locate w a b)) (λ n. ask z bad_coarse_value (accepted n))) fin
        ∙ ap (λ (u : Outcome Numbers). ◌>>=◌ u (λ n. ask (all_finite (entries under.pattern) coarse) bad_coarse_value (accepted n))) same

    -- Its answer is that of the definition,
    answered : v ≡ verdict_of asked
    answered = made.answer ∙ ap verdict_of turn_is

    -- A question of the turn refuses.
    pub renewed_no : is_refused v ≡ true → Renewed o left level w old F G a b v
    renewed_no stop =
        let no = told_refused asked answered stop in
        let refusal : renew_at o left level w old a ≡ refused no.0 = whole ∙ then_refused asked (λ n. ◌>>=◌ deeper (λ ls. accepted (before n ls))) no.1 in
        record { answer = no.2 ∙ sym (ap verdict_of refusal); levels = λ ls e. never refusal e; kept = kept_less made.kept (omega arith) }

    module _ (told : v ≡ Ok tt) {E : List Float} {r : Result Unit Refusal} (deep : Renewed o (left - 1) (level + 1) w (part t.values t.entries G) G E next p.factor r) where
      -- The turn was accepted.
      numbers : (n : Numbers) × (asked ≡ accepted n)
      numbers = accepts_it asked answered told

      -- The levels from the next one on stand from its place on,
      on : Renewed o (left - 1) (level + 1) w (part y (entries_at w x) G) G E x y r
      on =
          subst (λ (n : ℕ). Renewed o (left - 1) (level + 1) w (part y (entries_at w x) G) G E x n r) (ap (λ (q : Place). q.factor) is)
          (subst (λ (n : ℕ). Renewed o (left - 1) (level + 1) w (part y (entries_at w x) G) G E n p.factor r) at
          (subst (λ (q : Place). Renewed o (left - 1) (level + 1) w (part q.values q.entries G) G E next p.factor r) stands deep))

      -- and are those of the definition.
      deep_is : renew_at o (left - 1) (level + 1) w (part y (entries_at w x) G) x ≡ deeper
      deep_is =
          ap (λ (s : List Shape). renew_of o (level + 1) s (part y (entries_at w x) G)) next_shapes
          ∙ ap (renew_of o (level + 1) (under ∷ after)) (made.values told ∙ coarse_is)

      -- This level comes before them.
      all : renew_at o left level w old a ≡ ◌>>=◌ (renew_at o (left - 1) (level + 1) w (part y (entries_at w x) G) x) (λ ls. accepted (before numbers.0 ls))
      all =
          whole ∙ then_accepted asked (λ n. ◌>>=◌ deeper (λ ls. accepted (before n ls))) numbers.1
          ∙ ap (λ (u : Outcome (List Level)). ◌>>=◌ u (λ ls. accepted (before numbers.0 ls))) (sym deep_is)

      -- The level is there,
      level_there : level_at w G a b ≡ leveled o level own old numbers.0
      level_there =
          level_is w G a b
          (ap (numbers_at G (locate w a b)) (none_coupled ok is more) ∙ made.numbers numbers.0 (turn_is ∙ numbers.1))

      -- and those after it leave it.
      level_stays : level_at w E a b ≡ level_at w G a b
      level_stays =
          let ends = ends_at ok is more in
          let fits = (opening ok).ends in
          let size = made.kept.size in
          (level_kept a b (kept_self {p = length w}) on.kept (opening ok).here.words (omega arith) (omega arith) (omega arith)).0

      -- All levels are there.
      pub renewed_on : Renewed o left level w old F E a b r
      renewed_on = record {
        answer = on.answer ∙ sym (verdict_then (renew_at o (left - 1) (level + 1) w (part y (entries_at w x) G) x) (before numbers.0)) ∙ sym (ap verdict_of all);
        levels = λ ls e.
            let s = then_split (renew_at o (left - 1) (level + 1) w (part y (entries_at w x) G) x) (λ ls. accepted (before numbers.0 ls)) (sym all ∙ e) in
            levels_some left w E a b ok.some
            ∙ ap (λ (l : Level). l ∷ levels_at (left - 1) w E x (floats_end w a b)) (level_stays ∙ level_there)
            ∙ ap (λ (n : ℕ). leveled o level own old numbers.0 ∷ levels_at (left - 1) w E x n) (ends_at ok is more)
            ∙ ap (before numbers.0) (on.levels s.0 s.1)
            ∙ accepted_one s.2;
        kept = kept_on (kept_less made.kept (omega arith)) (kept_less on.kept (omega arith));
      }

-- ---- the loop

-- The loop over the levels stands at `level`, whose words start at a and which stands at p: the levels from there on make all those from
-- `first` on, the first of which stands at p₀, whatever they are.
pub record Underway (dic : Bool) (levels first a₀ : ℕ) (p₀ : Place) (level a : ℕ) (p : Place) (w : List ℕ) (F G : List Float) : Type 0 where
  pub b : ℕ
  pub is : p ≡ locate w a b
  pub ok : RenewOk w (length G) (levels - level) level a b
  pub size : length G ≡ length F
  pub whole : Under dic (λ o. (E : List Float) (r : Result Unit Refusal) → Renewed o (levels - level) level w (part p.values p.entries G) G E a b r
      → Renewed o (levels - first) first w (part p₀.values p₀.entries F) F E a₀ p₀.values r)

-- Before the first level all are left.
pub underway_start : {dic : Bool} {levels first a : ℕ} {w : List ℕ} (F : List Float) {p : Place} → RestOk w (length F) levels first a p
    → Underway dic levels first a p first a p w F F
underway_start F {p} ok = record { b = p.values; is = ok.is; ok = ok.ok; size = refl; whole = λ o _ E r d. d }

module _ {dic : Bool} {levels first a₀ level a : ℕ} {p₀ p : Place} {w : List ℕ} {F G : List Float}
    (u : Underway dic levels first a₀ p₀ level a p w F G) where
  -- the values of the level
  abbrev mine : List Float
  mine = part p.values p.entries G

  -- The level is one of them.
  pub underway_few : level + 1 ≤ 128
  underway_few = let f = u.ok.chain.few in let s = u.ok.some in omega arith

  -- Its header stands in the words.
  pub underway_header : a + 3 ≤ length w
  underway_header = renew_header u.ok

  module _ (h : level + 1 < levels) where
    -- At least two are left.
    two_left : 2 ≤ levels - level
    two_left = omega arith

    -- Where its words end.
    pub underway_words : words_end w a ≤ length w
    underway_words = inner_words u.ok u.is two_left

    module _ {next : ℕ} (at : next ≡ words_end w a) where
      -- What the place of the next level requires.
      pub underway_next : PlaceOk w next p.factor
      underway_next = next_place u.ok u.is two_left at

      module _ {t : Place} (there : t ≡ locate w next p.factor) where
        -- What the turn requires.
        pub underway_turn : TurnOk w (length G) p t
        underway_turn = turn_ready u.ok u.is two_left at there

        module _ {H : List Float} {v : Result Unit Refusal} (done : Under dic (λ o. Turned w (part p.values p.entries G) G H o p t level v)) where
          -- A question of the turn refuses.
          pub underway_no : is_refused v ≡ true
              → Under dic (λ o. Renewed o (levels - first) first w (part p₀.values p₀.entries F) F H a₀ p₀.values v)
          underway_no stop o by = u.whole o by H v (renewed_no mine G u.ok o u.is two_left at there (done o by) stop)

          -- One level fewer is left.
          pub underway_on : is_refused v ≡ false → length H ≡ length G → Underway dic levels first a₀ p₀ (level + 1) next t w F H
          underway_on told size =
              let one : levels - level - 1 ≡ levels - (level + 1) = omega arith in
              record {
                b = p.factor;
                is = there;
                ok = subst (λ (n : ℕ). RenewOk w (length H) n (level + 1) next p.factor) one
                    (subst (λ (n : ℕ). RenewOk w n (levels - level - 1) (level + 1) next p.factor) (sym size) (next_ready u.ok u.is two_left at));
                size = size ∙ u.size;
                whole = λ o by E r deep. u.whole o by E r (renewed_on mine G u.ok o u.is two_left at there (done o by) (went_on_lem v told)
                    (subst (λ (n : ℕ). Renewed o n (level + 1) w (part t.values t.entries H) H E next p.factor r) (sym one) deep));
              }

  module _ (h : levels ≤ level + 1) {coupled : ℕ} (told : coupled ≡ idx w (a + 2)) where
    -- One is left.
    one_left : levels - level ≡ 1
    one_left = let s = u.ok.some in omega arith

    -- What it requires.
    pub underway_last : LevelOk w (length G) p coupled
    underway_last = (last_ready u.ok u.is one_left told).level

    -- With it all are there.
    pub underway_end : {E : List Float} {r : Result Unit Refusal} → Always (λ o. LevelDone w (part p.values p.entries G) G E o p true coupled level r)
        → Under dic (λ o. Renewed o (levels - first) first w (part p₀.values p₀.entries F) F E a₀ p₀.values r)
    underway_end {E} {r} done o by = u.whole o by E r (renewed_last mine G u.ok o u.is one_left told (done o))

-- ---- the first level, from values that are given

module _ {levels image : ℕ} {w : List ℕ} (given F : List Float) (s : StartOk w (length F) (length given) levels image) where
  -- What its place requires.
  pub start_place : PlaceOk w 0 image
  start_place = renew_place s.ok

  module _ {p : Place} (is : p ≡ locate w 0 image) where
    -- There is room for its values.
    pub load_room : image + length given ≤ length F
    load_room =
        let o = (opened s.ok.chain s.ok.some).ends in
        let e = floats_end_lem w 0 image in
        let many = s.many in
        omega arith

    module _ {E : List Float} (loaded : Wrote image (length given) given F E) where
      -- Once they are loaded, what all levels require,
      pub loaded_rest : RestOk w (length E) levels 0 0 p
      loaded_rest = rw (is, loaded.size) (record { is = refl; ok = rw (sub-zero levels) s.ok })

      -- and what they make.
      pub loaded_done : {dic : Bool} {G : List Float} {r : Result Unit Refusal}
          → Under dic (λ o. Renewed o (levels - 0) 0 w (part p.values p.entries E) E G 0 p.values r)
          → Under dic (λ o. Renewed o levels 0 w given F G 0 image r)
      loaded_done {dic} {G} {r} done o by =
          let here : part image (entries_at w 0) E ≡ given = ap (λ (n : ℕ). part image n E) (sym s.many) ∙ wrote_at loaded load_room in
          let d : Renewed o levels 0 w given E G 0 image r = rw (is, sub-zero levels, here) at (done o by) in
          record { answer = d.answer; levels = d.levels; kept = kept_on (kept_wrote loaded (omega arith)) d.kept }

    -- There are as many values as its entries.
    pub first_many : p.entries ≤ length given
    first_many = rw is (omega (arith, s.many))

    -- The faces' values stand at its place.
    pub faces_ready : FacesReady w given F (locate w 0 image) → FacesReady w given F p
    faces_ready taken = rw is taken

    module _ (more : 2 ≤ levels) where
      -- Where its words end.
      pub first_words : words_end w 0 ≤ length w
      first_words = inner_words s.ok is more

      module _ {next : ℕ} (at : next ≡ words_end w 0) where
        -- What the place of the next level requires.
        pub first_next : PlaceOk w next p.factor
        first_next = next_place s.ok is more at

        module _ {t : Place} (there : t ≡ locate w next p.factor) where
          -- What the turn requires.
          pub first_turn : TurnOk w (length F) p t
          first_turn = turn_ready s.ok is more at there

          module _ {dic : Bool} {G : List Float} {v : Result Unit Refusal} (done : Under dic (λ o. Turned w given F G o p t 0 v)) where
            -- A question of the turn refuses.
            pub first_no : is_refused v ≡ true → Under dic (λ o. Renewed o levels 0 w given F G 0 image v)
            first_no stop o by = renewed_no given F s.ok o is more at there (done o by) stop

            -- What the levels after it require,
            pub first_rest : length G ≡ length F → RestOk w (length G) levels 1 next t
            first_rest size =
                rw (there, size) (record { is = refl; ok = next_ready s.ok is more at })

            -- and with them all are there.
            pub first_on : is_refused v ≡ false → {E : List Float} {r : Result Unit Refusal}
                → Under dic (λ o. Renewed o (levels - 1) 1 w (part t.values t.entries G) G E next t.values r)
                → Under dic (λ o. Renewed o levels 0 w given F E 0 image r)
            first_on told {E} {r} deep o by =
                renewed_on given F s.ok o is more at there (done o by) (went_on_lem v told)
                (subst (λ (n : ℕ). Renewed o (levels - 1) 1 w (part t.values t.entries G) G E next n r) (ap (λ (q : Place). q.values) there) (deep o by))
