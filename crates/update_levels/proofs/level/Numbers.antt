-- The numbers of one level: 11, 12 and 13, then 15, or 16 and 17.
-- Assumes nothing.
use Rattle.refusal.specs.declared.Refusal.{Refusal}
use Rattle.std.specs.Prelude.{Result, Ok, Err}
use mathlib.Core.Path.{◌≡◌, refl, sym, ap, ◌∙◌}
use mathlib.Core.Bool.{Bool, true, false, cond}
use mathlib.Core.List.{List, []}
use Prim.Native.Nat.{ℕ, ◌+◌}
use native.Mathlib.Omega.{arith}
use lib.ListN.{length}
use lib.Ieee.{Float}
use Rattle.float.specs.Float.{zero64}
use Rattle.store.specs.Region.{idx, part, Kept}
use Rattle.store.specs.Vector.{filled}
use Rattle.store.proofs.store.Region.{length_part, wrote_at, kept_part, kept_wrote, kept_on, kept_less}
use Rattle.options.specs.declared.options.MultigridOptions.{MultigridOptions}
use Rattle.refusal.specs.Outcome.{Outcome, accepted, refused, verdict_of, is_refused, ◌>>=◌}
use Rattle.refusal.proofs.Outcome.{then_accepted, then_refused, verdict_passed, accepted_one, then_then, never}
use Rattle.matrix.specs.Kernel.{kernel_at}
use Rattle.coefficients.specs.Update.{Coefficients, kernel_update_of}
use Rattle.coefficients.specs.Contract.{update_with, Updated}
use Rattle.coefficients.proofs.values.UpdateLaws.{within_kept}
use Rattle.dic.specs.Dic.{settled, Settled}
use Rattle.cholesky.specs.Triangle.{tri}
use Rattle.cholesky.specs.Factor.{cholesky_of}
use Rattle.hierarchy.specs.Level.{Shape, Numbers, kernel_of, csr_of}
use Rattle.hierarchy.specs.Refresh.{needs_dic, inner_numbers, last_numbers}
use Rattle.hierarchy.specs.Steps.{coefficients_of, smoother_under, smoother_of}
use Rattle.hierarchy.proofs.Accepted.{then_split}
use Rattle.layout.specs.declared.Place.{Place}
use Rattle.layout.specs.Layout.{shape_at, numbers_at}
use Rattle.layout.specs.Parts.{kernel_in, entries_in}
use Rattle.layout.specs.SmootherContract.{smoother_at}
use Rattle.update_levels.specs.Standing.{diagonal_stands, diagonals_stand}
use Rattle.update_levels.specs.StandingContract.{bare_at}
use Rattle.update_levels.specs.Level.{LevelOk, LevelReady, coefficients_asked, factor_of, FactorDone, level_renewed, LevelDone}
use Rattle.update_levels.proofs.diagonals.Outcomes.{verdict_then, told_accepted, told_refused}

-- ---- outcomes

-- A settled outcome has its verdict,
settled_verdict : (v : Result Unit Refusal) (l : List Float) → verdict_of (settled v l) ≡ v
unfolding settled
settled_verdict (Ok tt) l = refl
settled_verdict (Err q) l = refl

-- and what it holds.
settled_held : (v : Result Unit Refusal) (l : List Float) {d : List Float} → settled v l ≡ accepted d → l ≡ d
unfolding settled
settled_held (Ok tt) l e = accepted_one e
settled_held (Err q) l e = never refl e

-- ---- a level

module _ {w : List ℕ} (F : List Float) {p : Place} {last : Bool} {coupled : ℕ} (ready : LevelReady w (length F) p last coupled)
    (o : MultigridOptions) (level : ℕ) (values : List Float) where
  -- what the level requires
  abbrev ok : LevelOk w (length F) p coupled
  ok = ready.level

  -- its shape
  abbrev own : Shape
  own = shape_at w p last coupled

  -- Question 11 reads the pattern and the diagonal entries alone.
  stands_same : diagonals_stand level own ≡ diagonals_stand level (bare_at w p)
  unfolding diagonals_stand diagonal_stands
  stands_same = refl

  -- the questions up to 13
  abbrev asked : Outcome Coefficients
  asked = ◌>>=◌ (diagonals_stand level own) (λ _. coefficients_of o level own values)

  -- those after them
  abbrev rest : Coefficients → Outcome Numbers
  rest c = cond last (last_numbers o level own values c) (inner_numbers o level own c)

  module _ {G : List Float} {v : Result Unit Refusal} (made : Updated w (kernel_in p) (coefficients_asked level w values p) F G v) where
    -- The questions in the stores are those of the shape.
    asked_is : coefficients_asked level w values p ≡ asked
    asked_is =
        let last : idx w (p.starts + p.rows) ≡ p.faces = ok.faces in
        ap (λ (s : Outcome Unit). ◌>>=◌ s (λ _. update_with level (kernel_in p) (entries_in p) w values)) (sym stands_same)
        ∙ ap (λ (n : ℕ). ◌>>=◌ (diagonals_stand level own) (λ _. kernel_update_of level p.rows (part p.diagonals p.rows w) (part p.uppers n w) values)) last

    -- The level is these and those after them.
    whole : level_renewed o last coupled level w values p ≡ ◌>>=◌ asked rest
    whole = sym (then_then (diagonals_stand level own) (λ _. coefficients_of o level own values) rest)

    -- Their answer,
    answered : v ≡ verdict_of asked
    answered = made.verdict ∙ ap verdict_of asked_is

    -- and up to the coefficients nothing changed.
    written : Kept p.coefficients F G
    written = within_kept made.within

    -- One of them refuses.
    pub level_no : is_refused v ≡ true → LevelDone w values F G o p last coupled level v
    level_no e =
        let no = told_refused asked answered e in
        let refusal : level_renewed o last coupled level w values p ≡ refused no.0 = whole ∙ then_refused asked rest no.1 in
        record { answer = no.2 ∙ sym (ap verdict_of refusal); numbers = λ n e. never refusal e; kept = written }

    module _ (told : is_refused v ≡ false) where
      -- the coefficients
      pub record Own : Type 0 where
        pub own : Coefficients
        pub is : ◌>>=◌ (diagonals_stand level (shape_at w p last coupled)) (λ _. coefficients_of o level (shape_at w p last coupled) values) ≡ accepted own
        pub coefficients : part p.coefficients p.faces G ≡ own.coefficients
        pub diagonal : part p.diagonal p.rows G ≡ own.diagonal
        pub inverse : part p.inverse p.rows G ≡ own.inverse
        pub stays : part p.values p.entries G ≡ part p.values p.entries F

      -- Where they pass, these are there.
      owned : Own
      owned =
          let a = told_accepted asked answered told in
          let held = made.holds a.0 (asked_is ∙ a.1) in
          let last = ok.faces in
          record {
            own = a.0;
            is = a.1;
            coefficients = (rw last at held.coefficients);
            diagonal = held.diagonal;
            inverse = held.inverse;
            stays = kept_part written p.values p.entries ok.image;
          }

      -- they are these
      abbrev c : Coefficients
      c = owned.own

      -- Then come 15, or 16 and 17.
      onward : level_renewed o last coupled level w values p ≡ rest c
      onward = whole ∙ then_accepted asked rest owned.is

      -- The last level: question 15.
      module _ (ends : last ≡ true) (here : values ≡ part p.values p.entries F) {H : List Float} {r : Result Unit Refusal} (done : FactorDone w G H p coupled level r) where
        -- the factor that question 15 asks for
        abbrev wanted : Outcome (List Float)
        wanted = cholesky_of level (csr_of own values) (length own.links) own.links

        -- the numbers with a factor
        abbrev with_factor : List Float → Numbers
        with_factor l = record {
          coefficients = c.coefficients;
          diagonal = c.diagonal;
          inverse = c.inverse;
          dic = filled p.rows zero64;
          factor = l;
        }

        -- The links of the last level are its coupled rows.
        links_are : own.links ≡ part p.links coupled w
        links_are = ap (λ (b : Bool). part p.links (cond b coupled p.rows) w) ends

        -- The factor in the stores is that of the shape.
        wanted_is : wanted ≡ factor_of w G p coupled level
        wanted_is =
            let long : length (part p.links coupled w) ≡ coupled = length_part p.links coupled w ok.links in
            let same = owned.stays in
            ap (λ (l : List ℕ). cholesky_of level (csr_of own values) (length l) l) links_are
            ∙ ap (λ (n : ℕ). cholesky_of level (csr_of own values) n (part p.links coupled w)) long
            ∙ ap (λ (u : List Float). cholesky_of level (csr_of own u) coupled (part p.links coupled w)) (here ∙ sym same)

        -- The numbers are made of it.
        lasts : level_renewed o last coupled level w values p ≡ ◌>>=◌ wanted (λ l. accepted (with_factor l))
        lasts = onward ∙ ap (λ (b : Bool). cond b (last_numbers o level own values c) (inner_numbers o level own c)) ends

        -- Its numbers are there.
        pub level_last : LevelDone w values F H o p last coupled level r
        level_last =
            let h1 = ok.image in
            let h2 = ok.sided in
            let h3 = ok.diagonal in
            let h4 = ok.inverse in
            record {
              answer = done.answer ∙ ap verdict_of (sym wanted_is) ∙ sym (verdict_then wanted with_factor) ∙ sym (ap verdict_of lasts);
              numbers = λ n e.
                  let s = then_split wanted (λ l. accepted (with_factor l)) (sym lasts ∙ e) in
                  let went : r ≡ Ok tt = done.answer ∙ verdict_passed (factor_of w G p coupled level) (sym wanted_is ∙ s.1) in
                  let factor : part p.factor (tri coupled) H ≡ s.0 = accepted_one (sym (done.factor went) ∙ sym wanted_is ∙ s.1) in
                  let v2 : part p.coefficients p.faces H ≡ c.coefficients = kept_part done.kept p.coefficients p.faces (omega arith) ∙ owned.coefficients in
                  let v3 : part p.diagonal p.rows H ≡ c.diagonal = kept_part done.kept p.diagonal p.rows (omega arith) ∙ owned.diagonal in
                  let v4 : part p.inverse p.rows H ≡ c.inverse = kept_part done.kept p.inverse p.rows (omega arith) ∙ owned.inverse in
                  let v5 : part p.dic p.rows H ≡ filled p.rows zero64 = done.dic in
                  let all : numbers_at H p coupled ≡ with_factor s.0 = cc in
                  all ∙ accepted_one s.2;
              kept = kept_on written (kept_less done.kept (omega arith));
            }

      -- Another level: 16 and 17.
      module _ (more : last ≡ false) {dic : Bool} (by : needs_dic o.smoother ≡ dic) {H : List Float} {r : Result Unit Refusal}
          (done : Settled p.dic p.rows (smoother_at dic level w G p) G H r) where
        -- the DIC data that 16 and 17 ask for
        abbrev needed : Outcome (List Float)
        needed = smoother_of o level (kernel_of own c.diagonal c.inverse c.coefficients)

        -- the numbers with DIC data
        abbrev with_dic : List Float → Numbers
        with_dic l = record {
          coefficients = c.coefficients;
          diagonal = c.diagonal;
          inverse = c.inverse;
          dic = l;
          factor = [];
        }

        -- The kernel in the stores is that of the shape.
        kernel_is : kernel_at (kernel_in p) w G ≡ kernel_of own c.diagonal c.inverse c.coefficients
        unfolding kernel_at
        kernel_is = let last = ok.faces in rw (last, owned.coefficients, owned.diagonal, owned.inverse)

        -- So its DIC data are what the store holds.
        needed_is : needed ≡ settled r done.held
        needed_is = ap (smoother_of o level) (sym kernel_is) ∙ ap (λ (b : Bool). smoother_under b level (kernel_at (kernel_in p) w G)) by ∙ done.is

        -- The numbers are made of them.
        inners : level_renewed o last coupled level w values p ≡ ◌>>=◌ needed (λ l. accepted (with_dic l))
        inners = onward ∙ ap (λ (b : Bool). cond b (last_numbers o level own values c) (inner_numbers o level own c)) more

        -- There is no factor.
        no_factor : part p.factor (tri coupled) H ≡ []
        unfolding part tri
        no_factor = let none : coupled ≡ 0 = ready.none more in rw none refl

        -- Its numbers are there.
        pub level_inner : LevelDone w values F H o p last coupled level r
        level_inner =
            let h1 = ok.image in
            let h2 = ok.sided in
            let h3 = ok.diagonal in
            let h4 = ok.inverse in
            let h5 = ok.dic in
            let h6 = ok.room in
            let size = written.size in
            let frame : Kept p.dic G H = kept_wrote done.wrote (omega arith) in
            record {
              answer = sym (ap verdict_of inners ∙ verdict_then needed with_dic ∙ ap verdict_of needed_is ∙ settled_verdict r done.held);
              numbers = λ n e.
                  let s = then_split needed (λ l. accepted (with_dic l)) (sym inners ∙ e) in
                  let held : done.held ≡ s.0 = settled_held r done.held (sym needed_is ∙ s.1) in
                  let v2 : part p.coefficients p.faces H ≡ c.coefficients = kept_part frame p.coefficients p.faces (omega arith) ∙ owned.coefficients in
                  let v3 : part p.diagonal p.rows H ≡ c.diagonal = kept_part frame p.diagonal p.rows (omega arith) ∙ owned.diagonal in
                  let v4 : part p.inverse p.rows H ≡ c.inverse = kept_part frame p.inverse p.rows (omega arith) ∙ owned.inverse in
                  let v5 : part p.dic p.rows H ≡ s.0 = wrote_at done.wrote (omega arith) ∙ held in
                  let v6 : part p.factor (tri coupled) H ≡ [] = no_factor in
                  let all : numbers_at H p coupled ≡ with_dic s.0 = cc in
                  all ∙ accepted_one s.2;
              kept = kept_on written (kept_less frame (omega arith));
            }
