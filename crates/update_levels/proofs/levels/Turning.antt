-- A turn of the loop over the levels: one level, and the values of the next.
-- Assumes nothing.
use Rattle.refusal.specs.declared.Refusal.{Refusal}
use Rattle.std.specs.Prelude.{Result, Err}
use mathlib.Core.Path.{◌≡◌, refl, sym, ap, ◌∙◌, subst}
use mathlib.Core.Bool.{Bool, true, false}
use mathlib.Core.List.{List}
use Prim.Native.Nat.{ℕ, ◌≤◌}
use native.Mathlib.Omega.{arith}
use lib.Ieee.{Float}
use Rattle.store.specs.Region.{part, Kept}
use Rattle.store.proofs.store.Region.{kept_part, kept_on, kept_less}
use Rattle.options.specs.declared.options.MultigridOptions.{MultigridOptions}
use Rattle.refusal.specs.Refusal.{bad_coarse_value}
use Rattle.refusal.specs.Outcome.{Outcome, accepted, refused, ask, verdict_of, is_refused}
use Rattle.refusal.proofs.Outcome.{ask_yes, ask_no, then_accepted, then_refused, went_on_lem, accepted_one, never}
use Rattle.vector.specs.Finite.{all_finite}
use Rattle.galerkin.specs.Contract.{galerkin_of}
use Rattle.cholesky.specs.Triangle.{tri}
use Rattle.hierarchy.specs.Level.{Numbers}
use Rattle.layout.specs.declared.Place.{Place}
use Rattle.layout.specs.Layout.{numbers_at}
use Rattle.update_levels.specs.Level.{LevelOk, level_renewed, LevelDone, CoarseOk, coarse_at, CoarseDone}
use Rattle.update_levels.specs.Steps.{TurnOk, turn_of, Turned}
use Rattle.update_levels.proofs.diagonals.Outcomes.{told_accepted, told_refused}

-- A triangle of no rows is empty.
pub no_tri : tri 0 ≡ 0
unfolding tri
no_tri = refl

module _ {w : List ℕ} {size : ℕ} {p t : Place} (ok : TurnOk w size p t) where
  -- What the next level's values require, once the level is done.
  pub turn_coarse : {now : ℕ} → now ≡ size → CoarseOk w now p t
  turn_coarse e = subst (λ (n : ℕ). CoarseOk w n p t) (sym e) ok.coarse

-- A level leaves its values.
pub values_stay : {w : List ℕ} {size : ℕ} {old F G : List Float} {o : MultigridOptions} {p : Place} {level : ℕ} {v : Result Unit Refusal} → LevelOk w size p 0
    → LevelDone w old F G o p false 0 level v → part p.values p.entries G ≡ part p.values p.entries F
values_stay {w} {size} {old} {F} {G} {o} {p} ok done = kept_part done.kept p.values p.entries ok.image

module _ {w : List ℕ} {size : ℕ} {p : Place} (t : Place) (ok : LevelOk w size p 0) (behind : p.factor ≤ t.values) where
  module _ (o : MultigridOptions) (level : ℕ) (old : List Float) {F G : List Float} {v : Result Unit Refusal} (done : LevelDone w old F G o p false 0 level v) where
    -- the questions of the level
    abbrev own : Outcome Numbers
    own = level_renewed o false 0 level w old p

    -- question 18 of the next
    abbrev finite : Bool
    finite = all_finite t.entries (coarse_at w old p t)

    -- A question of the level refuses.
    pub turned_no : is_refused v ≡ true → Turned w old F G o p t level v
    turned_no stop =
        let no = told_refused own done.answer stop in
        let said : v ≡ Err no.0 = no.2 in
        let refusal : turn_of o level w old p t ≡ refused no.0 = then_refused own (λ n. ask finite bad_coarse_value (accepted n)) no.1 in
        record {
          answer = said ∙ sym (ap verdict_of refusal);
          numbers = λ n e. never refusal e;
          values = λ e. let none : ◌≡◌ {A = ℕ} 0 1 = cc in absurd (omega arith);
          kept = done.kept;
        }

    module _ (told : is_refused v ≡ false) {now H : List Float} {fin : Bool} (summed : CoarseDone w now G H p t fin) (same : now ≡ old) where
      -- The level was accepted,
      numbers : (n : Numbers) × (own ≡ accepted n)
      numbers = told_accepted own done.answer told

      -- so question 18 comes next.
      onward : turn_of o level w old p t ≡ ask finite bad_coarse_value (accepted numbers.0)
      onward = then_accepted own (λ n. ask finite bad_coarse_value (accepted n)) numbers.1

      -- The sums are of the same values,
      coarse_same : coarse_at w now p t ≡ coarse_at w old p t
      coarse_same =
          ap (λ (v : List Float). galerkin_of t.entries p.entries (part p.positions p.entries w) v
          t.faces (part t.uppers t.faces w) (part t.lowers t.faces w)) same

      -- so the answer is that of question 18.
      finite_is : finite ≡ fin
      finite_is = ap (all_finite t.entries) (sym coarse_same) ∙ sym summed.finite

      -- Up to the coefficients nothing changed.
      low : Kept p.coefficients F H
      low =
          let h2 = ok.sided in
          let h3 = ok.diagonal in
          let h4 = ok.inverse in
          let h5 = ok.dic in
          let h6 = behind in
          kept_on done.kept (kept_less summed.kept (omega arith))

      -- A value of the next level is not finite.
      pub turned_coarse_no : fin ≡ false → Turned w old F H o p t level (Err bad_coarse_value)
      turned_coarse_no bad =
          let refusal : turn_of o level w old p t ≡ refused bad_coarse_value =
          onward ∙ ask_no finite bad_coarse_value (accepted numbers.0) (finite_is ∙ bad) in
          record {
            answer = sym (ap verdict_of refusal);
            numbers = λ n e. never refusal e;
            values = λ e. let none : ◌≡◌ {A = ℕ} 0 1 = cc in absurd (omega arith);
            kept = low;
          }

      -- The next level's values leave the level.
      numbers_stay : numbers_at H p 0 ≡ numbers_at G p 0
      numbers_stay =
          let h1 = ok.image in
          let h2 = ok.sided in
          let h3 = ok.diagonal in
          let h4 = ok.inverse in
          let h5 = ok.dic in
          let h6 = behind in
          let none = no_tri in
          let v2 : part p.coefficients p.faces H ≡ part p.coefficients p.faces G = kept_part summed.kept p.coefficients p.faces (omega arith) in
          let v3 : part p.diagonal p.rows H ≡ part p.diagonal p.rows G = kept_part summed.kept p.diagonal p.rows (omega arith) in
          let v4 : part p.inverse p.rows H ≡ part p.inverse p.rows G = kept_part summed.kept p.inverse p.rows (omega arith) in
          let v5 : part p.dic p.rows H ≡ part p.dic p.rows G = kept_part summed.kept p.dic p.rows (omega arith) in
          let v6 : part p.factor (tri 0) H ≡ part p.factor (tri 0) G = kept_part summed.kept p.factor (tri 0) (omega arith) in
          cc

      -- The level and the next level's values are there.
      pub turned_yes : fin ≡ true → Turned w old F H o p t level v
      turned_yes good =
          let all : turn_of o level w old p t ≡ accepted numbers.0 =
          onward ∙ ask_yes finite bad_coarse_value (accepted numbers.0) (finite_is ∙ good) in
          record {
            answer = went_on_lem v told ∙ sym (ap verdict_of all);
            numbers = λ n e. numbers_stay ∙ done.numbers numbers.0 numbers.1 ∙ accepted_one (sym all ∙ e);
            values = λ _. summed.values ∙ coarse_same;
            kept = low;
          }
