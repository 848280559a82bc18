-- Pattern first, values second, for update: what an accepted update is.
-- Assumes nothing.
use mathlib.Core.Path.{◌≡◌, refl, sym, ap, ◌∙◌}
use mathlib.Core.Bool.{true}
use mathlib.Core.List.{List, [], ◌∷◌}
use Prim.Native.Nat.{ℕ, ◌+◌}
use lib.ListN.{length}
use lib.Ieee.{Float}
use Rattle.options.specs.declared.options.MultigridOptions.{MultigridOptions}
use Rattle.refusal.specs.Refusal.{not_symmetric, bad_coarse_value, other_pattern}
use Rattle.refusal.specs.Outcome.{Outcome, accepted, ask, ◌>>=◌}
use Rattle.refusal.proofs.Outcome.{ask_yes, then_accepted, accepted_one}
use Rattle.vector.specs.Finite.{all_finite}
use Rattle.coefficients.specs.Mirrors.{mirrors_agree}
use Rattle.pattern.specs.Pattern.{entries}
use Rattle.hierarchy.specs.Level.{Shape, Numbers, Level, Hierarchy}
use Rattle.hierarchy.specs.First.{shapes_in}
use Rattle.hierarchy.specs.Refresh.{refresh_of, numbers_of, coarse_values, with_sums}
use Rattle.hierarchy.proofs.Accepted.{ask_split, then_split}
use Rattle.update_levels.specs.Standing.{diagonals_stand}
use Rattle.update_levels.specs.Update.{same_pattern, empty_pattern, renew_of, update_of}

-- The levels of an accepted update of those shapes: a refresh of the same shapes makes them, and their shapes are these.
pub record Second (o : MultigridOptions) (level : ℕ) (shapes : List Shape) (values : List Float) (levels : List Level) : Type 0 where
  pub made : refresh_of o level shapes values ≡ accepted levels
  pub same : shapes_in levels ≡ shapes

module _ (o : MultigridOptions) where
  -- A level before others that a refresh makes.
  second_more : (level : ℕ) (s t : Shape) (rest : List Shape) (values : List Float) {n : Numbers} {deeper levels : List Level}
      → numbers_of o level s values ≡ accepted n → all_finite (entries t.pattern) (coarse_values o s t values) ≡ true
      → Second o (level + 1) (t ∷ rest) (coarse_values o s t values) deeper → record { shape = s; numbers = n } ∷ deeper ≡ levels
      → Second o level (s ∷ t ∷ rest) values levels
  unfolding refresh_of
  second_more level s t rest values {n} {deeper} {levels} own finite under all =
      let next = coarse_values o s t values in
      let after : Numbers → Outcome (List Level) = λ n. ◌>>=◌ (refresh_of o (level + 1) (t ∷ rest) next) (λ ls. accepted (record { shape = s; numbers = n } ∷ ls)) in
      record {
        made = then_accepted (numbers_of o level s values) (λ n. ask (all_finite (entries t.pattern) next) bad_coarse_value (after n)) own
            ∙ ask_yes (all_finite (entries t.pattern) next) bad_coarse_value (after n) finite
            ∙ then_accepted (refresh_of o (level + 1) (t ∷ rest) next) (λ ls. accepted (record { shape = s; numbers = n } ∷ ls)) under.made
            ∙ ap accepted all;
        same = ap shapes_in (sym all) ∙ ap (λ (r : List Shape). s ∷ r) under.same;
      }

  -- Levels that are renewed are what a refresh makes: question 11 changes none of them.
  pub renew_second : (level : ℕ) (shapes : List Shape) (values : List Float) {levels : List Level} → renew_of o level shapes values ≡ accepted levels
      → Second o level shapes values levels
  unfolding renew_of refresh_of
  renew_second level [] values e = record { made = e; same = ap shapes_in (sym (accepted_one e)) }
  renew_second level (s ∷ []) values e =
      let own : Numbers → Level = λ n. record { shape = s; numbers = n } in
      let a = then_split (diagonals_stand level s) _ e in
      let b = then_split (numbers_of o level s values) (λ n. accepted (own n ∷ [])) a.2 in
      record {
        made = then_accepted (numbers_of o level s values) (λ n. accepted (own n ∷ [])) b.1 ∙ b.2;
        same = ap shapes_in (sym (accepted_one b.2));
      }
  renew_second level (s ∷ t ∷ rest) values e =
      let own : Numbers → Level = λ n. record { shape = s; numbers = n } in
      let next = coarse_values o s t values in
      let deep = renew_of o (level + 1) (t ∷ rest) next in
      let a = then_split (diagonals_stand level s) _ e in
      let b = then_split (numbers_of o level s values) _ a.2 in
      let c = ask_split (all_finite (entries t.pattern) next) bad_coarse_value (◌>>=◌ deep (λ ls. accepted (own b.0 ∷ ls))) b.2 in
      let d = then_split deep (λ ls. accepted (own b.0 ∷ ls)) c.1 in
      second_more level s t rest values {n = b.0} {deeper = d.0} b.1 c.0 (renew_second (level + 1) (t ∷ rest) next d.1) (accepted_one d.2)

-- What an accepted update is: its shapes stay, and its numbers are what a refresh of these shapes makes of the new values.
pub record FirstUpdate (o : MultigridOptions) (old : List Shape) (values : List Float) (h : Hierarchy) : Type 0 where
  pub levels : List Level
  pub is : h ≡ with_sums o levels
  pub second : refresh_of o 0 old values ≡ accepted levels
  pub shapes : shapes_in levels ≡ old

-- Pattern first, values second: an update reads the hierarchy's shapes and the new values, and nothing of the old ones.
pub update_first : (o : MultigridOptions) (shapes : List Shape) (offsets columns : List ℕ) (values : List Float) {h : Hierarchy}
    → update_of o shapes offsets columns values ≡ accepted h → FirstUpdate o shapes values h
unfolding update_of with_sums refresh_of
update_first o [] offsets columns values e =
    let a = ask_split (empty_pattern offsets columns values) other_pattern _ e in
    record { levels = []; is = sym (accepted_one a.1); second = refl; shapes = refl }
update_first o (s ∷ rest) offsets columns values e =
    let a = ask_split (same_pattern s offsets columns values) other_pattern _ e in
    let b = ask_split (mirrors_agree (length s.uppers) s.uppers s.lowers values) not_symmetric _ a.1 in
    let c = then_split (renew_of o 0 (s ∷ rest) values) (λ ls. accepted (with_sums o ls)) b.1 in
    let d = renew_second o 0 (s ∷ rest) values c.1 in
    record { levels = c.0; is = sym (accepted_one c.2); second = d.made; shapes = d.same }
