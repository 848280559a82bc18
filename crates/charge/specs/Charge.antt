-- What question 9 asks for so many levels of a matrix, each counted as large as the finest. Definitions only.
use Rattle.std.specs.Prelude.{Bool, true, not, ℕ, zero, suc, ◌+◌, ◌*◌, ◌≤◌, min, eqb}
use Rattle.options.specs.declared.options.MultigridOptions.{MultigridOptions}
use Rattle.refusal.specs.Outcome.{Outcome, accepted, refused}
use Rattle.pattern.specs.Pattern.{Pattern, entries}
use Rattle.hierarchy.specs.Build.{Charge, fixed_charge, and_level, Lent}
use Rattle.charge.specs.declared.StoreSizes.{StoreSizes}

-- a number, or the largest of 64 bits where it does not fit
abbrev pub capped : ℕ → ℕ
capped n = min n 18446744073709551615

-- the charge of question 9 after so many levels of pattern p
unfoldable pub charge_after : MultigridOptions → Pattern → ℕ → Charge
charge_after o p zero = fixed_charge o p.rows (entries p)
charge_after o p (suc levels) = and_level p (charge_after o p levels)

-- the words of the fixed charge and of so many levels of that size (`charge-after`)
unfoldable pub words_for : ℕ → ℕ → ℕ → ℕ
words_for rows entries levels = 16 * rows + 12 * entries + 64 + levels * (5 * rows + 4 * entries + 8)

-- the floats of the fixed charge and of so many levels of that size (`charge-after`)
unfoldable pub floats_for : MultigridOptions → ℕ → ℕ → ℕ → ℕ
floats_for o rows entries levels = (fixed_charge o rows entries).floats + levels * (20 * rows + 4 * entries)

-- the sizes of stores for so many levels of that size, and a record of statistics for each level that the controls allow
unfoldable pub sizes_for : MultigridOptions → ℕ → ℕ → ℕ → StoreSizes
sizes_for o rows entries levels = record {
  words = capped (words_for rows entries levels);
  floats = capped (floats_for o rows entries levels);
  statistics = o.max_levels;
}

-- At least stores of those sizes are lent.
pub record Lends (l : Lent) (s : StoreSizes) : Type 0 where
  pub words : s.words ≤ l.stores.words
  pub floats : s.floats ≤ l.stores.floats
  pub records : s.statistics ≤ l.records

-- whether an outcome is anything but a refusal by question n
abbrev pub spares : {A : Type 0} → ℕ → Outcome A → Bool
spares n (accepted a) = true
spares n (refused q) = not (eqb q.number n)
