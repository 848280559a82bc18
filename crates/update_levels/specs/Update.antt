-- `update` of hierarchy.rs and `update_values` of mod.rs over lists, with questions 31, 10 and 11 to 18 in their order. Definitions only.
use Rattle.std.specs.Prelude.{Bool, ◌&&◌, List, [], ◌∷◌, ℕ, ◌+◌, eqb, length, Float}
use Rattle.store.specs.Region.{idx}
use Rattle.store.specs.Vector.{each}
use Rattle.options.specs.declared.options.MultigridOptions.{MultigridOptions}
use Rattle.refusal.specs.Refusal.{not_symmetric, bad_coarse_value, other_pattern}
use Rattle.refusal.specs.Outcome.{Outcome, accepted, ask, ◌>>=◌, ◌>>◌}
use Rattle.vector.specs.Finite.{all_finite}
use Rattle.coefficients.specs.Mirrors.{mirrors_agree}
use Rattle.pattern.specs.Pattern.{entries}
use Rattle.hierarchy.specs.Level.{Shape, Level, Hierarchy, empty_hierarchy}
use Rattle.hierarchy.specs.Refresh.{numbers_of, coarse_values, with_sums}
use Rattle.update_levels.specs.Standing.{diagonals_stand}

-- ---- question 31

-- whether two lists of numbers are the same
unfoldable pub same_list : List ℕ → List ℕ → Bool
same_list u v = eqb (length u) (length v) && each (λ k. eqb (idx u k) (idx v k)) (length v)

-- question 31: offsets and columns are those of the finest level, with as many values as columns
unfoldable pub same_pattern : Shape → List ℕ → List ℕ → List Float → Bool
same_pattern s offsets columns values = same_list offsets s.pattern.offsets && same_list columns s.pattern.columns && eqb (length values) (length columns)

-- question 31 of a matrix of no rows: the one offset, 0, no columns and no values
unfoldable pub empty_pattern : List ℕ → List ℕ → List Float → Bool
empty_pattern offsets columns values = eqb (length offsets) 1 && eqb (idx offsets 0) 0 && eqb (length columns) 0 && eqb (length values) 0

-- ---- the levels

module _ (o : MultigridOptions) where
  -- the levels of the shapes from `level` on, from the values of the first: 11, 12 and 13, then 15, or 16 and 17; then 18 of the next level
  unfoldable pub renew_of : ℕ → List Shape → List Float → Outcome (List Level)
  renew_of level [] values = accepted []
  renew_of level (s ∷ []) values = do
    _ ← diagonals_stand level s
    n ← numbers_of o level s values
    accepted (record { shape = s; numbers = n } ∷ [])
  renew_of level (s ∷ t ∷ rest) values = do
    _ ← diagonals_stand level s
    n ← numbers_of o level s values
    ask (all_finite (entries t.pattern) (coarse_values o s t values)) bad_coarse_value
    deeper ← renew_of (level + 1) (t ∷ rest) (coarse_values o s t values)
    accepted (record { shape = s; numbers = n } ∷ deeper)

  -- `update_values` of a hierarchy of those shapes: its hierarchy with new values, or the first refusal
  unfoldable pub update_of : List Shape → List ℕ → List ℕ → List Float → Outcome Hierarchy
  update_of [] offsets columns values = ask (empty_pattern offsets columns values) other_pattern (accepted empty_hierarchy)
  update_of (s ∷ rest) offsets columns values = do
    ask (same_pattern s offsets columns values) other_pattern
    ask (mirrors_agree (length s.uppers) s.uppers s.lowers values) not_symmetric
    levels ← renew_of 0 (s ∷ rest) values
    accepted (with_sums o levels)
