-- The numbers of a hierarchy from its shapes and the finest values: `update` of hierarchy.rs, level by level. Definitions only.
use Rattle.std.specs.Prelude.{Bool, true, false, cond, List, [], ◌∷◌, ℕ, ◌+◌, length, Float}
use Rattle.float.specs.Float.{zero64}
use Rattle.store.specs.Vector.{filled}
use Rattle.options.specs.declared.options.MultigridOptions.{MultigridOptions}
use Rattle.options.specs.declared.options.MultigridResidualNorm.{MultigridResidualNorm}
pub use Rattle.options.specs.Options.{needs_dic}
use Rattle.refusal.specs.Refusal.{bad_coarse_value}
use Rattle.refusal.specs.Outcome.{Outcome, accepted, ask, ◌>>=◌, ◌>>◌}
use Rattle.vector.specs.Finite.{all_finite}
use Rattle.matrix.specs.Kernel.{row_sums_of}
use Rattle.coefficients.specs.Update.{Coefficients, kernel_update_of}
use Rattle.dic.specs.Dic.{dic_of}
use Rattle.cholesky.specs.Factor.{cholesky_of}
use Rattle.pattern.specs.Pattern.{entries}
use Rattle.galerkin.specs.Values.{symmetrize_of, sums_of as sumsBy}
use Rattle.hierarchy.specs.Level.{Shape, Numbers, Level, Hierarchy, kernel_of, kernel_in, csr_of}

-- whether the norm needs row sums
abbrev pub needs_sums : MultigridResidualNorm → Bool
needs_sums MultigridResidualNorm.AbsoluteL2 = false
needs_sums MultigridResidualNorm.NormalizedL1 = true

-- the numbers of a level, from its coefficients, its DIC data and its factor
abbrev pub numbers_with : Coefficients → List Float → List Float → Numbers
numbers_with c dic factor =
    record { coefficients = c.coefficients; diagonal = c.diagonal; inverse = c.inverse; dic = dic; factor = factor }

module _ (o : MultigridOptions) where
  -- the numbers of a level that is not the last, once its coefficients are there: questions 16 and 17 where the smoother needs DIC data
  abbrev pub inner_numbers : ℕ → Shape → Coefficients → Outcome Numbers
  inner_numbers level s c = do
    dic ← cond (needs_dic o.smoother) (dic_of level (kernel_of s c.diagonal c.inverse c.coefficients)) (accepted (filled s.pattern.rows zero64))
    accepted (numbers_with c dic [])

  -- those of the last level: question 15
  abbrev pub last_numbers : ℕ → Shape → List Float → Coefficients → Outcome Numbers
  last_numbers level s values c = do
    factor ← cholesky_of level (csr_of s values) (length s.links) s.links
    accepted (numbers_with c (filled s.pattern.rows zero64) factor)

  -- the numbers of a level: 12 and 13, then 15, or 16 and 17
  abbrev pub numbers_of : ℕ → Shape → List Float → Outcome Numbers
  numbers_of level s values = do
    c ← kernel_update_of level s.pattern.rows s.diagonals s.uppers values
    cond s.terminal (last_numbers level s values c) (inner_numbers level s c)

  -- the values of the next level, of shape t: the sums by position, then half plus half
  abbrev pub coarse_values : Shape → Shape → List Float → List Float
  coarse_values s t values =
      symmetrize_of (length t.uppers) t.uppers t.lowers (sumsBy (entries t.pattern) (entries s.pattern) s.positions values)

  -- levels with the row sums of the finest, if the norm needs them
  unfoldable pub with_sums : List Level → Hierarchy
  with_sums [] = record { levels = []; sums = [] }
  with_sums (l ∷ rest) =
      record { levels = l ∷ rest; sums = cond (needs_sums o.residual_norm) (row_sums_of (kernel_in l)) (filled l.shape.pattern.rows zero64) }

  -- the levels of the shapes from `level` on, from the values of the first: question 18 of the next level's values before its 12
  unfoldable pub refresh_of : ℕ → List Shape → List Float → Outcome (List Level)
  refresh_of level [] values = accepted []
  refresh_of level (s ∷ []) values = do
    n ← numbers_of level s values
    accepted (record { shape = s; numbers = n } ∷ [])
  refresh_of level (s ∷ t ∷ rest) values = do
    n ← numbers_of level s values
    ask (all_finite (entries t.pattern) (coarse_values s t values)) bad_coarse_value
    deeper ← refresh_of (level + 1) (t ∷ rest) (coarse_values s t values)
    accepted (record { shape = s; numbers = n } ∷ deeper)
