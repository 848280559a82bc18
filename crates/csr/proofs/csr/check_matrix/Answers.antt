-- `csr::check_matrix` asks questions 1, 2 and 3.
use mathlib.Core.Path.{sym, ◌∙◌}
use Rattle.csr.proofs.csr.Walk.{size_told, offsets_fit, fit_rows}
use Rattle.csr.proofs.csr.check_matrix.Goals as goal

pub returns-then-not-size_fits : goal.returns-then-not-size_fits
returns-then-not-size_fits c = rw (sym c.size_fits.ensures ∙ c.if-not-size_fits.true)

pub offsets_fit-requires : goal.offsets_fit-requires
offsets_fit-requires c = (size_told _ _ (sym c.size_fits.ensures ∙ c.if-not-size_fits.false)).0

pub returns-then-not-offsets_fit : goal.returns-then-not-offsets_fit
returns-then-not-offsets_fit c = rw (
  sym c.size_fits.ensures ∙ c.if-not-size_fits.false,
  sym c.offsets_fit.ensures ∙ c.if-not-offsets_fit.true,
)

pub columns_rise-requires : goal.columns_rise-requires
columns_rise-requires c =
    fit_rows _ _ _ _ (offsets_fit _ _ _ _ (sym c.offsets_fit.ensures ∙ c.if-not-offsets_fit.false))

pub returns-then-not-columns_rise : goal.returns-then-not-columns_rise
returns-then-not-columns_rise c = rw (
  sym c.size_fits.ensures ∙ c.if-not-size_fits.false,
  sym c.offsets_fit.ensures ∙ c.if-not-offsets_fit.false,
  sym c.columns_rise.ensures ∙ c.if-not-columns_rise.true,
)

pub returns : goal.returns
returns c = rw (
  sym c.size_fits.ensures ∙ c.if-not-size_fits.false,
  sym c.offsets_fit.ensures ∙ c.if-not-offsets_fit.false,
  sym c.columns_rise.ensures ∙ c.if-not-columns_rise.false,
)
