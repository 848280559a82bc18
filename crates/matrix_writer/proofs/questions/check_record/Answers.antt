-- `matrix_writer::questions::check_record` meets its contract: one law for each way out.
use mathlib.Core.Bool.{not}
use mathlib.Core.Path.{ap, sym, ◌∙◌}
use Rattle.matrix_writer.proofs.Record.{record_bad, sizes_bad, sizes_told, offsets_told, offsets_bad, columns_told, columns_bad, arrays_good}
use Rattle.matrix_writer.proofs.questions.check_record.Goals as goal

pub returns-then-not-is_record : goal.returns-then-not-is_record
returns-then-not-is_record c = record_bad _ _ c.is_record.ensures (ap not c.if-not-is_record.true)

pub returns-then-not-sizes_fit : goal.returns-then-not-sizes_fit
returns-then-not-sizes_fit c = sizes_bad _ _ _ _ c.size_at-rows.ensures c.size_at-entries.ensures c.is_record.ensures (ap not c.if-not-is_record.false) c.sizes_fit.ensures (ap not c.if-not-sizes_fit.true)

pub invariant_of-arrays : goal.invariant_of-arrays
invariant_of-arrays c = record { fits = sizes_told c.sizes_fit.ensures (ap not c.if-not-sizes_fit.false) }

pub returns-then-not-offsets_fit : goal.returns-then-not-offsets_fit
returns-then-not-offsets_fit c = offsets_bad _ _ _ _ c.size_at-rows.ensures c.size_at-entries.ensures c.is_record.ensures (ap not c.if-not-is_record.false) c.sizes_fit.ensures (ap not c.if-not-sizes_fit.false) c.offsets_fit.ensures (ap not c.if-not-offsets_fit.true)

pub invariant_of-source : goal.invariant_of-source
invariant_of-source c = record { rows_in = offsets_told _ _ _ (sym c.offsets_fit.ensures ∙ c.if-not-offsets_fit.false) }

pub returns-then-not-columns_rise : goal.returns-then-not-columns_rise
returns-then-not-columns_rise c = columns_bad _ _ _ _ c.size_at-rows.ensures c.size_at-entries.ensures c.is_record.ensures (ap not c.if-not-is_record.false) c.sizes_fit.ensures (ap not c.if-not-sizes_fit.false) c.offsets_fit.ensures (ap not c.if-not-offsets_fit.false) c.columns_rise.ensures (ap not c.if-not-columns_rise.true)

pub entries_verdict-requires : goal.entries_verdict-requires
entries_verdict-requires c =
    columns_told _ _ _ (sym c.offsets_fit.ensures ∙ c.if-not-offsets_fit.false) (sym c.columns_rise.ensures ∙ c.if-not-columns_rise.false)

pub returns : goal.returns
returns c = arrays_good _ _ _ _ c.size_at-rows.ensures c.size_at-entries.ensures c.is_record.ensures (ap not c.if-not-is_record.false) c.sizes_fit.ensures (ap not c.if-not-sizes_fit.false) c.offsets_fit.ensures (ap not c.if-not-offsets_fit.false) c.columns_rise.ensures (ap not c.if-not-columns_rise.false) c.entries_verdict.ensures
