use Rattle.record_format.proofs.Records.{values_ok_is, values_ok_no}
use Rattle.record_format.proofs.values.values_ok.Goals as goal

pub returns-then-entries-le320 : goal.returns-then-entries-le320
returns-then-entries-le320 c = search (values_ok_is)

pub returns-else-entries-le320 : goal.returns-else-entries-le320
returns-else-entries-le320 c = search (values_ok_no)
