-- `load::loading::load_box` meets its contract.
use Rattle.refusal.proofs.Outcome.{passed_up}
use Rattle.load.specs.Call.{room_of}
use Rattle.load.proofs.loading.Asking.{asked_good, loading_made, loading_refused}
use Rattle.load.proofs.loading.load_box.Goals as goal

pub write-entries-requires : goal.write-entries-requires
write-entries-requires c = (asked_good c.args.seed c.args.e (room_of c.args.offsets.now c.args.columns.now c.args.values.now) c.ask.ensures c.in_ok-cells.was).1

pub returns : goal.returns
returns c = loading_made c.args.seed c.args.e c.ask.ensures c.in_ok-cells.was c.write-entries.ensures

pub returns-in_err-cells : goal.returns-in_err-cells
returns-in_err-cells c = rw (passed_up _ c.from_residual.ensures.1) (loading_refused c.args.seed c.args.e c.ask.ensures c.in_err-cells.was)
