-- `level::coefficients` meets its contract: one law for each way out.
use mathlib.Core.Path.{ap}
use Rattle.std.specs.Prelude.{option_copied, unwrap_or}
use Rattle.update_levels.proofs.level.Levels.{update_ready, given_ready, coefficients_no, coefficients_given, coefficients_made}
use Rattle.store.specs.Region.{part}
use Rattle.update_levels.proofs.level.coefficients.Goals as goal

pub all_stand-requires : goal.all_stand-requires
all_stand-requires c = c.requires.coefficients_ok.rows

pub rows_stand-requires : goal.rows_stand-requires
rows_stand-requires c = c.requires.coefficients_ok.rows

pub returns-then-not-all_stand : goal.returns-then-not-all_stand
returns-then-not-all_stand c =
    let start = c in
    coefficients_no start.args.w.now (unwrap_or (option_copied start.args.given) (part start.args.p.values start.args.p.entries start.args.f.now)) start.args.f.now start.args.p start.args.level c.all_stand.ensures
    c.if-not-all_stand.true c.rows_stand.ensures

pub update_given-requires : goal.update_given-requires
update_given-requires c =
    let is = ap option_copied c.in-Some.is in
    let ready = given_ready c.requires.coefficients_ok c.in-Some.values.now c.args.f.now (c.requires.many c.in-Some.values.now is) (c.requires.faces_ready c.in-Some.values.now is)
    c.kernel_in-s.ensures c.entries_in-e.ensures in
    record { update_ok = ready.0; entries_in_bounds = ready.1.0; faces_taken = ready.1.1 }

pub returns-in-Some : goal.returns-in-Some
returns-in-Some c =
    let start = c in
    rw c.in-Some.is
    (coefficients_given start.args.w.now c.in-Some.values.now start.args.f.now start.args.p start.args.level c.all_stand.ensures
    c.if-not-all_stand.false c.kernel_in-s.ensures c.entries_in-e.ensures c.update_given.ensures)

pub update-requires : goal.update-requires
update-requires c = update_ready c.requires.coefficients_ok c.kernel_in-s.ensures c.entries_in-e.ensures

pub returns-in-None : goal.returns-in-None
returns-in-None c =
    let start = c in
    rw c.in-None.is
    (coefficients_made start.args.w.now start.args.f.now start.args.p start.args.level c.all_stand.ensures
    c.if-not-all_stand.false c.kernel_in-s.ensures c.entries_in-e.ensures c.update.ensures)
