-- `merging::pair` meets its contract.
use Rattle.refusal.proofs.Outcome.{passed_up}
use Rattle.coarsening.proofs.merging.Pairing as laws
use Rattle.coarsening.proofs.merging.pair.Goals as goal

pub diagonals-requires : goal.diagonals-requires
diagonals-requires c =
    let start = c in
    laws.diagonals_requires start.requires c.faces_in-s.ensures

pub check_rows-requires : goal.check_rows-requires
check_rows-requires c =
    let start = c in
    let ready = laws.ready start.requires c.faces_in-s.ensures
    c.diagonals.ensures in
    laws.rows_requires ready

pub coupled_count-coupled-requires : goal.coupled_count-coupled-requires
coupled_count-coupled-requires c =
    let start = c in
    let ready = laws.ready start.requires c.faces_in-s.ensures
    c.diagonals.ensures in
    laws.coupled_requires ready

pub returns-then-coupled-x : goal.returns-then-coupled-x
returns-then-coupled-x c =
    let start = c in
    let ready = laws.ready start.requires c.faces_in-s.ensures
    c.diagonals.ensures in
    laws.pair_few ready _ _ _ _ _ c.check_rows.ensures c.in_ok-check_rows.was
    c.coupled_count-coupled.ensures c.if-coupled-x.true

pub pairs-joined-requires : goal.pairs-joined-requires
pairs-joined-requires c =
    let start = c in
    let ready = laws.ready start.requires c.faces_in-s.ensures
    c.diagonals.ensures in
    laws.graph_requires ready start.args.x.given c.graph_in-g.ensures

pub returns-in_err-check_rows : goal.returns-in_err-check_rows
returns-in_err-check_rows c =
    let start = c in
    let ready = laws.ready start.requires c.faces_in-s.ensures
    c.diagonals.ensures in
    rw (passed_up _ c.from_residual.ensures.1)
    (laws.pair_refused ready _ _ _ _ _ c.check_rows.ensures c.in_err-check_rows.was)

pub returns : goal.returns
returns c =
    let start = c in
    let ready = laws.ready start.requires c.faces_in-s.ensures
    c.diagonals.ensures in
    laws.pair_paired ready _ _ _ _ _ c.check_rows.ensures
    c.in_ok-check_rows.was
    c.coupled_count-coupled.ensures
    c.graph_in-g.ensures c.pairs-joined.ensures
    c.if-coupled-x.false
