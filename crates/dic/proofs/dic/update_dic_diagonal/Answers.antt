-- `dic::update_dic_diagonal` meets its contract.
use Rattle.std.proofs.Common.{◌≡◌, Ok}
use Rattle.refusal.proofs.Outcome.{passed_up}
use Rattle.dic.proofs.dic.Dic.{dic_copied, dic_same, dic_room, dic_refused, dic_done}
use Rattle.dic.proofs.dic.update_dic_diagonal.Goals as goal

pub dic_pivots-requires : goal.dic_pivots-requires
dic_pivots-requires c = search (dic_copied, dic_same)

pub dic_reciprocals-requires : goal.dic_reciprocals-requires
dic_reciprocals-requires c = dic_room c.requires c.copy.ensures c.dic_pivots.ensures

pub returns : goal.returns
returns c = let e : c.dic_pivots.result ≡ Ok tt = c.in_ok-dic_pivots.was in search (dic_done)

pub returns-in_err-dic_pivots : goal.returns-in_err-dic_pivots
returns-in_err-dic_pivots c =
    let e = c.in_err-dic_pivots.was in
    rw (passed_up _ c.from_residual.ensures.1) (search (dic_refused))
