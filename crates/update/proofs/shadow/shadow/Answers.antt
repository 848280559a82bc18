-- `shadow::shadow` meets its contract: the levels are renewed.
use Rattle.update.proofs.shadow.Shadowing.{renew_ready, shadowed}
use Rattle.update.proofs.shadow.shadow.Goals as goal

pub renew-requires : goal.renew-requires
renew-requires c =
    let start = c in
    record { start_ok = renew_ready start.requires.shadow_ok; faces_ready = start.requires.faces_ready }

pub returns : goal.returns
returns c = shadowed c.needs_dic.ensures c.renew.ensures
