-- `smoother::sweep` meets its contract.
use Rattle.std.proofs.Common.{ap, ◌∙◌}
use lib.ListN.{length}
use Rattle.smoother.proofs.Smoothing.{smooth_resize, swept_dic, swept_plain}
use Rattle.smoother.proofs.sweep.Goals as goal
use Rattle.smoother.proofs.sweep.Goals.{then-needs_dic, else-needs_dic}

pub gauss_seidels-requires : goal.gauss_seidels-requires
gauss_seidels-requires c =
    elim c.if-needs_dic.branch [
      | then-needs_dic w ↦ smooth_resize c.requires (ap length w.f-is ∙ w.dic_sweeps.ensures.size)
      | else-needs_dic w ↦ smooth_resize c.requires (ap length w.f-is)
    ]

pub returns : goal.returns
returns c =
    elim c.if-needs_dic.branch [
      | then-needs_dic w ↦ swept_dic _ _ _ _ c.requires c.is_symmetric-symmetric.ensures c.needs_dic.ensures w.if-needs_dic.true w.dic_sweeps.ensures (rw w.f-is at c.gauss_seidels.ensures)
      | else-needs_dic w ↦ swept_plain _ _ _ _ c.requires c.is_symmetric-symmetric.ensures c.needs_dic.ensures w.if-needs_dic.false (rw w.f-is at c.gauss_seidels.ensures)
    ]
