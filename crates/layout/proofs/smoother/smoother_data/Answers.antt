-- `smoother::smoother_data` meets its contract.
use Rattle.layout.proofs.smoother.Data.{dic_requires, smoother_made, smoother_none}
use Rattle.layout.proofs.smoother.smoother_data.Goals as goal

pub update_dic_diagonal-requires : goal.update_dic_diagonal-requires
update_dic_diagonal-requires c =
    let start = c in
    dic_requires start.args.p c.kernel_in.ensures start.requires

pub returns-then-dic : goal.returns-then-dic
returns-then-dic c =
    let start = c in
    smoother_made start.args.p c.kernel_in.ensures start.args.w.now start.args.dic start.args.level
    c.if-dic.true c.update_dic_diagonal.ensures

pub fill-requires : goal.fill-requires
fill-requires c = c.requires.fits

pub returns : goal.returns
returns c =
    let start = c in
    smoother_none start.args.p start.args.w.now start.args.dic start.args.level c.if-dic.false c.fill.ensures
