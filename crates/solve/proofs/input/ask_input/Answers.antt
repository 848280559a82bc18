-- `input::ask_input` meets its contract: questions 20 and 21.
use Rattle.solve.proofs.input.Asked.{ask_rhs, ask_x, ask_bad, ask_good}
use Rattle.solve.proofs.input.ask_input.Goals as goal

pub returns-then-rhs-n : goal.returns-then-rhs-n
returns-then-rhs-n c =
    let start = c in
    ask_rhs _ start.args.s start.args.rhs.now start.args.x.now c.if-rhs-n.true

pub returns-then-x-n : goal.returns-then-x-n
returns-then-x-n c =
    let at-if1 = c in
    let start = at-if1 in
    ask_x _ start.args.s start.args.rhs.now start.args.x.now at-if1.if-rhs-n.false c.if-x-n.true

pub returns-then-not-input_fits : goal.returns-then-not-input_fits
returns-then-not-input_fits c =
    let at-input-fits = c in
    let at-if2 = at-input-fits in
    let at-if1 = at-if2 in
    let start = at-if1 in
    ask_bad _ start.args.s start.args.rhs.now start.args.x.now at-if1.if-rhs-n.false at-if2.if-x-n.false at-input-fits.input_fits.ensures c.if-not-input_fits.true

pub returns : goal.returns
returns c =
    let at-input-fits = c in
    let at-if2 = at-input-fits in
    let at-if1 = at-if2 in
    let start = at-if1 in
    ask_good _ start.args.s start.args.rhs.now start.args.x.now at-if1.if-rhs-n.false at-if2.if-x-n.false at-input-fits.input_fits.ensures c.if-not-input_fits.false
