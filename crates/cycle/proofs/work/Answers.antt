-- `cycle::work` meets its contract: one law for each way.
use mathlib.Core.Path.{refl}
use Rattle.cycle.proofs.Steps.{last_asks, down_asks, up_asks, last_told, down_told, up_told}
use Rattle.cycle.proofs.work.Goals as goal

pub end-requires : goal.end-requires
end-requires c =
    let at-enum-told = c in
    let start = at-enum-told in
    last_asks start.requires at-enum-told.in-Last.is

pub down-requires : goal.down-requires
down-requires c =
    let at-enum-told2 = c in
    let start = at-enum-told2 in
    down_asks start.requires at-enum-told2.in-Down.is

pub up-requires : goal.up-requires
up-requires c =
    let at-enum-told3 = c in
    let start = at-enum-told3 in
    up_asks start.requires at-enum-told3.in-Up.is

pub returns-in-Last : goal.returns-in-Last
returns-in-Last c =
    let at_end = c in
    let at-enum-told = at_end in
    let start = at-enum-told in
    last_told start.args.o start.args.w.now start.args.t.now _ _ _ _ at-enum-told.in-Last.is at_end.end.ensures

pub returns-in-Down : goal.returns-in-Down
returns-in-Down c =
    let at-down = c in
    let at-enum-told2 = at-down in
    let start = at-enum-told2 in
    down_told start.args.o start.args.w.now start.args.t.now _ _ _ _ at-enum-told2.in-Down.is refl at-down.down.ensures

pub returns-in-Up : goal.returns-in-Up
returns-in-Up c =
    let at_up = c in
    let at-enum-told3 = at_up in
    let start = at-enum-told3 in
    up_told start.args.o start.args.w.now start.args.t.now _ _ _ _ at-enum-told3.in-Up.is at_up.up.ensures
