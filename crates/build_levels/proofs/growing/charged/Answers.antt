-- `growing::charged` meets its contract: the sums fit by what it requires, and each test is one of the definition.
use native.Mathlib.Omega.{arith}
use Rattle.build_levels.specs.Ahead.{next_after}
use Rattle.build_levels.proofs.growing.Growing.{words_short, floats_short, both_hold}
use Rattle.build_levels.proofs.growing.charged.Goals as goal

pub returns-then-words-s : goal.returns-then-words-s
returns-then-words-s c =
    let start = c in
    let a = start.args in
    let heldwords = start.requires.heldwords in
    words_short a.words a.floats (next_after a.s a.p a.next.count a.next.entries a.next.stage) (omega arith)

pub returns-then-floats-s : goal.returns-then-floats-s
returns-then-floats-s c =
    let start = c in
    let a = start.args in
    let heldfloats = start.requires.heldfloats in
    floats_short a.words a.floats (next_after a.s a.p a.next.count a.next.entries a.next.stage) (omega arith)

pub returns : goal.returns
returns c =
    let start = c in
    let a = start.args in
    let heldwords = start.requires.heldwords in
    let heldfloats = start.requires.heldfloats in
    both_hold a.words a.floats (next_after a.s a.p a.next.count a.next.entries a.next.stage) (omega arith) (omega arith)
