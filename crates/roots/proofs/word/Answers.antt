-- `roots::word` meets its contract: after i turns `value` is the number that the first i digits write.
use native.Mathlib.Omega.{arith}
use Rattle.std.proofs.Common.{◌≡◌, ℕ, List, ◌+◌, ◌-◌, ◌<◌, ◌≤◌, take, drop, length, ap, ◌∙◌, length-take, length-drop}
use Rattle.std.proofs.lemmas.List.{get_or-take, get_or-drop}
use Rattle.roots.specs.Replay.{digit_of, word_of}
use Rattle.roots.proofs.Replay.{word_start, word_room, word_on}
use Rattle.roots.proofs.word.Goals as goal

pub loop-c-init : goal.loop-c-init
loop-c-init c = word_start

-- The digits are sixteen.
turn : (at i : ℕ) (s : List ℕ) → at + 16 ≤ length s → i < length (take ((at + 16) - at) (drop at s)) → i < 16
turn at i s room h = let t = simp (length-take, length-drop) at h in omega arith

pub overflow_mul-value : goal.overflow_mul-value
overflow_mul-value c = omega (arith, word_room c.loop-c.invariant (turn _ _ _ c.requires c.loop-c-test.true))

pub overflow_add-value : goal.overflow_add-value
overflow_add-value c = omega (arith, word_room c.loop-c.invariant (turn _ _ _ c.requires c.loop-c-test.true))

pub loop-c-preserved : goal.loop-c-preserved
loop-c-preserved c =
    let at = c.args.at in
    let i = c.loop-c.c-index in
    let digit : i < 16 = turn at i c.args.s.now c.requires c.loop-c-test.true in
    let here = get_or-take ((at + 16) - at) (drop at c.args.s.now) i 0 (omega arith) ∙ get_or-drop at c.args.s.now i 0 in
    word_on c.loop-c.invariant digit (c.digit.ensures ∙ ap digit_of here)

pub returns : goal.returns
returns c =
    let w = c.loop-c.invariant in
    let end = simp (length-take, length-drop) at c.loop-c-test.false in
    let turns = w.turns in
    let room = c.requires in
    let all : c.loop-c.c-index ≡ 16 = omega arith in
    w.is ∙ ap (λ (k : ℕ). word_of k c.args.at c.args.s.now) all
