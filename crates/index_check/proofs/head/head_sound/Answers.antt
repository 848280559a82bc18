-- `head::head_sound` meets its contract: where a size would be read outside the store, the words would end there.
use mathlib.Core.Path.{refl}
use Rattle.index_check.proofs.head.Laws.{head_out, head_last, head_inner}
use native.Mathlib.Omega.{arith}
use Rattle.index_check.proofs.head.head_sound.Goals as goal

pub returns-then-w-a : goal.returns-then-w-a
returns-then-w-a c = head_out _ _ refl refl refl (omega arith)

pub returns-then-left-lt5 : goal.returns-then-left-lt5
returns-then-left-lt5 c = head_out _ _ refl refl refl (omega arith)

pub returns-then-left-rows : goal.returns-then-left-rows
returns-then-left-rows c = head_out _ _ c.word_at-rows.ensures.is refl refl (omega arith)

pub returns-then-left-rows-2 : goal.returns-then-left-rows-2
returns-then-left-rows-2 c = head_out _ _ c.word_at-rows.ensures.is c.word_at-entries.ensures.is refl (omega arith)

pub returns-then-w-a-eq1 : goal.returns-then-w-a-eq1
returns-then-w-a-eq1 c = head_last _ _ c.word_at-rows.ensures.is
    c.word_at-entries.ensures.is c.word_at-faces.ensures.is
    (omega arith) refl c.if-w-a-eq1.true c.word_at-coupled.ensures.is c.sizes_fit.ensures

pub returns : goal.returns
returns c = head_inner _ _ c.word_at-rows.ensures.is
    c.word_at-entries.ensures.is c.word_at-faces.ensures.is (omega arith) refl
    c.if-w-a-eq1.false c.sizes_fit-2.ensures
