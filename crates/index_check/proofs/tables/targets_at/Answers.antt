-- `tables::targets_at` meets its contract.
use mathlib.Core.Path.{refl}
use Rattle.index_check.proofs.sound.Laws.{head_told, head_sizes}
use Rattle.index_check.proofs.sound.Walks.{fits_head}
use Rattle.index_check.proofs.sound.Sizes.{place_zero}
use Rattle.index_check.proofs.tables.Laws.{targets_last, targets_inner, next_sound}
use native.Mathlib.Omega.{arith}
use Rattle.index_check.proofs.tables.targets_at.Goals as goal

pub word_at-rows-requires : goal.word_at-rows-requires
word_at-rows-requires c = omega
    (arith, (head_sizes _ _ refl refl refl (head_told _ _ (fits_head _ _ c.args.more c.requires.head))).0)

pub coupled_at-requires : goal.coupled_at-requires
coupled_at-requires c = record { head = fits_head _ _ c.args.more c.requires.head }

pub returns-then-more-eq0 : goal.returns-then-more-eq0
returns-then-more-eq0 c = targets_last _ _ c.args.more c.if-more-eq0.true
    c.word_at-rows.ensures.is c.coupled_at.ensures

pub words_end-requires : goal.words_end-requires
words_end-requires c = (head_told _ _ (fits_head _ _ c.args.more c.requires.head)).ends

pub place_at-next-requires : goal.place_at-next-requires
place_at-next-requires c = place_zero _ _
    (next_sound _ _ c.args.more c.requires c.if-more-eq0.false c.words_end.ensures)

pub returns : goal.returns
returns c = targets_inner _ _ c.args.more c.if-more-eq0.false
    c.word_at-rows.ensures.is c.words_end.ensures c.place_at-next.ensures
