-- `sound::place::coupled_at` meets its contract.
use mathlib.Core.Path.{refl}
use Rattle.index_check.proofs.sound.Laws.{head_told, head_sizes, coupled_last, coupled_none}
use native.Mathlib.Omega.{arith}
use Rattle.index_check.proofs.sound.place.coupled_at.Goals as goal

pub overflow_add-a : goal.overflow_add-a
overflow_add-a c = omega (arith, (head_sizes _ _ refl refl refl (head_told _ _ c.requires.head)).0)

pub offset_bounds-w-a : goal.offset_bounds-w-a
offset_bounds-w-a c = omega (arith, (head_sizes _ _ refl refl refl (head_told _ _ c.requires.head)).0)

pub bounds-w-a : goal.bounds-w-a
bounds-w-a c = omega (arith, (head_sizes _ _ refl refl refl (head_told _ _ c.requires.head)).0)

pub overflow_add-a-then-w-a-eq1 : goal.overflow_add-a-then-w-a-eq1
overflow_add-a-then-w-a-eq1 c = omega (arith, (head_sizes _ _ refl refl refl (head_told _ _ c.requires.head)).0)

pub word_at-requires : goal.word_at-requires
word_at-requires c = omega (arith, (head_sizes _ _ refl refl refl (head_told _ _ c.requires.head)).0)

pub returns-then-w-a-eq1 : goal.returns-then-w-a-eq1
returns-then-w-a-eq1 c = coupled_last c.args.w.now c.args.a
    c.if-w-a-eq1.true c.word_at.ensures.is

pub returns : goal.returns
returns c = coupled_none c.args.w.now c.args.a c.if-w-a-eq1.false
