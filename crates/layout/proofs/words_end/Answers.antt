-- `layout::words_end` meets its contract.
use Rattle.layout.proofs.Places.{words_place, head_within, end_last, end_inner}
use native.Mathlib.Omega.{arith}
use borrow.Author.Rules.{rules}
use Rattle.layout.proofs.words_end.Goals as goal

pub place_at-p-requires : goal.place_at-p-requires
place_at-p-requires c = words_place c.requires (search rules)

pub overflow_add-a : goal.overflow_add-a
overflow_add-a c = omega (arith, head_within _ _ c.requires)

pub offset_bounds-w-a : goal.offset_bounds-w-a
offset_bounds-w-a c = omega (arith, head_within _ _ c.requires)

pub bounds-w-a : goal.bounds-w-a
bounds-w-a c = omega (arith, head_within _ _ c.requires)

pub overflow_add-a-then-w-a-eq1 : goal.overflow_add-a-then-w-a-eq1
overflow_add-a-then-w-a-eq1 c = omega (arith, head_within _ _ c.requires)

pub offset_bounds-w-a-then-w-a-eq1 : goal.offset_bounds-w-a-then-w-a-eq1
offset_bounds-w-a-then-w-a-eq1 c = omega (arith, head_within _ _ c.requires)

pub bounds-w-a-then-w-a-eq1 : goal.bounds-w-a-then-w-a-eq1
bounds-w-a-then-w-a-eq1 c = omega (arith, head_within _ _ c.requires)

pub overflow_add-result : goal.overflow_add-result
overflow_add-result c = omega (arith, c.requires, end_last c.args.w.now _ c.place_at-p.ensures c.if-w-a-eq1.true c.wide.ensures)

pub returns-then-w-a-eq1 : goal.returns-then-w-a-eq1
returns-then-w-a-eq1 c = end_last c.args.w.now _ c.place_at-p.ensures c.if-w-a-eq1.true c.wide.ensures

pub overflow_add-result-2 : goal.overflow_add-result-2
overflow_add-result-2 c = omega (arith, c.requires, end_inner c.args.w.now _ c.place_at-p.ensures c.if-w-a-eq1.false)

pub returns : goal.returns
returns c = end_inner c.args.w.now _ c.place_at-p.ensures c.if-w-a-eq1.false
