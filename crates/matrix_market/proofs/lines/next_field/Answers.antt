-- `matrix_market::lines::next_field` meets its contract: past the blanks, up to the next one.
use Rattle.matrix_market.proofs.Fields.{blanks_within, next_is}
use Rattle.matrix_market.specs.Walk.{blanks_of}
use Rattle.decimal_text.proofs.Digits.{tail_part, place_within}
use Rattle.decimal_text.specs.Field.{place_of}
use lib.ListN.{drop, length-drop}
use native.Mathlib.Omega.{arith}
use Prim.Native.Nat.{ℕ, ◌+◌}
use mathlib.Core.Path.{ap, ◌∙◌}
use Rattle.matrix_market.proofs.lines.next_field.Goals as goal

pub overflow_add-from : goal.overflow_add-from
overflow_add-from c = let l = c.args.line.now in let e = c.leading_blanks.ensures ∙ ap blanks_of (tail_part c.args.at l) in omega (arith, e, blanks_within (drop c.args.at l), length-drop c.args.at l, c.requires)

pub slice_bounds-find_either-count : goal.slice_bounds-find_either-count
slice_bounds-find_either-count c = let l = c.args.line.now in let e = c.leading_blanks.ensures ∙ ap blanks_of (tail_part c.args.at l) in omega (arith, e, blanks_within (drop c.args.at l), length-drop c.args.at l, c.requires)

pub slice_bounds-find_either-start : goal.slice_bounds-find_either-start
slice_bounds-find_either-start c = let l = c.args.line.now in let e = c.leading_blanks.ensures ∙ ap blanks_of (tail_part c.args.at l) in omega (arith, e, blanks_within (drop c.args.at l), length-drop c.args.at l, c.requires)

pub overflow_add-to : goal.overflow_add-to
overflow_add-to c = let l = c.args.line.now in let f = c.args.at + c.leading_blanks.result in let e = c.leading_blanks.ensures ∙ ap blanks_of (tail_part c.args.at l) in let g = c.find_either.ensures ∙ ap (place_of 32 9) (tail_part f l) in omega (arith, e, g, blanks_within (drop c.args.at l), length-drop c.args.at l, place_within 32 9 (drop f l), length-drop f l, c.requires)

pub returns : goal.returns
returns c = let l = c.args.line.now in let f = c.args.at + c.leading_blanks.result in next_is l c.args.at _ c.requires (ap (λ (x : ℕ). c.args.at + x) (c.leading_blanks.ensures ∙ ap blanks_of (tail_part c.args.at l))) (ap (λ (x : ℕ). f + x) (c.find_either.ensures ∙ ap (place_of 32 9) (tail_part f l)))
