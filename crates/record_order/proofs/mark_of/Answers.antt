-- `mark_of` meets its contract.
use Rattle.std.proofs.Common.{◌∙◌, sym, rules, tests, Bool, List, [], ◌∷◌}
use Rattle.std.proofs.lemmas.Iterator.{YieldsList-from_slice}
use Rattle.std.proofs.lemmas.Iterator.Adapters.{option_map_id}
use Rattle.std.proofs.lemmas.Iterator.Consumers.{YieldsList-from_copied}
use Rattle.std.proofs.lemmas.Iterator.Search.{find_from_yields_List}
use Rattle.record_format.specs.declared.marks.Mark.{Mark}
use Rattle.record_format.specs.Format.{marked}
use Rattle.record_order.specs.Order.{named_of}
use Rattle.record_order.proofs.mark_of.Goals as goal

-- all marks, in the order in which they are asked for
abbrev marks : List Mark
marks = Mark.Controls ∷ Mark.Matrix ∷ Mark.Weights ∷ Mark.Update ∷ Mark.Solve ∷ []

pub returns : goal.returns
unfolding named_of
returns c =
    let test : Mark → Bool = λ m. marked m c.args.b.now in
    sym (option_map_id c.find.result)
    ∙ find_from_yields_List test _ _ c.find.result c.find.ensures.ran (YieldsList-from_copied (YieldsList-from_slice marks cc)) (λ x b q k. search (rules, tests))
