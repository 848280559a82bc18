-- `mirrors::find` meets its contract: the columns that are below come first.
use lib.Dec.{ltb}
use borrow.Author.Rules.{rules}
use Rattle.std.proofs.lemmas.List.Sorted.{IsPartitionPoint-from_clause}
use Rattle.faces.proofs.faces.Finding.{run_split, run_found}
use Rattle.faces.proofs.mirrors.find.Goals as goal

pub returns : goal.returns
returns c =
    run_found c.requires c.partition_point.ensures.bound
    (IsPartitionPoint-from_clause (λ x. ltb x c.args.column) _ _ c.partition_point.ensures.partitioned (run_split c.requires c.args.column)
    (λ x b f' k. search rules))
