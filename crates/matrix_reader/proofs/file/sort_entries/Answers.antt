-- `matrix_reader::file::sort_entries` meets its contract: `sort_places` has the room that it asks for.
use mathlib.Core.Path.{sym}
use lib.Seq.{length-take-le}
use Rattle.matrix_reader.proofs.Converting.{sort_ok}
use borrow.Author.Rules.{rules}
use Rattle.matrix_reader.proofs.file.sort_entries.Goals as goal

pub slice_bounds-sort_places-end : goal.slice_bounds-sort_places-end
slice_bounds-sort_places-end c = sym (length-take-le c.args.total c.args.rows.now c.requires.rows)

pub slice_bounds-sort_places-end-2 : goal.slice_bounds-sort_places-end-2
slice_bounds-sort_places-end-2 c = sym (length-take-le c.args.total c.args.columns.now c.requires.columns)

pub sort_places-requires : goal.sort_places-requires
sort_places-requires c = sort_ok c.args.n c.args.total c.requires (search rules)
