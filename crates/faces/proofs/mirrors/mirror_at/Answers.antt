-- `mirrors::mirror_at` meets its contract.
use Rattle.faces.proofs.faces.Finding.{mirror_entry, mirror_own}
use Rattle.faces.proofs.mirrors.mirror_at.Goals as goal

pub returns-then-column-row : goal.returns-then-column-row
returns-then-column-row c = mirror_own c.requires c.if-column-row.true

pub entry_at-requires : goal.entry_at-requires
entry_at-requires c = mirror_entry c.requires
