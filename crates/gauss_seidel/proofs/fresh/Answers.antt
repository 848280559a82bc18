-- `gauss_seidel::fresh` meets its contract.
use Rattle.matrix.proofs.matrix.Turns.{row_faces_lem}
use Rattle.gauss_seidel.proofs.Turns.{first_ok, freshed}
use Rattle.gauss_seidel.proofs.fresh.Goals as goal

pub take_faces-value-requires : goal.take_faces-value-requires
take_faces-value-requires c =
    record { vectors_ok = first_ok c.requires.vectors_ok; hi_bound = row_faces_lem c.requires.vectors_ok.kernel c.requires.row_lt_rows c.wide-hi.ensures }

pub returns : goal.returns
returns c =
    freshed c.wide-lo.ensures c.wide-hi.ensures c.requires.start_value c.take_faces-value.ensures
