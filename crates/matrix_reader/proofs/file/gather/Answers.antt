-- `matrix_reader::file::gather` meets its contract: by what the lines have.
use borrow.Author.Tests.{not-true, not-false}
use Rattle.refusal.proofs.Outcome.{passed_up}
use Rattle.matrix_reader.proofs.Gathering.{lines_ok, gather_stopped, gather_missing, gather_general, mirrors_room, gather_mirrors}
use native.Mathlib.Omega.{arith}
use Rattle.matrix_reader.proofs.file.gather.Goals as goal

pub read_lines-requires : goal.read_lines-requires
read_lines-requires c = lines_ok c.requires

pub returns-in_err-m : goal.returns-in_err-m
returns-in_err-m c = rw (passed_up _ c.from_residual.ensures.1) (gather_stopped c.requires c.read_lines.ensures (omega arith) (omega arith) (omega arith) _ c.in_err-m.was)

pub returns-then-m-h : goal.returns-then-m-h
returns-then-m-h c = gather_missing c.requires c.read_lines.ensures (omega arith) (omega arith) (omega arith) _ c.in_ok-m.was c.if-m-h.true

pub returns-then-not-h : goal.returns-then-not-h
returns-then-not-h c = gather_general c.requires c.read_lines.ensures (omega arith) (omega arith) (omega arith) _ c.in_ok-m.was c.if-m-h.false (not-true _ c.if-not-h.true)

pub put_mirrors-requires : goal.put_mirrors-requires
put_mirrors-requires c = mirrors_room c.requires c.read_lines.ensures (omega arith) (omega arith) (omega arith) _ c.in_ok-m.was c.if-m-h.false (not-false _ c.if-not-h.false)

pub returns : goal.returns
returns c = gather_mirrors c.requires c.read_lines.ensures (omega arith) (omega arith) (omega arith) _ c.in_ok-m.was c.if-m-h.false (not-false _ c.if-not-h.false) c.put_mirrors.ensures (omega arith) (omega arith) (omega arith)
