-- What write_matrix wrote, read_matrix reads: a corollary of both contracts for any matrix of a problem file. Assumes nothing.
use Rattle.std.specs.Prelude.{Ok, Err}
use mathlib.Core.Path.{◌≡◌, refl, ap, ◌∙◌}
use mathlib.Core.List.{List}
use Prim.Native.Nat.{ℕ, ◌+◌, ◌-◌, ◌*◌, ◌≤◌}
use native.Mathlib.Omega.{arith}
use lib.ListN.{length, take}
use lib.Ieee.{Float}
use Rattle.refusal.specs.Outcome.{Outcome, accepted, refused, passed, ◌>>=◌}
use Rattle.refusal.proofs.Outcome.{verdict_passed}
use Rattle.store.specs.Region.{part}
use Rattle.store.proofs.store.Region.{part_splice}
use Rattle.record_format.specs.Format.{read_matrix, matrix_bytes}
use Rattle.record_format.specs.Steps.{MatrixSpace}
use Rattle.record_format.specs.Theorem.{MatrixFits}
use Rattle.record_format.specs.Writing.{matrix_of, matrix_room, write_matrix, WrittenIs}
use Rattle.record_format.proofs.Back.{matrix_back, length_whole}
use Rattle.record_format.proofs.Placing.{matrix_space}

-- as many bytes as the answer says are the record
taken : (room : Outcome Unit) {b B B' : List ℕ} {n : ℕ} → (room ≡ passed → length b ≤ length B)
    → WrittenIs (◌>>=◌ room (λ _. accepted b)) B B' (Ok n) → take n B' ≡ b
unfolding part
taken (accepted tt) {b} {B} {B'} {n} fits w =
    let long : n ≡ length b = (let e : Ok n ≡ Ok (length b) = w.answer in cc) in
    ap (take n) w.bytes ∙ part_splice 0 n b B (omega arith) (omega (arith, fits refl))
taken (refused q) {b} {B} {B'} {n} fits w =
    let e : Ok n ≡ Err q = w.answer in
    let none : ◌≡◌ {A = ℕ} 0 1 = cc in absurd (omega arith)

-- Where writing answers a number of bytes, so many of the output are read as the matrix that was written.
pub matrix_read_back : (O C : List ℕ) (X : List Float) {B B' : List ℕ} {n : ℕ} → MatrixFits (matrix_of O C X)
    → WrittenIs (write_matrix (length B) O C X) B B' (Ok n) → read_matrix (take n B') ≡ accepted (matrix_of O C X)
unfolding write_matrix matrix_bytes
matrix_read_back O C X {B} {B'} {n} fit w =
    let room : Outcome Unit = matrix_room (length O) (length C) (length X) (length B) in
    let fits : room ≡ passed → length (matrix_bytes (matrix_of O C X)) ≤ length B =
    λ e. (let s : MatrixSpace (length O) (length C) (length X) (length B) = matrix_space (length O) (length C) (length X) (length B) refl (verdict_passed room e) in
    let l : 14 + 4 * (length O - 1) + 12 * length C ≤ length B = s.fits in
    omega (arith, length_whole (matrix_of O C X) fit)) in
    ap read_matrix (taken room fits w) ∙ matrix_back (matrix_of O C X) fit
