-- What is left in the output, and what is answered. Assumes nothing.
use Rattle.std.specs.Prelude.{Result, Ok, Err}
use mathlib.Core.Path.{◌≡◌, refl, sym, ap, ◌∙◌}
use mathlib.Core.Bool.{Bool}
use mathlib.Core.List.{List, [], ◌∷◌, ◌++◌}
use Prim.Native.Nat.{ℕ, zero, suc, ◌≤◌, ◌<◌}
use native.Mathlib.Omega.{arith}
use lib.Dec.{leb}
use lib.ListN.{length}
use borrow.Author.Tests.{le-leb, lt-leb}
use Rattle.refusal.specs.declared.Refusal.{Refusal}
use Rattle.refusal.specs.Refusal.{store_too_small}
use Rattle.refusal.specs.Outcome.{Outcome, accepted, refused, passed, ask, verdict_of}
use Rattle.refusal.proofs.Outcome.{passes, refuses}
use Rattle.store.specs.Region.{lay, splice}
use Rattle.store.specs.Vector.{tab, filled}
use Rattle.store.proofs.store.Vector.{length_tab}
use Rattle.decimal_text.specs.Contract.{Laid}
use Rattle.record_format.specs.Format.{matrix_at}
use Rattle.record_format.specs.Steps.{WordIs}
use Rattle.matrix_writer.specs.Text.{file_text}
use Rattle.matrix_writer.specs.Writing.{record_asked, write_file, zeros_behind, written_text, file_answer}
use Rattle.matrix_writer.specs.Contract.{sized_matrix, Ready, WriteDone}
use Rattle.matrix_writer.proofs.Laying.{laid_size}

-- ---- a text over zeros

filled_cons : (n : ℕ) → filled {A = ℕ} (suc n) 0 ≡ 0 ∷ filled n 0
unfolding tab
filled_cons zero = refl
filled_cons (suc n) = ap (λ (l : List ℕ). l ++ (0 ∷ [])) (filled_cons n)

-- no text: all zeros
none_behind : (n : ℕ) → filled {A = ℕ} n 0 ≡ zeros_behind n []
none_behind n = ap (λ (k : ℕ). filled k 0) (omega arith)

lay_zeros : (t : List ℕ) (n : ℕ) → length t ≤ n → lay t (filled n 0) ≡ zeros_behind n t
unfolding lay
lay_zeros [] n h = none_behind n
lay_zeros (x ∷ t) zero h = absurd (omega arith)
lay_zeros (x ∷ t) (suc n) h =
    ap (lay (x ∷ t)) (filled_cons n)
    ∙ ap (λ (l : List ℕ). x ∷ l) (lay_zeros t n (omega arith))
    ∙ ap (λ (k : ℕ). x ∷ (t ++ filled k 0)) (omega arith)

over_zeros : (t F G : List ℕ) → F ≡ filled (length F) 0 → length t ≤ length F → G ≡ splice 0 t F → G ≡ zeros_behind (length F) t
unfolding splice
over_zeros t F G e h g = g ∙ ap (lay t) e ∙ lay_zeros t (length F) h

-- ---- the answers

-- A record that passed: what is left is whether the text fits.
text_asked : (symmetric : Bool) (size : ℕ) (b : List ℕ) → record_asked symmetric b ≡ passed
    → write_file symmetric size b ≡ ask (leb (length (file_text symmetric (matrix_at b))) size) store_too_small (accepted (file_text symmetric (matrix_at b)))
unfolding write_file
text_asked symmetric size b e = rw e

-- The text of the matrix that the code reads.
text_is : (symmetric : Bool) (b : List ℕ) {rows entries : ℕ} → WordIs b 2 rows → WordIs b 6 entries
    → file_text symmetric (matrix_at b) ≡ file_text symmetric (sized_matrix b rows entries)
text_is symmetric b p q = rw (p.is, q.is)

module _ (symmetric : Bool) (b : List ℕ) {rows entries n : ℕ} {F G : List ℕ} (y : Ready symmetric b F) (p : WordIs b 2 rows) (q : WordIs b 6 entries)
    (l : Laid (file_text symmetric (sized_matrix b rows entries)) 0 F G n) where
  next_is : n ≡ length (file_text symmetric (matrix_at b))
  next_is = l.next ∙ omega arith ∙ ap length (sym (text_is symmetric b p q))

  -- The text fits,
  pub done_wrote : n ≤ length G → WriteDone (write_file symmetric (length F) b) F G (Ok n)
  done_wrote h =
      let t = file_text symmetric (matrix_at b) in
      let fits : length t ≤ length F = omega (arith, next_is, laid_size l) in
      let o : write_file symmetric (length F) b ≡ accepted t =
      text_asked symmetric (length F) b y.asked ∙ ap (λ (x : Bool). ask x store_too_small (accepted t)) (le-leb (length t) (length F) fits) in
      record {
        answer = ap Ok next_is ∙ ap file_answer (sym o);
        out = over_zeros t F G y.cleared fits (l.is ∙ ap (λ (x : List ℕ). splice 0 x F) (sym (text_is symmetric b p q)))
            ∙ ap (λ (x : Outcome (List ℕ)). zeros_behind (length F) (written_text x)) (sym o);
      }

  -- or not, and the output is cleared.
  pub done_short : {H : List ℕ} → length G < n → H ≡ filled (length G) 0 → WriteDone (write_file symmetric (length F) b) F H (Err store_too_small)
  done_short h z =
      let t = file_text symmetric (matrix_at b) in
      let long : length F < length t = omega (arith, next_is, laid_size l) in
      let o : write_file symmetric (length F) b ≡ refused store_too_small =
      text_asked symmetric (length F) b y.asked ∙ ap (λ (x : Bool). ask x store_too_small (accepted t)) (lt-leb (length t) (length F) long) in
      record {
        answer = ap file_answer (sym o);
        out = z ∙ ap (λ (k : ℕ). filled k 0) (laid_size l) ∙ none_behind (length F) ∙ ap (λ (x : Outcome (List ℕ)). zeros_behind (length F) (written_text x)) (sym o);
      }

module _ (symmetric : Bool) (b F : List ℕ) {G : List ℕ} {v : Result Unit Refusal} (z : G ≡ filled (length F) 0) (a : v ≡ verdict_of (record_asked symmetric b)) where
  size_is : length G ≡ length F
  size_is = ap length z ∙ length_tab (λ _. 0) (length F)

  -- A record that is refused leaves the output cleared.
  pub done_refused : {q : Refusal} → v ≡ Err q → WriteDone (write_file symmetric (length F) b) F G (Err q)
  unfolding write_file
  done_refused {q} e =
      let r : record_asked symmetric b ≡ refused q = refuses (record_asked symmetric b) a e in
      record { answer = rw r; out = rw r (z ∙ none_behind (length F)) }

  -- One that passed is written into it.
  pub ready_now : v ≡ Ok tt → Ready symmetric b G
  ready_now e = record { asked = passes (record_asked symmetric b) a e; cleared = z ∙ ap (λ (k : ℕ). filled k 0) (sym size_is) }

  pub done_now : {H : List ℕ} {r : Result ℕ Refusal} → WriteDone (write_file symmetric (length G) b) G H r → WriteDone (write_file symmetric (length F) b) F H r
  done_now d = record {
    answer = d.answer ∙ ap (λ (k : ℕ). file_answer (write_file symmetric k b)) size_is;
    out = d.out ∙ ap (λ (k : ℕ). zeros_behind k (written_text (write_file symmetric k b))) size_is;
  }
