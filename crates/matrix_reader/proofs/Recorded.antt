-- A record is written part behind part. Assumes nothing.
use Rattle.std.specs.Prelude.{Ok, Err}
use mathlib.Core.Path.{◌≡◌, refl, sym, ap, subst, ◌∙◌}
use mathlib.Core.List.{List, [], ◌∷◌, ◌++◌, map}
use Prim.Native.Nat.{ℕ, zero, suc, ◌+◌, ◌-◌, ◌*◌, ◌≤◌, ◌<◌}
use native.Mathlib.Omega.{arith}
use lib.ListN.{length, take, get_or, length-map}
use lib.Seq.{get_or-take, length-take-le}
use lib.Ieee.{Float}
use borrow.Author.Tests.{le-leb, lt-leb}
use Rattle.refusal.specs.Refusal.{too_large, store_too_small}
use Rattle.store.specs.Region.{at, idx, Wrote}
use Rattle.record_format.specs.declared.marks.Mark.{Mark}
use Rattle.record_format.specs.Bytes.{bytes4, float_bytes, flat}
use Rattle.record_format.specs.Format.{Matrix, letters_of, matrix_length, matrix_bytes}
use Rattle.record_format.proofs.Written.{wrote_next}
use Rattle.matrix_reader.specs.File.{matrix_from, ConvertedIs}
use Rattle.matrix_reader.specs.Writes.{ordered_matrix, RecordRoom, FinishOk}

-- ---- zeros

-- ---- picked elements

get_d_map : {A B : Type 0} (f : A → B) (l : List A) (i : ℕ) (a : A) (b : B) → i < length l → get_or (map f l) i b ≡ f (get_or l i a)
get_d_map f [] i a b h = absurd (omega arith)
get_d_map f (x ∷ l) zero a b h = refl
get_d_map f (x ∷ l) (suc i) a b h = get_d_map f l i a b (omega arith)

-- What is written of a picked element is what the list of the picked has there.
pub picked : {A : Type 0} (f : A → List ℕ) (g : ℕ → A) (d : A) (w to : ℕ) (O : List ℕ) (k : ℕ) {i : ℕ} {x : A} {F G : List ℕ} → k < length O → i ≡ idx O k → x ≡ g i
    → Wrote to w (f x) F G → Wrote to w (f (get_or (map g O) k d)) F G
picked {A} f g d w to O k {i} {x} {F} {G} h e p s = subst (λ (y : A). Wrote to w (f y) F G) (p ∙ ap g e ∙ sym (get_d_map g O k 0 d h)) s

-- as many are picked as the order has
pub picked_end : {A : Type 0} (f : A → List ℕ) (g : ℕ → A) (w to : ℕ) (O : List ℕ) {F G : List ℕ} → Wrote to (w * length (map g O)) (flat f (map g O)) F G
    → Wrote to (w * length O) (flat f (map g O)) F G
picked_end f g w to O {F} {G} s = subst (λ (n : ℕ). Wrote to (w * n) (flat f (map g O)) F G) (length-map O g) s

-- ---- the record

wrote_size : {b n m : ℕ} {v F G : List ℕ} → n ≡ m → Wrote b n v F G → Wrote b m v F G
wrote_size {b} {n} {m} {v} {F} {G} e w = subst (λ (k : ℕ). Wrote b k v F G) e w

pub record_placed : (C : List ℕ) (X : List Float) (S O : List ℕ) {size : ℕ} {F G H I J : List ℕ} → RecordRoom C X S O size
    → Wrote 0 10 (letters_of Mark.Matrix ++ bytes4 (length S - 1) ++ bytes4 (length O)) F G
    → Wrote 10 (4 * length S) (flat bytes4 S) G H
    → Wrote (10 + 4 * (length S - 1 + 1)) (4 * length O) (flat bytes4 (map (idx C) O)) H I
    → Wrote (10 + 4 * (length S - 1 + 1) + 4 * length O) (8 * length O) (flat float_bytes (map (at X) O)) I J
    → Wrote 0 (10 + 4 * (length S - 1 + 1) + 4 * length O + 8 * length O) (matrix_bytes (ordered_matrix C X S O)) F J
unfolding matrix_bytes
record_placed C X S O s g h i j =
    let some : 0 < length S = s.some in
    wrote_size (omega arith) (wrote_next (wrote_next (wrote_next g (omega arith) h) (omega arith) i) (omega arith) j)

-- ---- the limits

module _ (B : List ℕ) (m : Matrix) where
  pub finish_large : 1048576 < m.entries → ConvertedIs (matrix_from (length B) m) B B (Err too_large)
  finish_large h = rw (lt-leb m.entries 1048576 h) (record { answer = refl; bytes = refl })

  pub finish_short : m.entries ≤ 1048576 → length B < matrix_length m.rows m.entries → ConvertedIs (matrix_from (length B) m) B B (Err store_too_small)
  finish_short h g = rw (le-leb m.entries 1048576 h, lt-leb (matrix_length m.rows m.entries) (length B) g) (record { answer = refl; bytes = refl })

  pub finish_wrote : {B' : List ℕ} {r : ℕ} → m.entries ≤ 1048576 → matrix_length m.rows m.entries ≤ length B → Wrote 0 r (matrix_bytes m) B B'
      → ConvertedIs (matrix_from (length B) m) B B' (Ok r)
  finish_wrote h g w =
      rw (le-leb m.entries 1048576 h, le-leb (matrix_length m.rows m.entries) (length B) g) (record { answer = ap Ok (sym w.long); bytes = w.is })

module _ {n total : ℕ} {C : List ℕ} {X : List Float} {S O : List ℕ} (o : FinishOk n total C X S O) where
  -- the matrix has n rows and so many entries
  pub ordered_rows : length (take (n + 1) S) - 1 ≡ n
  ordered_rows = omega (arith, length-take-le (n + 1) S o.starts)

  pub ordered_entries : length (take total O) ≡ total
  ordered_entries = length-take-le total O o.order

  pub record_room : (size : ℕ) → total ≤ 1048576 → 14 + 4 * n + 12 * total ≤ size → RecordRoom C X (take (n + 1) S) (take total O) size
  record_room size h g =
      let e : length (take (n + 1) S) ≡ n + 1 = length-take-le (n + 1) S o.starts in
      let f : length (take total O) ≡ total = ordered_entries in
      record {
        columns = λ k l. let i : k < total = omega arith in subst (λ (v : ℕ). v < length C) (sym (get_or-take total O k 0 i)) (o.columns k i);
        values = λ k l. let i : k < total = omega arith in subst (λ (v : ℕ). v < length X) (sym (get_or-take total O k 0 i)) (o.values k i);
        some = omega arith;
        few = omega (arith, o.few);
        many = omega arith;
        room = omega arith;
      }
