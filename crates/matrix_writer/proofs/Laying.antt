-- Lines of a file that are laid one behind another, how many entries they have, and how long they are. Assumes nothing.
use mathlib.Core.Path.{◌≡◌, refl, sym, ap, ◌∙◌}
use mathlib.Core.Bool.{Bool, true, false, not, cond}
use mathlib.Core.List.{List, [], ◌∷◌, ◌++◌, append_assoc, append-nil}
use Prim.Native.Nat.{ℕ, zero, suc, ◌+◌, ◌-◌, ◌*◌, ◌≤◌, ◌<◌}
use native.Mathlib.Numerals.{add-one}
use native.Mathlib.Omega.{arith}
use lib.Dec.{eqb}
use mir.Val.{bool_byte}
use lib.Ieee.{Float}
use lib.ListN.{length, get_or, take, length-append, length-take}
use lib.Seq.{take-suc, take_all}
use borrow.Author.Tests.{not-true, not-false}
use Rattle.std.specs.Prelude.{Option, Some, None, unwrap_or}
use Rattle.store.specs.Region.{idx, at}
use Rattle.store.proofs.store.Region.{length_splice}
use Rattle.decimal.specs.Decimal.{write_of, is_minus, magnitude_of}
use Rattle.decimal_text.specs.Figures.{figures, sign_text, power_text, text_of, value_text}
use Rattle.decimal_text.specs.Contract.{Laid, placed_of, PlacedValue}
use Rattle.decimal_text.proofs.Writing.{laid_none, laid_on, laid_as, figures_length, sign_length}
use Rattle.record_format.specs.Bytes.{flat}
use Rattle.record_format.specs.Format.{Matrix}
use Rattle.matrix_writer.specs.declared.arrays.RowRange.{RowRange}
use Rattle.matrix_writer.specs.Text.{
  joined,
  Triplet,
  triplet_at,
  row_length,
  is_written,
  written_at,
  row_triplets,
  triplets,
  header_text,
  kind_text,
  spaced,
  size_line,
  entry_line,
  file_text,
}
use Rattle.matrix_writer.specs.Turns.{written_from}
use Rattle.matrix_writer.specs.Contract.{WordOf, RowsIn, RangeIs}

-- ---- bytes as they are

-- A text that is laid changes no length.
pub laid_size : {t : List ℕ} {at r : ℕ} {F G : List ℕ} → Laid t at F G r → length G ≡ length F
laid_size {t} {at} {r} {F} a = ap length a.is ∙ length_splice at t F

-- The first k bytes of t are laid.
pub record BytesTo (t : List ℕ) (k at : ℕ) (F G : List ℕ) (r : ℕ) : Type 0 where
  pub within : k ≤ length t
  pub laid : Laid (take k t) at F G r

module _ {t : List ℕ} {at : ℕ} {F : List ℕ} where
  pub bytes_start : BytesTo t 0 at F F at
  bytes_start = record { within = omega arith; laid = laid_none }

  pub bytes_early : {k r : ℕ} {G : List ℕ} → BytesTo t k at F G r → r ≤ at + k
  bytes_early {k} a = omega (arith, a.laid.next, length-take k t)

  pub bytes_on : {k r s b : ℕ} {G H : List ℕ} → BytesTo t k at F G r → k < length t → b ≡ get_or t k 0 → Laid (b ∷ []) r G H s → BytesTo t (k + 1) at F H s
  bytes_on {k} a h e b = record {
    within = omega arith;
    laid = laid_as (ap (λ (i : ℕ). take i t) (add-one k) ∙ take-suc t k 0 h ∙ ap (λ (x : ℕ). take k t ++ (x ∷ [])) (sym e)) (laid_on a.laid b);
  }

  pub bytes_all : {k r : ℕ} {G : List ℕ} → BytesTo t k at F G r → length t ≤ k → Laid t at F G r
  bytes_all {k} a h = laid_as (sym (take_all k t h)) a.laid

-- ---- a value

-- where a value's text ends, or where it would have begun
pub value_laid : (v : Float) {at : ℕ} {F G : List ℕ} (p : Option ℕ) → PlacedValue v at F G p → Laid (value_text v) at F G (unwrap_or p at)
value_laid v {at} (Some n) a = record { is = a.is; next = go (write_of (magnitude_of v)) a.next }
  where
    go : (w : Option (ℕ × Bool × ℕ)) → Some n ≡ placed_of at (is_minus v) w → n ≡ at + length (text_of (is_minus v) w)
    go (Some (m, g, q)) z = cc
    go None z = absurd (let none : ◌≡◌ {A = ℕ} 0 1 = cc in omega arith)
value_laid v {at} None a = record { is = a.is; next = go (write_of (magnitude_of v)) a.next }
  where
    go : (w : Option (ℕ × Bool × ℕ)) → None ≡ placed_of at (is_minus v) w → at ≡ at + length (text_of (is_minus v) w)
    go (Some (m, g, q)) z = absurd (let none : ◌≡◌ {A = ℕ} 0 1 = cc in omega arith)
    go None z = omega arith

-- ---- how long lines are

pub spaced_length : (n : ℕ) → length (spaced n) ≤ 21
spaced_length n = omega (arith, length-append (figures n) (32 ∷ []), figures_length 19 n)

power_length : (negative : Bool) (power : ℕ) → length (power_text negative power) ≤ 22
power_length negative power = go (eqb power 0)
  where
    go : (b : Bool) → length (cond b [] (101 ∷ sign_text negative ++ figures power)) ≤ 22
    go true = omega arith
    go false = omega (arith, length-append (sign_text negative) (figures power), sign_length negative, figures_length 19 power)

pub value_length : (v : Float) → length (value_text v) ≤ 43
value_length v = go (is_minus v) (write_of (magnitude_of v))
  where
    go : (minus : Bool) (w : Option (ℕ × Bool × ℕ)) → length (text_of minus w) ≤ 43
    go minus (Some (m, negative, power)) = omega (
      arith,
      length-append (sign_text minus ++ figures m) (power_text negative power),
      length-append (sign_text minus) (figures m),
      sign_length minus,
      figures_length 19 m,
      power_length negative power,
    )
    go minus None = omega arith

pub kind_length : (symmetric : Bool) → length (kind_text symmetric) ≤ 10
kind_length true = omega arith
kind_length false = omega arith

pub size_length : (rows count : ℕ) → length (size_line rows count) ≤ 63
size_length rows count = omega (
  arith,
  length-append (spaced rows ++ spaced rows ++ figures count) (10 ∷ []),
  length-append (spaced rows ++ spaced rows) (figures count),
  length-append (spaced rows) (spaced rows),
  spaced_length rows,
  figures_length 19 count,
)

line_length : (t : Triplet) → length (entry_line t) ≤ 100
line_length t = omega (
  arith,
  length-append (spaced (t.row + 1) ++ spaced (t.column + 1) ++ value_text t.value) (10 ∷ []),
  length-append (spaced (t.row + 1) ++ spaced (t.column + 1)) (value_text t.value),
  length-append (spaced (t.row + 1)) (spaced (t.column + 1)),
  spaced_length (t.row + 1),
  spaced_length (t.column + 1),
  value_length t.value,
)

lines_length : (l : List Triplet) → length (flat entry_line l) ≤ 100 * length l
unfolding flat
lines_length [] = omega arith
lines_length (t ∷ l) = omega (arith, length-append (entry_line t) (flat entry_line l), line_length t, lines_length l)

pub lines_append : (k l : List Triplet) → flat entry_line (k ++ l) ≡ flat entry_line k ++ flat entry_line l
unfolding flat
lines_append [] l = refl
lines_append (t ∷ k) l = ap (λ (x : List ℕ). entry_line t ++ x) (lines_append k l) ∙ sym (append_assoc (entry_line t) (flat entry_line k) (flat entry_line l))

-- ---- lists one after the other

joined_on : {A : Type 0} (f : ℕ → List A) (k : ℕ) → joined f (k + 1) ≡ joined f k ++ f k
unfolding joined
joined_on f k = ap (joined f) (add-one k)

-- as many elements as a bound that rises with the lists
joined_few : {A : Type 0} (f : ℕ → List A) (o : ℕ → ℕ) (n : ℕ) → ((k : ℕ) → k < n → length (f k) + o k ≤ o (k + 1)) → length (joined f n) ≤ o n
unfolding joined
joined_few f o zero h = omega arith
joined_few f o (suc n) h =
    let z = rw (add-one n) at (h n (omega arith)) in
    omega (arith, length-append (joined f n) (f n), joined_few f o n (λ k g. h k (omega arith)))

-- n is how many elements the first k of `total` lists have.
pub record CountTo (f : ℕ → List Triplet) (total k n : ℕ) : Type 0 where
  pub within : k ≤ total
  pub is : n ≡ length (joined f k)

pub count_start : (f : ℕ → List Triplet) (total : ℕ) → CountTo f total 0 0
unfolding joined
count_start f total = record { within = omega arith; is = refl }

pub count_on : {f : ℕ → List Triplet} {total k n x : ℕ} → CountTo f total k n → k < total → x ≡ length (f k) → CountTo f total (k + 1) (n + x)
count_on {f} {total} {k} a h e = record { within = omega arith; is = omega (arith, a.is, ap length (joined_on f k), length-append (joined f k) (f k)) }

pub count_end : {f : ℕ → List Triplet} {total k n : ℕ} → CountTo f total k n → total ≤ k → n ≡ length (joined f total)
count_end {f} {total} {k} a h = let z : k ≡ total = omega (arith, a.within) in a.is ∙ ap (λ (i : ℕ). length (joined f i)) z

-- The lines of the first k of `total` lists are laid.
pub record LaidTo (f : ℕ → List Triplet) (total k at : ℕ) (F G : List ℕ) (r : ℕ) : Type 0 where
  pub within : k ≤ total
  pub laid : Laid (flat entry_line (joined f k)) at F G r

pub laid_start : (f : ℕ → List Triplet) (total : ℕ) {at : ℕ} {F : List ℕ} → LaidTo f total 0 at F F at
unfolding joined flat
laid_start f total = record { within = omega arith; laid = laid_none }

pub laid_step : {f : ℕ → List Triplet} {total k at r s : ℕ} {F G H : List ℕ} → LaidTo f total k at F G r → k < total → Laid (flat entry_line (f k)) r G H s
    → LaidTo f total (k + 1) at F H s
laid_step {f} {total} {k} a h b = record {
  within = omega arith;
  laid = laid_as (ap (flat entry_line) (joined_on f k) ∙ lines_append (joined f k) (f k)) (laid_on a.laid b);
}

pub laid_end : {f : ℕ → List Triplet} {total k at r : ℕ} {F G : List ℕ} → LaidTo f total k at F G r → total ≤ k → Laid (flat entry_line (joined f total)) at F G r
laid_end {f} {total} {k} a h = let z : k ≡ total = omega (arith, a.within) in laid_as (ap (λ (i : ℕ). flat entry_line (joined f i)) (sym z)) a.laid

-- ---- one entry

module _ (symmetric : Bool) (m : Matrix) (r e : ℕ) where
  pub written_few : length (written_at symmetric m r e) ≤ 1
  unfolding written_at
  written_few = go (is_written symmetric r (idx m.columns e))
    where
      go : (b : Bool) → length (cond b (triplet_at m r e ∷ []) []) ≤ 1
      go true = omega arith
      go false = omega arith

  pub written_one : {x : ℕ} → x ≡ length (written_at symmetric m r e) → x ≤ 1
  written_one i = omega (arith, written_few)

  module _ {c : ℕ} {t : Bool} (w : WordOf m.columns e c) (i : t ≡ is_written symmetric r c) where
    yes : t ≡ true → is_written symmetric r (idx m.columns e) ≡ true
    yes h = ap (is_written symmetric r) (sym w.is) ∙ sym i ∙ h

    no : t ≡ false → is_written symmetric r (idx m.columns e) ≡ false
    no h = ap (is_written symmetric r) (sym w.is) ∙ sym i ∙ h

    pub counted : {n : ℕ} → n ≡ bool_byte t → n ≡ length (written_at symmetric m r e)
    unfolding written_at
    counted h = h ∙ ap bool_byte (i ∙ ap (is_written symmetric r) w.is) ∙ as_length (is_written symmetric r (idx m.columns e))
      where
        as_length : (b : Bool) → bool_byte b ≡ length (cond b (triplet_at m r e ∷ []) [])
        as_length true = refl
        as_length false = refl

    pub written_none : {at : ℕ} {F : List ℕ} → not t ≡ true → Laid (flat entry_line (written_at symmetric m r e)) at F F at
    unfolding written_at flat
    written_none h = let z = no (not-true t h) in laid_as (ap (λ (b : Bool). flat entry_line (cond b (triplet_at m r e ∷ []) [])) z) laid_none

    pub written_some : {at n : ℕ} {F G : List ℕ} {v : Float} → not t ≡ false → v ≡ Rattle.store.specs.Region.at m.values e
        → Laid (entry_line (record { row = r; column = c; value = v })) at F G n → Laid (flat entry_line (written_at symmetric m r e)) at F G n
    unfolding written_at flat
    written_some {v = v} h q a =
        let z = yes (not-false t h) in
        laid_as
        (ap (λ (b : Bool). flat entry_line (cond b (triplet_at m r e ∷ []) [])) z
        ∙ append-nil (entry_line (triplet_at m r e))
        ∙ ap (λ (x : ℕ). entry_line (record { row = r; column = x; value = Rattle.store.specs.Region.at m.values e })) (sym w.is)
        ∙ ap (λ (x : Float). entry_line (record { row = r; column = c; value = x })) (sym q))
        a

-- ---- a row

module _ (symmetric : Bool) (m : Matrix) (r : ℕ) where
  -- no more than its entries
  first_few : (n : ℕ) → length (joined (written_from symmetric m r) n) ≤ n
  unfolding written_from
  first_few n = joined_few (written_from symmetric m r) (λ k. k) n (λ k h. omega (arith, written_few symmetric m r (idx m.offsets r + k)))

  row_few : length (row_triplets symmetric m r) ≤ row_length m r
  unfolding row_triplets written_from
  row_few = first_few (row_length m r)

  pub row_count_few : {total k n : ℕ} → CountTo (written_from symmetric m r) total k n → n ≤ k
  row_count_few {total} {k} a = omega (arith, a.is, first_few k)

  pub row_early : {total k at n : ℕ} {F G : List ℕ} → LaidTo (written_from symmetric m r) total k at F G n → n ≤ at + 100 * k
  row_early {total} {k} a = omega (arith, a.laid.next, lines_length (joined (written_from symmetric m r) k), first_few k)

  module _ {s : RowRange} (w : RangeIs m r s) where
    total_is : s.last - s.first ≡ row_length m r
    total_is = rw (w.first_is, w.last_is)

    -- entry e of the range is the entry of the row at its distance from the first
    entry_is : {e : ℕ} → s.first ≤ e → written_at symmetric m r e ≡ written_from symmetric m r (e - idx m.offsets r)
    unfolding written_from
    entry_is {e} g = ap (written_at symmetric m r) (omega (arith, w.first_is))

    pub row_count_start : CountTo (written_from symmetric m r) (row_length m r) (s.first - idx m.offsets r) 0
    row_count_start = let none : s.first - idx m.offsets r ≡ 0 = omega (arith, w.first_is) in rw none (count_start (written_from symmetric m r) (row_length m r))

    pub row_count_on : {e n x : ℕ} → CountTo (written_from symmetric m r) (row_length m r) (e - idx m.offsets r) n → s.first ≤ e → e < s.last
        → x ≡ length (written_at symmetric m r e) → CountTo (written_from symmetric m r) (row_length m r) (e + 1 - idx m.offsets r) (n + x)
    row_count_on {e} a g h i =
        let next : e + 1 - idx m.offsets r ≡ e - idx m.offsets r + 1 = omega (arith, w.first_is) in
        rw next (count_on a (omega (arith, total_is)) (i ∙ ap (λ (l : List Triplet). length l) (entry_is g)))

    pub row_count_end : {e n : ℕ} → CountTo (written_from symmetric m r) (row_length m r) (e - idx m.offsets r) n → s.last ≤ e → n ≡ length (row_triplets symmetric m r)
    unfolding row_triplets written_from
    row_count_end a h = count_end a (omega (arith, total_is))

    pub row_laid_start : {at : ℕ} {F : List ℕ} → LaidTo (written_from symmetric m r) (row_length m r) (s.first - idx m.offsets r) at F F at
    row_laid_start = let none : s.first - idx m.offsets r ≡ 0 = omega (arith, w.first_is) in rw none (laid_start (written_from symmetric m r) (row_length m r))

    pub row_laid_on : {e at n o : ℕ} {F G H : List ℕ} → LaidTo (written_from symmetric m r) (row_length m r) (e - idx m.offsets r) at F G n → s.first ≤ e → e < s.last
        → Laid (flat entry_line (written_at symmetric m r e)) n G H o → LaidTo (written_from symmetric m r) (row_length m r) (e + 1 - idx m.offsets r) at F H o
    row_laid_on {e} a g h b =
        let next : e + 1 - idx m.offsets r ≡ e - idx m.offsets r + 1 = omega (arith, w.first_is) in
        rw next (laid_step a (omega (arith, total_is)) (laid_as (ap (flat entry_line) (sym (entry_is g))) b))

    pub row_laid_end : {e at n : ℕ} {F G : List ℕ} → LaidTo (written_from symmetric m r) (row_length m r) (e - idx m.offsets r) at F G n → s.last ≤ e
        → Laid (flat entry_line (row_triplets symmetric m r)) at F G n
    unfolding row_triplets written_from
    row_laid_end a h = laid_end a (omega (arith, total_is))

-- ---- all rows

module _ (symmetric : Bool) (m : Matrix) (i : RowsIn m) where
  rows_few : (n : ℕ) → n ≤ m.rows → length (joined (row_triplets symmetric m) n) ≤ idx m.offsets n
  rows_few n h = joined_few (row_triplets symmetric m) (λ k. idx m.offsets k) n (λ k g. omega (arith, row_few symmetric m k, i.starts k (omega arith)))

  pub rows_fit : {r n x : ℕ} → CountTo (row_triplets symmetric m) m.rows r n → r < m.rows → x ≡ length (row_triplets symmetric m r) → n + x ≤ m.entries
  rows_fit {r} a h e = omega (arith, a.is, rows_few r a.within, row_few symmetric m r, i.starts r h, i.ends r h)

  pub rows_early : {r at n : ℕ} {F G : List ℕ} → LaidTo (row_triplets symmetric m) m.rows r at F G n → r < m.rows → n ≤ at + 100 * m.entries
  rows_early {r} a h = omega (arith, a.laid.next, lines_length (joined (row_triplets symmetric m) r), rows_few r a.within, i.starts r h, i.ends r h)

-- ---- the file

pub file_laid : (symmetric : Bool) (m : Matrix) {a c d n count : ℕ} {F G H I J : List ℕ} → count ≡ length (triplets symmetric m)
    → Laid header_text 0 F G a → Laid (kind_text symmetric) a G H c → Laid (size_line m.rows count) c H I d → Laid (flat entry_line (triplets symmetric m)) d I J n
    → Laid (file_text symmetric m) 0 F J n
file_laid symmetric m e p q r s = laid_on (laid_on (laid_on p q) (laid_as (ap (size_line m.rows) (sym e)) r)) s
