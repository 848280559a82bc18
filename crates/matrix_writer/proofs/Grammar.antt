-- A written text is in the grammar: its lines, the lines that count, and their fields. Assumes nothing.
use mathlib.Core.Path.{◌≡◌, refl, sym, ap, ◌∙◌}
use mathlib.Core.Bool.{Bool, true, false, cond, ◌&&◌, ◌||◌, false≢true}
use mathlib.Core.List.{List, [], ◌∷◌, ◌++◌, append_assoc, map}
use Prim.Native.Nat.{ℕ, zero, suc, ◌+◌, ◌-◌, ◌≤◌, ◌<◌}
use native.Mathlib.Omega.{arith}
use lib.Dec.{eqb, ltb, leb}
use lib.Ieee.{Float}
use lib.ListN.{length, get_or, take, length-append}
use lib.Seq.{take_all}
use borrow.Author.Tests.{lt-ltb, ltb-true, leb-true, ne_eqb}
use Rattle.std.specs.Prelude.{Option, Some, None}
use Rattle.store.proofs.store.Each.{both_l, both_r}
use Rattle.decimal.specs.Decimal.{is_minus, magnitude_of, write_of}
use Rattle.decimal_text.specs.Field.{is_digit, all_digits}
use Rattle.decimal_text.specs.Figures.{figures, sign_text, power_text, number_text, text_of, value_text}
use Rattle.decimal_text.proofs.Trip.{figures_number}
use Rattle.matrix_market.specs.Lines.{grown, pieces_of, kept, is_some, fields_of, return_of, without_return, lines_of, is_data}
use Rattle.record_format.specs.Bytes.{flat}
use Rattle.record_format.specs.Format.{Matrix}
use Rattle.matrix_writer.specs.Text.{Triplet, header_text, kind_text, spaced, entry_line, triplets, file_text}
use Rattle.matrix_writer.specs.Writing.{is_found, writable}
use Rattle.matrix_writer.specs.Theorem.{header_line, size_text, entry_text}

-- ---- bytes above a bound

-- whether every byte is above n
unfoldable all_above : ℕ → List ℕ → Bool
all_above n [] = true
all_above n (x ∷ l) = ltb n x && all_above n l

above_append : (n : ℕ) (k l : List ℕ) → all_above n k ≡ true → all_above n l ≡ true → all_above n (k ++ l) ≡ true
unfolding all_above
above_append n [] l p q = q
above_append n (x ∷ k) l p q =
    let a : ltb n x ≡ true = both_l (ltb n x) (all_above n k) p in
    rw a (above_append n k l (both_r (ltb n x) (all_above n k) p) q)

above_less : (n o : ℕ) → n ≤ o → (l : List ℕ) → all_above o l ≡ true → all_above n l ≡ true
unfolding all_above
above_less n o h [] p = refl
above_less n o h (x ∷ l) p =
    let a : o < x = ltb-true o x (both_l (ltb o x) (all_above o l) p) in
    let b : ltb n x ≡ true = lt-ltb n x (omega arith) in
    rw b (above_less n o h l (both_r (ltb o x) (all_above o l) p))

above_at_lem : (n : ℕ) (l : List ℕ) (i : ℕ) → all_above n l ≡ true → i < length l → n < get_or l i 0
unfolding all_above
above_at_lem n [] i p h = absurd (omega arith)
above_at_lem n (x ∷ l) zero p h = ltb-true n x (both_l (ltb n x) (all_above n l) p)
above_at_lem n (x ∷ l) (suc i) p h = above_at_lem n l i (both_r (ltb n x) (all_above n l) p) (omega arith)

digits_above : (l : List ℕ) → all_digits l ≡ true → all_above 47 l ≡ true
unfolding all_above all_digits
digits_above [] p = refl
digits_above (x ∷ l) p =
    let d : is_digit x ≡ true = both_l (is_digit x) (all_digits l) p in
    let a : 48 ≤ x = leb-true 48 x (both_l (leb 48 x) (leb x 57) d) in
    let b : ltb 47 x ≡ true = lt-ltb 47 x (omega arith) in
    rw b (digits_above l (both_r (is_digit x) (all_digits l) p))

figures_above : (n : ℕ) → all_above 47 (figures n) ≡ true
figures_above n = digits_above (figures n) (both_r (ltb 0 (length (figures n))) (all_digits (figures n)) (figures_number n))

figures_some : (n : ℕ) → is_some (figures n) ≡ true
figures_some n = both_l (ltb 0 (length (figures n))) (all_digits (figures n)) (figures_number n)

-- digits, signs and the e of a power are above a space
sign_above : (minus : Bool) → all_above 32 (sign_text minus) ≡ true
unfolding all_above
sign_above true = refl
sign_above false = refl

fields_above : (n : ℕ) → all_above 32 (figures n) ≡ true
fields_above n = above_less 32 47 (omega arith) (figures n) (figures_above n)

power_above : (negative : Bool) (power : ℕ) → all_above 32 (power_text negative power) ≡ true
unfolding all_above
power_above negative power = go (eqb power 0)
  where
    go : (b : Bool) → all_above 32 (cond b [] (101 ∷ sign_text negative ++ figures power)) ≡ true
    go true = refl
    go false = above_append 32 (sign_text negative) (figures power) (sign_above negative) (fields_above power)

value_above : (v : Float) → all_above 32 (value_text v) ≡ true
unfolding all_above
value_above v = go (is_minus v) (write_of (magnitude_of v))
  where
    go : (minus : Bool) (w : Option (ℕ × Bool × ℕ)) → all_above 32 (text_of minus w) ≡ true
    go minus (Some (m, negative, power)) =
        above_append 32 (sign_text minus ++ figures m) (power_text negative power) (above_append 32 (sign_text minus) (figures m) (sign_above minus) (fields_above m)) (power_above negative power)
    go minus None = refl

value_some : (v : Float) → writable v ≡ true → is_some (value_text v) ≡ true
value_some v = go (is_minus v) (write_of (magnitude_of v))
  where
    go : (minus : Bool) (w : Option (ℕ × Bool × ℕ)) → is_found w ≡ true → is_some (text_of minus w) ≡ true
    go minus (Some (m, negative, power)) e = lt-ltb 0 (length (number_text minus m negative power)) (omega (
      arith,
      length-append (sign_text minus ++ figures m) (power_text negative power),
      length-append (sign_text minus) (figures m),
      ltb-true 0 (length (figures m)) (figures_some m),
    ))
    go minus None e = absurd (false≢true e)

-- ---- pieces

module _ (a b n : ℕ) (p : a ≤ n) (q : b ≤ n) where
  -- a byte above the bound cuts nothing
  no_cut : (x : ℕ) → ltb n x ≡ true → (eqb x a || eqb x b) ≡ false
  no_cut x h =
      let g = ltb-true n x h in
      let c : eqb x a ≡ false = ne_eqb x a (λ (e : x ≡ a). omega arith) in
      let d : eqb x b ≡ false = ne_eqb x b (λ (e : x ≡ b). omega arith) in
      rw (c, d)

  one_piece : (l : List ℕ) → all_above n l ≡ true → pieces_of a b l ≡ l ∷ []
  unfolding pieces_of all_above
  one_piece [] h = refl
  one_piece (x ∷ l) h =
      let c = no_cut x (both_l (ltb n x) (all_above n l) h) in
      rw c (ap (grown x) (one_piece l (both_r (ltb n x) (all_above n l) h)))

  cut_piece : (l : List ℕ) (x : ℕ) (rest : List ℕ) → all_above n l ≡ true → (eqb x a || eqb x b) ≡ true → pieces_of a b (l ++ (x ∷ rest)) ≡ l ∷ pieces_of a b rest
  unfolding pieces_of all_above
  cut_piece [] x rest h e = rw e
  cut_piece (y ∷ l) x rest h e =
      let c = no_cut y (both_l (ltb n y) (all_above n l) h) in
      rw c (ap (grown y) (cut_piece l x rest (both_r (ltb n y) (all_above n l) h) e))

-- ---- lines

-- a line that does not end in a carriage return is whole without one
return_no : (l : List ℕ) → (get_or l (length l - 1) 0 ≡ 13 → ⊥) → length l ≡ return_of l
return_no l h = let e : ◌≡◌ {A = ℕ} (cond (eqb (get_or l (length l - 1) 0) 13) 1 0) 0 = ap (λ (b : Bool). cond {A = ℕ} b 1 0) (ne_eqb (get_or l (length l - 1) 0) 13 h) in omega arith

-- a line without a carriage return stays
no_return : (l : List ℕ) → all_above 13 l ≡ true → without_return l ≡ l
no_return l h = ap (λ (k : ℕ). take k l) (sym (return_no l last)) ∙ take_all (length l) l (omega arith)
  where
    end : (l : List ℕ) → all_above 13 l ≡ true → get_or l (length l - 1) 0 ≡ 13 → ⊥
    end [] h e = omega arith
    end (x ∷ l) h e = let z = above_at_lem 13 (x ∷ l) (suc (length l) - 1) h (omega arith) in omega arith

    last : get_or l (length l - 1) 0 ≡ 13 → ⊥
    last = end l h

-- a line, its feed, and the rest
feed : (l rest : List ℕ) → all_above 13 l ≡ true → lines_of (l ++ (10 ∷ rest)) ≡ l ∷ lines_of rest
feed l rest h =
    ap (map without_return) (cut_piece 10 10 13 (omega arith) (omega arith) l 10 rest h refl)
    ∙ ap (λ (x : List ℕ). x ∷ lines_of rest) (no_return l h)

spaced_above : (n : ℕ) → all_above 13 (spaced n) ≡ true
unfolding all_above
spaced_above n = above_append 13 (figures n) (32 ∷ []) (above_less 13 47 (omega arith) (figures n) (figures_above n)) refl

size_above : (rows count : ℕ) → all_above 13 (size_text rows count) ≡ true
size_above rows count =
    above_append 13 (spaced rows ++ spaced rows) (figures count) (above_append 13 (spaced rows) (spaced rows) (spaced_above rows) (spaced_above rows))
    (above_less 13 47 (omega arith) (figures count) (figures_above count))

entry_above : (t : Triplet) → all_above 13 (entry_text t) ≡ true
entry_above t =
    above_append 13 (spaced (t.row + 1) ++ spaced (t.column + 1)) (value_text t.value)
    (above_append 13 (spaced (t.row + 1)) (spaced (t.column + 1)) (spaced_above (t.row + 1)) (spaced_above (t.column + 1)))
    (above_less 13 32 (omega arith) (value_text t.value) (value_above t.value))

header_above : (symmetric : Bool) → all_above 13 (header_line symmetric) ≡ true
unfolding all_above
header_above true = refl
header_above false = refl

entry_lines : (l : List Triplet) → lines_of (flat entry_line l) ≡ map entry_text l ++ ([] ∷ [])
unfolding flat pieces_of
entry_lines [] = refl
entry_lines (t ∷ l) =
    ap lines_of (append_assoc (entry_text t) (10 ∷ []) (flat entry_line l))
    ∙ feed (entry_text t) (flat entry_line l) (entry_above t)
    ∙ ap (λ (x : List (List ℕ)). entry_text t ∷ x) (entry_lines l)

parts : (h s e : List ℕ) → ((h ++ (10 ∷ [])) ++ (s ++ (10 ∷ []))) ++ e ≡ h ++ (10 ∷ (s ++ (10 ∷ e)))
parts h s e = simp append_assoc

header_parts : (symmetric : Bool) → header_text ++ kind_text symmetric ≡ header_line symmetric ++ (10 ∷ [])
header_parts true = refl
header_parts false = refl

-- The lines of a written text: the header, the sizes, the entries, and nothing behind the last line feed.
pub lines_written : (symmetric : Bool) (m : Matrix)
    → lines_of (file_text symmetric m) ≡ header_line symmetric ∷ size_text m.rows (length (triplets symmetric m)) ∷ map entry_text (triplets symmetric m) ++ ([] ∷ [])
lines_written symmetric m =
    let h = header_line symmetric in
    let s = size_text m.rows (length (triplets symmetric m)) in
    let e = flat entry_line (triplets symmetric m) in
    ap (λ (x : List ℕ). lines_of ((x ++ (s ++ (10 ∷ []))) ++ e)) (header_parts symmetric)
    ∙ ap lines_of (parts h s e)
    ∙ feed h (s ++ (10 ∷ e)) (header_above symmetric)
    ∙ ap (λ (x : List (List ℕ)). h ∷ x) (feed s e (size_above m.rows (length (triplets symmetric m))) ∙ ap (λ (x : List (List ℕ)). s ∷ x) (entry_lines (triplets symmetric m)))

-- ---- fields

three : (a b c : List ℕ) → all_above 32 a ≡ true → all_above 32 b ≡ true → all_above 32 c ≡ true → is_some a ≡ true → is_some b ≡ true → is_some c ≡ true
    → fields_of ((a ++ (32 ∷ [])) ++ (b ++ (32 ∷ [])) ++ c) ≡ a ∷ b ∷ c ∷ []
unfolding kept
three a b c p q r x y z =
    ap fields_of shape
    ∙ ap (kept is_some) (cut_piece 32 9 32 (omega arith) (omega arith) a 32 (b ++ (32 ∷ c)) p refl)
    ∙ ap (λ (k : List (List ℕ)). kept is_some (a ∷ k)) (cut_piece 32 9 32 (omega arith) (omega arith) b 32 c q refl)
    ∙ ap (λ (k : List (List ℕ)). kept is_some (a ∷ b ∷ k)) (one_piece 32 9 32 (omega arith) (omega arith) c r)
    ∙ rw (x, y, z)
  where
    shape : (a ++ (32 ∷ [])) ++ (b ++ (32 ∷ [])) ++ c ≡ a ++ (32 ∷ (b ++ (32 ∷ c)))
    shape = simp append_assoc

-- The fields of the size line.
pub size_fields : (rows count : ℕ) → fields_of (size_text rows count) ≡ figures rows ∷ figures rows ∷ figures count ∷ []
size_fields rows count =
    three (figures rows) (figures rows) (figures count) (fields_above rows) (fields_above rows) (fields_above count)
    (figures_some rows) (figures_some rows) (figures_some count)

-- The fields of an entry whose value can be written.
pub entry_fields : (t : Triplet) → writable t.value ≡ true → fields_of (entry_text t) ≡ figures (t.row + 1) ∷ figures (t.column + 1) ∷ value_text t.value ∷ []
entry_fields t w =
    three (figures (t.row + 1)) (figures (t.column + 1)) (value_text t.value) (fields_above (t.row + 1)) (fields_above (t.column + 1)) (value_above t.value)
    (figures_some (t.row + 1)) (figures_some (t.column + 1)) (value_some t.value w)

-- ---- lines that count

-- the first byte of a number is no %
first_byte : (n : ℕ) (l : List ℕ) → eqb (get_or (figures n ++ l) 0 0) 37 ≡ false
unfolding all_above
first_byte n l = go (figures n) (figures_above n) (ltb-true 0 (length (figures n)) (figures_some n))
  where
    go : (k : List ℕ) → all_above 47 k ≡ true → 0 < length k → eqb (get_or (k ++ l) 0 0) 37 ≡ false
    go [] p h = absurd (omega arith)
    go (x ∷ k) p h = let z = ltb-true 47 x (both_l (ltb 47 x) (all_above 47 k) p) in ne_eqb x 37 (λ (e : x ≡ 37). omega arith)

counts : (n : ℕ) (l : List ℕ) {a b c : List ℕ} → fields_of (figures n ++ l) ≡ a ∷ b ∷ c ∷ [] → is_data (figures n ++ l) ≡ true
counts n l e = rw (e, first_byte n l)

pub size_counts : (rows count : ℕ) → is_data (size_text rows count) ≡ true
size_counts rows count =
    let z : size_text rows count ≡ figures rows ++ ((32 ∷ []) ++ (spaced rows ++ figures count)) = simp append_assoc in
    ap is_data z ∙ counts rows ((32 ∷ []) ++ (spaced rows ++ figures count)) (ap fields_of (sym z) ∙ size_fields rows count)

pub entry_counts : (t : Triplet) → writable t.value ≡ true → is_data (entry_text t) ≡ true
entry_counts t w =
    let z : entry_text t ≡ figures (t.row + 1) ++ ((32 ∷ []) ++ (spaced (t.column + 1) ++ value_text t.value)) = simp append_assoc in
    ap is_data z ∙ counts (t.row + 1) ((32 ∷ []) ++ (spaced (t.column + 1) ++ value_text t.value)) (ap fields_of (sym z) ∙ entry_fields t w)

pub header_drops : (symmetric : Bool) → is_data (header_line symmetric) ≡ false
unfolding pieces_of kept
header_drops true = refl
header_drops false = refl
