-- The lines of a text that count, one after the other. Assumes nothing.
use mathlib.Core.Path.{◌≡◌, refl, sym, ap, ◌∙◌}
use mathlib.Core.Bool.{Bool, true, false, cond}
use mathlib.Core.List.{List, [], ◌∷◌, map}
use mathlib.Core.Logic.{⊎_elim}
use Prim.Native.Nat.{ℕ, ◌+◌, ◌-◌, ◌≤◌, ◌<◌, min}
use native.Mathlib.Omega.{arith}
use lib.ListN.{length, take, drop, length-drop, drop_of_length-le}
use lib.Seq.{take_all, take-take, drop-drop, length-take-le}
use Rattle.store.proofs.store.Region.{le_or_lt}
use Rattle.decimal_text.specs.Field.{place_of}
use Rattle.decimal_text.proofs.Digits.{place_within, tail_part}
use Rattle.matrix_market.specs.declared.lines.Line.{Line}
use Rattle.matrix_market.specs.Lines.{pieces_of, kept, return_of, without_return, first_of, is_data, data_of}
use Rattle.matrix_market.specs.Walk.{FirstLine, LineAt, NextIs}
use Rattle.matrix_market.proofs.Pieces.{pieces_last, pieces_next}

-- no line is left where the text ends
pub data_none : (t : List ℕ) (at : ℕ) → length t ≤ at → data_of (drop at t) ≡ []
unfolding kept pieces_of
data_none t at h = ap data_of (drop_of_length-le t h)

pub return_within : (l : List ℕ) → return_of l ≤ length l
return_within l = omega arith

module _ (t : List ℕ) (from : ℕ) where
  abbrev rest : List ℕ
  rest = drop from t

  abbrev stop : ℕ
  stop = place_of 10 10 rest

  abbrev line : List ℕ
  line = without_return (take stop rest)

  abbrev next : ℕ
  next = min (from + stop + 1) (length t)

  data_step : from < length t → data_of rest ≡ cond (is_data line) (line ∷ data_of (drop next t)) (data_of (drop next t))
  unfolding kept
  data_step h =
      let n : length rest ≡ length t - from = length-drop from t in
      ⊎_elim
      (λ (g : length rest ≤ stop).
      let a : length t ≤ next = omega (arith, place_within 10 10 rest) in
      let e : take stop rest ≡ rest = take_all stop rest g in
      ap (λ (p : List (List ℕ)). kept is_data (map without_return p)) (pieces_last 10 10 rest g)
      ∙ ap (λ (k : List ℕ). cond (is_data (without_return k)) (without_return k ∷ []) []) (sym e)
      ∙ ap (λ (d : List (List ℕ)). cond (is_data line) (line ∷ d) d) (sym (data_none t next a)))
      (λ (g : stop < length rest).
      let a : from + (stop + 1) ≡ next = omega arith in
      ap (λ (p : List (List ℕ)). kept is_data (map without_return p)) (pieces_next 10 10 rest g)
      ∙ ap (λ (r : List ℕ). cond (is_data line) (line ∷ data_of r) (data_of r)) (drop-drop (stop + 1) from t ∙ ap (λ (k : ℕ). drop k t) a))
      (le_or_lt (length rest) stop)

  -- the line as the code finds it
  pub line_is : (r : Line) → from < length t → r.from ≡ from → r.to ≡ from + return_of (take stop rest) → r.next ≡ next → LineAt t from r
  line_is r h a b d =
      let n : length rest ≡ length t - from = length-drop from t in
      let w : length (take stop rest) ≡ stop = length-take-le stop rest (place_within 10 10 rest) in
      let v : return_of (take stop rest) ≤ stop = omega (arith, return_within (take stop rest)) in
      let m : r.to - from ≡ return_of (take stop rest) = omega arith in
      let e : take (r.to - from) rest ≡ line = ap (λ (k : ℕ). take k rest) m ∙ sym (take-take (return_of (take stop rest)) stop rest v) in
      let x : line ≡ take (r.to - r.from) (drop r.from t) = sym e ∙ ap (λ (k : ℕ). take (r.to - k) (drop k t)) (sym a) in
      record {
        order = omega arith;
        within = omega (arith, place_within 10 10 rest);
        further = omega arith;
        ahead = omega arith;
        some = λ y.
            data_step h ∙ ap (λ (z : Bool). cond z (line ∷ data_of (drop next t)) (data_of (drop next t))) (ap is_data x ∙ y)
            ∙ ap (λ (z : List ℕ). z ∷ data_of (drop next t)) x ∙ ap (λ (k : ℕ). take (r.to - r.from) (drop r.from t) ∷ data_of (drop k t)) (sym d);
        none = λ y.
            data_step h ∙ ap (λ (z : Bool). cond z (line ∷ data_of (drop next t)) (data_of (drop next t))) (ap is_data x ∙ y) ∙ ap (λ (k : ℕ). data_of (drop k t)) (sym d);
      }

-- ---- the search for the next line that counts

pub record SameData (t : List ℕ) (at from : ℕ) : Type 0 where
  pub ahead : at ≤ from
  pub within : from ≤ length t
  pub is : data_of (drop at t) ≡ data_of (drop from t)

pub same_start : (t : List ℕ) (at : ℕ) → at ≤ length t → SameData t at at
same_start t at h = record { ahead = omega arith; within = h; is = refl }

module _ {t : List ℕ} {at from : ℕ} (s : SameData t at from) where
  pub found_here : {r : Line} → LineAt t from r → is_data (take (r.to - r.from) (drop r.from t)) ≡ true → NextIs t at r
  found_here l e = record { order = l.order; within = l.within; further = omega (arith, l.further, s.ahead); ahead = l.ahead; is = s.is ∙ l.some e }

  pub same_on : {r : Line} → LineAt t from r → is_data (take (r.to - r.from) (drop r.from t)) ≡ false → SameData t at r.next
  same_on l e = record { ahead = omega (arith, l.further, s.ahead); within = l.ahead; is = s.is ∙ l.none e }

  pub found_none : length t ≤ from → data_of (drop at t) ≡ []
  found_none h = s.is ∙ data_none t from h

-- ---- what the code finds of a line

module _ (t : List ℕ) (from : ℕ) (h : from < length t) {n : ℕ} (e : n ≡ place_of 10 10 (take (length t - from) (drop from t))) where
  -- where the line feed stands, or the end
  pub stop_found : (n ≡ place_of 10 10 (drop from t)) × (from + n ≤ length t)
  stop_found =
      let f : n ≡ place_of 10 10 (drop from t) = e ∙ ap (place_of 10 10) (tail_part from t) in
      (f, omega (arith, f, place_within 10 10 (drop from t), length-drop from t))

  -- where a carriage return before it stands
  pub to_found : {m : ℕ} → m ≡ return_of (take (from + n - from) (drop from t)) → (from + m ≡ from + return_of (take (place_of 10 10 (drop from t)) (drop from t))) × (from + m ≤ from + n)
  to_found {m} g =
      let f = stop_found.0 in
      let k : from + n - from ≡ place_of 10 10 (drop from t) = omega (arith, f) in
      let p : m ≡ return_of (take (place_of 10 10 (drop from t)) (drop from t)) = g ∙ ap (λ (i : ℕ). return_of (take i (drop from t))) k in
      (ap (λ (i : ℕ). from + i) p, omega (arith, p, f, return_within (take (place_of 10 10 (drop from t)) (drop from t)), length-take-le (place_of 10 10 (drop from t)) (drop from t) (place_within 10 10 (drop from t))))

-- ---- the first line

pub first_is : (t : List ℕ) {m n : ℕ} → m ≡ place_of 10 10 t → n ≡ return_of (take m t) → FirstLine t n
first_is t {m} {n} a b =
    let w : m ≤ length t = omega (arith, place_within 10 10 t) in
    let v : length (take m t) ≡ m = length-take-le m t w in
    let u : n ≤ m = omega (arith, return_within (take m t)) in
    let e : take n t ≡ without_return (take m t) = sym (take-take n m t u) ∙ ap (λ (k : ℕ). take k (take m t)) b in
    record {
      within = omega arith;
      is =
          e
          ∙ ⊎_elim
          (λ (g : length t ≤ place_of 10 10 t).
          let k : length t ≤ m = omega arith in
          ap without_return (take_all m t k) ∙ sym (ap (λ (p : List (List ℕ)). first_of (map without_return p)) (pieces_last 10 10 t g)))
          (λ (g : place_of 10 10 t < length t).
          ap (λ (k : ℕ). without_return (take k t)) a ∙ sym (ap (λ (p : List (List ℕ)). first_of (map without_return p)) (pieces_next 10 10 t g)))
          (le_or_lt (length t) (place_of 10 10 t));
    }
