-- Text that is written piece after piece, and the digits of a number. Assumes nothing.
use mathlib.Core.Path.{◌≡◌, refl, sym, ap, ◌∙◌, subst}
use mathlib.Core.Bool.{Bool, true, false, cond}
use mathlib.Core.List.{List, [], ◌∷◌, ◌++◌, append_assoc}
use Prim.Native.Nat.{ℕ, zero, suc, ◌+◌, ◌*◌, ◌/◌, ◌%◌, ◌^◌, ◌≤◌, ◌<◌}
use native.Mathlib.Nat.{zero-add, suc-add}
use native.Mathlib.Omega.{arith}
use lib.Dec.{ltb}
use lib.ListN.{length, set, length-append}
use lib.Seq.{set_out}
use lib.Ieee.{Float}
use borrow.Author.Tests.{lt-ltb, le-ltb, eq-eqb, ne_eqb}
use Rattle.store.specs.Region.{lay, splice}
use Rattle.store.proofs.store.Region.{splice_nil}
use Rattle.std.specs.Prelude.{Option, None}
use Rattle.decimal.specs.Decimal.{is_minus, magnitude_of, write_of}
use Rattle.decimal_text.specs.Figures.{figures_of, figures, sign_text, power_text, number_text, text_of}
use Rattle.decimal_text.specs.Contract.{Laid, placed_of, PlacedValue}

-- ---- one text behind another

lay_append : (u v F : List ℕ) → splice (length u) v (lay u F) ≡ lay (u ++ v) F
unfolding splice lay
lay_append [] v F = refl
lay_append (x ∷ u) v [] = refl
lay_append (x ∷ u) v (y ∷ F) = ap (λ (l : List ℕ). x ∷ l) (lay_append u v F)

splice_append : (b : ℕ) (u v F : List ℕ) → splice (b + length u) v (splice b u F) ≡ splice b (u ++ v) F
unfolding splice
splice_append zero u v F = ap (λ (k : ℕ). splice k v (lay u F)) (zero-add (length u)) ∙ lay_append u v F
splice_append (suc b) u v [] = ap (λ (k : ℕ). splice k v []) (suc-add b (length u))
splice_append (suc b) u v (y ∷ F) = ap (λ (k : ℕ). splice k v (y ∷ splice b u F)) (suc-add b (length u)) ∙ ap (λ (l : List ℕ). y ∷ l) (splice_append b u v F)

set_splice_one : (b : ℕ) (x : ℕ) (F : List ℕ) → set F b x ≡ splice b (x ∷ []) F
unfolding splice lay
set_splice_one zero x [] = refl
set_splice_one zero x (y ∷ F) = refl
set_splice_one (suc b) x [] = refl
set_splice_one (suc b) x (y ∷ F) = ap (λ (l : List ℕ). y ∷ l) (set_splice_one b x F)

module _ {at : ℕ} {F : List ℕ} where
  -- nothing is written
  pub laid_none : Laid [] at F F at
  laid_none = record { is = sym (splice_nil at F); next = omega arith }

  pub laid_byte : (b : ℕ) → Laid (b ∷ []) at F (set F at b) (at + 1)
  laid_byte b = record { is = set_splice_one at b F; next = refl }

  pub laid_past : (b : ℕ) → length F ≤ at → Laid (b ∷ []) at F F (at + 1)
  laid_past b h = record { is = sym (set_out F at b h) ∙ set_splice_one at b F; next = refl }

  -- one text behind another
  pub laid_on : {u v G H : List ℕ} {k r : ℕ} → Laid u at F G k → Laid v k G H r → Laid (u ++ v) at F H r
  laid_on {u} {v} {G} {H} {k} {r} a b = record {
    is = b.is ∙ ap (λ (i : ℕ). splice i v G) a.next ∙ ap (splice (at + length u) v) a.is ∙ splice_append at u v F;
    next = omega (arith, a.next, b.next, length-append u v);
  }

-- the same text, said another way
pub laid_as : {u v : List ℕ} {at r : ℕ} {F G : List ℕ} → v ≡ u → Laid u at F G r → Laid v at F G r
laid_as {u} {v} {at} {r} {F} {G} e a = subst (λ (t : List ℕ). Laid t at F G r) (sym e) a

-- ---- the digits of a number

-- more room than digits changes nothing
figures_more : (k n : ℕ) → n < 10 ^ (k + 1) → figures_of (suc k) n ≡ figures_of k n
unfolding figures_of
figures_more zero n h =
    let g : n < 10 = omega (arith, h) in
    ap (λ (b : Bool). cond b ((n + 48) ∷ []) (figures_of 0 (n / 10) ++ ((n % 10 + 48) ∷ []))) (lt-ltb n 10 g) ∙ ap (λ (i : ℕ). (i + 48) ∷ []) (omega arith)
figures_more (suc k) n h = ap (λ (l : List ℕ). cond (ltb n 10) ((n + 48) ∷ []) (l ++ ((n % 10 + 48) ∷ []))) (figures_more k (n / 10) (fewer k n h))
  where
    fewer : (k n : ℕ) → n < 10 ^ (suc k + 1) → n / 10 < 10 ^ (k + 1)
    fewer k n h = omega (arith, ten_more k, h)
      where
        ten_more : (k : ℕ) → 10 ^ (suc k + 1) ≡ 10 * 10 ^ (k + 1)
        ten_more k = ap (λ (i : ℕ). 10 ^ i) (suc-add k 1) ∙ omega arith

pub figures_one : (n : ℕ) → n < 10 → figures n ≡ (n + 48) ∷ []
unfolding figures_of
figures_one n h = ap (λ (b : Bool). cond b ((n + 48) ∷ []) (figures_of 18 (n / 10) ++ ((n % 10 + 48) ∷ []))) (lt-ltb n 10 h)

pub figures_on : (n : ℕ) → 10 ≤ n → n < 10 ^ 20 → figures n ≡ figures (n / 10) ++ ((n % 10 + 48) ∷ [])
unfolding figures_of
figures_on n h g =
    let d : n / 10 < 10 ^ 19 = omega arith in
    ap (λ (b : Bool). cond b ((n + 48) ∷ []) (figures_of 18 (n / 10) ++ ((n % 10 + 48) ∷ []))) (le-ltb n 10 h)
    ∙ ap (λ (l : List ℕ). l ++ ((n % 10 + 48) ∷ [])) (sym (figures_more 18 (n / 10) d))

pub figures_length : (k n : ℕ) → length (figures_of k n) ≤ k + 1
unfolding figures_of
figures_length zero n = omega arith
figures_length (suc k) n = go (ltb n 10) (figures_length k (n / 10))
  where
    go : (b : Bool) → length (figures_of k (n / 10)) ≤ k + 1 → length (cond b ((n + 48) ∷ []) (figures_of k (n / 10) ++ ((n % 10 + 48) ∷ []))) ≤ suc k + 1
    go true h = omega arith
    go false h = omega (arith, length-append (figures_of k (n / 10)) ((n % 10 + 48) ∷ []))

pub number_one : {at r b : ℕ} {F G : List ℕ} (n : ℕ) → n < 10 → b ≡ n + 48 → Laid (b ∷ []) at F G r → Laid (figures n) at F G r
number_one n h e a = laid_as (figures_one n h ∙ ap (λ (x : ℕ). x ∷ []) (sym e)) a

pub number_more : {at k r b : ℕ} {F G H : List ℕ} (n : ℕ) → 10 ≤ n → n < 2 ^ 64 → Laid (figures (n / 10)) at F G k → b ≡ n % 10 + 48 → Laid (b ∷ []) k G H r → Laid (figures n) at F H r
number_more n h g a e b =
    let f : n < 10 ^ 20 = omega arith in
    laid_as (figures_on n h f ∙ ap (λ (x : ℕ). figures (n / 10) ++ (x ∷ [])) (sym e)) (laid_on a b)

-- ---- the writing of a value

pub sign_on : {at r : ℕ} {F G : List ℕ} {minus : Bool} → minus ≡ true → Laid (45 ∷ []) at F G r → Laid (sign_text minus) at F G r
sign_on {minus = minus} e a = laid_as (ap sign_text e) a

pub sign_off : {at : ℕ} {F : List ℕ} {minus : Bool} → minus ≡ false → Laid (sign_text minus) at F F at
sign_off e = laid_as (ap sign_text e) laid_none

pub power_off : {at : ℕ} {F : List ℕ} (negative : Bool) (power : ℕ) → power ≡ 0 → Laid (power_text negative power) at F F at
power_off negative power e = laid_as (ap (λ (b : Bool). cond b [] (101 ∷ sign_text negative ++ figures power)) (eq-eqb power 0 e)) laid_none

pub power_on : {at a b r : ℕ} {F G H I : List ℕ} (negative : Bool) (power : ℕ) → (power ≡ 0 → ⊥) → Laid (101 ∷ []) at F G a → Laid (sign_text negative) a G H b → Laid (figures power) b H I r → Laid (power_text negative power) at F I r
power_on negative power e x y z =
    laid_as (ap (λ (b : Bool). cond b [] (101 ∷ sign_text negative ++ figures power)) (ne_eqb power 0 e)) (laid_as (ap (λ (l : List ℕ). l) (sym (append_assoc (101 ∷ []) (sign_text negative) (figures power)))) (laid_on (laid_on x y) z))

pub number_on : {at a b r : ℕ} {F G H I : List ℕ} (minus : Bool) (m : ℕ) (negative : Bool) (power : ℕ) → Laid (sign_text minus) at F G a → Laid (figures m) a G H b → Laid (power_text negative power) b H I r → Laid (number_text minus m negative power) at F I r
number_on minus m negative power x y z = laid_on (laid_on x y) z

pub placed_none : {v : Float} {at : ℕ} {F : List ℕ} {w : Option (ℕ × Bool × ℕ)} {x : Float} → x ≡ magnitude_of v → w ≡ write_of x → w ≡ None → PlacedValue v at F F None
placed_none {v} {at} {F} {w} {x} e f g =
    let h : write_of (magnitude_of v) ≡ None = ap write_of (sym e) ∙ sym f ∙ g in
    record {
      is = sym (splice_nil at F) ∙ ap (λ (k : Option (ℕ × Bool × ℕ)). splice at (text_of (is_minus v) k) F) (sym h);
      next = ap (placed_of at (is_minus v)) (sym h);
    }

pub sign_length : (minus : Bool) → length (sign_text minus) ≤ 1
sign_length true = omega arith
sign_length false = omega arith
