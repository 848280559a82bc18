-- The loops of the replay: what a turn keeps, and what the last one leaves. Assumes nothing.
use mathlib.Core.Path.{◌≡◌, refl, ap, ◌∙◌}
use mathlib.Core.Bool.{Bool, true, false, cond, not}
use mathlib.Core.List.{List}
use Prim.Native.Nat.{ℕ, zero, suc, ◌+◌, ◌*◌, ◌/◌, ◌^◌, ◌≤◌, ◌<◌}
use native.Mathlib.Nat.{lt_of_lt_of_le, suc-mul}
use native.Mathlib.Numerals.{add-one}
use native.Mathlib.Omega.{arith}
use lib.Dec.{eqb}
use lib.ListN.{get_or, length}
use lib.Pow.{pow-add, pow_pos, pow_mono}
use lib.Ieee.{binary64, of_bits, to_bits}
use mir.Val.{bool_byte}
use Rattle.float.specs.Sqrt.{sqrt_of}
use Rattle.roots.specs.Replay.{digit_of, word_of, differs_of, differences_of}

-- After i turns of `word`, `value` is the number that the first i digits write.
pub record Word (s : List ℕ) (at i value : ℕ) : Type 0 where
  pub turns : i ≤ 16
  pub is : value ≡ word_of i at s

word_lt : (s : List ℕ) (at k : ℕ) → word_of k at s < 2 ^ (k * 4)
unfolding word_of
word_lt s at zero = pow_pos 0
word_lt s at (suc k) =
    let e = ap (λ (i : ℕ). 2 ^ i) (suc-mul k 4) ∙ pow-add 2 (k * 4) 4 in
    let l = word_lt s at k in
    omega arith

module _ {s : List ℕ} {at : ℕ} where
  -- Before the first turn.
  pub word_start : Word s at 0 0
  unfolding word_of
  word_start = record { turns = omega arith; is = refl }

  -- There is room for one digit more,
  pub word_room : {i v : ℕ} → Word s at i v → i < 16 → v < 2 ^ 60
  word_room {i} w h =
      let l : i * 4 ≤ 60 = omega arith in
      let b = lt_of_lt_of_le (word_lt s at i) (pow_mono l) in
      let e = w.is in
      omega arith

  -- and a turn adds it.
  pub word_on : {i v d : ℕ} → Word s at i v → i < 16 → d ≡ digit_of (get_or s (at + i) 0) → Word s at (i + 1) (v * 16 + d)
  unfolding word_of
  word_on w h e = record { turns = omega arith; is = rw (add-one, w.is, e) }

-- A yes that is turned round, as a number.
pub byte_of_not : (t : Bool) → bool_byte (not t) ≡ cond t 0 1
byte_of_not true = refl
byte_of_not false = refl

differs_le : (b e : ℕ) → differs_of b e ≤ 1
unfolding differs_of
differs_le b e = bit (eqb (to_bits binary64 (sqrt_of (of_bits binary64 b))) e)
  where
    bit : (t : Bool) → cond t 0 1 ≤ 1
    bit true = omega arith
    bit false = omega arith

-- After some turns of `differences`, `count` of the first lines differ.
pub record Lines (s : List ℕ) (count line : ℕ) : Type 0 where
  pub few : count ≤ line
  pub is : count ≡ differences_of line s

module _ {s : List ℕ} where
  -- Before the first turn.
  pub lines_start : Lines s 0 0
  unfolding differences_of
  lines_start = record { few = omega arith; is = refl }

  module _ (a e : ℕ) {count line d : ℕ} (l : Lines s count line) (h : line < length s / 34) (D : d ≡ differs_of a e)
    where
      -- A turn has room for one line more,
      pub lines_room : count + d ≤ length s
      lines_room = let b = differs_le a e in let f = l.few in omega arith

      -- and counts it.
      pub lines_on : a ≡ word_of 16 (line * 34) s → e ≡ word_of 16 (line * 34 + 17) s → Lines s (count + d) (line + 1)
      unfolding differences_of
      lines_on A E =
          let f = l.few in
          let b = differs_le a e in
          record { few = omega arith; is = rw (add-one, l.is, D, A, E) }
