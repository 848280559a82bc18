-- The loop of `root`: what a turn keeps, and what the last one leaves. Assumes nothing.
use mathlib.Core.Path.{◌≡◌, sym, ap, ◌∙◌}
use Prim.Native.Nat.{ℕ, ◌+◌, ◌-◌, ◌*◌, ◌/◌, ◌%◌, ◌^◌, ◌≤◌, ◌<◌}
use native.Mathlib.Nat.{mul_left_comm, pow-succ', lt_of_lt_of_le, mod-lt}
use native.Mathlib.Numerals.{add-one}
use native.Mathlib.Omega.{arith}
use lib.Pow.{pow-add, pow_pos, pow_mono}
use Rattle.float.specs.Sqrt.{Root}
use Rattle.float.proofs.root.Floor.{sq_next, sq_twice}

-- After i turns `root` is the whole root of the first i pairs of digits of m * 2 ^ 54, a number of 54 pairs; `rest` is
-- what those pairs are above its square; `a` holds the pairs to come, the next at its top.
pub record Digits (m root rest a i : ℕ) : Type 0 where
  pub turns : i ≤ 54
  pub short : rest ≤ 2 * root
  pub small : root < 2 ^ i
  pub word : a < 2 ^ 64
  pub total : (root * root + rest) * 2 ^ 64 + a ≡ m * 1024 * 2 ^ (i + i)

-- Before the first turn.
pub start : (m : ℕ) → m < 2 ^ 54 → Digits m 0 0 (m * 1024 % 2 ^ 64) 0
start m h = record {
  turns = omega arith;
  short = omega arith;
  small = pow_pos 0;
  word = mod-lt (m * 1024) (pow_pos 64);
  total = omega arith;
}

-- The root has at most 54 digits.
pub bounded : {m root rest a i : ℕ} → Digits m root rest a i → root < 2 ^ 54
bounded d = lt_of_lt_of_le d.small (pow_mono d.turns)

-- A turn doubles 2 ^ i,
one_more : (i : ℕ) → 2 ^ (i + 1) ≡ 2 * 2 ^ i
one_more i = ap (λ (k : ℕ). 2 ^ k) (add-one i) ∙ pow-succ' 2 i

-- and multiplies 2 ^ (i + i) by four.
pair_more : (i : ℕ) → 2 ^ (i + 1 + (i + 1)) ≡ 4 * 2 ^ (i + i)
pair_more i = ap (λ (k : ℕ). 2 ^ k) (moved i) ∙ pow-add 2 2 (i + i)
  where
    moved : (i : ℕ) → i + 1 + (i + 1) ≡ 2 + (i + i)
    moved i = omega arith

-- The next pair is brought down from `a`.
down : (m n a i p : ℕ) → n * 2 ^ 64 + a ≡ m * 1024 * 2 ^ (i + i) → p ≡ 4 * n + a / 2 ^ 62
    → p * 2 ^ 64 + a * 4 % 2 ^ 64 ≡ m * 1024 * 2 ^ (i + 1 + (i + 1))
down m n a i p e h = shift ∙ sym (ap (λ (k : ℕ). m * 1024 * k) (pair_more i) ∙ mul_left_comm (m * 1024) 4 (2 ^ (i + i)))
  where
    shift : p * 2 ^ 64 + a * 4 % 2 ^ 64 ≡ 4 * (m * 1024 * 2 ^ (i + i))
    shift = omega arith

module _ {m root rest a i : ℕ} (d : Digits m root rest a i) (h : i < 54) where
  -- A turn whose digit is 1.
  pub one : root * 4 + 1 ≤ rest * 4 + a / 2 ^ 62
      → Digits m (root * 2 + 1) (rest * 4 + a / 2 ^ 62 - (root * 4 + 1)) (a * 4 % 2 ^ 64) (i + 1)
  one g = record {
    turns = omega arith;
    short = let w = d.word in let s = d.short in omega arith;
    small = let s = d.small in let t = one_more i in omega arith;
    word = mod-lt (a * 4) (pow_pos 64);
    total =
        down m (root * root + rest) a i _ d.total
        (let x = sq_next (root * 2) in let y = sq_twice root in omega arith);
  }

  -- A turn whose digit is 0.
  pub none : rest * 4 + a / 2 ^ 62 < root * 4 + 1 → Digits m (root * 2) (rest * 4 + a / 2 ^ 62) (a * 4 % 2 ^ 64) (i + 1)
  none g = record {
    turns = omega arith;
    short = omega arith;
    small = let s = d.small in let t = one_more i in omega arith;
    word = mod-lt (a * 4) (pow_pos 64);
    total = down m (root * root + rest) a i _ d.total (let y = sq_twice root in omega arith);
  }

-- After the last turn.
module _ {m root rest a i : ℕ} (d : Digits m root rest a i) (h : 54 ≤ i) where
  -- The last turn was the 54th,
  all : (i : ℕ) → 54 ≤ i → i ≤ 54 → m * 1024 * 2 ^ (i + i) ≡ m * 2 ^ 54 * 2 ^ 64
  all i x y =
      let is : i ≡ 54 = omega arith in
      ap (λ (k : ℕ). m * 1024 * 2 ^ (k + k)) is ∙ omega arith

  -- so that all pairs have been brought down.
  square : root * root + rest ≡ m * 2 ^ 54
  square = let e = d.total ∙ all i h d.turns in let w = d.word in omega arith

  -- `root` is the whole root of m * 2 ^ 54.
  pub floor : Root (m * 2 ^ 54) root
  floor = record {
    low = let e = square in omega arith;
    high = let e = square in let s = d.short in let n = sq_next root in omega arith;
  }

-- Equal numbers keep it.
pub same : {m r s r' s' a i : ℕ} → r ≡ r' → s ≡ s' → Digits m r' s' a i → Digits m r s a i
same p q d = rw (p, q) d
