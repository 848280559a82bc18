-- Numbers as bytes: what is written is read back, and what was read is written as it stood. Assumes nothing.
use mathlib.Core.Path.{◌≡◌, refl, sym, ap, ◌∙◌}
use mathlib.Core.List.{List, [], ◌∷◌, ◌++◌, append_assoc, append-nil}
use Prim.Native.Nat.{ℕ, zero, suc, ◌+◌, ◌*◌, ◌/◌, ◌%◌, ◌≤◌, ◌<◌}
use native.Mathlib.Nat.{div-add-mod, div-div-eq-div-mul, mod-lt, mod-eq_of_lt, mul-suc, mul-zero}
use native.Mathlib.Omega.{arith}
use lib.ListN.{length, get_or, take, drop, length-append}
use lib.Seq.{get_or-append-add, take-add, drop-drop}
use lib.Ieee.{Float, binary64, of_bits, to_bits}
use lib.Ieee.Bits.{of_bits-to_bits, to_bits-lt, to_bits-of_bits}
use Rattle.store.specs.Region.{part}
use Rattle.store.specs.Vector.{tab}
use Rattle.store.proofs.store.Region.{get_d_part, length_part}
use Rattle.store.proofs.store.Vector.{tab_same, tab_get_d}
use Rattle.record_format.specs.Bytes.{byte_at, u32_at, u64_at, float_at, bytes4, bytes8, float_bytes, flat}
use Rattle.record_format.specs.Theorem.{AllBytes, Word, Long, Double, Number}

-- ---- lengths

pub length_bytes4 : (v : ℕ) → length (bytes4 v) ≡ 4
unfolding bytes4
length_bytes4 v = refl

pub length_bytes8 : (v : ℕ) → length (bytes8 v) ≡ 8
unfolding bytes8 bytes4
length_bytes8 v = refl

-- ---- behind other bytes

pub word_after : (xs ys : List ℕ) (i : ℕ) → u32_at (xs ++ ys) (length xs + i) ≡ u32_at ys i
unfolding u32_at
word_after xs ys i =
    let e : (j : ℕ) → byte_at (xs ++ ys) (length xs + i + j) ≡ byte_at ys (i + j) =
    λ j. ap (λ (n : ℕ). byte_at (xs ++ ys) n) (let z : length xs + i + j ≡ length xs + (i + j) = omega arith in z) ∙ get_or-append-add xs ys (i + j) 0 in
    omega (arith, get_or-append-add xs ys i 0, e 1, e 2, e 3)

pub long_after : (xs ys : List ℕ) (i : ℕ) → u64_at (xs ++ ys) (length xs + i) ≡ u64_at ys i
unfolding u64_at
long_after xs ys i =
    let e : u32_at (xs ++ ys) (length xs + i + 4) ≡ u32_at ys (i + 4) =
    ap (λ (n : ℕ). u32_at (xs ++ ys) n) (let z : length xs + i + 4 ≡ length xs + (i + 4) = omega arith in z) ∙ word_after xs ys (i + 4) in
    omega (arith, word_after xs ys i, e)

pub float_after : (xs ys : List ℕ) (i : ℕ) → float_at (xs ++ ys) (length xs + i) ≡ float_at ys i
float_after xs ys i = ap (of_bits binary64) (long_after xs ys i)

-- ---- written, then read

pub word_back : (v : ℕ) (rest : List ℕ) → Word v → u32_at (bytes4 v ++ rest) 0 ≡ v
unfolding u32_at bytes4
word_back v rest h =
    let d₁ : 256 * (v / 256) + v % 256 ≡ v = div-add-mod v 256 in
    let d₂ : 256 * (v / 256 / 256) + v / 256 % 256 ≡ v / 256 = div-add-mod (v / 256) 256 in
    let d₃ : 256 * (v / 65536 / 256) + v / 65536 % 256 ≡ v / 65536 = div-add-mod (v / 65536) 256 in
    let e₂ : v / 256 / 256 ≡ v / 65536 = div-div-eq-div-mul v 256 256 in
    let e₃ : v / 65536 / 256 ≡ v / 16777216 = div-div-eq-div-mul v 65536 256 in
    let small : v / 16777216 < 256 = omega arith in
    let last : v / 16777216 % 256 ≡ v / 16777216 = mod-eq_of_lt small in
    omega arith

pub long_back : (v : ℕ) (rest : List ℕ) → Long v → u64_at (bytes8 v ++ rest) 0 ≡ v
unfolding u64_at bytes8
long_back v rest h =
    let d : 4294967296 * (v / 4294967296) + v % 4294967296 ≡ v = div-add-mod v 4294967296 in
    let small : v % 4294967296 < 4294967296 = mod-lt v (omega arith) in
    let first : u32_at (bytes4 (v % 4294967296) ++ bytes4 (v / 4294967296) ++ rest) 0 ≡ v % 4294967296 =
    rw append_assoc (word_back (v % 4294967296) (bytes4 (v / 4294967296) ++ rest) small) in
    let e : u32_at (bytes4 (v % 4294967296) ++ (bytes4 (v / 4294967296) ++ rest)) 4 ≡ u32_at (bytes4 (v / 4294967296) ++ rest) 0 =
    rw length_bytes4 at (word_after (bytes4 (v % 4294967296)) (bytes4 (v / 4294967296) ++ rest) 0) in
    let second : u32_at (bytes4 (v % 4294967296) ++ bytes4 (v / 4294967296) ++ rest) 4 ≡ v / 4294967296 =
    rw append_assoc (e ∙ word_back (v / 4294967296) rest (omega arith)) in
    omega arith

pub float_back : (x : Float) (rest : List ℕ) → Double x → float_at (float_bytes x ++ rest) 0 ≡ x
float_back x rest h = ap (of_bits binary64) (long_back (to_bits binary64 x) rest (to_bits-lt binary64 x h)) ∙ of_bits-to_bits binary64 x h

-- ---- read, then written

-- neighbouring parts are one
pub part_join : (a n m : ℕ) (b : List ℕ) → part a n b ++ part (a + n) m b ≡ part a (n + m) b
unfolding part
part_join a n m b = sym (take-add n m (drop a b) ∙ ap (λ (l : List ℕ). take n (drop a b) ++ take m l) (drop-drop n a b))

pub part_tab : (at n : ℕ) (b : List ℕ) → at + n ≤ length b → part at n b ≡ tab (λ k. byte_at b (at + k)) n
part_tab at n b fits =
    sym (tab_same (λ k. byte_at b (at + k)) (λ k. get_or (part at n b) k 0) n (λ k h. sym (get_d_part at n b k 0 h)) ∙ tab_get_d 0 (part at n b) n (length_part at n b fits))

word_small : (b : List ℕ) (at : ℕ) → AllBytes b → Word (u32_at b at)
unfolding u32_at
word_small b at all = omega (arith, all at, all (at + 1), all (at + 2), all (at + 3))

-- The four bytes of the u32 at a place are those that stand there.
pub record Digits (b : List ℕ) (at v : ℕ) : Type 0 where
  pub first : v % 256 ≡ byte_at b at
  pub second : v / 256 % 256 ≡ byte_at b (at + 1)
  pub third : v / 65536 % 256 ≡ byte_at b (at + 2)
  pub fourth : v / 16777216 % 256 ≡ byte_at b (at + 3)

digits : (b : List ℕ) (at : ℕ) → AllBytes b → Digits b at (u32_at b at)
unfolding u32_at
digits b at all =
    let a₀ : byte_at b at < 256 = all at in
    let a₁ : byte_at b (at + 1) < 256 = all (at + 1) in
    let a₂ : byte_at b (at + 2) < 256 = all (at + 2) in
    let a₃ : byte_at b (at + 3) < 256 = all (at + 3) in
    let v : ℕ = byte_at b at + 256 * byte_at b (at + 1) + 65536 * byte_at b (at + 2) + 16777216 * byte_at b (at + 3) in
    let d₁ : 256 * (v / 256) + v % 256 ≡ v = div-add-mod v 256 in
    let d₂ : 256 * (v / 256 / 256) + v / 256 % 256 ≡ v / 256 = div-add-mod (v / 256) 256 in
    let d₃ : 256 * (v / 65536 / 256) + v / 65536 % 256 ≡ v / 65536 = div-add-mod (v / 65536) 256 in
    let d₄ : 256 * (v / 16777216 / 256) + v / 16777216 % 256 ≡ v / 16777216 = div-add-mod (v / 16777216) 256 in
    let e₂ : v / 256 / 256 ≡ v / 65536 = div-div-eq-div-mul v 256 256 in
    let e₃ : v / 65536 / 256 ≡ v / 16777216 = div-div-eq-div-mul v 65536 256 in
    let m₁ : v % 256 < 256 = mod-lt v (omega arith) in
    let m₂ : v / 256 % 256 < 256 = mod-lt (v / 256) (omega arith) in
    let m₃ : v / 65536 % 256 < 256 = mod-lt (v / 65536) (omega arith) in
    let m₄ : v / 16777216 % 256 < 256 = mod-lt (v / 16777216) (omega arith) in
    record { first = omega arith; second = omega arith; third = omega arith; fourth = omega arith }

pub word_forth : (b : List ℕ) (at : ℕ) → AllBytes b → at + 4 ≤ length b → bytes4 (u32_at b at) ≡ part at 4 b
unfolding bytes4 tab
word_forth b at all fits =
    let d : Digits b at (u32_at b at) = digits b at all in
    let zero-th : byte_at b (at + 0) ≡ byte_at b at = ap (byte_at b) (let z : at + 0 ≡ at = omega arith in z) in
    rw (d.first, d.second, d.third, d.fourth, part_tab at 4 b fits, zero-th)

pub long_forth : (b : List ℕ) (at : ℕ) → AllBytes b → at + 8 ≤ length b → bytes8 (u64_at b at) ≡ part at 8 b
unfolding bytes8 u64_at
long_forth b at all fits =
    let low : Word (u32_at b at) = word_small b at all in
    let v : ℕ = u32_at b at + 4294967296 * u32_at b (at + 4) in
    let d : 4294967296 * (v / 4294967296) + v % 4294967296 ≡ v = div-add-mod v 4294967296 in
    let m : v % 4294967296 < 4294967296 = mod-lt v (omega arith) in
    let e : v % 4294967296 ≡ u32_at b at = omega arith in
    let f : v / 4294967296 ≡ u32_at b (at + 4) = omega arith in
    rw (e, f, word_forth b at all (omega arith), word_forth b (at + 4) all (omega arith)) (part_join at 4 4 b)

long_small : (b : List ℕ) (at : ℕ) → AllBytes b → Long (u64_at b at)
unfolding u64_at
long_small b at all = omega (arith, word_small b at all, word_small b (at + 4) all)

pub float_forth : (b : List ℕ) (at : ℕ) → AllBytes b → at + 8 ≤ length b → Number (float_at b at) → float_bytes (float_at b at) ≡ part at 8 b
float_forth b at all fits h = ap bytes8 (to_bits-of_bits binary64 (u64_at b at) (long_small b at all) h) ∙ long_forth b at all fits

-- ---- one behind another

-- The bytes of one more.
pub flat_snoc : {A : Type 0} (f : A → List ℕ) (xs : List A) (x : A) → flat f (xs ++ (x ∷ [])) ≡ flat f xs ++ f x
unfolding flat
flat_snoc f [] x = append-nil (f x)
flat_snoc f (y ∷ xs) x = ap (λ (l : List ℕ). f y ++ l) (flat_snoc f xs x) ∙ sym (append_assoc (f y) (flat f xs) (f x))

-- values of w bytes each, which f writes and g reads
module _ {A : Type 0} (w : ℕ) (f : A → List ℕ) (g : List ℕ → ℕ → A) (d : A) (long : (x : A) → length (f x) ≡ w)
    (after : (xs ys : List ℕ) (i : ℕ) → g (xs ++ ys) (length xs + i) ≡ g ys i) (Good : A → Type 0)
    (back : (x : A) (rest : List ℕ) → Good x → g (f x ++ rest) 0 ≡ x) where
  pub length_flat : (xs : List A) → length (flat f xs) ≡ w * length xs
  unfolding flat
  length_flat [] = sym (mul-zero w)
  length_flat (x ∷ xs) =
      length-append (f x) (flat f xs) ∙ (let e : length (f x) ≡ w = long x in let r : length (flat f xs) ≡ w * length xs = length_flat xs in
      let s : w * suc (length xs) ≡ w * length xs + w = mul-suc w (length xs) in omega arith)

  flat_at : (xs : List A) (rest : List ℕ) (k : ℕ) → k < length xs → ((j : ℕ) → j < length xs → Good (get_or xs j d)) → g (flat f xs ++ rest) (w * k) ≡ get_or xs k d
  unfolding flat
  flat_at [] rest k h good = absurd (omega arith)
  flat_at (x ∷ xs) rest zero h good = rw (mul-zero w, append_assoc) (back x (flat f xs ++ rest) (good 0 (omega arith)))
  flat_at (x ∷ xs) rest (suc k) h good =
      let e : w * suc k ≡ length (f x) + w * k = (let l : length (f x) ≡ w = long x in let s : w * suc k ≡ w * k + w = mul-suc w k in omega arith) in
      rw (e, append_assoc) (after (f x) (flat f xs ++ rest) (w * k) ∙ flat_at xs rest k (omega arith) (λ j l. good (suc j) (omega arith)))

  pub flat_read : (before : List ℕ) (xs : List A) (rest : List ℕ) (at n : ℕ) → length before ≡ at → length xs ≡ n → ((j : ℕ) → j < length xs → Good (get_or xs j d))
      → tab (λ k. g (before ++ (flat f xs ++ rest)) (at + w * k)) n ≡ xs
  flat_read before xs rest at n e l good =
      tab_same (λ k. g (before ++ (flat f xs ++ rest)) (at + w * k)) (λ k. get_or xs k d) n
      (λ k h. ap (λ (p : ℕ). g (before ++ (flat f xs ++ rest)) (p + w * k)) (sym e) ∙ after before (flat f xs ++ rest) (w * k) ∙ flat_at xs rest k (omega arith) good)
      ∙ tab_get_d d xs n l

-- the same, read from bytes b and written again
module _ {A : Type 0} (w : ℕ) (f : A → List ℕ) (g : List ℕ → ℕ → A) (b : List ℕ) (Good : A → Type 0)
    (forth : (at : ℕ) → at + w ≤ length b → Good (g b at) → f (g b at) ≡ part at w b) where
  pub flat_forth : (at n : ℕ) → at + w * n ≤ length b → ((k : ℕ) → k < n → Good (g b (at + w * k))) → flat f (tab (λ k. g b (at + w * k)) n) ≡ part at (w * n) b
  unfolding flat tab part
  flat_forth at zero fits good = rw (mul-zero w)
  flat_forth at (suc n) fits good =
      let s : w * suc n ≡ w * n + w = mul-suc w n in
      flat_snoc f (tab (λ k. g b (at + w * k)) n) (g b (at + w * n))
      ∙ ap (λ (l : List ℕ). l ++ f (g b (at + w * n))) (flat_forth at n (omega arith) (λ k h. good k (omega arith)))
      ∙ ap (λ (l : List ℕ). part at (w * n) b ++ l) (forth (at + w * n) (omega arith) (good n (omega arith)))
      ∙ part_join at (w * n) w b
      ∙ ap (λ (m : ℕ). part at m b) (sym s)
