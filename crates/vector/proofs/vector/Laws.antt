-- The turns of the loops of `dot_block` and `dot_sum` as the code has them.
-- Assumes nothing.
use Rattle.std.specs.Prelude.{Option, Some, None}
use mathlib.Core.Path.{◌≡◌, refl, sym, ap, ◌∙◌}
use mathlib.Core.Bool.{Bool, true, false}
use mathlib.Core.List.{List}
use Prim.Native.Nat.{ℕ, suc, ◌+◌, ◌*◌, ◌/◌, ◌-◌, ◌≤◌, ◌<◌, min, zero-le}
use native.Mathlib.Omega.{arith}
use lib.ListN.{length, take, drop}
use lib.Ieee.{Float}
use Rattle.float.specs.Float.{add64, mul64, neg_zero, is_finite}
use Rattle.float.specs.Sqrt.{sqrt_of}
use Rattle.store.specs.Loop.{for}
use Rattle.store.specs.Region.{at, part}
use Rattle.store.proofs.store.Loop.{Left, left_start, left_on, left_end, for_count}
use Rattle.store.proofs.store.Region.{length_part}
use Rattle.vector.specs.declared.vector.Sums.{Sums}
use Rattle.vector.specs.Dot.{block_of, dot_of, product_of, root_of, norm_of}
use Rattle.vector.specs.Turns.{term_of, blocks_of, block_turn}

-- A block whose end is known by an equation is the definition's block.
pub block_on : (n : ℕ) (u v : List Float) (i h : ℕ) (sum b : Float) → h ≡ min (i * 1024 + 1024) n → b ≡ block_of u v (i * 1024) h
    → add64 sum b ≡ block_turn n u v i sum
unfolding block_turn
block_on n u v i h sum b e d = rw (d, e)

-- The invariant of `dot_blocks`: what is left to do from k, and from 1,024 past it, gives each block's sum.
pub record Sides (u v : List Float) (lo k : ℕ) (first second : Float) : Type 0 where
  pub one : Left (term_of u v) k (lo + 1024) first (block_of u v lo (lo + 1024))
  pub two : Left (term_of u v) (k + 1024) (lo + 2048) second (block_of u v (lo + 1024) (lo + 2048))

pub sides_start : (u v : List Float) (lo : ℕ) → Sides u v lo lo neg_zero neg_zero
unfolding block_of term_of
sides_start u v lo = record { one = left_start; two = left_start }

-- A product more for each.
pub sides_on : {u v : List Float} {lo k : ℕ} {first second : Float}
    → k < lo + 1024 → Sides u v lo k first second
    → Sides u v lo (k + 1) (add64 first (mul64 (at u k) (at v k))) (add64 second (mul64 (at u (k + 1024)) (at v (k + 1024))))
unfolding term_of
sides_on {u} {v} {lo} {k} {first} {second} h s =
    let next : k + 1024 + 1 ≡ k + 1 + 1024 = omega arith in
    let two = left_on s.two (omega arith) refl in
    record { one = left_on s.one h refl; two = rw next at two }

pub sides_end : {u v : List Float} {lo k : ℕ} {first second : Float} → Sides u v lo k first second → lo + 1024 ≤ k
    → record { first = first; second = second } ≡ blocks_of u v lo
sides_end s h =
    let one = left_end s.one (omega arith) in
    let two = left_end s.two (omega arith) in
    rw (one, two)

-- Both blocks of a pair, which are full, are the definition's next two.
pub pair_on : (n : ℕ) (u v : List Float) (p pairs : ℕ) {sum : Float} {r : Float} (s : Sums) → 2048 * pairs ≤ n → p < pairs
    → s ≡ blocks_of u v (2048 * p) → Left (block_turn n u v) (2 * p) (2 * pairs) sum r
    → Left (block_turn n u v) (2 * (p + 1)) (2 * pairs) (add64 (add64 sum s.first) s.second) r
pair_on n u v p pairs {sum} {r} s f h e l =
    let lo : 2048 * p ≡ 2 * p * 1024 = omega arith in
    let mid : 2048 * p + 1024 ≡ min (2 * p * 1024 + 1024) n = omega arith in
    let next : 2048 * p + 1024 ≡ (2 * p + 1) * 1024 = omega arith in
    let hi : 2048 * p + 2048 ≡ min ((2 * p + 1) * 1024 + 1024) n = omega arith in
    let one : block_of u v (2048 * p) (2048 * p + 1024) ≡ block_of u v (2 * p * 1024) (2048 * p + 1024) = ap (λ (x : ℕ). block_of u v x (2048 * p + 1024)) lo in
    let two : block_of u v (2048 * p + 1024) (2048 * p + 2048) ≡ block_of u v ((2 * p + 1) * 1024) (2048 * p + 2048) = ap (λ (x : ℕ). block_of u v x (2048 * p + 2048)) next in
    let a = left_on l (omega arith) (block_on n u v (2 * p) (2048 * p + 1024) sum s.first mid (ap (λ (t : Sums). t.first) e ∙ one)) in
    let b = left_on a (omega arith) (block_on n u v (2 * p + 1) (2048 * p + 2048) _ s.second hi (ap (λ (t : Sums). t.second) e ∙ two)) in
    let end : 2 * p + 1 + 1 ≡ 2 * (p + 1) = omega arith in
    rw end at b

-- Past the last pair nothing is left.
pub pairs_end : {f : ℕ → Float → Float} {p pairs : ℕ} {sum r : Float} → Left f (2 * p) (2 * pairs) sum r → pairs ≤ p → sum ≡ r
pairs_end l h = left_end l (omega arith)

-- What is left after the pairs is left of the whole.
pub pairs_left : (n : ℕ) (u v : List Float) (pairs : ℕ) {sum : Float} → 2 * pairs ≤ (n + 1023) / 1024
    → sum ≡ for (block_turn n u v) 0 (2 * pairs) neg_zero → Left (block_turn n u v) (2 * pairs) ((n + 1023) / 1024) sum (dot_of n u v)
unfolding dot_of block_turn
pairs_left n u v pairs h e =
    rw e
    (for_count (λ (k : ℕ) (s : Float). Left (block_turn n u v) k ((n + 1023) / 1024) s (dot_of n u v)) (block_turn n u v) 0 (2 * pairs) zero-le
    (λ k _ b s l. let next : k + 1 ≡ suc k = omega arith in rw next at (left_on l (omega arith) refl)) neg_zero left_start)

-- A value that passed the test is itself; one that failed is refused.
pub product_yes : (x : Float) (r : Bool) → r ≡ is_finite x → r ≡ true → Some x ≡ product_of x
unfolding product_of
product_yes x r e t = rw (← e, t)

pub product_no : (x : Float) (r : Bool) → r ≡ is_finite x → r ≡ false → None ≡ product_of x
unfolding product_of
product_no x r e t = rw (← e, t)

-- `dot` as the code has it: each region is a slice of the store, as long as asked.
pub dot_done : (a b n : ℕ) (F : List Float) {p : Option Float} {x : Float} → a + n ≤ length F
    → x ≡ dot_of (length (take (a + n - a) (drop a F))) (take (a + n - a) (drop a F)) (take (b + n - b) (drop b F))
    → p ≡ product_of x → p ≡ product_of (dot_of n (part a n F) (part b n F))
unfolding part
dot_done a b n F l e t =
    let long : length (take n (drop a F)) ≡ n = length_part a n F l in
    let i : a + n - a ≡ n = omega arith in
    let j : b + n - b ≡ n = omega arith in
    rw (← (rw (i, j, long) at e)) t

-- The two ways out of `norm_l2`: its d is the dot product, as it was matched.
pub norm_yes : (n : ℕ) (u : List Float) {d p : Option Float} {squared root : Float}
    → d ≡ product_of (dot_of n u u) → d ≡ Some squared → root ≡ sqrt_of squared → p ≡ product_of root → p ≡ norm_of n u
unfolding norm_of root_of
norm_yes n u {d} {p} {squared} {root} e m r t = t ∙ ap product_of r ∙ ap root_of (sym m ∙ e)

pub norm_no : (n : ℕ) (u : List Float) {d : Option Float} → d ≡ product_of (dot_of n u u) → d ≡ None → None ≡ norm_of n u
unfolding norm_of root_of
norm_no n u {d} e m = ap root_of (sym m ∙ e)
