-- What `all` over a list or a range answers, where its closure tests an index: the answer of `each`.
-- Assumes nothing.
use mathlib.Core.Path.{◌≡◌, sym}
use mathlib.Core.Bool.{Bool, true, false}
use mathlib.Core.List.{List}
use Prim.Native.Nat.{ℕ, ◌+◌, ◌<◌, zero-le}
use lib.ListN.{length, get_or}
use Rattle.std.specs.Bool.{MatchBool}
use Rattle.std.specs.List.{AllWithin, HoldsAt, range_with_len}
use Rattle.std.proofs.lemmas.List.FromFn.{length-range_with_len, get_or-range_with_len}
use Rattle.store.specs.Vector.{each}
use Rattle.store.proofs.store.Each.{each_all, each_no}

-- Over a list xs: q is the test of an item, p that of its index.
pub each_item : {A : Type 0} (q : A → Bool) (p : ℕ → Bool) (d : A) (xs : List A) (r : Bool) → ((k : ℕ) → p k ≡ q (get_or xs k d))
    → MatchBool r (AllWithin (λ x. q x ≡ true) xs 0 (length xs)) ((k : ℕ) × (k < length xs) × HoldsAt (λ x. q x ≡ false) xs k)
    → r ≡ each p (length xs)
each_item q p d xs true same w = sym (each_all p (length xs) (λ k h. rw (same k) (w k d zero-le h)))
each_item q p d xs false same w = sym (each_no p (length xs) w.0 w.1 (rw (same w.0) (w.2 d)))

-- Over the numbers of a range from a of that length: q is the test of a number, p that of its distance from a.
pub each_from : (q p : ℕ → Bool) (a n : ℕ) (r : Bool) → ((k : ℕ) → p k ≡ q (a + k))
    → MatchBool r (AllWithin (λ x. q x ≡ true) (range_with_len a n) 0 (length (range_with_len a n)))
    ((k : ℕ) × (k < length (range_with_len a n)) × HoldsAt (λ x. q x ≡ false) (range_with_len a n) k)
    → r ≡ each p n
each_from q p a n true same w =
    sym (each_all p n (λ k h.
    let here : q (get_or (range_with_len a n) k 0) ≡ true = w k 0 zero-le (rw (length-range_with_len a n) h) in
    rw (same k) (rw (get_or-range_with_len a n k 0 h) at here)))
each_from q p a n false same w =
    let h : w.0 < n = rw (length-range_with_len a n) at w.1 in
    let here : q (get_or (range_with_len a n) w.0 0) ≡ false = w.2 0 in
    sym (each_no p n w.0 h (rw (same w.0) (rw (get_or-range_with_len a n w.0 0 h) at here)))
