-- The loops of `mirrors_agree` and of `take_faces` as the code has them.
-- Assumes nothing.
use mathlib.Core.Path.{◌≡◌, refl, ap, ◌∙◌}
use mathlib.Core.Bool.{Bool, true, false, ◌&&◌}
use mathlib.Core.List.{List}
use Prim.Native.Nat.{ℕ, ◌+◌, ◌≤◌, ◌<◌}
use lib.ListN.{set}
use lib.Ieee.{Float, nan, inf, fin, le, sub, binary64, of_bits}
use Rattle.float.specs.Float.{is_finite, abs_of, sub64}
use Rattle.store.specs.Loop.{for}
use Rattle.store.specs.Region.{at, idx, part, splice}
use Rattle.store.specs.Vector.{each}
use Rattle.store.proofs.store.Loop.{Left, left_start, left_on, left_end}
use Rattle.store.proofs.store.Region.{get_d_part, wrote}
use Rattle.store.proofs.store.Vector.{length_tab, tab_same, for_each}
use Rattle.store.proofs.store.Each.{Tested, each_same, tested_start, tested_on, tested_done}
use Rattle.coefficients.specs.Mirrors.{pair_agrees, mirrors_agree}
use Rattle.coefficients.specs.Contract.{MirrorsOk, Taken}

-- A difference that is at most a number is that of finite numbers: with a NaN or an infinity on either side it is a NaN or an infinity.
pub finite_within : (a b : Float) → le (abs_of (sub64 a b)) (of_bits binary64 0x3d71_9799_812d_ea11) ≡ pair_agrees a b
unfolding pair_agrees is_finite abs_of sub le of_bits
finite_within nan b = refl
finite_within (inf s) nan = refl
finite_within (inf true) (inf true) = refl
finite_within (inf true) (inf false) = refl
finite_within (inf false) (inf true) = refl
finite_within (inf false) (inf false) = refl
finite_within (inf s) (fin t n d) = refl
finite_within (fin s m e) nan = refl
finite_within (fin s m e) (inf t) = refl
finite_within (fin s m e) (fin t n d) = refl

-- The position of a face's upper value is one of the values, and so is that of its lower one.
pub up_of_lem : (w : List ℕ) (size faces upper lower k : ℕ) → MirrorsOk w size faces upper lower → k < faces → idx w (upper + k) < size
up_of_lem w size faces upper lower k ok h = ok.up k h

pub low_of : (w : List ℕ) (size faces upper lower k : ℕ) → MirrorsOk w size faces upper lower → k < faces → idx w (lower + k) < size
low_of w size faces upper lower k ok h = ok.low k h

module _ (w : List ℕ) (values : List Float) (upper lower : ℕ) where
  -- the test of face k, its positions read in the words
  abbrev agree_at : ℕ → Bool
  agree_at k = pair_agrees (at values (idx w (upper + k))) (at values (idx w (lower + k)))

  mirrors_part : (n : ℕ) → each agree_at n ≡ mirrors_agree n (part upper n w) (part lower n w) values
  unfolding mirrors_agree
  mirrors_part n = each_same _ _ n (λ k h. simp get_d_part)

-- The invariant: ok tells whether the first k pairs agree.
pub record Agreed (w : List ℕ) (values : List Float) (upper lower n k : ℕ) (ok : Bool) : Type 0 where
  pub tested : Tested (agree_at w values upper lower) n k ok

pub agreed_start : (w : List ℕ) (values : List Float) (upper lower n : ℕ) → Agreed w values upper lower n 0 true
agreed_start w values upper lower n = record { tested = tested_start _ n }

pub agreed_on : {w : List ℕ} {values : List Float} {upper lower n k a b : ℕ} {ok r : Bool} → Agreed w values upper lower n k ok → k < n
    → a ≡ idx w (upper + k) → b ≡ idx w (lower + k) → r ≡ pair_agrees (at values a) (at values b)
    → Agreed w values upper lower n (k + 1) (ok && r)
agreed_on {w} {values} {upper} {lower} {n} {k} {a} {b} {ok} {r} t h i j e = record { tested = tested_on t.tested h (rw (i, j) at e) }

-- It ends with the definition's answer.
pub agreed_done : {w : List ℕ} {values : List Float} {upper lower n k : ℕ} {ok : Bool} → Agreed w values upper lower n k ok → n ≤ k
    → ok ≡ mirrors_agree n (part upper n w) (part lower n w) values
agreed_done {w} {values} {upper} {lower} {n} t h = tested_done t.tested h ∙ mirrors_part w values upper lower n

-- ---- the faces' values taken

-- to[k] = the upper value of face k
unfoldable pub take_turn : List ℕ → List Float → ℕ → ℕ → ℕ → List Float → List Float
take_turn w values upper to k F = set F (to + k) (at values (idx w (upper + k)))

-- The invariant: what is left to copy gives what the whole gives, and ok tells whether the first k pairs agree.
pub record Taking (w : List ℕ) (values F G : List Float) (upper lower to n k : ℕ) (ok : Bool) : Type 0 where
  pub left : Left (take_turn w values upper to) k n G (for (take_turn w values upper to) 0 n F)
  pub agreed : Agreed w values upper lower n k ok

pub taking_start : (w : List ℕ) (values F : List Float) (upper lower to n : ℕ) → Taking w values F F upper lower to n 0 true
taking_start w values F upper lower to n = record { left = left_start; agreed = agreed_start w values upper lower n }

-- A turn: the positions are known by equations.
pub taking_on : {w : List ℕ} {values F G : List Float} {upper lower to n k a b : ℕ} {ok r : Bool} → Taking w values F G upper lower to n k ok → k < n
    → a ≡ idx w (upper + k) → b ≡ idx w (lower + k) → r ≡ pair_agrees (at values a) (at values b)
    → Taking w values F (set G (to + k) (at values a)) upper lower to n (k + 1) (ok && r)
unfolding take_turn
taking_on t h i j e = record { left = left_on t.left h (rw i); agreed = agreed_on t.agreed h i j e }

-- It ends with each upper value written.
pub taking_done : {w : List ℕ} {values F G : List Float} {upper lower to n k : ℕ} {ok : Bool} → Taking w values F G upper lower to n k ok → n ≤ k
    → Taken w values F G n upper lower to ok
unfolding take_turn
taking_done {w} {values} {F} {G} {upper} {lower} {to} {n} t h =
    let start = for_each to n F (λ k I. at values (idx w (upper + k))) (λ k b I same. refl) in
    let regions = tab_same (λ k. at values (idx w (upper + k))) (λ k. at values (idx (part upper n w) k)) n (λ k b. simp get_d_part) in
    record {
      agree = agreed_done t.agreed h;
      wrote = wrote (left_end t.left h ∙ start ∙ ap (λ (v : List Float). splice to v F) regions) (length_tab _ n);
    }
