-- Loops that rewrite one region of a store: `Going`, their invariant, and its start, turn and end; and what is written behind the
-- front of a store.
-- Assumes nothing.
use mathlib.Core.Path.{◌≡◌, refl, sym, ap, ◌∙◌}
use mathlib.Core.List.{List, [], ◌∷◌, ◌++◌}
use Prim.Native.Nat.{ℕ, ◌+◌, ◌-◌, ◌≤◌, ◌<◌}
use native.Mathlib.Omega.{arith}
use lib.ListN.{length, set, length-set, take, drop}
use Rattle.std.proofs.lemmas.List.{take-append-le, drop-append-le, length-append, length-drop}
use Rattle.store.specs.Loop.{for}
use Rattle.store.specs.Region.{part, splice, Wrote}
use Rattle.store.proofs.store.Loop.{Left, left_start, left_on, left_end}
use Rattle.store.proofs.store.Region.{length_part, set_splice, splice_part, splice_back, part_front, wrote, wrote_at, wrote_again}

-- Of F the turns before k of n have made G: only the region at out has changed, and what is left of the turns gives r there.
pub record Going {A : Type 0} (step : ℕ → List A → List A) (out total k n : ℕ) (r F G : List A) : Type 0 where
  pub written : Wrote out total (part out total G) F G
  pub left : Left step k n (part out total G) r

module _ {A : Type 0} where
  -- Before the first turn nothing has changed.
  pub going_start : (step : ℕ → List A → List A) (out total lo n : ℕ) (F : List A) → out + total ≤ length F
      → Going step out total lo n (for step lo n (part out total F)) F F
  going_start step out total lo n F fits =
      record { written = wrote (sym (splice_part out total F)) (length_part out total F fits); left = left_start }

  -- A turn that writes the region as the step does.
  pub going_on : {step : ℕ → List A → List A} {out total k n : ℕ} {r F G H : List A} → out + total ≤ length F → Going step out total k n r F G → k < n
      → Wrote out total (step k (part out total G)) G H → Going step out total (k + 1) n r F H
  going_on {step} {out} {total} {k} {n} {r} {F} {G} {H} fits g h t =
      let size : length G ≡ length F = g.written.size in
      let e : part out total H ≡ step k (part out total G) = wrote_at t (omega arith) in
      record { written = rw e (wrote_again g.written t); left = left_on g.left h e }

  -- After the last turn the region holds the result.
  pub going_end : {step : ℕ → List A → List A} {out total k n : ℕ} {r F G : List A} → Going step out total k n r F G → n ≤ k → Wrote out total r F G
  going_end {step} {out} {total} {k} {n} {r} {F} {G} g h = rw (left_end g.left h) at g.written

  -- A store into the region is one into its list.
  pub wrote_set : (out total i : ℕ) (x : A) (G : List A) → out + total ≤ length G → i < total → Wrote out total (set (part out total G) i x) G (set G (out + i) x)
  wrote_set out total i x G fits h =
      let long : length (part out total G) ≡ total = length_part out total G fits in
      let l : i < length (part out total G) = omega arith in
      wrote (ap (λ (H : List A). set H (out + i) x) (sym (splice_part out total G)) ∙ set_splice out (part out total G) G i x l) (length-set (part out total G) i x ∙ long)

  -- What is written at the start of what stands behind a front, and follows from a part of the front.
  pub wrote_behind : (v : List A → List A) (front : List A) {back F G : List A} {out total : ℕ} (b n : ℕ) → F ≡ front ++ back → length front ≡ out
      → b + n ≤ out → Wrote 0 total (v (take (b + n - b) (drop b front))) back G → Wrote out total (v (part b n F)) F (front ++ G)
  wrote_behind v front {back} {F} {G} {out} {total} b n is at h t =
      let k : b + n - b ≡ n = omega arith in
      let p : part b n F ≡ take n (drop b front) = ap (part b n) is ∙ part_front b n front back (omega arith) in
      let s : length G ≡ length back = t.size in
      let l : length (front ++ G) ≡ length (front ++ back) = length-append front G ∙ ap (λ (k : ℕ). length front + k) s ∙ sym (length-append front back) in
      let u : Wrote 0 total (v (take n (drop b front))) back G = rw k at t in
      rw (p, is, ← at)
      record { is = ap (λ (r : List A). front ++ r) u.is ∙ sym (splice_back front (v (take n (drop b front))) back); long = u.long; size = l }
