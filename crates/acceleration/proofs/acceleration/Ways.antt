-- The ways out of `correct`.
-- Assumes nothing.
use Rattle.std.specs.Prelude.{Result, Ok, Err}
use mathlib.Core.Path.{◌≡◌, refl, sym, ap, ◌∙◌}
use mathlib.Core.Bool.{Bool, true, false, cond}
use mathlib.Core.List.{List, [], ◌∷◌, ◌++◌}
use mathlib.Core.Logic.{⊎_elim}
use Prim.Native.Nat.{ℕ, zero, suc, ◌+◌, ◌*◌, ◌≤◌, ◌<◌}
use native.Mathlib.Nat.{add-zero, zero-mul, suc-mul, mul-le-mul_right}
use native.Mathlib.Numerals.{add-one}
use native.Mathlib.Omega.{arith}
use borrow.Author.Tests.{eq-eqb, ne_eqb}
use lib.Dec.{eqb}
use lib.Ieee.{Float}
use lib.ListN.{length, length-append}
use Rattle.refusal.specs.declared.Refusal.{Refusal}
use Rattle.refusal.specs.Outcome.{Outcome, accepted, refused}
use Rattle.refusal.proofs.Outcome.{refuses}
use Rattle.store.specs.Region.{part}
use Rattle.store.proofs.store.Region.{le_or_lt}
use Rattle.acceleration.specs.Directions.{Pair}
use Rattle.acceleration.specs.DirectionsContract.{pair_at, memory_at, Stepped, PassOk}
use Rattle.acceleration.proofs.directions.Passes.{memory_same}
use Rattle.acceleration.specs.Normal.{normal_of}
use Rattle.acceleration.specs.NormalizeContract.{NormalOk, Normal}
use Rattle.acceleration.specs.Advance.{advance_of}
use Rattle.acceleration.specs.AdvanceContract.{AdvanceOk, Advanced}
use Rattle.acceleration.specs.Gcr.{Corrections, twice_of, kept_of, correct_of}
use Rattle.acceleration.specs.AccelerationContract.{Restarted, CorrectOk, CorrectedBy}

-- ---- the memory

-- k stored pairs are k.
length_memory : (k n p q : ℕ) (F : List Float) → length (memory_at k n p q F) ≡ k
unfolding memory_at
length_memory zero n p q F = refl
length_memory (suc k) n p q F = ap suc (length_memory k n (p + n) (q + n) F)

-- One pair more stands at the end.
memory_more : (k n p q : ℕ) (F : List Float) → memory_at (suc k) n p q F ≡ memory_at k n p q F ++ (pair_at n (p + k * n) (q + k * n) F ∷ [])
unfolding memory_at
memory_more zero n p q F = let z : 0 * n ≡ 0 = zero-mul n in rw (z, add-zero p, add-zero q)
memory_more (suc k) n p q F =
    let m = suc-mul k n in
    let a : p + n + k * n ≡ p + suc k * n = omega arith in
    let b : q + n + k * n ≡ q + suc k * n = omega arith in
    ap (λ (r : List Pair). pair_at n p q F ∷ r) (rw (a, b) at (memory_more k n (p + n) (q + n) F))

room : (k krylov n : ℕ) → k < krylov → k * n + n ≤ krylov * n
room k krylov n h = let m = suc-mul k n in let l = mul-le-mul_right n h in omega arith

-- The pairs that stay: none of a full memory.
pub restart_full : {krylov used : ℕ} → 0 < krylov → used ≡ krylov → Restarted krylov used 0
restart_full {krylov} {used} h e = let t = eq-eqb used krylov e in record { is = rw t; below = h }

-- All of one that is not.
pub restart_not : {krylov used : ℕ} → used ≤ krylov → (used ≡ krylov → ⊥) → Restarted krylov used used
restart_not {krylov} {used} h e =
    let t = ne_eqb used krylov e in
    record { is = rw t; below = ⊎_elim (λ (q : krylov ≤ used). absurd (e (omega arith))) (λ q. q) (le_or_lt krylov used) }

-- ---- from an outcome to what `correct` ensures

module _ {size n krylov used solution directions images residual direction image k : ℕ}
    (ok : CorrectOk size n krylov used solution directions images residual direction image) (s : Restarted krylov used k) where
  -- The pair that is stored next lies within the memory.
  pub next_fits : k * n + n ≤ krylov * n
  next_fits = room k krylov n s.below

  -- What `orthogonalize` requires.
  pub pass_ok : PassOk size n k directions images direction image
  pass_ok =
      let m = next_fits in
      record { ps = omega arith; qs = omega arith; directions = ok.pairs; images = ok.within }

module _ (F : List Float) {n krylov used solution directions images residual direction image k : ℕ}
    (ok : CorrectOk (length F) n krylov used solution directions images residual direction image) (s : Restarted krylov used k) where
  abbrev outcome : Outcome Corrections
  outcome = correct_of n krylov (memory_at used n directions images F) (pair_at n direction image F) (part residual n F) (part solution n F)

  abbrev By : List Float → Result ℕ Refusal → Type 0
  By G r = CorrectedBy n krylov solution directions images direction image outcome F G r

  kept_is : memory_at k n directions images F ≡ kept_of krylov (memory_at used n directions images F)
  unfolding kept_of memory_at
  kept_is = rw (s.is, length_memory used n directions images F) (go (eqb used krylov))
    where
      go : (b : Bool) → memory_at (cond b 0 used) n directions images F ≡ cond b [] (memory_at used n directions images F)
      go true = refl
      go false = refl

  module _ {G : List Float} {r : Result Unit Refusal}
      (d : Stepped n direction image (twice_of n (memory_at k n directions images F) (pair_at n direction image F)) F G r) where
    -- 28, in a pass.
    pub correct_first : {reason : Refusal} → r ≡ Err reason → By G (Err reason)
    unfolding correct_of
    correct_first {reason} t =
        let e : refused reason ≡ twice_of n (memory_at k n directions images F) (pair_at n direction image F) = rw t at d.is in
        let o : outcome ≡ refused reason = rw (← kept_is, ← e) in
        record {
          answer = rw o;
          fits = λ j u. let z : ◌≡◌ {A = ℕ} 0 1 = cc in absurd (omega arith);
          solved = λ s' u. let z : ◌≡◌ {A = ℕ} 0 1 = cc in absurd (omega arith);
          stored = λ s' u. let z : ◌≡◌ {A = ℕ} 0 1 = cc in absurd (omega arith);
          still = λ q u. d.frame.below solution n (omega arith);
          below = λ a m c l. d.frame.below a m (omega arith);
          between = λ a m l u. d.frame.below a m u;
          above = λ a m l. d.frame.above a m l;
          size = d.frame.size;
        }

    -- What `normalize` requires.
    pub normal_ok : NormalOk (length G) n (directions + k * n) (images + k * n) direction image
    normal_ok =
        let m = next_fits ok s in
        let e : length G ≡ length F = d.frame.size in
        record { ps = omega arith; qs = omega arith; directions = ok.pairs; images = omega arith }

    module _ {H : List Float} {v : Result Unit Refusal} (t : r ≡ Ok tt)
        (c : Normal n (directions + k * n) (images + k * n) (normal_of n (pair_at n direction image G)) G H v) where
      orthogonal : twice_of n (memory_at k n directions images F) (pair_at n direction image F) ≡ accepted (pair_at n direction image G)
      orthogonal = sym (rw t at d.is)

      low : (a m : ℕ) → a + m ≤ directions → part a m H ≡ part a m F
      low a m l =
          let u = next_fits ok s in
          c.off a m (omega arith) (omega arith) ∙ d.frame.below a m (omega arith)

      middle : (a m : ℕ) → images + krylov * n ≤ a → a + m ≤ direction → part a m H ≡ part a m F
      middle a m l h =
          let u = next_fits ok s in
          c.off a m (omega arith) (omega arith) ∙ d.frame.below a m h

      high : (a m : ℕ) → image + n ≤ a → part a m H ≡ part a m F
      high a m l =
          let u = next_fits ok s in
          c.off a m (omega arith) (omega arith) ∙ d.frame.above a m l

      -- 28, 29 or 30, in the normalisation.
      pub correct_second : {q : Refusal} → v ≡ Err q → By H (Err q)
      unfolding correct_of
      correct_second {q} y =
          let e = refuses (normal_of n (pair_at n direction image G)) c.answer y in
          let o : outcome ≡ refused q = rw (← kept_is, orthogonal, e) in
          record {
            answer = rw o;
            fits = λ j u. let z : ◌≡◌ {A = ℕ} 0 1 = cc in absurd (omega arith);
            solved = λ s' u. let z : ◌≡◌ {A = ℕ} 0 1 = cc in absurd (omega arith);
            stored = λ s' u. let z : ◌≡◌ {A = ℕ} 0 1 = cc in absurd (omega arith);
            still = λ q' u. low solution n ok.solutions;
            below = λ a m _ l. low a m l;
            between = middle;
            above = high;
            size = c.size ∙ d.frame.size;
          }

      -- What `advance` requires.
      pub advance_ok : AdvanceOk (length H) n solution (directions + k * n) (images + k * n) residual
      advance_ok =
          let m = next_fits ok s in
          let e : length G ≡ length F = d.frame.size in
          let e' : length H ≡ length G = c.size in
          record { solutions = omega arith; ps = omega arith; qs = omega arith; residuals = omega arith }

      module _ {I : List Float} {b : Result Unit Refusal} (y : v ≡ Ok tt)
          (x : Advanced n solution (advance_of n (part residual n H) (pair_at n (directions + k * n) (images + k * n) H) (part solution n H)) H I b) where
        residual_is : part residual n H ≡ part residual n F
        residual_is = middle residual n ok.second ok.residuals

        solution_is : part solution n H ≡ part solution n F
        solution_is = low solution n ok.solutions

        -- 28, in the step along the new direction.
        pub correct_last : {reason : Refusal} → b ≡ Err reason → By I (Err reason)
        unfolding correct_of
        correct_last {reason} z =
            let e = c.pair y in
            let f : refused reason ≡ advance_of n (part residual n H) (pair_at n (directions + k * n) (images + k * n) H) (part solution n H) = rw z at x.is in
            let o : outcome ≡ refused reason = rw (← kept_is, orthogonal, e, ← residual_is, ← solution_is, ← f) in
            let m = next_fits ok s in
            record {
              answer = rw o;
              fits = λ j u. let z : ◌≡◌ {A = ℕ} 0 1 = cc in absurd (omega arith);
              solved = λ s' u. let z : ◌≡◌ {A = ℕ} 0 1 = cc in absurd (omega arith);
              stored = λ s' u. let z : ◌≡◌ {A = ℕ} 0 1 = cc in absurd (omega arith);
              still = λ q' u. x.still reason z ∙ solution_is;
              below = λ a m c l. x.off a m c ∙ low a m l;
              between = λ a m l h. x.off a m (omega arith) ∙ middle a m l h;
              above = λ a m l. x.off a m (omega arith) ∙ high a m l;
              size = x.size ∙ c.size ∙ d.frame.size;
            }

        -- All questions passed: one pair more, and the solution has moved.
        pub correct_done : b ≡ Ok tt → By I (Ok (k + 1))
        unfolding correct_of
        correct_done z =
            let e = c.pair y in
            let f : accepted (part solution n I) ≡ advance_of n (part residual n H) (pair_at n (directions + k * n) (images + k * n) H) (part solution n H) = rw z at x.is in
            let m = next_fits ok s in
            let more = memory_at k n directions images F ++ (pair_at n (directions + k * n) (images + k * n) H ∷ []) in
            let new : Corrections = record { memory = more; solution = part solution n I } in
            let o : outcome ≡ accepted new = rw (← kept_is, orthogonal, e, ← residual_is, ← solution_is, ← f) in
            let long : length more ≡ suc k = length-append (memory_at k n directions images F) (pair_at n (directions + k * n) (images + k * n) H ∷ []) ∙ ap (λ (j : ℕ). j + 1) (length_memory k n directions images F) ∙ add-one k in
            let old : memory_at k n directions images I ≡ memory_at k n directions images F = memory_same k n directions images F I
            (λ a w l u. x.off a w (omega arith) ∙ c.off a w (omega arith) (omega arith) ∙ d.frame.below a w (omega arith))
            (λ a w l u. x.off a w (omega arith) ∙ c.off a w (omega arith) (omega arith) ∙ d.frame.below a w (omega arith)) in
            let p_is : part (directions + k * n) n I ≡ part (directions + k * n) n H = x.off (directions + k * n) n (omega arith) in
            let q_is : part (images + k * n) n I ≡ part (images + k * n) n H = x.off (images + k * n) n (omega arith) in
            let is : memory_at (length more) n directions images I ≡ more = rw (long, memory_more k n directions images I, old, p_is, q_is) in
            record {
              answer = rw (o, long, add-one k);
              fits = λ j u. let i : k + 1 ≡ j = cc in let l = s.below in omega arith;
              solved = λ s' u. let j : new ≡ s' = cc in ap (λ (c : Corrections). c.solution) j;
              stored = λ s' u. let j : new ≡ s' = cc in rw (← j) is;
              still = λ q' u. let z : ◌≡◌ {A = ℕ} 0 1 = cc in absurd (omega arith);
              below = λ a m c l. x.off a m c ∙ low a m l;
              between = λ a m l h. x.off a m (omega arith) ∙ middle a m l h;
              above = λ a m l. x.off a m (omega arith) ∙ high a m l;
              size = x.size ∙ c.size ∙ d.frame.size;
            }
