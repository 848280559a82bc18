-- The box of any extents is a neat grid: its faces are told from both sides, and a cell's neighbours rise. Assumes nothing.
use Rattle.std.proofs.Common.{◌≡◌, ℕ, zero, suc, ◌+◌, ◌-◌, ◌*◌, ◌/◌, ◌%◌, ◌<◌, ◌≤◌, true, false, ltb, List, [], ◌∷◌, sym, ap, ◌∙◌, subst, ⊎_elim, mod-lt, mod-eq_of_lt, mul_assoc, mul_comm, div-lt_iff_lt-mul, add-mul, mul-le-mul_left, mul-pos, one-mul, div-add-mod', mul-suc, arith, ltb-true, lt-ltb}
use native.Mathlib.Nat.{div-eq_of_lt, zero-mod, mod-add-mod, mod_self, add-mul-div_right}
use Rattle.store.proofs.store.Region.{le_or_lt}
use Rattle.store.proofs.store.Each.{both_l, both_r}
use Rattle.pattern.proofs.pattern.Number.{bool?}
use Rattle.load.specs.Box.{Axis, axes_from, along, has_ahead, has_behind, ahead_of, behind_of, cells_of, box, all_positive}
use Rattle.load.specs.Steps.{optional}
use Rattle.load.specs.Theorem.{Between, Among, Neat}
use Rattle.load.proofs.Rising.{between_wide, between_on, among_l, among_r, among_which, among_optional, optional_among}

-- ---- one axis

module _ (s e : ℕ) (some : 0 < s) where
  abbrev a : Axis
  a = record { stride = s; extent = e }

  -- A step along the axis.
  step : (i : ℕ) → (i + s) / s ≡ i / s + 1
  step i = ap (λ (v : ℕ). (i + v) / s) (sym (one-mul s)) ∙ add-mul-div_right i 1 some

  -- A face ahead: the cell there has a face behind,
  pub ahead_behind : (i : ℕ) → has_ahead a i ≡ true → has_behind a (i + s) ≡ true
  unfolding has_ahead has_behind along
  ahead_behind i t =
      let h : i / s % e + 1 < e = ltb-true (i / s % e + 1) e t in
      let n : (i + s) / s % e ≡ i / s % e + 1 =
      ap (λ (q : ℕ). q % e) (step i) ∙ sym (mod-add-mod (i / s) e 1) ∙ mod-eq_of_lt h in
      lt-ltb 0 ((i + s) / s % e) (omega arith)

  -- there are two cells at least along the axis,
  pub ahead_two : (i : ℕ) → has_ahead a i ≡ true → 2 ≤ e
  unfolding has_ahead along
  ahead_two i t = let h = ltb-true (i / s % e + 1) e t in omega arith

  -- and the cell is one of the box, whose axes from here on have c cells more.
  pub ahead_inside : (c i : ℕ) → i < s * (e * c) → has_ahead a i ≡ true → i + s < s * (e * c)
  unfolding has_ahead along
  ahead_inside c i l t =
      let h : i / s % e + 1 < e = ltb-true (i / s % e + 1) e t in
      let q : i / s < c * e = (div-lt_iff_lt-mul {k = s} {x = i} {y = c * e} some).1 (omega (arith, mul_comm s (e * c), mul_comm e c, ap (λ (v : ℕ). v * s) (mul_comm e c))) in
      let r : i / s / e < c = (div-lt_iff_lt-mul {k = e} {x = i / s} {y = c} (omega arith)).1 q in
      let d : i / s / e * e + i / s % e ≡ i / s = div-add-mod' (i / s) e in
      let u : (i / s / e + 1) * e ≤ c * e = omega (arith, mul_comm (i / s / e + 1) e, mul_comm c e, mul-le-mul_left {m = i / s / e + 1} {n = c} e (omega arith)) in
      let v : i / s + 1 < c * e = omega (arith, times_suc (i / s / e) e) in
      let w : (i + s) / s < c * e = rw (step i) v in
      let x : i + s < c * e * s = (div-lt_iff_lt-mul {k = s} {x = i + s} {y = c * e} some).0 w in
      omega (arith, mul_comm s (e * c), ap (λ (v : ℕ). v * s) (mul_comm e c))
    where
      times_suc : (m n : ℕ) → (m + 1) * n ≡ m * n + n
      times_suc m n = add-mul m 1 n ∙ ap (λ (v : ℕ). m * n + v) (one-mul n)

  -- A face behind: the cell is not among the first,
  pub behind_far : (i : ℕ) → has_behind a i ≡ true → s ≤ i
  unfolding has_behind along
  behind_far i t =
      let h : 0 < i / s % e = ltb-true 0 (i / s % e) t in
      ⊎_elim (λ (l : s ≤ i). l)
      (λ (l : i < s). let z : i / s ≡ 0 = div-eq_of_lt l in let y : i / s % e ≡ 0 = ap (λ (q : ℕ). q % e) z ∙ zero-mod e in absurd (omega arith))
      (le_or_lt s i)

  -- there are two cells at least,
  pub behind_two : (i : ℕ) → 0 < e → has_behind a i ≡ true → 2 ≤ e
  unfolding has_behind along
  behind_two i p t = let h = ltb-true 0 (i / s % e) t in omega (arith, mod-lt (i / s) p)

  -- and the cell there has a face ahead.
  pub behind_ahead : (i : ℕ) → 0 < e → has_behind a i ≡ true → has_ahead a (i - s) ≡ true
  unfolding has_ahead has_behind along
  behind_ahead i p t =
      let h : 0 < i / s % e = ltb-true 0 (i / s % e) t in
      let f = behind_far i t in
      let back : i - s + s ≡ i = omega arith in
      let q : i / s ≡ (i - s) / s + 1 = ap (λ (j : ℕ). j / s) (sym back) ∙ step (i - s) in
      let r : ((i - s) / s % e + 1) % e ≡ i / s % e = mod-add-mod ((i - s) / s) e 1 ∙ ap (λ (v : ℕ). v % e) (sym q) in
      let l = mod-lt ((i - s) / s) p in
      lt-ltb ((i - s) / s % e + 1) e (⊎_elim
      (λ (k : e ≤ (i - s) / s % e + 1).
      let same : (i - s) / s % e + 1 ≡ e = omega arith in
      let z : i / s % e ≡ 0 = sym r ∙ ap (λ (v : ℕ). v % e) same ∙ mod_self e in
      absurd (omega arith))
      (λ (k : (i - s) / s % e + 1 < e). k)
      (le_or_lt e ((i - s) / s % e + 1)))

-- ---- all axes

-- A stride grows by the extent.
grows : (s e : ℕ) → 0 < s → 2 ≤ e → s + 1 ≤ s * e
grows s zero h k = absurd (omega arith)
grows s (suc zero) h k = absurd (omega arith)
grows s (suc (suc e)) h k = omega (arith, mul-suc s (suc e), mul-suc s e)

keeps : (s e : ℕ) → 0 < e → s ≤ s * e
keeps s zero h = absurd (omega arith)
keeps s (suc e) h = omega (arith, mul-suc s e)

-- The cells ahead rise, from a stride on, and are cells of the box.
ahead_between : (es : List ℕ) (s i n : ℕ) → all_positive es ≡ true → 0 < s → s * cells_of es ≡ n → i < n
    → Between (i + s) n (ahead_of (axes_from s es) i)
unfolding ahead_of axes_from all_positive cells_of
ahead_between [] s i n p h c l = tt
ahead_between (e ∷ es) s i n p h c l =
    let pe : 0 < e = ltb-true 0 e (both_l (ltb 0 e) (all_positive es) p) in
    let rest : Between (i + s * e) n (ahead_of (axes_from (s * e) es) i) =
    ahead_between es (s * e) i n (both_r (ltb 0 e) (all_positive es) p) (mul-pos h pe) (mul_assoc s e (cells_of es) ∙ c) l in
    let a : Axis = record { stride = s; extent = e } in
    ⊎_elim
    (λ (t : has_ahead a i ≡ true).
    let g = grows s e h (ahead_two s e h i t) in
    let inside : i + s < n = subst (λ (v : ℕ). i + s < v) c (ahead_inside s e h (cells_of es) i (subst (λ (v : ℕ). i < v) (sym c) l) t) in
    rw t (omega arith, inside, between_wide (i + s * e) n (i + s + 1) n (ahead_of (axes_from (s * e) es) i) (omega arith) (omega arith) rest))
    (λ (t : has_ahead a i ≡ false).
    let g = keeps s e pe in
    rw t (between_wide (i + s * e) n (i + s) n (ahead_of (axes_from (s * e) es) i) (omega arith) (omega arith) rest))
    (bool? (has_ahead a i))

-- The cells behind rise, up to a stride before.
behind_between : (es : List ℕ) (s i : ℕ) → all_positive es ≡ true → 0 < s → Between 0 (i + 1 - s) (behind_of (axes_from s es) i)
unfolding behind_of axes_from all_positive
behind_between [] s i p h = tt
behind_between (e ∷ es) s i p h =
    let pe : 0 < e = ltb-true 0 e (both_l (ltb 0 e) (all_positive es) p) in
    let rest : Between 0 (i + 1 - s * e) (behind_of (axes_from (s * e) es) i) =
    behind_between es (s * e) i (both_r (ltb 0 e) (all_positive es) p) (mul-pos h pe) in
    let a : Axis = record { stride = s; extent = e } in
    let k = keeps s e pe in
    ⊎_elim
    (λ (t : has_behind a i ≡ true).
    let g = grows s e h (behind_two s e h i pe t) in
    let f = behind_far s e h i t in
    rw t (between_on 0 (i - s) (i + 1 - s) (behind_of (axes_from (s * e) es) i) ((i - s) ∷ []) (omega arith) (omega arith)
    (between_wide 0 (i + 1 - s * e) 0 (i - s) (behind_of (axes_from (s * e) es) i) (omega arith) (omega arith) rest) (omega arith, omega arith, tt)))
    (λ (t : has_behind a i ≡ false).
    rw t (between_on 0 (i + 1 - s * e) (i + 1 - s) (behind_of (axes_from (s * e) es) i) [] (omega arith) (omega arith) rest tt))
    (bool? (has_behind a i))

-- Where j is ahead of i, i is behind j,
ahead_back : (es : List ℕ) (s i j : ℕ) → all_positive es ≡ true → 0 < s → Among j (ahead_of (axes_from s es) i) → Among i (behind_of (axes_from s es) j)
unfolding ahead_of behind_of axes_from all_positive
ahead_back [] s i j p h w = absurd w
ahead_back (e ∷ es) s i j p h w =
    let pe : 0 < e = ltb-true 0 e (both_l (ltb 0 e) (all_positive es) p) in
    let a : Axis = record { stride = s; extent = e } in
    ⊎_elim
    (λ (here : Among j (optional (has_ahead a i) (i + s))).
    let o = among_optional j (i + s) (has_ahead a i) here in
    among_r i (behind_of (axes_from (s * e) es) j) (optional (has_behind a j) (j - s))
    (optional_among i (j - s) (has_behind a j) (rw o.1 (ahead_behind s e h i o.0)) (rw o.1 (omega arith))))
    (λ (there : Among j (ahead_of (axes_from (s * e) es) i)).
    among_l i (behind_of (axes_from (s * e) es) j) (optional (has_behind a j) (j - s))
    (ahead_back es (s * e) i j (both_r (ltb 0 e) (all_positive es) p) (mul-pos h pe) there))
    (among_which j (optional (has_ahead a i) (i + s)) (ahead_of (axes_from (s * e) es) i) w)

-- and where j is behind i, i is ahead of j.
behind_forth : (es : List ℕ) (s i j : ℕ) → all_positive es ≡ true → 0 < s → Among j (behind_of (axes_from s es) i) → Among i (ahead_of (axes_from s es) j)
unfolding ahead_of behind_of axes_from all_positive
behind_forth [] s i j p h w = absurd w
behind_forth (e ∷ es) s i j p h w =
    let pe : 0 < e = ltb-true 0 e (both_l (ltb 0 e) (all_positive es) p) in
    let a : Axis = record { stride = s; extent = e } in
    ⊎_elim
    (λ (there : Among j (behind_of (axes_from (s * e) es) i)).
    among_r i (optional (has_ahead a j) (j + s)) (ahead_of (axes_from (s * e) es) j)
    (behind_forth es (s * e) i j (both_r (ltb 0 e) (all_positive es) p) (mul-pos h pe) there))
    (λ (here : Among j (optional (has_behind a i) (i - s))).
    let o = among_optional j (i - s) (has_behind a i) here in
    let f = behind_far s e h i o.0 in
    among_l i (optional (has_ahead a j) (j + s)) (ahead_of (axes_from (s * e) es) j)
    (optional_among i (j + s) (has_ahead a j) (rw o.1 (behind_ahead s e h i pe o.0)) (rw o.1 (omega arith))))
    (among_which j (behind_of (axes_from (s * e) es) i) (optional (has_behind a i) (i - s)) w)

-- The box of any extents.
pub box_neat : (es : List ℕ) → all_positive es ≡ true → Neat (box es)
box_neat es p = record {
  below = λ i l. between_wide 0 (i + 1 - 1) 0 i (behind_of (axes_from 1 es) i) (omega arith) (omega arith) (behind_between es 1 i p (omega arith));
  above = λ i l. ahead_between es 1 i (cells_of es) p (omega arith) (one-mul (cells_of es)) l;
  back = λ i j l w. ahead_back es 1 i j p (omega arith) w;
  forth = λ i j l w. behind_forth es 1 i j p (omega arith) w;
}
