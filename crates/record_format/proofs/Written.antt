-- Numbers written one behind another. Assumes nothing.
use mathlib.Core.Path.{◌≡◌, refl, sym, ap, subst, ◌∙◌}
use mathlib.Core.List.{List, [], ◌∷◌, ◌++◌}
use Prim.Native.Nat.{ℕ, zero, suc, ◌+◌, ◌*◌, ◌/◌, ◌%◌, ◌≤◌, ◌<◌}
use native.Mathlib.Nat.{zero-add, suc-add, mul-suc}
use native.Mathlib.Numerals.{add-one}
use native.Mathlib.Omega.{arith}
use lib.ListN.{length, get_or, set, take, length-append}
use lib.Seq.{take-suc, take-length}
use lib.Ieee.{Float, binary64, to_bits}
use Rattle.store.specs.Region.{lay, splice, Wrote}
use Rattle.store.proofs.store.Region.{wrote, splice_nil, set_splice_end}
use Rattle.record_format.specs.Bytes.{bytes4, bytes8, float_bytes, flat}
use Rattle.record_format.proofs.Numbers.{flat_snoc}

-- ---- one part behind another

lay_append : (u v F : List ℕ) → splice (length u) v (lay u F) ≡ lay (u ++ v) F
unfolding splice lay
lay_append [] v F = refl
lay_append (x ∷ u) v [] = refl
lay_append (x ∷ u) v (y ∷ F) = ap (λ (l : List ℕ). x ∷ l) (lay_append u v F)

splice_append : (b : ℕ) (u v F : List ℕ) → splice (b + length u) v (splice b u F) ≡ splice b (u ++ v) F
unfolding splice
splice_append zero u v F = ap (λ (k : ℕ). splice k v (lay u F)) (zero-add (length u)) ∙ lay_append u v F
splice_append (suc b) u v [] = ap (λ (k : ℕ). splice k v []) (suc-add b (length u))
splice_append (suc b) u v (y ∷ F) = ap (λ (k : ℕ). splice k v (y ∷ splice b u F)) (suc-add b (length u)) ∙ ap (λ (l : List ℕ). y ∷ l) (splice_append b u v F)

-- Of two parts that are written one behind another the whole is written.
pub wrote_next : {b n m p : ℕ} {u v F G H : List ℕ} → Wrote b n u F G → p ≡ b + n → Wrote p m v G H → Wrote b (n + m) (u ++ v) F H
wrote_next {b} {n} {m} {p} {u} {v} {F} {G} {H} g e h =
    wrote (h.is ∙ ap (λ (i : ℕ). splice i v G) (e ∙ ap (λ (k : ℕ). b + k) (sym g.long)) ∙ ap (splice (b + length u) v) g.is ∙ splice_append b u v F)
    (length-append u v ∙ omega (arith, g.long, h.long))

-- ---- a number

-- A byte is written.
pub wrote_byte : (at x : ℕ) (F : List ℕ) → Wrote at 1 (x ∷ []) F (set F at x)
wrote_byte at x F =
    let e : at + 0 ≡ at = omega arith in
    wrote (ap (λ (i : ℕ). set F i x) (sym e) ∙ ap (λ (G : List ℕ). set G (at + 0) x) (sym (splice_nil at F)) ∙ set_splice_end at [] F x) refl

-- Four bytes that are written are those of a u32.
pub wrote_word : (at v : ℕ) {F G H I J : List ℕ} → Wrote at 1 (v % 256 ∷ []) F G → Wrote (at + 1) 1 (v / 256 % 256 ∷ []) G H
    → Wrote (at + 2) 1 (v / 65536 % 256 ∷ []) H I → Wrote (at + 3) 1 (v / 16777216 % 256 ∷ []) I J → Wrote at 4 (bytes4 v) F J
unfolding bytes4
wrote_word at v a b c d = wrote_next (wrote_next (wrote_next a refl b) refl c) refl d

-- Two u32 that are written are a u64.
pub wrote_long : (at v : ℕ) {F G H : List ℕ} → Wrote at 4 (bytes4 (v % 4294967296)) F G → Wrote (at + 4) 4 (bytes4 (v / 4294967296)) G H → Wrote at 8 (bytes8 v) F H
unfolding bytes8
wrote_long at v g h = wrote_next g refl h

-- The bits of a float are written.
pub wrote_float : (at : ℕ) (x : Float) {b : ℕ} {F G : List ℕ} → b ≡ to_bits binary64 x → Wrote at 8 (bytes8 b) F G → Wrote at 8 (float_bytes x) F G
wrote_float at x {b} {F} {G} e h = subst (λ (i : ℕ). Wrote at 8 (bytes8 i) F G) e h

-- ---- numbers of w bytes each, one behind another

module _ {A : Type 0} (f : A → List ℕ) (d : A) (w at : ℕ) (xs : List A) {F : List ℕ} where
  -- Before the first nothing is written.
  pub flat_start : Wrote at (w * 0) (flat f (take 0 xs)) F F
  unfolding flat
  flat_start = wrote (sym (splice_nil at F)) (omega arith)

  -- One more is written.
  pub flat_on : {G H : List ℕ} {k : ℕ} → Wrote at (w * k) (flat f (take k xs)) F G → k < length xs → Wrote (at + w * k) w (f (get_or xs k d)) G H
      → Wrote at (w * (k + 1)) (flat f (take (k + 1) xs)) F H
  flat_on {G} {H} {k} g h t =
      let all : flat f (take (k + 1) xs) ≡ flat f (take k xs) ++ f (get_or xs k d) =
      ap (flat f) (ap (λ (i : ℕ). take i xs) (add-one k) ∙ take-suc xs k d h) ∙ flat_snoc f (take k xs) (get_or xs k d) in
      let long : w * (k + 1) ≡ w * k + w = ap (λ (i : ℕ). w * i) (add-one k) ∙ mul-suc w k in
      subst (λ (n : ℕ). Wrote at n (flat f (take (k + 1) xs)) F H) (sym long)
      (subst (λ (l : List ℕ). Wrote at (w * k + w) l F H) (sym all) (wrote_next g refl t))

  -- After the last all are written.
  pub flat_end : {G : List ℕ} {k : ℕ} → Wrote at (w * k) (flat f (take k xs)) F G → length xs ≤ k → k ≤ length xs → Wrote at (w * length xs) (flat f xs) F G
  flat_end {G} {k} g lo hi =
      let e : k ≡ length xs = omega arith in
      subst (λ (l : List A). Wrote at (w * length xs) (flat f l) F G) (take-length xs) (subst (λ (i : ℕ). Wrote at (w * i) (flat f (take i xs)) F G) e g)
