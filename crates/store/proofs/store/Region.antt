-- Laws of regions: loads and stores in a splice, a part of a splice, a splice of a splice, frames; and of `Wrote` and `Kept`.
-- Assumes nothing.
use mathlib.Core.Path.{◌≡◌, refl, sym, ap, ◌∙◌}
use mathlib.Core.List.{List, [], ◌∷◌, ◌++◌, append_assoc}
use mathlib.Core.Logic.{◌⊎◌, inl, inr, ⊎_elim}
use Prim.Native.Nat.{ℕ, zero, suc, ◌+◌, ◌-◌, ◌≤◌, ◌<◌, zero-le, suc-le-suc}
use native.Mathlib.Nat.{le_of_suc-le-suc, not-suc-le-zero, suc-add, zero-add, suc_inj}
use native.Mathlib.Omega.{arith}
use lib.ListN.{length, get_or, set, take, drop, length-drop}
use lib.Seq.{get_or-drop, get_or-take, length-take-le, take-nil, take-take, paste, take_all}
use borrow.Rule.Slice.PartMut.{put_mid}
use Rattle.std.proofs.lemmas.List.{take-append-le, drop-append-le}
use Rattle.std.proofs.lemmas.Slice.{put_mid-paste}
use Rattle.store.specs.Region.{Clear, part, lay, splice, Wrote, Kept}

-- Of two numbers one is at most the other.
pub le_or_lt : (a b : ℕ) → (a ≤ b) ⊎ (b < a)
le_or_lt zero b = inl zero-le
le_or_lt (suc a) zero = inr (suc-le-suc zero-le)
le_or_lt (suc a) (suc b) = ⊎_elim (λ p. inl (suc-le-suc p)) (λ q. inr (suc-le-suc q)) (le_or_lt a b)

module _ {A : Type 0} where
  -- Laying nothing changes nothing.
  pub splice_nil : (b : ℕ) (F : List A) → splice b [] F ≡ F
  unfolding splice lay
  splice_nil zero F = refl
  splice_nil (suc b) [] = refl
  splice_nil (suc b) (y ∷ F) = ap (λ (r : List A). y ∷ r) (splice_nil b F)

  -- ---- lengths

  -- To lay a list over another keeps its length.
  pub length_lay : (v F : List A) → length (lay v F) ≡ length F
  unfolding lay
  length_lay [] F = refl
  length_lay (x ∷ v) [] = refl
  length_lay (x ∷ v) (y ∷ F) = ap suc (length_lay v F)

  -- A splice has the store's length.
  pub length_splice : (b : ℕ) (v F : List A) → length (splice b v F) ≡ length F
  unfolding splice
  length_splice zero v F = length_lay v F
  length_splice (suc b) v [] = refl
  length_splice (suc b) v (y ∷ F) = ap suc (length_splice b v F)

  -- A region that lies in the store has its n elements.
  pub length_part : (b n : ℕ) (F : List A) → b + n ≤ length F → length (part b n F) ≡ n
  unfolding part
  length_part b n F h = length-take-le n (drop b F) (rw length-drop (omega arith))

  -- ---- a load

  -- Element k of the region at b is element b + k of the store.
  pub get_d_part : (b n : ℕ) (F : List A) (k : ℕ) (d : A) → k < n → get_or (part b n F) k d ≡ get_or F (b + k) d
  unfolding part
  get_d_part b n F k d h = rw (get_or-take, get_or-drop)

  get_d_lay : (v F : List A) (k : ℕ) (d : A) → k < length v → k < length F → get_or (lay v F) k d ≡ get_or v k d
  unfolding lay
  get_d_lay [] F k d h l = absurd (not-suc-le-zero h)
  get_d_lay (x ∷ v) [] k d h l = absurd (not-suc-le-zero l)
  get_d_lay (x ∷ v) (y ∷ F) zero d h l = refl
  get_d_lay (x ∷ v) (y ∷ F) (suc k) d h l = get_d_lay v F k d (le_of_suc-le-suc h) (le_of_suc-le-suc l)

  -- Inside a splice stands what was laid.
  pub get_d_splice_in : (b : ℕ) (v F : List A) (k : ℕ) (d : A) → k < length v → b + k < length F → get_or (splice b v F) (b + k) d ≡ get_or v k d
  unfolding splice
  get_d_splice_in zero v F k d h l = rw zero-add (get_d_lay v F k d h (omega arith))
  get_d_splice_in (suc b) v [] k d h l = absurd (not-suc-le-zero l)
  get_d_splice_in (suc b) v (y ∷ F) k d h l = rw suc-add (get_d_splice_in b v F k d h (omega arith))

  -- Below a splice stands what stood there.
  pub get_d_splice_below : (b : ℕ) (v F : List A) (i : ℕ) (d : A) → i < b → get_or (splice b v F) i d ≡ get_or F i d
  unfolding splice
  get_d_splice_below zero v F i d h = absurd (not-suc-le-zero h)
  get_d_splice_below (suc b) v [] i d h = refl
  get_d_splice_below (suc b) v (y ∷ F) zero d h = refl
  get_d_splice_below (suc b) v (y ∷ F) (suc i) d h = get_d_splice_below b v F i d (le_of_suc-le-suc h)

  get_d_lay_above : (v F : List A) (i : ℕ) (d : A) → length v ≤ i → get_or (lay v F) i d ≡ get_or F i d
  unfolding lay
  get_d_lay_above [] F i d h = refl
  get_d_lay_above (x ∷ v) [] i d h = refl
  get_d_lay_above (x ∷ v) (y ∷ F) zero d h = absurd (not-suc-le-zero h)
  get_d_lay_above (x ∷ v) (y ∷ F) (suc i) d h = get_d_lay_above v F i d (le_of_suc-le-suc h)

  -- Above a splice stands what stood there.
  pub get_d_splice_above : (b : ℕ) (v F : List A) (i : ℕ) (d : A) → b + length v ≤ i → get_or (splice b v F) i d ≡ get_or F i d
  unfolding splice
  get_d_splice_above zero v F i d h = get_d_lay_above v F i d (omega arith)
  get_d_splice_above (suc b) v [] i d h = refl
  get_d_splice_above (suc b) v (y ∷ F) zero d h = absurd (omega arith)
  get_d_splice_above (suc b) v (y ∷ F) (suc i) d h = get_d_splice_above b v F i d (omega arith)

  -- Clear of a splice, on either side, stands what stood there.
  pub get_d_splice_clear : (b : ℕ) (v F : List A) (i : ℕ) (d : A) → Clear i 1 b (length v) → get_or (splice b v F) i d ≡ get_or F i d
  get_d_splice_clear b v F i d h = ⊎_elim (λ p. get_d_splice_above b v F i d (omega arith)) (λ q. get_d_splice_below b v F i d q) (le_or_lt b i)

  -- ---- a store

  set_lay : (v F : List A) (k : ℕ) (a : A) → k < length v → set (lay v F) k a ≡ lay (set v k a) F
  unfolding lay
  set_lay [] F k a h = absurd (not-suc-le-zero h)
  set_lay (x ∷ v) [] zero a h = refl
  set_lay (x ∷ v) [] (suc k) a h = refl
  set_lay (x ∷ v) (y ∷ F) zero a h = refl
  set_lay (x ∷ v) (y ∷ F) (suc k) a h = ap (λ (r : List A). x ∷ r) (set_lay v F k a (le_of_suc-le-suc h))

  -- A store inside a splice is a store in what was laid.
  pub set_splice : (b : ℕ) (v F : List A) (k : ℕ) (a : A) → k < length v → set (splice b v F) (b + k) a ≡ splice b (set v k a) F
  unfolding splice
  set_splice zero v F k a h = rw zero-add (set_lay v F k a h)
  set_splice (suc b) v [] k a h = refl
  set_splice (suc b) v (y ∷ F) k a h = rw suc-add (ap (λ (r : List A). y ∷ r) (set_splice b v F k a h))

  -- A store below a splice is one in the store under it.
  pub set_splice_below : (b : ℕ) (v F : List A) (i : ℕ) (a : A) → i < b → set (splice b v F) i a ≡ splice b v (set F i a)
  unfolding splice
  set_splice_below zero v F i a h = absurd (not-suc-le-zero h)
  set_splice_below (suc b) v [] i a h = refl
  set_splice_below (suc b) v (y ∷ F) zero a h = refl
  set_splice_below (suc b) v (y ∷ F) (suc i) a h = ap (λ (r : List A). y ∷ r) (set_splice_below b v F i a (le_of_suc-le-suc h))

  set_lay_end : (v F : List A) (a : A) → set (lay v F) (length v) a ≡ lay (v ++ (a ∷ [])) F
  unfolding lay
  set_lay_end [] [] a = refl
  set_lay_end [] (y ∷ F) a = refl
  set_lay_end (x ∷ v) [] a = refl
  set_lay_end (x ∷ v) (y ∷ F) a = ap (λ (r : List A). x ∷ r) (set_lay_end v F a)

  -- A store just past a splice lays one element more.
  pub set_splice_end : (b : ℕ) (v F : List A) (a : A) → set (splice b v F) (b + length v) a ≡ splice b (v ++ (a ∷ [])) F
  unfolding splice
  set_splice_end zero v F a = rw zero-add (set_lay_end v F a)
  set_splice_end (suc b) v [] a = refl
  set_splice_end (suc b) v (y ∷ F) a = rw suc-add (ap (λ (r : List A). y ∷ r) (set_splice_end b v F a))

  -- ---- a part of a splice

  take_lay : (v F : List A) → length v ≤ length F → take (length v) (lay v F) ≡ v
  unfolding lay
  take_lay [] F h = refl
  take_lay (x ∷ v) [] h = absurd (not-suc-le-zero h)
  take_lay (x ∷ v) (y ∷ F) h = ap (λ (r : List A). x ∷ r) (take_lay v F (le_of_suc-le-suc h))

  drop_splice : (b : ℕ) (v F : List A) → drop b (splice b v F) ≡ lay v (drop b F)
  unfolding splice lay
  drop_splice zero v F = refl
  drop_splice (suc b) [] [] = refl
  drop_splice (suc b) (x ∷ v) [] = refl
  drop_splice (suc b) v (y ∷ F) = drop_splice b v F

  -- What was laid is read back.
  pub part_splice : (b n : ℕ) (v F : List A) → length v ≡ n → b + n ≤ length F → part b n (splice b v F) ≡ v
  unfolding part
  part_splice b n v F e h = rw (drop_splice, ← e) (take_lay v (drop b F) (rw length-drop (omega arith)))

  -- A splice leaves every prefix that ends at or below it.
  pub take_splice : (p b : ℕ) (v F : List A) → p ≤ b → take p (splice b v F) ≡ take p F
  unfolding splice
  take_splice zero b v F h = refl
  take_splice (suc p) zero v F h = absurd (not-suc-le-zero h)
  take_splice (suc p) (suc b) v [] h = refl
  take_splice (suc p) (suc b) v (y ∷ F) h = ap (λ (r : List A). y ∷ r) (take_splice p b v F (le_of_suc-le-suc h))

  take_drop : (m a : ℕ) (F : List A) → take m (drop a F) ≡ drop a (take (a + m) F)
  take_drop m zero F = ap (λ (k : ℕ). take k F) (sym (zero-add m))
  take_drop m (suc a) [] = take-nil m ∙ (sym (ap (drop (suc a)) (take-nil (suc a + m))))
  take_drop m (suc a) (y ∷ F) = rw suc-add (take_drop m a F)

  -- A region that ends at or below p is the same in two stores that agree below p.
  pub part_frame : (p a m : ℕ) (F G : List A) → take p F ≡ take p G → a + m ≤ p → part a m F ≡ part a m G
  unfolding part
  part_frame p a m F G e h =
      take_drop m a F
      ∙ ap (drop a) (sym (take-take (a + m) p F h) ∙ ap (take (a + m)) e ∙ take-take (a + m) p G h)
      ∙ sym (take_drop m a G)

  -- A region below a splice is as it was.
  pub part_splice_below : (a m b : ℕ) (v F : List A) → a + m ≤ b → part a m (splice b v F) ≡ part a m F
  part_splice_below a m b v F h = part_frame b a m (splice b v F) F (take_splice b b v F (omega arith)) h

  drop_lay : (a : ℕ) (v F : List A) → length v ≤ a → drop a (lay v F) ≡ drop a F
  unfolding lay
  drop_lay a [] F h = refl
  drop_lay a (x ∷ v) [] h = refl
  drop_lay zero (x ∷ v) (y ∷ F) h = absurd (not-suc-le-zero h)
  drop_lay (suc a) (x ∷ v) (y ∷ F) h = drop_lay a v F (le_of_suc-le-suc h)

  drop_splice_above : (a b : ℕ) (v F : List A) → b + length v ≤ a → drop a (splice b v F) ≡ drop a F
  unfolding splice
  drop_splice_above a zero v F h = drop_lay a v F (omega arith)
  drop_splice_above a (suc b) v [] h = refl
  drop_splice_above zero (suc b) v (y ∷ F) h = absurd (omega arith)
  drop_splice_above (suc a) (suc b) v (y ∷ F) h = drop_splice_above a b v F (omega arith)

  -- A region above a splice is as it was.
  pub part_splice_above : (a m b : ℕ) (v F : List A) → b + length v ≤ a → part a m (splice b v F) ≡ part a m F
  unfolding part
  part_splice_above a m b v F h = ap (take m) (drop_splice_above a b v F h)

  -- A region clear of a splice is as it was.
  pub part_splice_clear : (a m b : ℕ) (v F : List A) → Clear a m b (length v) → part a m (splice b v F) ≡ part a m F
  part_splice_clear a m b v F h = ⊎_elim (λ p. part_splice_below a m b v F p) (λ q. part_splice_above a m b v F (omega arith)) (le_or_lt (a + m) b)

  -- ---- a splice of a splice

  lay_take : (n : ℕ) (F : List A) → lay (take n F) F ≡ F
  unfolding lay
  lay_take zero F = refl
  lay_take (suc n) [] = refl
  lay_take (suc n) (y ∷ F) = ap (λ (r : List A). y ∷ r) (lay_take n F)

  -- Laying a region over itself changes nothing.
  pub splice_part : (b n : ℕ) (F : List A) → splice b (part b n F) F ≡ F
  unfolding splice part
  splice_part zero n F = lay_take n F
  splice_part (suc b) n [] = refl
  splice_part (suc b) n (y ∷ F) = ap (λ (r : List A). y ∷ r) (splice_part b n F)

  lay_lay : (u v F : List A) → length u ≡ length v → lay u (lay v F) ≡ lay u F
  unfolding lay
  lay_lay [] [] F e = refl
  lay_lay [] (x ∷ v) F e = absurd (omega arith)
  lay_lay (x ∷ u) [] F e = refl
  lay_lay (x ∷ u) (z ∷ v) [] e = refl
  lay_lay (x ∷ u) (z ∷ v) (y ∷ F) e = ap (λ (r : List A). x ∷ r) (lay_lay u v F (suc_inj e))

  -- Of two lists laid over the same region the later one stays.
  pub splice_splice : (b : ℕ) (u v F : List A) → length u ≡ length v → splice b u (splice b v F) ≡ splice b u F
  unfolding splice
  splice_splice zero u v F e = lay_lay u v F e
  splice_splice (suc b) u v [] e = refl
  splice_splice (suc b) u v (y ∷ F) e = ap (λ (r : List A). y ∷ r) (splice_splice b u v F e)

  lay_is : (v F : List A) → length v ≤ length F → lay v F ≡ v ++ drop (length v) F
  unfolding lay
  lay_is [] F h = refl
  lay_is (x ∷ v) [] h = absurd (not-suc-le-zero h)
  lay_is (x ∷ v) (y ∷ F) h = ap (λ (r : List A). x ∷ r) (lay_is v F (le_of_suc-le-suc h))

  -- Where the store has room for it, a splice is what stands below, what is laid, and what stands above.
  pub splice_is : (b : ℕ) (v F : List A) → b + length v ≤ length F → splice b v F ≡ take b F ++ (v ++ drop (b + length v) F)
  unfolding splice
  splice_is zero v F h = rw zero-add (lay_is v F (omega arith))
  splice_is (suc b) v [] h = absurd (omega arith)
  splice_is (suc b) v (y ∷ F) h = rw suc-add (ap (λ (r : List A). y ∷ r) (splice_is b v F (omega arith)))

  lay_whole : (v F : List A) → length v ≡ length F → lay v F ≡ v
  unfolding lay
  lay_whole [] [] e = refl
  lay_whole [] (y ∷ F) e = absurd (omega arith)
  lay_whole (x ∷ v) [] e = absurd (omega arith)
  lay_whole (x ∷ v) (y ∷ F) e = ap (λ (r : List A). x ∷ r) (lay_whole v F (suc_inj e))

-- ---- one region written

-- An equation with a splice makes the record.
pub wrote : {A : Type 0} {b n : ℕ} {v F G : List A} → G ≡ splice b v F → length v ≡ n → Wrote b n v F G
wrote {A} {b} {n} {v} {F} {G} e l = record { is = e; long = l; size = ap length e ∙ length_splice b v F }

-- A method of the library that copies the first n elements of s to b writes them there.
pub wrote_paste : {A : Type 0} (b n k : ℕ) (s F G : List A) → G ≡ paste F b s k → k ≡ n → b + n ≤ length F → n ≤ length s → Wrote b n (take n s) F G
wrote_paste {A} b n k s F G e same fits has =
    let long : length (take n s) ≡ n = length-take-le n s has in
    wrote (e
    ∙ ap (paste F b s) same
    ∙ append_assoc (take b F) (take n s) (drop (b + n) F)
    ∙ ap (λ (m : ℕ). take b F ++ (take n s ++ drop (b + m) F)) (sym long)
    ∙ sym (splice_is b (take n s) F (rw long fits))) long

-- A method of the library that writes the part of n elements at b, leaving v there, writes v.
pub wrote_mid : {A : Type 0} (b n k : ℕ) (v F u : List A) → u ≡ v → length v ≡ n → k ≡ n → b + n ≤ length F → Wrote b n v F (put_mid b k F u)
wrote_mid {A} b n k v F u e long same fits =
    let whole : take n v ≡ v = take_all n v (omega arith) in
    rw whole at (wrote_paste b n n v F (put_mid b k F u) (put_mid-paste b k F u v n e (sym same) (sym long)) refl fits (omega arith))

module _ {A : Type 0} where
  -- What is laid behind a front leaves it.
  pub splice_back : (front v back : List A) → splice (length front) v (front ++ back) ≡ front ++ splice 0 v back
  unfolding splice
  splice_back [] v back = refl
  splice_back (y ∷ front) v back = ap (λ (r : List A). y ∷ r) (splice_back front v back)

  -- A part of the front is one of the whole.
  pub part_front : (b n : ℕ) (front back : List A) → b + n ≤ length front → part b n (front ++ back) ≡ take n (drop b front)
  unfolding part
  part_front b n front back h =
      let l : length (drop b front) ≡ length front - b = length-drop b front in
      ap (take n) (drop-append-le b front back (omega arith)) ∙ take-append-le n (drop b front) back (omega arith)

-- What was written is read back.
pub wrote_at : {A : Type 0} {b n : ℕ} {v F G : List A} → Wrote b n v F G → b + n ≤ length F → part b n G ≡ v
wrote_at {A} {b} {n} {v} {F} {G} h fits = ap (part b n) h.is ∙ part_splice b n v F h.long fits

-- What lies clear of it is as it was.
pub wrote_off : {A : Type 0} {b n : ℕ} {v F G : List A} → Wrote b n v F G → (a m : ℕ) → Clear a m b n → part a m G ≡ part a m F
wrote_off {A} {b} {n} {v} {F} {G} h a m clear = ap (part a m) h.is ∙ part_splice_clear a m b v F (rw h.long clear)

-- A write over the whole store leaves just what was written.
pub wrote_whole : {A : Type 0} {n : ℕ} {v F G : List A} → Wrote 0 n v F G → n ≡ length F → G ≡ v
unfolding splice
wrote_whole {A} {n} {v} {F} {G} h e = h.is ∙ lay_whole v F (h.long ∙ e)

-- Of two writes to the same region the later one stays.
pub wrote_again : {A : Type 0} {b n : ℕ} {u v F G H : List A} → Wrote b n u F G → Wrote b n v G H → Wrote b n v F H
wrote_again {A} {b} {n} {u} {v} {F} {G} {H} g h =
    wrote (h.is ∙ ap (splice b v) g.is ∙ splice_splice b v u F (h.long ∙ sym g.long)) h.long

-- ---- prefix frames

-- A write at or above p keeps what is below p.
pub kept_wrote : {A : Type 0} {b n p : ℕ} {v F G : List A} → Wrote b n v F G → p ≤ b → Kept p F G
kept_wrote {A} {b} {n} {p} {v} {F} {G} h l = record { below = ap (take p) h.is ∙ take_splice p b v F l; size = h.size }

-- Frames follow one another.
pub kept_on : {A : Type 0} {p : ℕ} {F G H : List A} → Kept p F G → Kept p G H → Kept p F H
kept_on g h = record { below = h.below ∙ g.below; size = h.size ∙ g.size }

-- A lower frame holds too.
pub kept_less : {A : Type 0} {p q : ℕ} {F G : List A} → Kept p F G → q ≤ p → Kept q F G
kept_less {A} {p} {q} {F} {G} h l =
    record { below = sym (take-take q p G l) ∙ ap (take q) h.below ∙ take-take q p F l; size = h.size }

-- Nothing written keeps everything.
pub kept_self : {A : Type 0} {p : ℕ} {F : List A} → Kept p F F
kept_self = record { below = refl; size = refl }

-- A region that ends at or below p is as it was.
pub kept_part : {A : Type 0} {p : ℕ} {F G : List A} → Kept p F G → (a m : ℕ) → a + m ≤ p → part a m G ≡ part a m F
kept_part {A} {p} {F} {G} h a m l = part_frame p a m G F h.below l

-- An element below p is as it was.
pub kept_get : {A : Type 0} {p : ℕ} {F G : List A} → Kept p F G → (i : ℕ) (d : A) → i < p → get_or G i d ≡ get_or F i d
kept_get {A} {p} {F} {G} h i d l = sym (get_or-take p G i d l) ∙ ap (λ (H : List A). get_or H i d) h.below ∙ get_or-take p F i d l
