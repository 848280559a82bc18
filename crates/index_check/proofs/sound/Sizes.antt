-- The sizes of levels that the walk went through: where their floats and their scratch end, and that no sum wraps.
-- Assumes nothing.
use Rattle.std.specs.Prelude.{Ok}
use mathlib.Core.Path.{◌≡◌, refl, sym, ◌∙◌}
use mathlib.Core.Bool.{true}
use mathlib.Core.List.{List}
use Prim.Native.Nat.{ℕ, zero, suc, ◌+◌, ◌*◌, ◌-◌, ◌≤◌, ◌<◌}
use native.Mathlib.Nat.{sub-zero, mul-le-mul_right}
use native.Mathlib.Omega.{arith}
use Rattle.cholesky.specs.Triangle.{tri}
use Rattle.layout.specs.declared.Place.{Place}
use Rattle.layout.specs.Layout.{rows_at, coupled_at, locate, words_end, floats_end, image_end, image_of}
use Rattle.layout.specs.PlaceContract.{PlaceOk}
use Rattle.layout.proofs.Views.{floats_to, finest_rows_lem, finest_most}
use Rattle.index_check.specs.Sound.{head_sound, walk_of, scratch_start, scratch_end, cycle_start}
use Rattle.index_check.specs.SoundContract.{LevelsOk, FloatsOk, ScratchOk}
use Rattle.index_check.proofs.sound.Laws.{Head, head_told}
use Rattle.index_check.proofs.sound.Walks.{fits_head, opened}

-- ---- levels that the walk went through

-- The first of some levels that the walk went through has a sound head, and it went through the others.
pub record Ahead (w : List ℕ) (more level a : ℕ) : Type 0 where
  pub head : head_sound w a ≡ true
  pub rest : walk_of more w (level + 1) (words_end w a) ≡ Ok tt

pub ahead : (w : List ℕ) (more level a : ℕ) → walk_of (suc more) w level a ≡ Ok tt → Ahead w more level a
ahead w more level a e = let o = opened more w level a e in record { head = fits_head w a more o.head; rest = o.rest }

-- ---- bounds

-- A packed triangle of at most 65536 rows.
tri_most : (n : ℕ) → n ≤ 65536 → tri n ≤ 65536 * n
unfolding tri
tri_most zero h = omega arith
tri_most (suc n) h = omega (arith, tri_most n (omega arith))

-- So it is for the coupled rows of a level with a sound head.
pub coupled_tri : (w : List ℕ) (a : ℕ) → Head w a → tri (coupled_at w a) ≤ 4294967296
coupled_tri w a h =
    let c = h.coupled in
    let r = h.rows in
    omega (arith, tri_most (coupled_at w a) (omega arith))

-- The floats of a level with a sound head.
floats_most : (w : List ℕ) (a b : ℕ) → Head w a → floats_end w a b ≤ b + 8589934592
unfolding floats_end
floats_most w a b h =
    let t = coupled_tri w a h in
    let r = h.rows in
    let e = h.entries in
    let f = h.faces in
    omega arith

-- Those of so many levels.
image_most : (k : ℕ) (w : List ℕ) (level a b : ℕ) → walk_of k w level a ≡ Ok tt → image_end k w a b ≤ b + k * 8589934592
unfolding image_end
image_most zero w level a b e = omega arith
image_most (suc k) w level a b e =
    let n = ahead w k level a e in
    omega (arith, floats_most w a b (head_told w a n.head), image_most k w (level + 1) (words_end w a) (floats_end w a b) n.rest)

-- The scratch of so many levels,
scratch_most : (k : ℕ) (w : List ℕ) (level a s : ℕ) → walk_of k w level a ≡ Ok tt → scratch_end k w a s ≤ s + k * 327680
unfolding scratch_end
scratch_most zero w level a s e = omega arith
scratch_most (suc k) w level a s e =
    let n = ahead w k level a e in
    let r = (head_told w a n.head).rows in
    omega (arith, scratch_most k w (level + 1) (words_end w a) (s + 5 * rows_at w a) n.rest)

-- which ends no earlier than it starts.
pub scratch_to : (k : ℕ) (w : List ℕ) (a s : ℕ) → s ≤ scratch_end k w a s
unfolding scratch_end
scratch_to zero w a s = omega arith
scratch_to (suc k) w a s = omega (arith, scratch_to k w (words_end w a) (s + 5 * rows_at w a))

-- ---- the floats of a level

-- The place of a level whose floats start far below the largest index.
pub place_ok : {w : List ℕ} {a b : ℕ} → FloatsOk w a b → PlaceOk w a b
place_ok {w} {a} {b} ok =
    let h = head_told w a ok.head in
    let r = h.rows in
    let e = h.entries in
    let f = h.faces in
    let s = ok.start in
    record { words = h.ends; floats = omega arith }

-- The place of a level whose floats start at 0.
pub place_zero : (w : List ℕ) (a : ℕ) → head_sound w a ≡ true → PlaceOk w a 0
place_zero w a e = place_ok (record { head = e; start = omega arith })

-- The triangle of its coupled rows is small.
pub triangle_fits : (w : List ℕ) (a : ℕ) {coupled : ℕ} → head_sound w a ≡ true → coupled ≡ coupled_at w a → tri coupled ≤ 18446744073709551615
triangle_fits w a e c = rw c (omega (arith, coupled_tri w a (head_told w a e)))

module _ (w : List ℕ) (a b : ℕ) {p : Place} {coupled t : ℕ} (q : p ≡ locate w a b) (c : coupled ≡ coupled_at w a) where
  -- Where the triangle ends is an index,
  pub factor_fits : FloatsOk w a b → t ≡ tri coupled → p.factor + t ≤ 18446744073709551615
  factor_fits ok e =
      let h = head_told w a ok.head in
      let r = h.rows in
      let n = h.entries in
      let f = h.faces in
      let s = ok.start in
      rw (q, e, c) (omega (arith, coupled_tri w a h))

  -- and it ends the floats.
  pub floats_told : t ≡ tri coupled → p.factor + t ≡ floats_end w a b
  unfolding floats_end
  floats_told e = rw (q, e, c)

-- ---- the loops over levels

-- Before level `level`, whose words start at a: the walk went through those that are left.
pub record Going (w : List ℕ) (levels level a : ℕ) : Type 0 where
  pub within : level ≤ levels
  pub left : walk_of (levels - level) w level a ≡ Ok tt

-- At the start all are left.
pub going : {w : List ℕ} {levels : ℕ} → LevelsOk w levels → Going w levels 0 0
going {w} {levels} ok = record { within = omega arith; left = rw (sub-zero levels) ok.sound }

module _ {w : List ℕ} {levels level a : ℕ} (g : Going w levels level a) (h : level < levels) where
  -- One more is left than after it.
  one_more : levels - level ≡ suc (levels - (level + 1))
  one_more = omega arith

  next : Ahead w (levels - (level + 1)) level a
  next = ahead w (levels - (level + 1)) level a (rw one_more at g.left)

  -- The head of the level at hand is sound.
  pub going_head : head_sound w a ≡ true
  going_head = next.head

  -- The next level comes.
  pub going_on : {a' : ℕ} → a' ≡ words_end w a → Going w levels (level + 1) a'
  going_on e = record { within = omega arith; left = rw e next.rest }

  image_open : (b : ℕ) → image_end (levels - level) w a b ≡ image_end (levels - (level + 1)) w (words_end w a) (floats_end w a b)
  unfolding image_end
  image_open b = rw one_more

  scratch_open : (s : ℕ) → scratch_end (levels - level) w a s ≡ scratch_end (levels - (level + 1)) w (words_end w a) (s + 5 * rows_at w a)
  unfolding scratch_end
  scratch_open s = rw one_more

-- The words of the level at hand end in the store.
pub going_words : {w : List ℕ} {levels level a : ℕ} → Going w levels level a → level < levels → Head w a
going_words {w} {levels} {level} {a} g h = head_told w a (going_head g h)

-- The floats of the levels that are left, of which the next start at b, end where all do.
pub record Imaging (w : List ℕ) (levels level a b : ℕ) : Type 0 where
  pub going : Going w levels level a
  pub same : image_end (levels - level) w a b ≡ image_end levels w 0 0

-- All are left.
pub imaging : {w : List ℕ} {levels : ℕ} → LevelsOk w levels → Imaging w levels 0 0 0
imaging {w} {levels} ok = record { going = going ok; same = rw (sub-zero levels) }

-- Where the floats of all levels end, as a bound.
pub image_bound : (w : List ℕ) (levels : ℕ) → LevelsOk w levels → image_end levels w 0 0 ≤ 1099511627776
image_bound w levels ok = let f = ok.few in omega (arith, image_most levels w 0 0 0 ok.sound)

module _ {w : List ℕ} {levels level a b : ℕ} (i : Imaging w levels level a b) where
  -- The floats of the level at hand start far below the largest index.
  pub imaging_ok : LevelsOk w levels → level < levels → FloatsOk w a b
  imaging_ok ok h =
      let e = i.same in
      let m = image_bound w levels ok in
      record { head = going_head i.going h; start = omega (arith, floats_to (levels - level) w a b) }

  -- The next level comes.
  pub imaging_on : level < levels → {a' b' : ℕ} → b' ≡ floats_end w a b → a' ≡ words_end w a → Imaging w levels (level + 1) a' b'
  imaging_on h eb ea = record { going = going_on i.going h ea; same = rw (ea, eb) (sym (image_open i.going h b) ∙ i.same) }

  -- None is left.
  pub imaging_end : levels ≤ level → b ≡ image_end levels w 0 0
  unfolding image_end
  imaging_end h = let e : levels - level ≡ 0 = omega arith in rw e at i.same

-- The scratch of the levels that are left, of which the next starts at `end`, ends where all does.
pub record Scratching (w : List ℕ) (levels s level a end : ℕ) : Type 0 where
  pub going : Going w levels level a
  pub same : scratch_end (levels - level) w a end ≡ scratch_end levels w 0 s

-- All are left.
pub scratching : {w : List ℕ} {levels s : ℕ} → ScratchOk w levels s → Scratching w levels s 0 0 s
scratching {w} {levels} ok = record { going = going ok.walked; same = rw (sub-zero levels) }

module _ {w : List ℕ} {levels s level a end : ℕ} (i : Scratching w levels s level a end) where
  -- It has not gone far.
  pub scratching_few : ScratchOk w levels s → end ≤ 18014398551425024
  scratching_few ok =
      let e = i.same in
      let b = ok.start in
      let f = ok.walked.few in
      omega (arith, scratch_to (levels - level) w a end, scratch_most levels w 0 0 s ok.walked.sound)

  -- The next level comes.
  pub scratching_on : level < levels → {a' r : ℕ} → r ≡ rows_at w a → a' ≡ words_end w a → Scratching w levels s (level + 1) a' (end + 5 * r)
  scratching_on h er ea = record { going = going_on i.going h ea; same = rw (ea, er) (sym (scratch_open i.going h end) ∙ i.same) }

  -- None is left.
  pub scratching_end : levels ≤ level → end ≡ scratch_end levels w 0 s
  unfolding scratch_end
  scratching_end h = let e : levels - level ≡ 0 = omega arith in rw e at i.same

-- ---- the starts

module _ {w : List ℕ} {levels : ℕ} (ok : LevelsOk w levels) where
  -- The finest level has a sound head.
  pub first_head : head_sound w 0 ≡ true
  first_head =
      let s = ok.some in
      let e : levels ≡ suc (levels - 1) = omega arith in
      (ahead w (levels - 1) 0 0 (rw e at ok.sound)).head

  -- Where the scratch of a solve starts, as a bound.
  pub start_bound : scratch_start levels w ≤ 2199023386624
  start_bound = let r = (head_told w 0 first_head).rows in omega (arith, image_bound w levels ok, finest_most levels w)

  -- Where the shadow starts.
  pub shadow_told : {e r : ℕ} → e ≡ image_end levels w 0 0 → r ≡ rows_at w 0 → e + r ≡ image_of levels w
  shadow_told ee er = rw (finest_rows_lem levels w ok.some, ee, er)

  -- The memory of GCR.
  pub memory_most : (krylov : ℕ) {r : ℕ} → krylov ≤ 16 → r ≡ rows_at w 0 → (2 + 2 * krylov) * r ≤ 2228224
  memory_most krylov {r} k e =
      let few = (head_told w 0 first_head).rows in
      let m : (2 + 2 * krylov) * r ≤ 34 * r = mul-le-mul_right r (omega arith) in
      omega arith

  -- Where the scratch of its cycles starts, as a bound.
  pub cycle_bound : (krylov : ℕ) → krylov ≤ 16 → cycle_start krylov levels w ≤ 18014398509481984
  cycle_bound krylov k = omega (arith, start_bound, memory_most krylov k refl)

  -- It is behind right-hand side, solution and the memory of GCR.
  pub cycle_told : (krylov : ℕ) {s r : ℕ} → s ≡ scratch_start levels w → r ≡ rows_at w 0 → s + (2 + 2 * krylov) * r ≡ cycle_start krylov levels w
  cycle_told krylov es er = rw (es, er)
