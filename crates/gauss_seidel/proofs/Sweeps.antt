-- Gauss-Seidel and the DIC sweep: the loops over the store compute the definitions over lists, and their ways out.
-- Assumes nothing.
use mathlib.Core.Path.{◌≡◌, sym, ap, ◌∙◌}
use mathlib.Core.Bool.{Bool, true, false}
use mathlib.Core.List.{List}
use Prim.Native.Nat.{ℕ, ◌+◌, ◌-◌, ◌≤◌, ◌<◌}
use native.Mathlib.Nat.{add_assoc}
use native.Mathlib.Omega.{arith}
use lib.ListN.{length, set, length-set}
use lib.Ieee.{Float}
use Rattle.float.specs.Float.{add64, sub64, mul64, zero64}
use Rattle.store.specs.Loop.{for}
use Rattle.store.specs.Region.{at, idx, part, splice, Wrote}
use Rattle.store.proofs.store.Loop.{for_map, for_same}
use Rattle.store.proofs.store.Region.{length_part, length_splice, get_d_part, get_d_splice_in, get_d_splice_below, set_splice, set_splice_below, splice_part}
use Rattle.matrix.specs.declared.matrix.SymmetricMatrix.{SymmetricMatrix}
use Rattle.matrix.specs.Contract.{KernelOk}
use Rattle.matrix.specs.Kernel.{Kernel, kernel_at, residual_of}
use Rattle.matrix.specs.Turns.{faces_of, start_of, end_of, VectorsOk}
use Rattle.matrix.proofs.matrix.Kernel.{kernel_above, vectors_ready}
use Rattle.gauss_seidel.specs.Sweep.{Swept, gather_face, cast_face, fresh_of, forward_row, backward_row, gauss_seidel_of, lower_row, upper_row, dic_sweep_of}
use Rattle.gauss_seidel.specs.Contract.{GaussSeidelOk, SmoothOk, Both}
use Rattle.gauss_seidel.specs.Turns.{Stored, gather_turn, scatter_turn, cast_turn, fresh_at, forward_turn, backward_turn, lower_turn, upper_at, upper_turn}

module _ {w : List ℕ} (F : List Float) {s : SymmetricMatrix} (x beside : ℕ) (ok : KernelOk w x s) (xs : x + s.rows ≤ beside)
    (sides : beside + s.rows ≤ length F) where
  abbrev n : ℕ
  n = s.rows

  abbrev m : ℕ
  m = faces_of w s

  abbrev here : Kernel
  here = kernel_at s w F

  -- the store with the two vectors of a sweep
  pub over : Swept → List Float
  over v = splice beside v.beside (splice x v.x F)

  -- they have n elements each
  pub record Fits (v : Swept) : Type 0 where
    pub long_x : length v.x ≡ n
    pub long : length v.beside ≡ n

  -- ---- reads

  below_law : (own : ℕ) → own + n ≤ x → (v : Swept) (row : ℕ) → row < n → at (over v) (own + row) ≡ at (part own n F) row
  unfolding over
  below_law own owns v row h =
      let a : own + row < x = omega arith in
      let a' : own + row < beside = omega arith in
      simp (get_d_part, get_d_splice_below)

  x_law : (v : Swept) → length v.x ≡ n → (row : ℕ) → row < n → at (over v) (x + row) ≡ at v.x row
  unfolding over
  x_law v l row h =
      let a : x + row < beside = omega arith in
      let d : row < length v.x = omega arith in
      let i : x + row < length F = omega arith in
      simp (get_d_splice_below, get_d_splice_in)

  beside_law : (v : Swept) → length v.beside ≡ n → (row : ℕ) → row < n → at (over v) (beside + row) ≡ at v.beside row
  unfolding over
  beside_law v l row h =
      let d : row < length v.beside = omega arith in
      let i : beside + row < length (splice x v.x F) = rw length_splice (omega arith) in
      simp get_d_splice_in

  coefficient_law : (v : Swept) (e : ℕ) → e < m → at (over v) (s.coefficients + e) ≡ at (part s.coefficients m F) e
  unfolding over
  coefficient_law v e h =
      let a : s.coefficients + e < x = omega (arith, ok.faces) in
      let a' : s.coefficients + e < beside = omega arith in
      simp (get_d_part, get_d_splice_below)

  gather_x : (op : Float → Float → Float) (v : Swept) → length v.x ≡ n → (lo hi : ℕ) → hi ≤ m → (t : Float)
      → for (gather_turn w s op (over v) x) lo hi t ≡ for (gather_face here op v.x) lo hi t
  unfolding gather_turn gather_face kernel_at
  gather_x op v l lo hi b t =
      for_same _ _ lo hi (λ e _ h u.
      let e' : e < m = omega arith in
      let j : idx w (s.neighbors + e) < n = ok.near e e' in
      rw (coefficient_law v e e', x_law v l (idx w (s.neighbors + e)) j, get_d_part s.neighbors m w e 0 e')) t

  gather_beside : (op : Float → Float → Float) (v : Swept) → length v.beside ≡ n → (lo hi : ℕ) → hi ≤ m → (t : Float)
      → for (gather_turn w s op (over v) beside) lo hi t ≡ for (gather_face here op v.beside) lo hi t
  unfolding gather_turn gather_face kernel_at
  gather_beside op v l lo hi b t =
      for_same _ _ lo hi (λ e _ h u.
      let e' : e < m = omega arith in
      let j : idx w (s.neighbors + e) < n = ok.near e e' in
      rw (coefficient_law v e e', beside_law v l (idx w (s.neighbors + e)) j, get_d_part s.neighbors m w e 0 e')) t

  -- ---- writes

  set_x : (v : Swept) → length v.x ≡ n → (row : ℕ) → row < n → (a : Float)
      → set (over v) (x + row) a ≡ over (record { x = set v.x row a; beside = v.beside })
  unfolding over
  set_x v l row h a =
      let d : row < length v.x = omega arith in
      set_splice_below beside v.beside (splice x v.x F) (x + row) a (omega arith) ∙ ap (splice beside v.beside) (set_splice x v.x F row a d)

  set_beside : (v : Swept) → length v.beside ≡ n → (row : ℕ) → row < n → (a : Float)
      → set (over v) (beside + row) a ≡ over (record { x = v.x; beside = set v.beside row a })
  unfolding over
  set_beside v l row h a =
      let d : row < length v.beside = omega arith in
      set_splice beside v.beside (splice x v.x F) row a d

  cast_turn_lem : (value : Float) (e : ℕ) → e < m → (y u : List Float) → length u ≡ n
      → (length (cast_face here value e u) ≡ n)
      × (cast_turn w s beside value e (over (record { x = y; beside = u })) ≡ over (record { x = y; beside = cast_face here value e u }))
  unfolding scatter_turn cast_face kernel_at
  cast_turn_lem value e h y u l =
      let j : idx w (s.neighbors + e) < n = ok.near e h in
      let v : Swept = record { x = y; beside = u } in (
        length-set u _ _ ∙ l,
        rw (get_d_part s.neighbors m w e 0 h, coefficient_law v e h, beside_law v l (idx w (s.neighbors + e)) j)
            (set_beside v l (idx w (s.neighbors + e)) j _),
      )

  casts : (value : Float) (lo hi : ℕ) → hi ≤ m → (y u : List Float) → length u ≡ n
      → (length (for (cast_face here value) lo hi u) ≡ n)
      × (for (cast_turn w s beside value) lo hi (over (record { x = y; beside = u })) ≡ over (record { x = y; beside = for (cast_face here value) lo hi u }))
  casts value lo hi b y u l =
      for_map (λ (c : List Float). over (record { x = y; beside = c })) (λ (c : List Float). length c ≡ n) (cast_face here value) (cast_turn w s beside value) lo hi
      (λ e _ h c q. cast_turn_lem value e (omega arith) y c q) u l

  -- ---- rows

  off₀ : (row : ℕ) → row < n → idx here.offsets row ≡ start_of w s row
  unfolding kernel_at
  off₀ row h = get_d_part s.offsets (n + 1) w row 0 (omega arith)

  off₁ : (row : ℕ) → row < n → idx here.offsets (row + 1) ≡ end_of w s row
  unfolding kernel_at
  off₁ row h = get_d_part s.offsets (n + 1) w (row + 1) 0 (omega arith) ∙ ap (idx w) (sym (add_assoc s.offsets row 1))

  -- the new x of a row
  fresh_law : (v : Swept) → Fits v → (row : ℕ) → row < n
      → fresh_at w s x beside row (over v) ≡ fresh_of here v row
  unfolding fresh_at fresh_of kernel_at
  fresh_law v fits row h =
      let g = gather_x sub64 v fits.long_x (start_of w s row) (end_of w s row) (ok.falls row h) (at (over v) (beside + row)) in
      rw (g, beside_law v fits.long row h, below_law s.inverse ok.recip v row h, off₀ row h, off₁ row h)

  forward_turn_lem : (row : ℕ) → row < n → (v : Swept) → Fits v
      → Fits (forward_row here row v) × (forward_turn w s x beside row (over v) ≡ over (forward_row here row v))
  unfolding forward_turn forward_row
  forward_turn_lem row h v fits =
      let value = fresh_of here v row in
      let law = casts value (start_of w s row) (end_of w s row) (ok.falls row h) v.x v.beside fits.long in
      rw (off₀ row h, off₁ row h) (
        record { long_x = length-set v.x row value ∙ fits.long_x; long = law.0 },
        rw (fresh_law v fits row h)
            (ap (λ (H : List Float). set H (x + row) value) law.1
            ∙ set_x (record { x = v.x; beside = for (cast_face here value) (start_of w s row) (end_of w s row) v.beside }) fits.long_x row h value),
      )

  -- The forward sweep.
  pub forward_law : (v : Swept) → Fits v
      → Fits (for (forward_row here) 0 n v)
      × (for (forward_turn w s x beside) 0 n (over v) ≡ over (for (forward_row here) 0 n v))
  forward_law v fits = for_map over Fits _ _ 0 n (λ row _ h u q. forward_turn_lem row h u q) v fits

  backward_turn_lem : (i : ℕ) → i < n → (v : Swept) → Fits v
      → Fits (backward_row here i v) × (backward_turn w s x beside i (over v) ≡ over (backward_row here i v))
  unfolding backward_turn backward_row kernel_at
  backward_turn_lem i h v fits =
      let r : n - 1 - i < n = omega arith in (
        record { long_x = length-set v.x _ _ ∙ fits.long_x; long = fits.long },
        rw (fresh_law v fits (n - 1 - i) r) (set_x v fits.long_x (n - 1 - i) r _),
      )

  -- The backward sweep.
  pub backward_law : (v : Swept) → Fits v
      → Fits (for (backward_row here) 0 n v)
      × (for (backward_turn w s x beside) 0 n (over v) ≡ over (for (backward_row here) 0 n v))
  backward_law v fits = for_map over Fits _ _ 0 n (λ i _ h u q. backward_turn_lem i h u q) v fits

  -- ---- substitutions

  module _ (dic : ℕ) (dics : dic + n ≤ x) where
    lower_turn_lem : (y : List Float) (row : ℕ) → row < n → (c : List Float) → length c ≡ n
        → (length (lower_row here (part dic n F) row c) ≡ n)
        × (lower_turn w s dic beside row (over (record { x = y; beside = c }))
        ≡ over (record { x = y; beside = lower_row here (part dic n F) row c }))
    unfolding lower_turn lower_row
    lower_turn_lem y row h c l =
        let v : Swept = record { x = y; beside = c } in
        let value = mul64 (at c row) (at (part dic n F) row) in
        let law = casts value (start_of w s row) (end_of w s row) (ok.falls row h) y (set c row value) (length-set c row value ∙ l) in
        rw (off₀ row h, off₁ row h) (
          law.0,
          rw (beside_law v l row h, below_law dic dics v row h)
              (ap (for (cast_turn w s beside value) (start_of w s row) (end_of w s row)) (set_beside v l row h value) ∙ law.1),
        )

    -- The forward substitution.
    pub lower_law : (y c : List Float) → length c ≡ n
        → (length (for (lower_row here (part dic n F)) 0 n c) ≡ n)
        × (for (lower_turn w s dic beside) 0 n (over (record { x = y; beside = c }))
        ≡ over (record { x = y; beside = for (lower_row here (part dic n F)) 0 n c }))
    lower_law y c l =
        for_map (λ (u : List Float). over (record { x = y; beside = u })) (λ (u : List Float). length u ≡ n) _ _ 0 n (λ row _ h u q. lower_turn_lem y row h u q) c l

    upper_turn_lem : (i : ℕ) → i < n → (v : Swept) → Fits v
        → Fits (upper_row here (part dic n F) i v)
        × (upper_turn w s dic beside x i (over v) ≡ over (upper_row here (part dic n F) i v))
    unfolding upper_turn upper_at upper_row kernel_at
    upper_turn_lem i h v fits =
        let r : n - 1 - i < n = omega arith in
        let g = gather_beside add64 v fits.long (start_of w s (n - 1 - i)) (end_of w s (n - 1 - i)) (ok.falls (n - 1 - i) r) zero64 in
        let value = sub64 (at v.beside (n - 1 - i))
        (mul64 (at (part dic n F) (n - 1 - i)) (for (gather_face here add64 v.beside) (start_of w s (n - 1 - i)) (end_of w s (n - 1 - i)) zero64)) in
        let sum = add64 (at v.x (n - 1 - i)) value in
        rw (off₀ (n - 1 - i) r, off₁ (n - 1 - i) r) (
          record { long_x = length-set v.x _ _ ∙ fits.long_x; long = length-set v.beside _ _ ∙ fits.long },
          rw (g, beside_law v fits.long (n - 1 - i) r, below_law dic dics v (n - 1 - i) r, x_law v fits.long_x (n - 1 - i) r)
              (ap (λ (H : List Float). set H (x + (n - 1 - i)) sum) (set_beside v fits.long (n - 1 - i) r value)
              ∙ set_x (record { x = v.x; beside = set v.beside (n - 1 - i) value }) fits.long_x (n - 1 - i) r sum),
        )

    -- The backward substitution.
    pub upper_law : (v : Swept) → Fits v
        → Fits (for (upper_row here (part dic n F)) 0 n v)
        × (for (upper_turn w s dic beside x) 0 n (over v) ≡ over (for (upper_row here (part dic n F)) 0 n v))
    upper_law v fits = for_map over Fits _ _ 0 n (λ i _ h u q. upper_turn_lem i h u q) v fits

-- ---- the ways out

sweep_ok : {w : List ℕ} {size size' rhs x work : ℕ} {s : SymmetricMatrix} → GaussSeidelOk w size s rhs x work → size' ≡ size → VectorsOk w size' s x work
sweep_ok ok e = vectors_ready ok.kernel (omega (arith, ok.given)) ok.xs ok.fits e

-- What the forward sweep requires, after the copy.
pub sweep_copied : {w : List ℕ} {F G v : List Float} {b n rhs x work : ℕ} {s : SymmetricMatrix} → GaussSeidelOk w (length F) s rhs x work → Wrote b n v F G
    → VectorsOk w (length G) s x work
sweep_copied ok c = sweep_ok ok c.size

-- What the backward sweep requires, after both.
pub sweep_forward : {w : List ℕ} {F G H v : List Float} {turn : ℕ → List Float → List Float} {lo hi b n rhs x work : ℕ} {s : SymmetricMatrix}
    → GaussSeidelOk w (length F) s rhs x work → Wrote b n v F G → Stored turn lo hi G H → VectorsOk w (length H) s x work
sweep_forward ok c l = sweep_ok ok (l.size ∙ c.size)

module _ {w : List ℕ} {F G H : List Float} {s : SymmetricMatrix} {rhs x work : ℕ} (ok : GaussSeidelOk w (length F) s rhs x work)
    (c : Wrote work s.rows (part rhs s.rows F) F G)
    (fw : Stored (forward_turn w s x work) 0 s.rows G H) where
  low : KernelOk w x s
  low = kernel_above ok.kernel (omega (arith, ok.given))

  abbrev start : Swept
  start = record { x = part x s.rows F; beside = part rhs s.rows F }

  start_fits : Fits F x work low ok.xs ok.fits start
  start_fits = record { long_x = length_part x s.rows F (omega arith); long = c.long }

  start_is : G ≡ over F x work low ok.xs ok.fits start
  unfolding over
  start_is = c.is ∙ ap (splice work (part rhs s.rows F)) (sym (splice_part x s.rows F))

  abbrev there : Swept
  there = for (forward_row (kernel_at s w F)) 0 s.rows start

  there_is : H ≡ over F x work low ok.xs ok.fits there
  there_is = fw.is ∙ ap (for (forward_turn w s x work) 0 s.rows) start_is
      ∙ (forward_law F x work low ok.xs ok.fits start start_fits).1

  there_fits : Fits F x work low ok.xs ok.fits there
  there_fits = (forward_law F x work low ok.xs ok.fits start start_fits).0

  -- One sweep forward.
  pub swept_once : {symmetric : Bool} → symmetric ≡ false
      → Both s.rows x work (gauss_seidel_of (kernel_at s w F) symmetric (part rhs s.rows F) (part x s.rows F)) F H
  unfolding gauss_seidel_of over kernel_at
  swept_once e = rw e (record { is = there_is; long_x = there_fits.long_x; long = there_fits.long })

  -- And one back.
  pub swept_back : {symmetric : Bool} {I : List Float} → symmetric ≡ true
      → Stored (backward_turn w s x work) 0 s.rows H I
      → Both s.rows x work (gauss_seidel_of (kernel_at s w F) symmetric (part rhs s.rows F) (part x s.rows F)) F I
  unfolding gauss_seidel_of over kernel_at
  swept_back e b =
      let law = backward_law F x work low ok.xs ok.fits there there_fits in
      rw e (record {
        is = b.is ∙ ap (for (backward_turn w s x work) 0 s.rows) there_is ∙ law.1;
        long_x = law.0.long_x;
        long = law.0.long;
      })

-- x ends at or below the correction.
pub residual_room : {w : List ℕ} {size dic rhs x work correction : ℕ} {s : SymmetricMatrix} → SmoothOk w size s dic rhs x work correction → x + s.rows ≤ correction
residual_room ok = omega (arith, ok.xs, ok.works)

-- What the forward substitution requires, after the residual.
pub lower_ok : {w : List ℕ} {F G v : List Float} {b n dic rhs x work correction : ℕ} {s : SymmetricMatrix} → SmoothOk w (length F) s dic rhs x work correction
    → Wrote b n v F G → VectorsOk w (length G) s dic correction
lower_ok ok c =
    let z = c.size in
    record { kernel = kernel_above ok.kernel (omega arith); us = omega arith; vs = omega arith }

-- What the backward substitution requires, after both.
pub upper_ok : {w : List ℕ} {F G H v : List Float} {turn : ℕ → List Float → List Float} {lo hi b n dic rhs x work correction : ℕ} {s : SymmetricMatrix}
    → SmoothOk w (length F) s dic rhs x work correction → Wrote b n v F G → Stored turn lo hi G H → VectorsOk w (length H) s dic correction × (x + s.rows ≤ length H)
upper_ok ok c l =
    let z = c.size in
    let z' = l.size in (
      record { kernel = kernel_above ok.kernel (omega arith); us = omega arith; vs = omega arith },
      omega arith,
    )

-- The DIC sweep.
pub dic_swept : {w : List ℕ} {F G H I : List Float} {s : SymmetricMatrix} {dic rhs x work correction : ℕ} → SmoothOk w (length F) s dic rhs x work correction
    → Wrote correction s.rows (residual_of (kernel_at s w F) (part x s.rows F) (part rhs s.rows F)) F G
    → Stored (lower_turn w s dic correction) 0 s.rows G H
    → Stored (upper_turn w s dic correction x) 0 s.rows H I
    → Both s.rows x correction (dic_sweep_of (kernel_at s w F) (part dic s.rows F) (part rhs s.rows F) (part x s.rows F)) F I
unfolding dic_sweep_of over kernel_at
dic_swept {w} {F} {G} {H} {I} {s} {dic} {rhs} {x} {work} {correction} ok c lo up =
    let low : KernelOk w x s = kernel_above ok.kernel (omega (arith, ok.given)) in
    let dics : dic + s.rows ≤ x = omega (arith, ok.dics, ok.given) in
    let xs : x + s.rows ≤ correction = residual_room ok in
    let y = part x s.rows F in
    let r = residual_of (kernel_at s w F) y (part rhs s.rows F) in
    let long_x : length y ≡ s.rows = length_part x s.rows F (omega (arith, ok.fits)) in
    let first : G ≡ over F x correction low xs ok.fits (record { x = y; beside = r }) = c.is ∙ ap (splice correction r) (sym (splice_part x s.rows F)) in
    let l = lower_law F x correction low xs ok.fits dic dics y r c.long in
    let u = upper_law F x correction low xs ok.fits dic dics (record { x = y; beside = for (lower_row (kernel_at s w F) (part dic s.rows F)) 0 s.rows r }) (record { long_x = long_x; long = l.0 }) in
    record {
      is = up.is
          ∙ ap (for (upper_turn w s dic correction x) 0 s.rows) (lo.is ∙ ap (for (lower_turn w s dic correction) 0 s.rows) first ∙ l.1)
          ∙ u.1;
      long_x = u.0.long_x;
      long = u.0.long;
    }
