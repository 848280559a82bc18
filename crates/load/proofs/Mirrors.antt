-- Where the entries behind the diagonal stand mirrored, in the rows before. Assumes nothing.
use Rattle.std.proofs.Common.{◌≡◌, ℕ, zero, suc, ◌+◌, ◌-◌, ◌*◌, ◌<◌, ◌≤◌, true, ltb, List, [], ◌∷◌, ◌++◌, map, length, ℤ, pos, neg_ℤ, sym, refl, ap, ◌∙◌, suc-mul, mul-one, mul-add, arith, length-append, ltb-true, lt-ltb}
use lib.ListN.{length-map}
use Rattle.load.specs.declared.cells.Extents.{Extents}
use Rattle.load.specs.declared.cells.Cell.{Cell}
use Rattle.load.specs.declared.cells.Faces.{Faces}
use Rattle.load.specs.Box.{Grid}
use Rattle.load.specs.Load.{conductance_of, columns_in, own_of, off_of, wholes_in, row_start}
use Rattle.load.specs.Steps.{optional, one, grid_of, Few, Placed, FacesAre}
use Rattle.load.proofs.Lists.{start_in, map_three, sum_same, last_first, last_second, last_third}
use Rattle.load.proofs.Rows.{ahead_is, conductance_both}
use Rattle.load.proofs.cells.Places.{faces_are}
use Rattle.load.proofs.laying.Pushes.{length_optional}

-- As many whole numbers stand in a row as columns.
pub length_wholes : (seed : ℕ) (m : Grid) (i : ℕ) → length (wholes_in seed m i) ≡ length (columns_in m i)
unfolding wholes_in columns_in
length_wholes seed m i =
    let u = length-append (map (off_of seed m i) (m.behind i)) (pos (own_of seed m i) ∷ map (off_of seed m i) (m.ahead i)) in
    let v = length-append (m.behind i) (i ∷ m.ahead i) in
    omega (arith, length-map (m.behind i) (off_of seed m i), length-map (m.ahead i) (off_of seed m i))

-- So their rows start where those of the columns do.
pub starts_alike : (seed : ℕ) (m : Grid) (i : ℕ) → start_in (wholes_in seed m) i ≡ row_start m i
unfolding row_start
starts_alike seed m i = sum_same (λ c. length (wholes_in seed m c)) (λ c. length (columns_in m c)) i (length_wholes seed m)

-- A cell j behind cell i: where the entry of row i in column j stands mirrored in row j.
pub record Across (seed : ℕ) (m : Grid) (i stride back : ℕ) : Type 0 where
  pub behind : stride ≤ i
  pub before : i - stride < i
  pub left : List ℤ
  pub right : List ℤ
  pub row : wholes_in seed m (i - stride) ≡ left ++ (off_of seed m i (i - stride) ∷ right)
  pub many : 1 + length right ≡ back

module _ (seed : ℕ) (e : Extents) (j : ℕ) (f : Faces) (a : FacesAre e j f) where
  -- The row of cell j, by its faces.
  pub wholes_are : wholes_in seed (grid_of e) j ≡ map (off_of seed (grid_of e) j) ((grid_of e).behind j) ++ (pos (own_of seed (grid_of e) j)
      ∷ (optional f.right (off_of seed (grid_of e) j (j + 1))
      ++ (optional f.down (off_of seed (grid_of e) j (j + e.width)) ++ optional f.deeper (off_of seed (grid_of e) j (j + e.width * e.height)))))
  unfolding wholes_in
  wholes_are =
      let g = off_of seed (grid_of e) j in
      let t : map g ((grid_of e).ahead j) ≡ optional f.right (g (j + 1)) ++ (optional f.down (g (j + e.width)) ++ optional f.deeper (g (j + e.width * e.height))) =
      ap (map g) (ahead_is a) ∙ map_three g f.right f.down f.deeper (j + 1) (j + e.width) (j + e.width * e.height) in
      rw t refl

-- ---- products

le_mul : (w n : ℕ) → 0 < w → n ≤ w * n
le_mul zero n h = absurd (omega arith)
le_mul (suc w) n h = omega (arith, suc-mul w n)

off_both : (seed : ℕ) (m : Grid) (i j k : ℕ) → k ≡ i → off_of seed m j k ≡ off_of seed m i j
off_both seed m i j k e = ap (λ (c : ℕ). neg_ℤ (pos c)) (ap (conductance_of seed m j) e ∙ conductance_both seed m j i)

module _ (seed : ℕ) {e : Extents} {c : Cell} {f : Faces} (few : Few e) (placed : Placed e c) (deep : c.z < e.depth) (a : FacesAre e c.number f) where
  abbrev m : Grid
  m = grid_of e

  abbrev i : ℕ
  i = c.number

  -- the layers count as rows
  below : c.z ≤ e.width * (c.y + e.height * c.z)
  below = let p = le_mul e.height c.z few.high in let q = le_mul e.width (c.y + e.height * c.z) few.wide in omega arith

  same_down : f.down ≡ ltb (c.y + 1) e.height
  same_down = a.down ∙ sym (faces_are few placed deep).down

  same_deeper : f.deeper ≡ ltb (c.z + 1) e.depth
  same_deeper = a.deeper ∙ sym (faces_are few placed deep).deeper

  -- the faces of a cell at x, y, z
  abbrev faces_for : ℕ → ℕ → ℕ → Faces
  faces_for x y z = record {
    left = ltb 0 x;
    up = ltb 0 y;
    shallower = ltb 0 z;
    right = ltb (x + 1) e.width;
    down = ltb (y + 1) e.height;
    deeper = ltb (z + 1) e.depth;
  }

  -- To the left.
  pub across_left : f.left ≡ true → Across seed m i 1 (1 + one f.down + one f.deeper)
  across_left t =
      let x : 0 < c.x = ltb-true 0 c.x ((faces_are few placed deep).left ∙ sym a.left ∙ t) in
      let n = placed.number in
      let px = placed.x in
      let small = placed.small in
      let b = below in
      let p : Placed e (record { number = i - 1; x = c.x - 1; y = c.y; z = c.z }) =
      record { number = omega arith; x = omega arith; y = placed.y; z = omega arith; small = omega arith } in
      let fj : FacesAre e (i - 1) (faces_for (c.x - 1) c.y c.z) = faces_are few p deep in
      let g = off_of seed m (i - 1) in
      let l = map g (m.behind (i - 1)) in
      let o = pos (own_of seed m (i - 1)) in
      let d = ltb (c.y + 1) e.height in
      let dd = ltb (c.z + 1) e.depth in
      let y = g (i - 1 + e.width) in
      let z = g (i - 1 + e.width * e.height) in
      record {
        behind = omega arith;
        before = omega arith;
        left = l ++ (o ∷ []);
        right = optional d y ++ optional dd z;
        row = wholes_are seed e (i - 1) (faces_for (c.x - 1) c.y c.z) fj
            ∙ last_first l o (g (i - 1 + 1)) y z (ltb (c.x - 1 + 1) e.width) d dd (lt-ltb (c.x - 1 + 1) e.width (omega arith))
            ∙ ap (λ (v : ℤ). (l ++ (o ∷ [])) ++ (v ∷ (optional d y ++ optional dd z))) (off_both seed m i (i - 1) (i - 1 + 1) (omega arith));
        many =
            let u = length-append (optional d y) (optional dd z) in
            rw (same_down, same_deeper) (omega (arith, length_optional d y, length_optional dd z));
      }

  -- Up.
  pub across_up : f.up ≡ true → Across seed m i e.width (1 + one f.deeper)
  across_up t =
      let y₀ : 0 < c.y = ltb-true 0 c.y ((faces_are few placed deep).up ∙ sym a.up ∙ t) in
      let n = placed.number in
      let py = placed.y in
      let wide = few.wide in
      let small = placed.small in
      let q : c.y + e.height * c.z ≡ c.y - 1 + e.height * c.z + 1 = omega arith in
      let r : e.width * (c.y + e.height * c.z) ≡ e.width * (c.y - 1 + e.height * c.z) + e.width =
      ap (λ (v : ℕ). e.width * v) q ∙ mul-add e.width (c.y - 1 + e.height * c.z) 1 ∙ ap (λ (v : ℕ). e.width * (c.y - 1 + e.height * c.z) + v) (mul-one e.width) in
      let b : c.z ≤ e.width * (c.y - 1 + e.height * c.z) = omega (arith, le_mul e.height c.z few.high, le_mul e.width (c.y - 1 + e.height * c.z) few.wide) in
      let p : Placed e (record { number = i - e.width; x = c.x; y = c.y - 1; z = c.z }) =
      record { number = omega arith; x = placed.x; y = omega arith; z = omega arith; small = omega arith } in
      let fj : FacesAre e (i - e.width) (faces_for c.x (c.y - 1) c.z) = faces_are few p deep in
      let j = i - e.width in
      let g = off_of seed m j in
      let l = map g (m.behind j) in
      let o = pos (own_of seed m j) in
      let r' = ltb (c.x + 1) e.width in
      let dd = ltb (c.z + 1) e.depth in
      let x = g (j + 1) in
      let z = g (j + e.width * e.height) in
      record {
        behind = omega arith;
        before = omega arith;
        left = l ++ (o ∷ optional r' x);
        right = optional dd z;
        row = wholes_are seed e j (faces_for c.x (c.y - 1) c.z) fj
            ∙ last_second l o x (g (j + e.width)) z r' (ltb (c.y - 1 + 1) e.height) dd (lt-ltb (c.y - 1 + 1) e.height (omega arith))
            ∙ ap (λ (v : ℤ). (l ++ (o ∷ optional r' x)) ++ (v ∷ optional dd z)) (off_both seed m i j (j + e.width) (omega arith));
        many = rw same_deeper (omega (arith, length_optional dd z));
      }

  -- To the layer above.
  pub across_shallower : f.shallower ≡ true → Across seed m i (e.width * e.height) 1
  across_shallower t =
      let z₀ : 0 < c.z = ltb-true 0 c.z ((faces_are few placed deep).shallower ∙ sym a.shallower ∙ t) in
      let n = placed.number in
      let wide = few.wide in
      let high = few.high in
      let small = placed.small in
      let s : c.z ≡ c.z - 1 + 1 = omega arith in
      let q : e.height * c.z ≡ e.height * (c.z - 1) + e.height =
      ap (λ (v : ℕ). e.height * v) s ∙ mul-add e.height (c.z - 1) 1 ∙ ap (λ (v : ℕ). e.height * (c.z - 1) + v) (mul-one e.height) in
      let q' : c.y + e.height * c.z ≡ c.y + e.height * (c.z - 1) + e.height = omega arith in
      let r : e.width * (c.y + e.height * c.z) ≡ e.width * (c.y + e.height * (c.z - 1)) + e.width * e.height =
      ap (λ (v : ℕ). e.width * v) q' ∙ mul-add e.width (c.y + e.height * (c.z - 1)) e.height in
      let b : c.z - 1 ≤ e.width * (c.y + e.height * (c.z - 1)) =
      omega (arith, le_mul e.height (c.z - 1) few.high, le_mul e.width (c.y + e.height * (c.z - 1)) few.wide) in
      let big : 0 < e.width * e.height = omega (arith, le_mul e.width e.height few.wide) in
      let deep' : c.z - 1 < e.depth = omega arith in
      let p : Placed e (record { number = i - e.width * e.height; x = c.x; y = c.y; z = c.z - 1 }) =
      record { number = omega arith; x = placed.x; y = placed.y; z = omega arith; small = omega arith } in
      let fj : FacesAre e (i - e.width * e.height) (faces_for c.x c.y (c.z - 1)) = faces_are few p deep' in
      let j = i - e.width * e.height in
      let g = off_of seed m j in
      let l = map g (m.behind j) in
      let o = pos (own_of seed m j) in
      let r' = ltb (c.x + 1) e.width in
      let d = ltb (c.y + 1) e.height in
      let x = g (j + 1) in
      let y = g (j + e.width) in
      record {
        behind = omega arith;
        before = omega arith;
        left = l ++ (o ∷ (optional r' x ++ optional d y));
        right = [];
        row = wholes_are seed e j (faces_for c.x c.y (c.z - 1)) fj
            ∙ last_third l o x y (g (j + e.width * e.height)) r' d (ltb (c.z - 1 + 1) e.depth) (lt-ltb (c.z - 1 + 1) e.depth (omega arith))
            ∙ ap (λ (v : ℤ). (l ++ (o ∷ (optional r' x ++ optional d y))) ++ (v ∷ [])) (off_both seed m i j (j + e.width * e.height) (omega arith));
        many = refl;
      }
