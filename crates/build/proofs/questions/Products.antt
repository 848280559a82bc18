-- The products of the charge do not wrap, and the temporaries lie one after the other.
-- Assumes nothing.
use mathlib.Core.Path.{◌≡◌, refl}
use Prim.Native.Nat.{ℕ, ◌+◌, ◌-◌, ◌*◌, ◌≤◌}
use native.Mathlib.Nat.{mul-le-mul}
use native.Mathlib.Omega.{arith}
use Rattle.coarsening.specs.declared.coarsen.Workspace.{Workspace}
use Rattle.build.specs.AskingContract.{Small, Vectors, Squared, SpaceOk, Spaced}

-- The vectors over few rows are few floats.
pub vectors_few : {rows krylov : ℕ} → Small rows krylov → (12 + 2 * krylov) * rows ≤ 2883584
vectors_few {rows} {krylov} s = let k = s.directions in mul-le-mul {n₁ = 12 + 2 * krylov} {m₁ = rows} {n₂ = 44} {m₂ = 65536} (omega arith) s.few

pub vectors_law : {rows krylov : ℕ} → Small rows krylov → Vectors rows krylov ((12 + 2 * krylov) * rows)
vectors_law s = record { is = refl; few = vectors_few s }

-- The square of a small number is small.
pub square_few : (n : ℕ) → n ≤ 256 → n * n ≤ 65536
square_few n h = mul-le-mul {n₁ = n} {m₁ = n} {n₂ = 256} {m₂ = 256} h h

pub square_law : (n : ℕ) → n ≤ 256 → Squared n (n * n)
square_law n h = record { is = refl; few = square_few n h }

-- the temporaries behind `offsets` and `values`
abbrev space_of : ℕ → ℕ → ℕ → ℕ → Workspace
space_of rows entries offsets values =
    let columns = offsets + rows + 1 in
    let mergedoffsets = columns + entries in
    let mergedcolumns = mergedoffsets + rows + 1 in
    let map = mergedcolumns + entries in
    let positions = map + rows in
    let coarseoffsets = positions + entries in
    let coarsecolumns = coarseoffsets + rows + 1 in
    let scratch = coarsecolumns + entries in
    let starts = scratch + 3 * rows in
    let diagonals = starts + rows + 1 in
    let neighbors = diagonals + rows in
    record {
      rows = rows;
      entries = entries;
      offsets = offsets;
      columns = columns;
      merged_offsets = mergedoffsets;
      merged_columns = mergedcolumns;
      map = map;
      positions = positions;
      coarse_offsets = coarseoffsets;
      coarse_columns = coarsecolumns;
      scratch = scratch;
      starts = starts;
      diagonals = diagonals;
      neighbors = neighbors;
      uppers = neighbors + entries;
      lowers = neighbors + 2 * entries;
      values = values;
      weights = values + entries;
      merged_values = values + 2 * entries;
      merged_weights = values + 3 * entries;
      coarse_values = values + 4 * entries;
      coarse_weights = values + 5 * entries;
    }

-- They are the temporaries at the ends of the stores.
pub spaced : {words floats rows entries krylov v : ℕ} → SpaceOk words floats rows entries krylov → Vectors rows krylov v
    → Spaced words floats rows entries krylov (space_of rows entries (words - (16 * rows + 12 * entries + 64)) (floats - (v + 8 * entries)))
spaced {words} {floats} {rows} {entries} {krylov} {v} s p =
    let product : v ≡ (12 + 2 * krylov) * rows = p.is in
    let few = s.few in
    let less = s.less in
    let held = s.heldwords in
    let room = s.heldfloats in
    record {
      work = record {
        few = few;
        less = less;
        offsets = omega arith;
        columns = omega arith;
        starts = omega arith;
        targets = omega arith;
        map = omega arith;
        positions = omega arith;
        firsts = omega arith;
        sides = omega arith;
        scratch = omega arith;
        faces = omega arith;
        diagonals = omega arith;
        neighbors = omega arith;
        uppers = omega arith;
        lowers = omega arith;
        values = omega arith;
        weights = omega arith;
        mergedvalues = omega arith;
        mergedweights = omega arith;
        coarsevalues = omega arith;
        coarseweights = omega arith;
      };
      ends = omega arith;
      tops = omega arith;
      tall = refl;
      most = refl;
    }
