-- The last level lies below the temporaries: its coupled rows in the words, its factor and the row sums of the finest in the floats.
-- Assumes nothing.
use mathlib.Core.Path.{◌≡◌, sym}
use mathlib.Core.List.{List}
use Prim.Native.Nat.{ℕ, zero, suc, ◌+◌, ◌*◌, ◌≤◌}
use native.Mathlib.Nat.{mul-suc, suc-mul, mul-le-mul}
use native.Mathlib.Omega.{arith}
use lib.ListN.{length}
use Rattle.options.specs.declared.options.MultigridOptions.{MultigridOptions}
use Rattle.cholesky.specs.Triangle.{tri}
use Rattle.faces.specs.Contract.{pattern_at, CoupledOk}
use Rattle.faces.proofs.faces.Laws.{faces_few}
use Rattle.layout.specs.declared.Place.{Place}
use Rattle.layout.specs.Parts.{faces_in}
use Rattle.coarsening.specs.declared.coarsen.Workspace.{Workspace}
use Rattle.build_level.specs.declared.laying.Frontier.{Frontier}
use Rattle.build_level.specs.CoarsestContract.{LastOk}

-- A packed triangle is no larger than the square.
pub tri_square : (n : ℕ) → tri n ≤ n * n
unfolding tri
tri_square zero = omega arith
tri_square (suc n) =
    let i = tri_square n in
    let e : suc n * suc n ≡ suc n * n + suc n = mul-suc (suc n) n in
    let d : suc n * n ≡ n * n + n = suc-mul n n in
    omega arith

-- So it is with the square of any bound of its rows.
pub tri_within : (n m : ℕ) → n ≤ m → tri n ≤ m * m
tri_within n m h = let a = tri_square n in let b : n * n ≤ m * m = mul-le-mul h h in omega arith

-- Where the level ends: its words with as many links as rows, its floats with a factor of so many coupled rows.
pub record Below (words size : ℕ) (t : Workspace) (s : Frontier) (p : Place) (coupled : ℕ) : Type 0 where
  pub offsets : p.offsets ≡ s.a + 3
  pub columns : p.offsets + p.rows + 1 ≡ p.columns
  pub starts : p.columns + p.entries ≡ p.starts
  pub diagonals : p.starts + p.rows + 1 ≡ p.diagonals
  pub neighbors : p.diagonals + p.rows ≡ p.neighbors
  pub uppers : p.neighbors + p.faces ≡ p.uppers
  pub lowers : p.uppers + p.faces ≡ p.lowers
  pub links : p.lowers + p.faces ≡ p.links
  pub room : p.links + p.rows ≤ words
  pub values : s.b ≡ p.values
  pub coefficients : p.values + p.entries ≡ p.coefficients
  pub diagonal : p.coefficients + p.faces ≡ p.diagonal
  pub inverse : p.diagonal + p.rows ≡ p.inverse
  pub dic : p.inverse + p.rows ≡ p.dic
  pub factor : p.dic + p.rows ≡ p.factor
  pub ends : p.factor + tri coupled + t.rows ≤ t.values
  pub inside : t.values ≤ size

module _ {w : List ℕ} {size : ℕ} {o : MultigridOptions} {t : Workspace} {s : Frontier} {p : Place} (ok : LastOk w size o t s p) where
  -- The level lies below the temporaries.
  pub below : (coupled : ℕ) → coupled ≤ o.coarsest_cells → Below (length w) size t s p coupled
  below coupled few =
      let room = ok.level.room in
      let placed = ok.level.stands.placed in
      let rows = ok.level.rows in
      let most = ok.level.most in
      let faces : p.faces ≤ p.entries = omega (arith, ok.level.stands.shapes.count, ok.level.stands.shapes.most, faces_few (pattern_at w (faces_in p))) in
      let square = tri_within coupled o.coarsest_cells few in
      let h1 = room.ends in
      let h2 = room.below in
      let h3 = room.heldwords in
      let h4 = room.tops in
      let h5 = room.under in
      let h6 = room.heldfloats in
      record {
        offsets = placed.offsets;
        columns = sym placed.columns;
        starts = sym placed.starts;
        diagonals = sym placed.diagonals;
        neighbors = sym placed.neighbors;
        uppers = sym placed.uppers;
        lowers = sym placed.lowers;
        links = sym placed.links;
        room = omega arith;
        values = sym placed.values;
        coefficients = sym placed.coefficients;
        diagonal = sym placed.diagonal;
        inverse = sym placed.inverse;
        dic = sym placed.dic;
        factor = sym placed.factor;
        ends = omega arith;
        inside = omega arith;
      }

  -- Its pattern stands in order, with its diagonal.
  pub standing : CoupledOk w (faces_in p)
  standing =
      let room = ok.level.room in
      let work = room.work in
      let b = below 0 (omega arith) in
      let proper = ok.level.stands.proper in
      record {
        ordered = record {
          standing = record {
            few = omega (arith, ok.level.rows, room.few, work.few);
            less = omega (arith, ok.level.most, room.less, work.less);
            offsets = omega (arith, b.columns, b.starts);
            columns = omega (arith, b.starts);
            inside = omega (arith, b.diagonals, b.neighbors, b.uppers, b.lowers, b.links, b.room);
            valid = proper.valid;
          };
          rising = proper.rising;
        };
        diagonal = proper.diagonal;
      }
