-- A draw for a face. Assumes nothing.
use Rattle.std.proofs.Common.{◌≡◌, ℕ, ◌+◌, ◌%◌, ◌^◌, Bool, true, refl, mod-lt, arith}
use Rattle.load.specs.declared.drawing.Drawn.{Drawn}
use Rattle.load.specs.declared.cells.Faces.{Faces}
use Rattle.load.specs.Draw.{next_of}
use Rattle.load.specs.Steps.{Drew, DrewAll}

-- What a draw makes where there is a face.
pub drew : {face : Bool} {seed s n d : ℕ} → face ≡ true → n ≡ next_of s → d ≡ (n + seed) % 2 ^ 64
    → Drew face seed s (record { state = n; conductance = 1 + d % 1024 })
drew {face} {seed} {s} {n} {d} here next drawn = record {
  state = rw here next;
  conductance = rw (here, ← next, drawn) refl;
  small = omega (arith, mod-lt d {m = 1024} (omega arith));
}

-- The three draws of a cell.
pub drew_all : {f : Faces} {seed s : ℕ} {a b c : Drawn} → Drew f.right seed s a → Drew f.down seed a.state b → Drew f.deeper seed b.state c
    → DrewAll f seed s (record { state = c.state; right = a.conductance; down = b.conductance; deeper = c.conductance })
drew_all {f} {seed} {s} {a} {b} {c} x y z = record {
  right = x.conductance;
  down = rw x.state at y.conductance;
  deeper = rw (y.state, x.state) at z.conductance;
  state = rw (y.state, x.state) at z.state;
  first = x.small;
  second = y.small;
  third = z.small;
}
