-- The row sums that a build keeps of a load: exactly 1.0 in each row, where the norm needs them. Assumes nothing.
use mathlib.Core.Path.{◌≡◌, sym, ap, ◌∙◌, subst}
use mathlib.Core.Bool.{Bool, true}
use mathlib.Core.List.{List, [], ◌∷◌}
use Prim.Native.Nat.{ℕ, ◌≤◌}
use lib.ListN.{length}
use lib.Ieee.{Float}
use Rattle.float.specs.Float.{one64}
use Rattle.store.specs.Region.{at, idx}
use Rattle.store.specs.Vector.{tab, filled}
use Rattle.refusal.specs.Outcome.{accepted}
use Rattle.options.specs.declared.options.MultigridOptions.{MultigridOptions}
use Rattle.matrix.specs.Kernel.{row_sums_of}
use Rattle.pattern.specs.Pattern.{Pattern}
use Rattle.faces.specs.Faces.{uppers_of}
use Rattle.hierarchy.specs.Level.{Shape, Level, Hierarchy, kernel_in}
use Rattle.hierarchy.specs.Refresh.{needs_sums, with_sums, numbers_of, refresh_of}
use Rattle.hierarchy.specs.First.{shapes_in}
use Rattle.hierarchy.specs.Build.{Lent, Input, shape_of, pattern_in, build_of}
use Rattle.hierarchy.proofs.Accepted.{build_built}
use Rattle.hierarchy.proofs.First.{length_uppers, build_first}
use Rattle.hierarchy.proofs.Depth.{levels_kept}
use Rattle.build_sound.proofs.Sound.{levels_laid}
use Rattle.galerkin_levels.proofs.Steps.{laid_headed, refresh_one, refresh_more, numbers_taken}
use Rattle.load.specs.Box.{box, cells_of}
use Rattle.load.specs.Load.{Load, load_on, Room, load_of}
use Rattle.load_theorem.specs.Levels.{input_from}
use Rattle.load_theorem.specs.Sums.{kernel_for}
use Rattle.load_theorem.proofs.Levels.{load_made, cells_some}
use Rattle.load_theorem.proofs.Theorem.{load_row_sums}

-- The kernel of a level whose shape and numbers are of the pattern p and its values.
kernel_for_lem : (o : MultigridOptions) (p : Pattern) (values : List Float) (l : Level) {terminal : Bool} {links positions : List ℕ}
    → l.shape ≡ shape_of p terminal links positions → numbers_of o 0 l.shape values ≡ accepted l.numbers
    → kernel_in l ≡ kernel_for p values l.numbers.inverse
kernel_for_lem o p values l {terminal} {links} {positions} is e =
    let t = numbers_taken o 0 l.shape values e in
    let own = t.owns ∙ ap (λ (s : Shape). tab (λ r. at values (idx s.diagonals r)) s.pattern.rows) is in
    let face = t.faces ∙ ap (λ (s : Shape). tab (λ k. at values (idx s.uppers k)) (length s.uppers)) is
    ∙ ap (tab (λ k. at values (idx (uppers_of p) k))) (length_uppers p) in
    rw (is, own, face)

-- The first level of an accepted refresh has the numbers of the values.
first_numbers : (o : MultigridOptions) (values : List Float) (l : Level) (rest : List Level)
    → refresh_of o 0 (shapes_in (l ∷ rest)) values ≡ accepted (l ∷ rest) → numbers_of o 0 l.shape values ≡ accepted l.numbers
first_numbers o values l [] e = refresh_one o 0 values l e
first_numbers o values l (next ∷ rest) e = (refresh_more o 0 values l next rest e).0

-- The row sums of levels, where the norm needs them.
sums_are : (o : MultigridOptions) (l : Level) (rest : List Level) → needs_sums o.residual_norm ≡ true → (with_sums o (l ∷ rest)).sums ≡ row_sums_of (kernel_in l)
unfolding with_sums
sums_are o l rest needs = rw needs

-- What an accepted build of a matrix with rows keeps of row sums: those of the kernel of its matrix.
pub build_sums : (lent : Lent) (x : Input) {h : Hierarchy} → 1 ≤ x.rows → build_of lent x ≡ accepted h → needs_sums x.options.residual_norm ≡ true
    → (inverse : List Float) × (h.sums ≡ row_sums_of (kernel_for (pattern_in x) x.values inverse))
build_sums lent x {h} some built needs =
    let o = x.options in
    let f = build_first lent x built in
    let same : f.levels ≡ h.levels = sym (levels_kept o f.levels) ∙ sym (ap (λ (k : Hierarchy). k.levels) f.is) in
    let d = laid_headed (levels_laid lent x (build_built lent x some built)) in
    let all : f.levels ≡ d.head ∷ d.tail = same ∙ d.is in
    let e = first_numbers o x.values d.head d.tail (subst (λ (ls : List Level). refresh_of o 0 (shapes_in ls) x.values ≡ accepted ls) all f.second) in (
      d.head.numbers.inverse,
      ap (λ (k : Hierarchy). k.sums) f.is ∙ ap (λ (ls : List Level). (with_sums o ls).sums) all ∙ sums_are o d.head d.tail needs
          ∙ ap row_sums_of (kernel_for_lem o (pattern_in x) x.values d.head d.shape e),
    )

-- Where a load is made and a build of it accepted, under a norm that needs row sums, the sums that it keeps are exactly 1.0 in each row.
pub load_sums_kept : (seed : ℕ) (es : List ℕ) (room : Room) {l : Load} → load_of seed es room ≡ accepted l
    → (lent : Lent) (given : Bool) (weights : List Float) (o : MultigridOptions) {h : Hierarchy} → build_of lent (input_from l given weights o) ≡ accepted h
    → needs_sums o.residual_norm ≡ true → h.sums ≡ filled (cells_of es) one64
load_sums_kept seed es room made lent given weights o {h} built needs =
    let m = load_made seed es room made in
    let on = subst (λ (k : Load). build_of lent (input_from k given weights o) ≡ accepted h) m.1 built in
    let s = build_sums lent (input_from (load_on seed (box es)) given weights o) (cells_some es m.0) on needs in
    s.1 ∙ load_row_sums seed es m.0 s.0
