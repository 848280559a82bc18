-- What the work at one level does, said of the definitions.
-- Assumes nothing.
use Rattle.std.specs.Prelude.{Result, Ok, Err}
use mathlib.Core.Path.{◌≡◌, refl, sym, ap, ◌∙◌}
use mathlib.Core.Bool.{Bool, true, false}
use mathlib.Core.List.{List}
use Prim.Native.Nat.{ℕ, ◌+◌, ◌*◌, ◌≤◌, ◌<◌}
use native.Mathlib.Omega.{arith}
use lib.ListN.{length}
use lib.Ieee.{Float}
use Rattle.store.specs.Region.{idx, part, Kept}
use Rattle.store.proofs.store.Region.{length_part}
use Rattle.options.specs.declared.options.MultigridOptions.{MultigridOptions}
use Rattle.options.specs.Counts.{pre_sweeps_of, post_sweeps_of}
use Rattle.refusal.specs.declared.Refusal.{Refusal}
use Rattle.refusal.specs.Refusal.{bad_coarse_solution}
use Rattle.refusal.specs.Outcome.{Outcome, accepted, refused, ask, verdict_of, ◌>>=◌}
use Rattle.refusal.proofs.Outcome.{then_accepted, verdict_passed, verdict_refused, refuses, never, accepts_it}
use Rattle.vector.specs.Finite.{all_finite}
use Rattle.cholesky.specs.Triangle.{tri}
use Rattle.matrix.specs.declared.matrix.SymmetricMatrix.{SymmetricMatrix}
use Rattle.cholesky.specs.declared.Terminal.{Terminal}
use Rattle.smoother.specs.declared.LevelScratch.{LevelScratch}
use Rattle.smoother.specs.Scratch.{scratch_of}
use Rattle.coarse.specs.Terminal.{terminal_solution, terminal_of}
use Rattle.coarse.specs.Contract.{SolutionOk, Solved, Outside}
use Rattle.layout.specs.declared.Place.{Place}
use Rattle.layout.specs.Layout.{rows_at, locate}
use Rattle.layout.specs.Parts as parts
use Rattle.cycle.specs.declared.visit.Inner.{Inner}
use Rattle.cycle.specs.Visit.{InnerOk, raised_at, Moved, Downed}
use Rattle.cycle.proofs.visit.Laws.{same_accepted}
use Rattle.cycle.specs.declared.Way.{Way}
use Rattle.cycle.specs.Cycle.{Cycled, cycled, count_of, swept, iterated, ended}
use Rattle.cycle.specs.Contract.{level_in, next_in, inner_at, NextOk, EndOk, StepOk, Visited, WentDown, end_at, up_at, work_ok, work_done}

-- ---- the place

module _ {w : List ℕ} {a b s : ℕ} (ok : NextOk w a b s) {p : Place} (e : p ≡ locate w a b) where
  -- The words of a level that is not the last end in the store.
  pub after_within : p.positions + p.entries < length w
  after_within = rw e ok.within

  -- Where its vectors and those of the next level end is an index.
  pub vectors_fit : {next : ℕ} → next ≡ next_in w p → s + 5 * p.rows + 5 * next ≤ 18446744073709551615
  vectors_fit n = rw (n, e) ok.vectors

-- A level as its visit has it.
pub inner_is : (w : List ℕ) (a b s : ℕ) {p : Place} {m : SymmetricMatrix} {next : ℕ} {v u : LevelScratch} → p ≡ locate w a b → m ≡ parts.kernel_in p
    → next ≡ next_in w p → v ≡ scratch_of s p.rows → u ≡ scratch_of (s + 5 * p.rows) next
    → ◌≡◌ {A = Inner} (record { matrix = m; dic = p.dic; links = p.links; vectors = v; below = u; next = next }) (inner_at w a b s)
inner_is w a b s e k n v u = rw (k, v, u, n, e)

-- ---- the way down and the way up

-- What they require of the level.
pub visit_ok : {w : List ℕ} {size depth a b s : ℕ} {g : Inner} → StepOk w size depth a b s → g ≡ inner_at w a b s → InnerOk w size g
visit_ok ok e = rw e ok.inner

module _ (o : MultigridOptions) (w : List ℕ) (depth a b s : ℕ) {g : Inner} (e : g ≡ inner_at w a b s) where
  -- The way down.
  pub down_done : {F G : List Float} {pre : ℕ} {r : Result Unit Refusal} → pre ≡ pre_sweeps_of o depth → Downed o.smoother w F G g pre r
      → WentDown o w F G depth a b s r
  down_done p d = record { visit = rw (e, p) at d }

module _ (o : MultigridOptions) (w : List ℕ) {F G : List Float} (t : List ℕ) (depth a b s : ℕ) {g : Inner} {pre post : ℕ} {v : Result Unit Refusal}
    (e : g ≡ inner_at w a b s) (p : pre ≡ pre_sweeps_of o depth) (q : post ≡ post_sweeps_of o depth)
    (m : Moved g.vectors.x g.matrix.rows (raised_at w F g o.smoother o.scale_correction pre post) F G v) where
  -- the way up of the level with the sweeps of the controls
  abbrev raised_to : Outcome (List Float)
  raised_to = raised_at w F (inner_at w a b s) o.smoother o.scale_correction (pre_sweeps_of o depth) (post_sweeps_of o depth)

  m' : Moved (s + rows_at w a) (rows_at w a) raised_to F G v
  m' = rw (e, p, q) at m

  -- The way up refuses.
  pub up_no : (u : List ℕ) {q : Refusal} → v ≡ Err q
      → Visited s (rows_at w a) (up_at o w F t depth a b s) F G u (Err q)
  unfolding up_at
  up_no u {q} told =
      let out = up_at o w F t depth a b s in
      let no = refuses raised_to m'.answer told in
      let all : out ≡ refused q = rw no in
      record { answer = sym (verdict_refused out all); x = λ c y. never all y; counts = λ c y. never all y; floats = m'.floats }

  -- The sweeps are counted.
  pub up_yes : {t₁ u : List ℕ} → v ≡ Ok tt → t₁ ≡ count_of (4 * depth + 1) pre t → u ≡ count_of (4 * depth + 2) post t₁
      → Visited s (rows_at w a) (up_at o w F t depth a b s) F G u (Ok tt)
  unfolding up_at
  up_yes {t₁} {u} told before behind =
      let out = up_at o w F t depth a b s in
      let yes = accepts_it raised_to m'.answer told in
      let after = swept depth (pre_sweeps_of o depth) (post_sweeps_of o depth) t in
      let counts : u ≡ after = behind ∙ rw (before, p, q) in
      let all : out ≡ accepted (cycled yes.0 after) = then_accepted raised_to (λ z. accepted (cycled z after)) yes.1 in
      record {
        answer = sym (verdict_passed out all);
        x = λ c y. m'.is yes.0 yes.1 ∙ ap (λ (z : Cycled). z.x) (same_accepted all y);
        counts = λ c y. counts ∙ ap (λ (z : Cycled). z.counts) (same_accepted all y);
        floats = m'.floats;
      }

-- ---- the last level

-- A question before a result does not change it.
ask_is : {A : Type 0} (c : Bool) (q : Refusal) (y v : A) → ask c q (accepted y) ≡ accepted v → y ≡ v
ask_is true q y v e = cc
ask_is false q y v e = let none : ◌≡◌ {A = ℕ} 0 1 = cc in absurd (omega arith)

module _ {w : List ℕ} {size depth a b s : ℕ} {p : Place} {coupled : ℕ} {k : Terminal} (ok : EndOk w size depth a b s) (e : p ≡ locate w a b)
    (c : coupled ≡ idx w (a + 2)) (is : k ≡ parts.terminal_in p coupled) where
  -- What the terminal solve requires.
  pub solve_ok_lem : {v : LevelScratch} → v ≡ scratch_of s p.rows → SolutionOk w size k p.inverse v.rhs v.x v.work
  solve_ok_lem at = let last = ok.last in rw (at, is, c, e) (record {
    coupled = record {
      rows = last.links;
      near = last.near;
      factors = last.factors;
      rhss = omega arith;
      xs = omega arith;
      works = omega (arith, last.room, last.few);
    };
    inverses = last.inverses;
  })

-- The vectors of the last level end in the store.
pub last_room : {w : List ℕ} {size depth a b s : ℕ} {p : Place} → EndOk w size depth a b s → p ≡ locate w a b → s + 5 * p.rows ≤ size
last_room ok e = rw e ok.last.room

-- The terminal solve changes nothing below x.
outside_kept : {n x lo hi : ℕ} {F G : List Float} → Outside n x lo hi F G → x ≤ lo → Kept x F G
unfolding part
outside_kept {n} {x} h a = record { below = h.below 0 x (omega arith) (omega arith); size = h.size }

-- Where it accepts, x is the solution.
terminal_is : (n size : ℕ) (inverse factor rhs v : List Float) (coupled : List ℕ) → terminal_of n inverse size coupled factor rhs ≡ accepted v
    → terminal_solution n inverse size coupled factor rhs ≡ v
unfolding terminal_of
terminal_is n size inverse factor rhs v coupled e =
    let y = terminal_solution n inverse size coupled factor rhs in ask_is (all_finite n y) bad_coarse_solution y v e

-- An x with its counters, by the cases of its outcome.
visit_of : {s n : ℕ} {F G : List Float} {u : List ℕ} {r : Result Unit Refusal} (out : Outcome (List Float)) (counts : List ℕ) → r ≡ verdict_of out
    → ((v : List Float) → out ≡ accepted v → part (s + n) n G ≡ v) → u ≡ counts → Kept (s + n) F G
    → Visited s n (◌>>=◌ out (λ x. accepted (cycled x counts))) F G u r
visit_of (accepted a) counts e x c k = record {
  answer = e;
  x = λ z y. x a refl ∙ ap (λ (z : Cycled). z.x) (same_accepted refl y);
  counts = λ z y. c ∙ ap (λ (z : Cycled). z.counts) (same_accepted refl y);
  floats = k;
}
visit_of (refused q) counts e x c k = record {
  answer = e;
  x = λ z y. never refl y;
  counts = λ z y. never refl y;
  floats = k;
}

-- The last level's visit.
pub end_done : {w : List ℕ} {F G : List Float} (t : List ℕ) {u : List ℕ} {depth a b s : ℕ} {p : Place} {coupled : ℕ} {k : Terminal} {v : LevelScratch} {r : Result Unit Refusal}
    → EndOk w (length F) depth a b s → p ≡ locate w a b → coupled ≡ idx w (a + 2) → k ≡ parts.terminal_in p coupled
    → v ≡ scratch_of s p.rows → Solved k w p.inverse v.rhs v.x v.work F G r → u ≡ count_of (4 * depth + 3) 0 t
    → Visited s (rows_at w a) (end_at w F t depth a b s) F G u r
unfolding end_at
end_done {w} {F} {G} t {u} {depth} {a} {b} {s} {p} {coupled} {k} {v} {r} ok at_p at_c is at-v d c =
    let P = locate w a b in
    let n = rows_at w a in
    let m = idx w (a + 2) in
    let d' : Solved (parts.terminal_in P m) w P.inverse s (s + n) (s + 2 * n) F G r = rw (at-v, is, at_c, at_p) at d in
    let long : length (part P.links m w) ≡ m = length_part P.links m w ok.last.links in
    let out = ended (level_in w F P true m) (part s n F) in
    let same : out ≡ terminal_of n (part P.inverse n F) m (part P.links m w) (part P.factor (tri m) F) (part s n F) = rw long in
    visit_of out (iterated depth 0 t) (d'.answer ∙ ap verdict_of (sym same))
    (λ v e. d'.solution ∙ terminal_is n m (part P.inverse n F) (part P.factor (tri m) F) (part s n F) v (part P.links m w) (sym same ∙ e))
    c (outside_kept d'.frame (omega arith))

-- ---- the work, by its way

module _ {way : Way} {w : List ℕ} {size depth a b s : ℕ} (ok : work_ok way w size depth a b s) where
  -- What the last level requires,
  pub last_asks : way ≡ Way.Last → EndOk w size depth a b s
  last_asks e = rw e at ok

  -- the way down,
  pub down_asks : way ≡ Way.Down → StepOk w size depth a b s
  down_asks e = rw e at ok

  -- and the way up.
  pub up_asks : way ≡ Way.Up → StepOk w size depth a b s
  up_asks e = rw e at ok

module _ {way : Way} (o : MultigridOptions) (w : List ℕ) {F G : List Float} (t : List ℕ) {u : List ℕ} (depth a b s : ℕ) {r : Result Unit Refusal} where
  -- What the last level ensures,
  pub last_told : way ≡ Way.Last → Visited s (rows_at w a) (end_at w F t depth a b s) F G u r
      → work_done way o w F G t u depth a b s r
  last_told e v = rw e v

  -- the way down,
  pub down_told : way ≡ Way.Down → u ≡ t → WentDown o w F G depth a b s r
      → work_done way o w F G t u depth a b s r
  down_told e c d = rw e (record { down = d; counts = c })

  -- and the way up.
  pub up_told : way ≡ Way.Up → Visited s (rows_at w a) (up_at o w F t depth a b s) F G u r → work_done way o w F G t u depth a b s r
  up_told e v = rw e v
