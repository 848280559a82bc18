-- A cycle in the stores: what its functions require and ensure. Definitions only.
-- A level is told by three offsets: a into the words, b into the floats, s into the scratch. There stand five vectors of its rows:
-- right-hand side, x, work (which also holds the residual), correction, product; the next level's follow.
use Rattle.refusal.specs.declared.Refusal.{Refusal}
use Rattle.std.specs.Prelude.{◌≡◌, Bool, true, false, List, ℕ, ◌+◌, ◌*◌, ◌≤◌, ◌<◌, length, Float, Result, Ok}
use Rattle.store.specs.Region.{idx, part, Kept}
use Rattle.options.specs.declared.options.MultigridOptions.{MultigridOptions}
use Rattle.options.specs.Counts.{pre_sweeps_of, post_sweeps_of}
use Rattle.refusal.specs.Outcome.{Outcome, accepted, verdict_of, ◌>>=◌}
use Rattle.cholesky.specs.Triangle.{tri}
use Rattle.smoother.specs.Scratch.{scratch_of}
use Rattle.hierarchy.specs.Level.{Level}
use Rattle.layout.specs.declared.Place.{Place}
use Rattle.layout.specs.Layout.{rows_at, shape_at, numbers_at, locate, levels_at, image_end}
use Rattle.layout.specs.Parts.{kernel_in}
use Rattle.layout.specs.PlaceContract.{PlaceOk}
use Rattle.index_check.specs.Sound.{walk_of, scratch_end}
use Rattle.cycle.specs.declared.visit.Inner.{Inner}
use Rattle.cycle.specs.Visit.{InnerOk, raised_at, Downed}
use Rattle.cycle.specs.declared.Way.{Way}
use Rattle.cycle.specs.Cycle.{Cycled, cycled, swept, iterated, ended, cycle_of}

-- ---- the whole cycle

-- the cycle over so many levels, the first of which stands at a, b and s
abbrev pub cycle_at : MultigridOptions → ℕ → List ℕ → List Float → List ℕ → ℕ → ℕ → ℕ → ℕ → Outcome Cycled
cycle_at o left w F t depth a b s =
    cycle_of o (levels_at left w F a b) depth (part s (rows_at w a) F) (part (s + rows_at w a) (rows_at w a) F) t

-- What a cycle requires: a level that the index check passed and those after it, whose floats end below the scratch and whose scratch
-- ends in the store; and few enough levels.
pub record CycleOk (left : ℕ) (w : List ℕ) (size depth a b s : ℕ) : Type 0 where
  pub some : 1 ≤ left
  pub sound : walk_of left w depth a ≡ Ok tt
  pub image : image_end left w a b ≤ s
  pub scratch : scratch_end left w a s ≤ size
  pub deep : depth + left ≤ 128

-- What it ensures: the definition's verdict; accepted, its x and its counters. Below the level's x nothing changed.
pub record CycleDone (o : MultigridOptions) (left : ℕ) (w : List ℕ) (F G : List Float) (t u : List ℕ) (depth a b s : ℕ) (r : Result Unit Refusal) : Type 0 where
  pub answer : r ≡ verdict_of (cycle_at o left w F t depth a b s)
  pub x : (c : Cycled) → cycle_at o left w F t depth a b s ≡ accepted c → part (s + rows_at w a) (rows_at w a) G ≡ c.x
  pub counts : (c : Cycled) → cycle_at o left w F t depth a b s ≡ accepted c → u ≡ c.counts
  pub floats : Kept (s + rows_at w a) F G

-- ---- one level

-- the level at p: the last with so many coupled rows, or another
abbrev pub level_in : List ℕ → List Float → Place → Bool → ℕ → Level
level_in w F p last coupled = record { shape = shape_at w p last coupled; numbers = numbers_at F p coupled }

-- a level at p that is not the last
abbrev pub inner_in : List ℕ → List Float → Place → Level
inner_in w F p = level_in w F p false 0

-- the rows of the level after the one at p
abbrev pub next_in : List ℕ → Place → ℕ
next_in w p = idx w (p.positions + p.entries)

-- a level that is not the last, as its visit has it
abbrev pub inner_at : List ℕ → ℕ → ℕ → ℕ → Inner
inner_at w a b s =
    let p = locate w a b in record {
      matrix = kernel_in p;
      dic = p.dic;
      links = p.links;
      vectors = scratch_of s p.rows;
      below = scratch_of (s + 5 * p.rows) (next_in w p);
      next = next_in w p;
    }

-- The place of a level that is not the last may be read, another level follows it in the words, and where the vectors of that one end is an
-- index.
pub record NextOk (w : List ℕ) (a b s : ℕ) : Type 0 where
  pub place : PlaceOk w a b
  pub within : (locate w a b).positions + (locate w a b).entries < length w
  pub vectors : s + 5 * rows_at w a + 5 * next_in w (locate w a b) ≤ 18446744073709551615

-- The last level at p, with so many coupled rows.
pub record LastOk (w : List ℕ) (size : ℕ) (p : Place) (s coupled : ℕ) : Type 0 where
  pub links : p.links + coupled ≤ length w
  pub near : (k : ℕ) → k < coupled → idx w (p.links + k) < p.rows
  pub inverses : p.inverse + p.rows ≤ s
  pub factors : p.factor + tri coupled ≤ s
  pub few : coupled ≤ p.rows
  pub room : s + 5 * p.rows ≤ size

-- x and what lies above it apart, nothing changed; `out` is the verdict's, and accepted it gives x and the counters
pub record Visited (s n : ℕ) (out : Outcome Cycled) (F G : List Float) (u : List ℕ) (r : Result Unit Refusal) : Type 0 where
  pub answer : r ≡ verdict_of out
  pub x : (c : Cycled) → out ≡ accepted c → part (s + n) n G ≡ c.x
  pub counts : (c : Cycled) → out ≡ accepted c → u ≡ c.counts
  pub floats : Kept (s + n) F G

-- ---- the work at one level

-- The last level in the stores.
pub record EndOk (w : List ℕ) (size depth a b s : ℕ) : Type 0 where
  pub place : PlaceOk w a b
  pub last : LastOk w size (locate w a b) s (idx w (a + 2))
  pub deep : depth < 128

-- Another level in the stores.
pub record StepOk (w : List ℕ) (size depth a b s : ℕ) : Type 0 where
  pub next : NextOk w a b s
  pub inner : InnerOk w size (inner_at w a b s)
  pub deep : depth < 128

-- the last level's x, and no iteration counted
unfoldable pub end_at : List ℕ → List Float → List ℕ → ℕ → ℕ → ℕ → ℕ → Outcome Cycled
end_at w F t depth a b s = do
  x ← ended (level_in w F (locate w a b) true (idx w (a + 2))) (part s (rows_at w a) F)
  accepted (cycled x (iterated depth 0 t))

-- x after the way up of another level, and the sweeps counted
unfoldable pub up_at : MultigridOptions → List ℕ → List Float → List ℕ → ℕ → ℕ → ℕ → ℕ → Outcome Cycled
up_at o w F t depth a b s = do
  z ← raised_at w F (inner_at w a b s) o.smoother o.scale_correction (pre_sweeps_of o depth) (post_sweeps_of o depth)
  accepted (cycled z (swept depth (pre_sweeps_of o depth) (post_sweeps_of o depth) t))

-- The way down of a level with the sweeps of the controls.
pub record WentDown (o : MultigridOptions) (w : List ℕ) (F G : List Float) (depth a b s : ℕ) (r : Result Unit Refusal) : Type 0 where
  pub visit : Downed o.smoother w F G (inner_at w a b s) (pre_sweeps_of o depth) r

-- It counts nothing.
pub record DownDone (o : MultigridOptions) (w : List ℕ) (F G : List Float) (t u : List ℕ) (depth a b s : ℕ) (r : Result Unit Refusal) : Type 0 where
  pub down : WentDown o w F G depth a b s r
  pub counts : u ≡ t

-- what the work at a level requires, by the way that is gone there
abbrev pub work_ok : Way → List ℕ → ℕ → ℕ → ℕ → ℕ → ℕ → Type 0
work_ok Way.Last w size depth a b s = EndOk w size depth a b s
work_ok Way.Down w size depth a b s = StepOk w size depth a b s
work_ok Way.Up w size depth a b s = StepOk w size depth a b s

-- and what it ensures
abbrev pub work_done : Way → MultigridOptions → List ℕ → List Float → List Float → List ℕ → List ℕ → ℕ → ℕ → ℕ → ℕ → Result Unit Refusal → Type 0
work_done Way.Last o w F G t u depth a b s r = Visited s (rows_at w a) (end_at w F t depth a b s) F G u r
work_done Way.Down o w F G t u depth a b s r = DownDone o w F G t u depth a b s r
work_done Way.Up o w F G t u depth a b s r = Visited s (rows_at w a) (up_at o w F t depth a b s) F G u r
