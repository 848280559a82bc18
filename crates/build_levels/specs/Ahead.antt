-- One level of the build and the frontier ahead of it: what the functions of a level require and ensure. Definitions only.
use Rattle.std.specs.Prelude.{◌≡◌, Bool, true, false, cond, List, ◌∷◌, ℕ, ◌+◌, ◌-◌, ◌*◌, ◌≤◌, eqb, length, Float, Result, Ok, Err}
use Rattle.std.specs.declared.ops.ControlFlow.{ControlFlow}
use Rattle.std.specs.declared.ops.ControlFlow.TheVariants.{Continue, Break}
use Rattle.store.specs.Region.{Kept}
use Rattle.options.specs.declared.options.MultigridOptions.{MultigridOptions}
use Rattle.refusal.specs.Refusal.{store_too_small}
use Rattle.refusal.specs.declared.Refusal.{Refusal}
use Rattle.refusal.specs.Outcome.{Outcome, accepted, ◌>>=◌}
use Rattle.coefficients.specs.Update.{Coefficients}
use Rattle.hierarchy.specs.Level.{Level}
use Rattle.hierarchy.specs.Build.{charge, Charge, Mesh, holds, paired, last_level}
use Rattle.hierarchy.specs.Steps.{ends_at, inner_level, deeper_of}
use Rattle.layout.specs.declared.Place.{Place}
use Rattle.layout.specs.Layout.{level_at, words_end, floats_end}
use Rattle.layout.specs.Headers.{head_at, head_of}
use Rattle.layout.specs.Placed.{coefficients_at}
use Rattle.coarsening.specs.declared.coarsen.Workspace.{Workspace}
use Rattle.coarsening.specs.CoarsenContract.{mesh_at}
use Rattle.build_level.specs.declared.laying.Frontier.{Frontier}
use Rattle.build_level.specs.LayingContract.{level_in, ControlsOk, FrontierOk, ChooseOk}
use Rattle.build_level.specs.declared.coarsest.Growth.{Growth}
use Rattle.build_level.specs.CoarsestContract.{Levels}
use Rattle.build_levels.specs.GrowingContract.{grow_at}

-- the end of `levelStep`: a level with its coefficients is the last, or it is paired, and the last if that joins nothing
abbrev pub paired_level : MultigridOptions → Bool → Charge → ℕ → ℕ → ℕ → Charge → Mesh → Coefficients → Outcome (List Level)
paired_level o given stores more level stage used m c =
    cond (ends_at o more m.pattern) (last_level o level m c)
    (let g = paired o given stage m in
    cond (eqb g.count m.pattern.rows) (last_level o level m c)
    (inner_level o given (deeper_of o given stores more level) stores level stage used m c g))

-- the same of the level that stands at p
abbrev pub paired_at : MultigridOptions → Bool → List ℕ → List Float → Workspace → Frontier → Place → Outcome (List Level)
paired_at o given w F t s p =
    paired_level o given (charge (length w) (length F)) s.more s.level s.stage (charge s.words s.floats)
    (mesh_at w F given (level_in t p)) (coefficients_at F p)

-- a level before others
abbrev pub before : Level → Outcome (List Level) → Outcome (List Level)
before l deeper = ◌>>=◌ deeper (λ ls. accepted (l ∷ ls))

-- The frontier n lies ahead of s: the level at s is whole with its header, it ends where n starts, and `out` is that level and those from n on.
pub record Ahead (w z : List ℕ) (F G : List Float) (o : MultigridOptions) (given : Bool) (t : Workspace) (s : Frontier) (out : Outcome (List Level)) (n : Frontier) : Type 0 where
  pub frontier : FrontierOk z (length G) o t n
  pub more : s.more ≡ n.more + 1
  pub level : n.level ≡ s.level + 1
  pub head : head_at z s.a ≡ head_of (level_at z G s.a s.b).shape
  pub wordsend : words_end z s.a ≡ n.a
  pub floatsend : floats_end z s.a s.b ≡ n.b
  pub above : s.a ≤ n.a
  pub over : s.b ≤ n.b
  pub outcome : out ≡ before (level_at z G s.a s.b) (grow_at o given z G t n)
  pub words : Kept s.a w z
  pub floats : Kept s.b F G

-- where a level leads: the levels end with it, or there is a next one
abbrev pub Onward : Type 0
Onward = ControlFlow Growth Frontier

-- What a level whose outcome is `out` ensures: the levels end with it, or it is refused, or the next frontier lies ahead.
pub record Advanced (w z : List ℕ) (F G : List Float) (o : MultigridOptions) (given : Bool) (t : Workspace) (s : Frontier) (out : Outcome (List Level)) (r : Result Onward Refusal) : Type 0 where
  pub ended : (g : Growth) → r ≡ Ok (Break g) → Levels w z F G t s.level s.a s.b out (Ok g)
  pub refusal : (q : Refusal) → r ≡ Err q → Levels w z F G t s.level s.a s.b out (Err q)
  pub next : (n : Frontier) → r ≡ Ok (Continue n) → Ahead w z F G o given t s out n

-- What the choice between the last level and the way down requires: the controls, a level that stands at p, and small enough counts.
pub record LeadOk (w : List ℕ) (size : ℕ) (o : MultigridOptions) (t : Workspace) (s : Frontier) (p : Place) : Type 0 where
  pub controls : ControlsOk o
  pub level : ChooseOk w size o t s p
  pub levels : s.level + s.more + 1 ≤ 18446744073709551615
  pub stages : s.stage + 4 * s.more + 4 ≤ 18446744073709551615

-- the frontier after the level at p, of so many rows and entries
abbrev pub next_after : Frontier → Place → ℕ → ℕ → ℕ → Frontier
next_after s p count entries stage = record {
  rows = count;
  entries = entries;
  a = p.positions + p.entries;
  b = p.factor;
  words = s.words + (5 * count + 4 * entries + 8);
  floats = s.floats + (20 * count + 4 * entries);
  level = s.level + 1;
  stage = stage;
  more = s.more - 1;
}

-- the next frontier, or question 9's refusal
abbrev pub pick_onward : Bool → Frontier → Result Frontier Refusal
pick_onward true n = Ok n
pick_onward false n = Err store_too_small

-- question 9 of the next level, in stores of so many words and floats
abbrev pub charged_of : ℕ → ℕ → Frontier → Result Frontier Refusal
charged_of words floats n = pick_onward (holds (charge words floats) (charge n.words n.floats)) n

-- What that question requires: no sum wraps.
pub record ChargeOk (words floats : ℕ) (s : Frontier) (p : Place) (count entries : ℕ) : Type 0 where
  pub heldwords : s.words ≤ words
  pub heldfloats : s.floats ≤ floats
  pub few : count ≤ 65536
  pub less : entries ≤ 1048576
  pub end : p.positions + p.entries ≤ words
  pub level : s.level + 1 ≤ 18446744073709551615
  pub more : 1 ≤ s.more
