-- Sweep counts at a depth, the finest level's being zero (cycle.rs). Definitions only.
-- The Rust saturates at 2^64 - 1; that never shows, since `max_sweeps` is below 2^64.
use Rattle.std.specs.Prelude.{cond, ℕ, ◌+◌, ◌-◌, ◌*◌, min, eqb}
use Rattle.options.specs.declared.options.MultigridOptions.{MultigridOptions}

module _ (o : MultigridOptions) (depth : ℕ) where
  -- `extra` of cycle.rs
  abbrev pub extra_of : ℕ
  extra_of = o.sweep_level_multiplier * (depth - 1)

  -- `pre` of cycle.rs
  unfoldable pub pre_sweeps_of : ℕ
  pre_sweeps_of = cond (eqb depth 0) 0 (min (o.pre_sweeps + cond (eqb o.pre_sweeps 0) 0 extra_of) o.max_sweeps)

  -- `post` of cycle.rs
  unfoldable pub post_sweeps_of : ℕ
  post_sweeps_of = cond (eqb depth 0) o.finest_sweeps (min (o.post_sweeps + extra_of) o.max_sweeps)
