-- The build and the update a step at a time, as proofs take them apart: what comes after is an argument. Definitions only.
use Rattle.std.specs.Prelude.{Bool, cond, ◌||◌, List, [], ◌∷◌, ℕ, zero, suc, ◌+◌, ◌-◌, ◌%◌, eqb, length, Float}
use Rattle.options.specs.declared.options.MultigridOptions.{MultigridOptions}
use Rattle.refusal.specs.Refusal.{store_too_small}
use Rattle.refusal.specs.Outcome.{Outcome, accepted, ask, ◌>>=◌, ◌>>◌}
use Rattle.coefficients.specs.Update.{Coefficients, kernel_update_of}
use Rattle.aggregation.specs.Pairs.{Pairing}
use Rattle.pattern.specs.Pattern.{Pattern, compose_of}
use Rattle.faces.specs.Faces.{faces_of, diagonals_asked}
use Rattle.hierarchy.specs.Level.{Shape, Level, kernel_of}
use Rattle.hierarchy.specs.Refresh.{inner_numbers, needs_sums}
use Rattle.float.specs.Float.{zero64}
use Rattle.store.specs.Vector.{filled}
use Rattle.options.specs.Options.{needs_dic}
use Rattle.matrix.specs.Kernel.{Kernel, row_sums_of}
use Rattle.dic.specs.Dic.{dic_of}
use Rattle.hierarchy.specs.Build.{Charge, and_level, holds, inner_shape, Mesh, Merged, merged, kernel_asked, paired, coarsened_asked, few_coupled, last_level, merge_of, grow_of}

-- whether n is even
abbrev pub even : ℕ → Bool
even n = eqb (n % 2) 0

module _ (o : MultigridOptions) where
  -- whether a level is the last by its pattern alone, with so many more allowed
  abbrev pub ends_at : ℕ → Pattern → Bool
  ends_at more p = few_coupled o p || eqb (faces_of p) 0 || eqb more 0

module _ (o : MultigridOptions) (given : Bool) where
  -- a pairing g of the matrix made last: where it joins nothing the steps end, else they go on with the coarser matrix (18)
  abbrev pub joined_step : (Merged → Outcome Merged) → Merged → Pairing → Outcome Merged
  joined_step further s g =
      cond (eqb g.count s.mesh.pattern.rows) (accepted (merged s.mesh s.map (s.stage + 1)))
      (do
        next ← coarsened_asked given s.mesh g.map g.count
        further (merged next (compose_of (length s.map) s.map g.map) (s.stage + 1)))

  -- one merged step, at the level being formed: the matrix's kernel (12 and 13), and a pairing unless few rows are coupled
  abbrev pub merge_step : (Merged → Outcome Merged) → ℕ → Merged → Outcome Merged
  merge_step further level s = do
    _ ← kernel_asked level s.mesh
    cond (few_coupled o s.mesh.pattern) (accepted s) (joined_step further s (paired o given s.stage s.mesh))

  -- a level with aggregates: 16 and 17, 18 of the first coarse matrix, the merged steps, and 18 of the matrix that is summed afresh
  -- from the level by the composed map; then 9 of the next level, and the levels from there
  abbrev pub inner_level : (ℕ → Charge → Mesh → Outcome (List Level)) → Charge → ℕ → ℕ → Charge → Mesh → Coefficients → Pairing → Outcome (List Level)
  inner_level deeper stores level stage used m c g = do
    n ← inner_numbers o level (inner_shape m.pattern g.map g.count) c
    first ← coarsened_asked given m g.map g.count
    s ← merge_of o given (o.merge_levels - 1) (level + 1) (merged first g.map (stage + 1))
    next ← coarsened_asked given m s.map s.mesh.pattern.rows
    ask (holds stores (and_level next.pattern used)) store_too_small
    levels ← deeper s.stage (and_level next.pattern used) (record { pattern = next.pattern; values = next.values; weights = s.mesh.weights })
    accepted (record { shape = inner_shape m.pattern s.map s.mesh.pattern.rows; numbers = n } ∷ levels)

  -- a level whose charge is paid: 11, 12 and 13; then it is the last, or it is paired, and the last if that joins nothing
  abbrev pub level_step : (ℕ → Charge → Mesh → Outcome (List Level)) → Charge → ℕ → ℕ → ℕ → Charge → Mesh → Outcome (List Level)
  level_step deeper stores more level stage used m = do
    _ ← diagonals_asked level m.pattern
    c ← kernel_asked level m
    cond (ends_at o more m.pattern) (last_level o level m c)
        (let g = paired o given stage m in
        cond (eqb g.count m.pattern.rows) (last_level o level m c) (inner_level deeper stores level stage used m c g))

  -- the levels after one, so many of them at most
  abbrev pub deeper_of : Charge → ℕ → ℕ → ℕ → Charge → Mesh → Outcome (List Level)
  deeper_of stores zero level = λ _ _ _. accepted []
  deeper_of stores (suc more) level = grow_of o given stores more (level + 1)

-- the DIC data of a kernel where they are needed, else zeros: questions 16 and 17
abbrev pub smoother_under : Bool → ℕ → Kernel → Outcome (List Float)
smoother_under dic level k = cond dic (dic_of level k) (accepted (filled k.rows zero64))

module _ (o : MultigridOptions) where
  -- questions 12 and 13 of a level, and its coefficients
  abbrev pub coefficients_of : ℕ → Shape → List Float → Outcome Coefficients
  coefficients_of level s values = kernel_update_of level s.pattern.rows s.diagonals s.uppers values

  -- the DIC data of a level that is not the last: questions 16 and 17
  abbrev pub smoother_of : ℕ → Kernel → Outcome (List Float)
  smoother_of = smoother_under (needs_dic o.smoother)

  -- the row sums of a level, if the norm needs them
  abbrev pub sums_of : Level → List Float
  sums_of l =
      let k = kernel_of l.shape l.numbers.diagonal l.numbers.inverse l.numbers.coefficients in
      cond (needs_sums o.residual_norm) (row_sums_of k) (filled k.rows zero64)
