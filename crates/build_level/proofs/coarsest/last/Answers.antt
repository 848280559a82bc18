-- `coarsest::last` meets its contract: a law for each of its three ways out.
use native.Mathlib.Omega.{arith}
use Rattle.refusal.proofs.Outcome.{passed_up}
use Rattle.build_level.proofs.coarsest.Sizes.{standing}
use Rattle.build_level.proofs.coarsest.Ways.{list_ok, end_ok, factor_ok, ended_many, ended_pivot, ended_made}
use Rattle.build_level.proofs.coarsest.last.Goals as goal

pub coupled_in-coupled-requires : goal.coupled_in-coupled-requires
coupled_in-coupled-requires c = standing c.requires

pub returns-then-coupled-x : goal.returns-then-coupled-x
returns-then-coupled-x c =
    ended_many _ c.requires c.coupled_in-coupled.ensures _
    c.if-coupled-x.true

pub list_coupled-requires : goal.list_coupled-requires
list_coupled-requires c =
    list_ok c.requires c.coupled_in-coupled.ensures
    c.if-coupled-x.false

pub factor-requires : goal.factor-requires
factor-requires c =
    factor_ok c.requires
    c.coupled_in-coupled.ensures
    c.if-coupled-x.false c.list_coupled.ensures

pub triangle-size-requires : goal.triangle-size-requires
triangle-size-requires c =
    omega (
      arith,
      end_ok
          c.requires
          c.coupled_in-coupled.ensures
          c.if-coupled-x.false,
      c.well_formed.1.0.0,
    )

pub overflow_add-result-2 : goal.overflow_add-result-2
overflow_add-result-2 c =
    omega (
      arith,
      end_ok
          c.requires
          c.coupled_in-coupled.ensures
          c.if-coupled-x.false,
      c.triangle-size.ensures,
      c.well_formed.1.0.0,
    )

pub returns : goal.returns
returns c =
    ended_made _
    c.requires
    c.coupled_in-coupled.ensures _
    c.if-coupled-x.false
    c.list_coupled.ensures
    c.factor.ensures c.in_ok-factor.was
    c.triangle-size.ensures

pub returns-in_err-factor : goal.returns-in_err-factor
returns-in_err-factor c =
    rw (passed_up _ c.from_residual.ensures.1)
    (ended_pivot _
    c.requires
    c.coupled_in-coupled.ensures _
    c.if-coupled-x.false
    c.list_coupled.ensures
    c.factor.ensures c.in_err-factor.was)
