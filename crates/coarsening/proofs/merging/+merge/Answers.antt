-- `merging::merge` meets its contract.
use mathlib.Core.Path.{refl, sym}
use Rattle.std.specs.Prelude.{◌≡◌, Bool, true, false, not, ℕ, Result, Ok, Option, Some, None}
use Rattle.refusal.specs.declared.Refusal.{Refusal}
use Rattle.std.proofs.Common.{arith}
use Rattle.refusal.proofs.Outcome.{passed_up}
use Rattle.coarsening.proofs.merging.Steps as laws
use Rattle.coarsening.proofs.merging.+merge.Goals as goal

-- A pairing was found.
paired : {v : Result (Option ℕ) Refusal} {o : Option ℕ} {n : ℕ} → v ≡ Ok o → o ≡ Some n → v ≡ Ok (Some n)
paired e i = cc

-- Few rows were coupled.
few : {v : Result (Option ℕ) Refusal} {o : Option ℕ} → v ≡ Ok o → o ≡ None → v ≡ Ok None
few e i = cc

-- The test of the values passed,
finite_is : (b : Bool) → not b ≡ false → b ≡ true
finite_is true e = refl
finite_is false e = sym e

-- or it did not.
no_finite : (b : Bool) → not b ≡ true → b ≡ false
no_finite true e = sym e
no_finite false e = refl

pub returns-then-steps-eq0 : goal.returns-then-steps-eq0
returns-then-steps-eq0 t c = laws.merge_none c.args.f.now c.requires _ _ _ c.if-steps-eq0.true

pub returns-then-joined-last : goal.returns-then-joined-last
returns-then-joined-last t c =
    laws.merge_alone c.args.f.now c.requires _ _ _
    c.if-steps-eq0.false c.pair.ensures
    (paired c.in_ok-found.was c.in-Some.is) c.if-joined-last.true

pub join-made-requires : goal.join-made-requires
join-made-requires t c =
    laws.join_requires c.args.f.now c.requires _ _ _
    c.if-steps-eq0.false c.pair.ensures
    (paired c.in_ok-found.was c.in-Some.is)

pub merge-requires : goal.merge-requires
merge-requires t c = (
  omega (arith, c.decreases, c.if-steps-eq0.false),
  laws.merge_requires c.args.f.now c.requires _ _ _
      c.if-steps-eq0.false c.pair.ensures
      (paired c.in_ok-found.was c.in-Some.is)
      c.if-joined-last.false c.join-made.ensures (finite_is _ c.if-not-made.false),
)

pub returns : goal.returns
returns t c =
    laws.merge_on c.args.f.now c.requires _ _ _
    c.if-steps-eq0.false c.pair.ensures
    (paired c.in_ok-found.was c.in-Some.is)
    c.if-joined-last.false c.join-made.ensures
    (finite_is _ c.if-not-made.false) c.merge.ensures

pub returns-in_err-found : goal.returns-in_err-found
returns-in_err-found t c =
    rw (passed_up _ c.from_residual.ensures.1)
    (laws.merge_refused c.args.f.now c.requires _ _ _
    c.if-steps-eq0.false c.pair.ensures c.in_err-found.was)

pub returns-in_default : goal.returns-in_default
returns-in_default t c =
    laws.merge_few c.args.f.now c.requires _ _ _
    c.if-steps-eq0.false c.pair.ensures (few c.in_ok-found.was c.in_default.is)

pub returns-then-not-made : goal.returns-then-not-made
returns-then-not-made t c =
    laws.merge_bad c.args.f.now c.requires _ _ _
    c.if-steps-eq0.false c.pair.ensures
    (paired c.in_ok-found.was c.in-Some.is)
    c.if-joined-last.false c.join-made.ensures (no_finite _ c.if-not-made.true)
