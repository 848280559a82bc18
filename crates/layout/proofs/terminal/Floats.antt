-- The floats of the last level: its DIC data and its factor.
-- Assumes nothing.
use Rattle.refusal.specs.declared.Refusal.{Refusal}
use Rattle.std.specs.Prelude.{Result}
use mathlib.Core.Path.{◌≡◌, refl, sym, ◌∙◌, subst}
use mathlib.Core.List.{List}
use Prim.Native.Nat.{ℕ}
use native.Mathlib.Omega.{arith}
use lib.ListN.{length}
use lib.Ieee.{Float}
use Rattle.float.specs.Float.{zero64}
use Rattle.store.specs.Region.{part, Wrote}
use Rattle.store.specs.Vector.{filled}
use Rattle.store.proofs.store.Region.{wrote_at, wrote_off, kept_wrote, kept_on}
use Rattle.refusal.specs.Outcome.{Outcome}
use Rattle.cholesky.specs.declared.Terminal.{Terminal}
use Rattle.cholesky.specs.Factor.{cholesky_of}
use Rattle.cholesky.specs.Contract.{csr_at, coupled_at, TerminalOk, Factored}
use Rattle.layout.specs.declared.Place.{Place}
use Rattle.layout.specs.Parts.{terminal_in}
use Rattle.layout.specs.TerminalContract.{factor_of, FactorOk, FactorDone}

module _ {w : List ℕ} {F H : List Float} {p : Place} {coupled : ℕ} (ok : FactorOk w (length F) p coupled)
    (zeros : Wrote p.dic p.rows (filled p.rows zero64) F H) where
  -- What the factor requires.
  pub factor_ready : {terminal : Terminal} → terminal ≡ terminal_in p coupled → TerminalOk w (length H) terminal
  factor_ready is = subst (λ (x : Terminal). TerminalOk w (length H) x) (sym is) (rw zeros.size ok.terminal)

  -- The zeros leave the values.
  factor_same : (level : ℕ) → factor_of w H p coupled level ≡ factor_of w F p coupled level
  factor_same level =
      let values : part p.values p.entries H ≡ part p.values p.entries F =
      wrote_off zeros p.values p.entries (omega (arith, ok.values)) in
      rw values refl

  made_done : {G : List Float} {level : ℕ} {v : Result Unit Refusal} → Factored (terminal_in p coupled) (factor_of w H p coupled level) H G v
      → FactorDone w F G p coupled level v
  made_done {G} {level} {v} done =
      let dic = ok.dic in
      let fits = ok.terminal.factor in
      let made : Factored (terminal_in p coupled) (factor_of w F p coupled level) H G v =
      subst (λ (x : Outcome (List Float)). Factored (terminal_in p coupled) x H G v) (factor_same level) done in
      record {
        answer = made.answer;
        factor = made.factor;
        dic = wrote_off done.frame p.dic p.rows (omega arith) ∙ wrote_at zeros (omega arith);
        kept = kept_on (kept_wrote zeros (omega arith)) (kept_wrote done.frame (omega arith));
      }

  -- The zeros and the factor are there.
  pub factor_done : {terminal : Terminal} {G : List Float} {level : ℕ} {v : Result Unit Refusal} → terminal ≡ terminal_in p coupled
      → Factored terminal (cholesky_of level (csr_at terminal w H) terminal.size (coupled_at terminal w)) H G v → FactorDone w F G p coupled level v
  factor_done {terminal} {G} {level} {v} is done = made_done
      (subst (λ (x : Terminal). Factored x (cholesky_of level (csr_at x w H) x.size (coupled_at x w)) H G v) is done)
