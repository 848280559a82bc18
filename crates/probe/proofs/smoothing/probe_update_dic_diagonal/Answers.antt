-- `probe_update_dic_diagonal` tells the verdict of `dic::update_dic_diagonal`.
use Rattle.refusal.specs.declared.Refusal.{Refusal}
use Rattle.std.specs.Prelude.{Result, Ok, Err}
use mathlib.Core.List.{List}
use mathlib.Core.Path.{◌≡◌, ◌∙◌, ap, refl, sym}
use Prim.Native.Nat.{ℕ}
use lib.Ieee.{Float}
use Rattle.refusal.specs.Outcome.{Outcome, verdict_of}
use Rattle.dic.specs.Dic.{settled, Settled}
use Rattle.probe.specs.Probe.{Told}
use Rattle.probe.proofs.smoothing.probe_update_dic_diagonal.Goals as goal

-- The verdict of an outcome is the one that it was settled with.
verdict-settled : (v : Result Unit Refusal) (held : List Float) → verdict_of (settled v held) ≡ v
unfolding settled
verdict-settled (Ok tt) held = refl
verdict-settled (Err q) held = refl

-- So what was told of the verdict was told of the outcome.
settled-told : {b n r : ℕ} {o : Outcome (List Float)} {F G : List Float} {P Q : List ℕ} {v : Result Unit Refusal} → Settled b n o F G v → Told v P Q r
    → Told (verdict_of o) P Q r × Settled b n o F G (verdict_of o)
settled-told {o = o} {v = v} p t =
    let same : v ≡ verdict_of o = sym (ap verdict_of p.is ∙ verdict-settled v p.held) in
    (rw same at t, rw same at p)

pub returns : goal.returns
returns c =
    let pair = settled-told c.update_dic_diagonal.ensures c.answer.ensures in
    record { told = pair.0; settled = pair.1 }
