-- The build as questions 1 to 9 and the rest.
-- Assumes nothing.
use mathlib.Core.Path.{◌≡◌, refl}
use mathlib.Core.Bool.{Bool, true, false, cond, ◌&&◌, ◌||◌}
use lib.Dec.{eqb, leb}
use lib.ListN.{length}
use Rattle.refusal.specs.declared.Refusal.{Refusal}
use Rattle.refusal.specs.Refusal.{store_too_small}
use Rattle.options.specs.Options.{controls_asked}
use Rattle.refusal.specs.Outcome.{Outcome, accepted, refused, passed, ask, ◌>>=◌}
use Rattle.csr.specs.Questions.{matrix_asked}
use Rattle.csr.specs.Weights.{weights_asked}
use Rattle.hierarchy.specs.Level.{empty_hierarchy}
use Rattle.hierarchy.specs.Build.{fixed_charge, and_level, holds, Lent, Input, pattern_in, build_of}
use Rattle.build.specs.AskingContract.{arrays_asked, room_asked, asked_of}
use Rattle.build.specs.Steps.{rest_of, after_room}

chain : {A : Type 0} (m w c : Outcome Unit) (a b d : Bool) (q s : Refusal) (none rest : Outcome A)
    → ◌>>=◌ m (λ _. ◌>>=◌ w (λ _. ◌>>=◌ c (λ _. ask a q (cond b none (ask d s rest)))))
    ≡ ◌>>=◌ (◌>>=◌ (◌>>=◌ m (λ _. ◌>>=◌ w (λ _. c))) (λ _. ask a q (ask (b || d) s passed))) (λ _. cond b none rest)
chain (refused _) w c a b d q s none rest = refl
chain (accepted _) (refused _) c a b d q s none rest = refl
chain (accepted _) (accepted _) (refused _) a b d q s none rest = refl
chain (accepted _) (accepted _) (accepted _) false b d q s none rest = refl
chain (accepted _) (accepted _) (accepted _) true true d q s none rest = refl
chain (accepted _) (accepted _) (accepted _) true false false q s none rest = refl
chain (accepted _) (accepted _) (accepted _) true false true q s none rest = refl

-- The build is questions 1 to 9, then the rest.
pub build_asked : (l : Lent) (x : Input) → build_of l x ≡ ◌>>=◌ (asked_of l x) (λ _. after_room l.stores x)
unfolding build_of asked_of arrays_asked room_asked rest_of
build_asked l x =
    let o = x.options in
    let p = pattern_in x in
    let fixed = fixed_charge o x.rows (length x.columns) in
    chain (matrix_asked x.rows x.offsets x.columns x.values)
    (cond x.given (weights_asked (length x.columns) x.weights) passed)
    (controls_asked o)
    (holds l.stores fixed && leb o.max_levels l.records)
    (eqb x.rows 0)
    (holds l.stores (and_level p fixed))
    store_too_small store_too_small
    (accepted empty_hierarchy)
    (rest_of l.stores x)
