-- A store of one float, watched by a caller who holds another.
-- Assumes nothing.
use mathlib.Core.Path.{◌≡◌, refl, sym, ◌∙◌}
use mathlib.Core.Bool.{Bool, true, false, ◌&&◌}
use mathlib.Core.List.{List}
use Prim.Native.Nat.{ℕ, ◌≤◌, ◌<◌}
use lib.Dec.{eqb}
use lib.ListN.{length, set, get_or-eq_default}
use lib.Seq.{get_or-set_same, get_or-set_other}
use lib.Ieee.{Float, nan}
use borrow.Author.Tests.{eqb-true, eqb-false}
use Rattle.store.specs.Region.{at}
use Rattle.store.proofs.store.Each.{both_l, both_r}
use Rattle.store.specs.Held.{Held, Put}

-- Past the end there is a NaN.
pub past_end : (F : List Float) (i : ℕ) → length F ≤ i → nan ≡ at F i
past_end F i h = sym (get_or-eq_default F nan h)

-- A float that was read is held.
pub held_read : (near : Bool) (watched : ℕ) (F : List Float) (x : Float) → x ≡ at F watched → Held near watched F x
held_read near watched F x e = record { is = λ _. e }

-- What the caller holds is the float asked for.
pub near_held : (F : List Float) (i watched : ℕ) (near : Bool) (held : Float) → Held near watched F held → (near && eqb i watched) ≡ true → held ≡ at F i
near_held F i watched near held e t =
    let z : i ≡ watched = eqb-true i watched (both_r near (eqb i watched) t) in
    rw z (e.is (both_l near (eqb i watched) t))

-- The float watched is the one stored,
pub put_here : (i watched : ℕ) (near : Bool) (v : Float) (F : List Float) → i < length F → (near && eqb i watched) ≡ true → Put i v near watched F (set F i v) v
put_here i watched near v F h t =
    let z : i ≡ watched = eqb-true i watched (both_r near (eqb i watched) t) in
    record { is = refl; held = record { is = λ _. rw (← z) (sym (get_or-set_same F i v nan h)) } }

-- or another, which stays.
pub put_there : (i watched : ℕ) (near : Bool) (v held : Float) (F : List Float) → Held near watched F held → (near && eqb i watched) ≡ false
    → Put i v near watched F (set F i v) held
put_there i watched near v held F e t = record {
  is = refl;
  held = record {
    is = λ n.
        let other : eqb i watched ≡ false = rw n at t in
        e.is n ∙ sym (get_or-set_other F i watched v nan (λ y. eqb-false i watched other (sym y)));
  };
}

-- What is held is the float asked for, if the caller is near.
pub held_is : (F : List Float) (i : ℕ) (near : Bool) (held : Float) → Held near i F held → near ≡ true → held ≡ at F i
held_is F i near held e t = e.is t
