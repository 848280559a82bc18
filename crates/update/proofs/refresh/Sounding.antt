-- Stores that question 19 passes are ready for an update.
-- Assumes nothing.
use mathlib.Core.Path.{◌≡◌, refl}
use mathlib.Core.Bool.{true, ◌&&◌}
use mathlib.Core.List.{List}
use Prim.Native.Nat.{ℕ, zero, suc}
use native.Mathlib.Omega.{arith}
use lib.Dec.{eqb, leb}
use borrow.Author.Tests.{leb-true}
use Rattle.store.proofs.store.Each.{both_l, both_r}
use Rattle.options.specs.declared.options.Handle.{Handle}
use Rattle.layout.specs.Layout.{rows_at, entries_at}
use Rattle.layout.proofs.Views.{image_empty}
use Rattle.index_check.specs.Sound.{heads_walked, levels_walked, walk_of, levels_sound, scratch_end, cycle_start, handle_sound, filled_sound, sound_of}
use Rattle.index_check.proofs.sound.Question.{handle_few, sound_filled}
use Rattle.index_check.proofs.sound.Sizes.{scratch_to}
use Rattle.index_check.proofs.sound.Accepts.{walk_passes}
use Rattle.update.specs.Steps.{UpdateOk}

-- What an update of levels requires.
filled_ready : (h : Handle) (w : List ℕ) (size records : ℕ) → filled_sound h w size records ≡ true → UpdateOk h w size
unfolding filled_sound
filled_ready h w size records e =
    let n = h.levels in
    let s = cycle_start h.options.krylov_dimension n w in
    let a1 = handle_sound h in
    let a2 = leb n records in
    let a3 = levels_sound n w 0 in
    let a4 = eqb (rows_at w 0) h.rows in
    let a5 = eqb (entries_at w 0) h.entries in
    let a6 = leb (scratch_end n w 0 s) size in
    let h5 = both_l (a1 && a2 && a3 && a4 && a5) a6 e in
    let h4 = both_l (a1 && a2 && a3 && a4) a5 h5 in
    let h3 = both_l (a1 && a2 && a3) a4 h4 in
    let h2 = both_l (a1 && a2) a3 h3 in
    let count = handle_few h (both_l a1 a2 h2) in
    let ends = leb-true (scratch_end n w 0 s) size (both_r (a1 && a2 && a3 && a4 && a5) a6 e) in
    let more = scratch_to n w 0 s in
    record {
      few = count.1;
      walk = walk_passes n w 0 0 (both_r (a1 && a2) a3 h3);
      room = omega arith;
    }

-- Of no levels it asks nothing.
empty_ready : (h : Handle) (w : List ℕ) (size : ℕ) → h.levels ≡ 0 → UpdateOk h w size
unfolding walk_of heads_walked levels_walked
empty_ready h w size none = record {
  few = omega arith;
  walk = rw none;
  room = rw none (let e = image_empty w in omega arith);
}

-- What an update requires follows from question 19.
pub update_ready : (h : Handle) (w : List ℕ) (size records : ℕ) → sound_of h w size records ≡ true → UpdateOk h w size
update_ready h w size records e = go h.levels refl
  where
    go : (n : ℕ) → h.levels ≡ n → UpdateOk h w size
    go zero none = empty_ready h w size none
    go (suc n) some = filled_ready h w size records (sound_filled h w size records (omega arith) e)
