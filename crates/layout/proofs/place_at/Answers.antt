-- `layout::place_at` meets its contract: all sizes that it reads stand below the links.
use mathlib.Core.Path.{refl}
use native.Mathlib.Omega.{arith}
use Rattle.layout.proofs.Places.{ends_above, place_fits, place_is}
use borrow.Author.Rules.{rules}
use Rattle.layout.proofs.place_at.Goals as goal

pub offset_bounds-w-a : goal.offset_bounds-w-a
offset_bounds-w-a c = omega (arith, ends_above _ _ refl refl refl c.requires.words)

pub bounds-w-a : goal.bounds-w-a
bounds-w-a c = omega (arith, ends_above _ _ refl refl refl c.requires.words)

pub overflow_add-a : goal.overflow_add-a
overflow_add-a c =
    let start = c in
    omega (arith, ends_above _ _ c.wide-rows.ensures refl refl start.requires.words)

pub overflow_add-a-2 : goal.overflow_add-a-2
overflow_add-a-2 c =
    let start = c in
    omega (arith, ends_above _ _ c.wide-rows.ensures refl refl start.requires.words)

pub offset_bounds-w-a-2 : goal.offset_bounds-w-a-2
offset_bounds-w-a-2 c =
    let start = c in
    omega (arith, ends_above _ _ c.wide-rows.ensures refl refl start.requires.words)

pub bounds-w-a-2 : goal.bounds-w-a-2
bounds-w-a-2 c =
    let read = c in
    let start = read in
    omega (arith, ends_above _ _ read.wide-rows.ensures refl refl start.requires.words)

pub overflow_add-a-3 : goal.overflow_add-a-3
overflow_add-a-3 c =
    let read = c in
    let start = read in
    omega (arith, ends_above _ _ read.wide-rows.ensures c.wide-entries.ensures refl start.requires.words)

pub overflow_add-a-4 : goal.overflow_add-a-4
overflow_add-a-4 c =
    let read = c in
    let start = read in
    omega (arith, ends_above _ _ read.wide-rows.ensures c.wide-entries.ensures refl start.requires.words)

pub overflow_add-a-5 : goal.overflow_add-a-5
overflow_add-a-5 c =
    let read = c in
    let start = read in
    omega (arith, ends_above _ _ read.wide-rows.ensures c.wide-entries.ensures refl start.requires.words)

pub overflow_add-a-6 : goal.overflow_add-a-6
overflow_add-a-6 c =
    let read = c in
    let start = read in
    omega (arith, ends_above _ _ read.wide-rows.ensures c.wide-entries.ensures refl start.requires.words)

pub overflow_add-a-7 : goal.overflow_add-a-7
overflow_add-a-7 c =
    let read = c in
    let start = read in
    omega (arith, ends_above _ _ read.wide-rows.ensures c.wide-entries.ensures refl start.requires.words)

pub offset_bounds-w-a-3 : goal.offset_bounds-w-a-3
offset_bounds-w-a-3 c =
    let read = c in
    let start = read in
    omega (arith, ends_above _ _ read.wide-rows.ensures c.wide-entries.ensures refl start.requires.words)

pub bounds-w-a-3 : goal.bounds-w-a-3
bounds-w-a-3 c =
    let read2 = c in
    let read = read2 in
    let start = read in
    omega (arith, ends_above _ _ read.wide-rows.ensures read2.wide-entries.ensures refl start.requires.words)

pub place_of-requires : goal.place_of-requires
place_of-requires c =
    let read2 = c in
    let read = read2 in
    let start = read in
    let pair = place_fits _ _ read.wide-rows.ensures read2.wide-entries.ensures c.wide-faces.ensures start.requires (search rules) in
    record { faces_bound = pair.0; faces_bound_2 = pair.1 }

pub returns : goal.returns
returns c =
    let read3 = c in
    let read2 = read3 in
    let read = read2 in
    let start = read in
    place_is start.args.w.now _ read.wide-rows.ensures read2.wide-entries.ensures read3.wide-faces.ensures c.place_of.ensures
