-- `finest::first_kernel` reads the faces of the first level where its face offsets end.
use Rattle.build.proofs.finest.First.{first_few, first_place}
use native.Mathlib.Omega.{arith}
use Rattle.build.proofs.finest.first_kernel.Goals as goal

pub place_of-requires : goal.place_of-requires
place_of-requires c =
    let few = first_few c.requires c.wide-faces.ensures in
    let small = c.requires in
    record { faces_bound = omega arith; faces_bound_2 = omega arith }

pub returns : goal.returns
returns c = first_place c.requires c.wide-faces.ensures c.place_of.ensures c.kernel_in.ensures
