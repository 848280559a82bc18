-- The hierarchies of the ring. Assumes nothing.
use mathlib.Core.Bool.{true, false}
use mathlib.Core.List.{List, [], ◌∷◌}
use Prim.Native.Nat.{ℕ}
use lib.IntN.{pos, neg_ℤ}
use lib.Ieee.{Float, binary64, of_int, of_bits}
use Rattle.float.specs.Float.{zero64}
use Rattle.store.specs.Vector.{filled}
use Rattle.hierarchy.specs.Level.{Shape, Hierarchy}
use Rattle.trace_example.specs.Ring.{floats_of}

-- the finest level: the faces 0-1, 0-3, 1-2, 2-3, and the aggregates 0, 3 and 1, 2
abbrev pub fine : Shape
fine = record {
  pattern = record { rows = 4; offsets = 0 ∷ 3 ∷ 6 ∷ 9 ∷ 12 ∷ []; columns = 0 ∷ 1 ∷ 3 ∷ 0 ∷ 1 ∷ 2 ∷ 1 ∷ 2 ∷ 3 ∷ 0 ∷ 2 ∷ 3 ∷ [] };
  starts = 0 ∷ 2 ∷ 3 ∷ 4 ∷ 4 ∷ [];
  neighbors = 1 ∷ 3 ∷ 2 ∷ 3 ∷ [];
  uppers = 1 ∷ 2 ∷ 5 ∷ 8 ∷ [];
  lowers = 3 ∷ 9 ∷ 6 ∷ 10 ∷ [];
  diagonals = 0 ∷ 4 ∷ 7 ∷ 11 ∷ [];
  terminal = false;
  links = 0 ∷ 1 ∷ 1 ∷ 0 ∷ [];
  positions = 0 ∷ 1 ∷ 0 ∷ 2 ∷ 3 ∷ 3 ∷ 3 ∷ 3 ∷ 2 ∷ 0 ∷ 1 ∷ 0 ∷ [];
}

-- the last level: two joined rows
abbrev last : Shape
last = record {
  pattern = record { rows = 2; offsets = 0 ∷ 2 ∷ 4 ∷ []; columns = 0 ∷ 1 ∷ 0 ∷ 1 ∷ [] };
  starts = 0 ∷ 1 ∷ 1 ∷ [];
  neighbors = 1 ∷ [];
  uppers = 1 ∷ [];
  lowers = 2 ∷ [];
  diagonals = 0 ∷ 3 ∷ [];
  terminal = true;
  links = 0 ∷ 1 ∷ [];
  positions = [];
}

-- the whole number n, and minus n
abbrev whole : ℕ → Float
whole n = of_int binary64 (pos n)

abbrev minus : ℕ → Float
minus n = of_int binary64 (neg_ℤ (pos n))

-- the hierarchy with d on the diagonal and inverse on that of its reciprocals, these DIC data, the coarse matrix c, −4; −4, c with the reciprocal
-- `coarse` and this factor, and these row sums
abbrev hierarchy : Float → Float → List ℕ → Float → Float → List ℕ → Float → Hierarchy
hierarchy d inverse dic c coarse factor sum = record {
  levels = record {
    shape = fine;
    numbers = record {
      coefficients = minus 2 ∷ minus 1 ∷ minus 1 ∷ minus 2 ∷ [];
      diagonal = filled 4 d;
      inverse = filled 4 inverse;
      dic = floats_of dic;
      factor = [];
    };
  } ∷ record {
    shape = last;
    numbers = record {
      coefficients = minus 4 ∷ [];
      diagonal = filled 2 c;
      inverse = filled 2 coarse;
      dic = filled 2 zero64;
      factor = floats_of factor;
    };
  } ∷ [];
  sums = filled 4 sum;
}

-- from the first values, and from those of the accepted update
abbrev pub before : Hierarchy
before = hierarchy (whole 4) (of_bits binary64 0x3fd0_0000_0000_0000)
    (0x3fd0_0000_0000_0000 ∷ 0x3fd5_5555_5555_5555 ∷ 0x3fd1_745d_1745_d175 ∷ 0x3fd8_1181_1811_8118 ∷ [])
    (whole 6) (of_bits binary64 0x3fc5_5555_5555_5555)
    (0x4003_988e_1409_212e ∷ 0xbffa_20bd_700c_2c3f ∷ 0x3ffd_363d_1848_dcbe ∷ []) (whole 1)

abbrev pub after : Hierarchy
after = hierarchy (whole 8) (of_bits binary64 0x3fc0_0000_0000_0000)
    (0x3fc0_0000_0000_0000 ∷ 0x3fc1_1111_1111_1111 ∷ 0x3fc0_456c_797d_d49c ∷ 0x3fc1_603a_e6be_fcd6 ∷ [])
    (whole 14) (of_bits binary64 0x3fb2_4924_9249_2492)
    (0x400d_eeea_1168_3f49 ∷ 0xbff1_1ace_e560_242a ∷ 0x400c_af7c_0d28_08e5 ∷ []) (whole 5)
