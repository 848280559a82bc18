-- Questions 1 to 9 of a build, its charge and its temporaries: what the functions require and ensure. Definitions only.
use Rattle.std.specs.Prelude.{Bool, List, [], ℕ, Float, is_some, unwrap_or, option_copied}
use Rattle.options.specs.declared.options.MultigridOptions.{MultigridOptions}
use Rattle.hierarchy.specs.Build.{Input}
use Rattle.build.specs.declared.Source.{Source}

-- the arguments of a build
abbrev pub input_of : ℕ → List ℕ → List ℕ → List Float → Bool → List Float → MultigridOptions → Input
input_of rows offsets columns values given weights o =
    record { rows = rows; offsets = offsets; columns = columns; values = values; given = given; weights = weights; options = o }

-- the weights that are handed on, none where none are given
abbrev pub weights_in : Source → List Float
weights_in x = unwrap_or (option_copied x.weights) []

-- the arguments of a build as the code hands them on
abbrev pub input_in : Source → Input
input_in x = input_of x.rows x.offsets.now x.columns.now x.values.now (is_some x.weights) (weights_in x) x.options
