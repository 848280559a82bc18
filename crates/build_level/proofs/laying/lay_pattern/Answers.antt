-- `laying::lay_pattern` meets its contract.
use Rattle.build_level.proofs.laying.Words.{pattern_laid}
use Rattle.build_level.proofs.laying.lay_pattern.Goals as goal

pub returns : goal.returns
returns c =
    pattern_laid
    c.requires
    c.lay_header.ensures
    c.copy.ensures c.copy-2.ensures
