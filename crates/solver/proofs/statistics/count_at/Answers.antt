use mathlib.Core.Path.{ap, ◌∙◌}
use Rattle.solver.specs.Statistics.{counted_at}
use Rattle.solver.specs.Updates.{add_pre_sweeps, add_post_sweeps, add_coarse_iterations}
use Rattle.solver.proofs.statistics.count_at.Goals as goal

pub returns : goal.returns
unfolding counted_at
returns c =
    let at-post = c in
    let at_pre = at-post in
    c.add_coarse_iterations.ensures ∙ ap (add_coarse_iterations _)
    (at-post.add_post_sweeps-after.ensures ∙ ap (add_post_sweeps _) (at_pre.add_pre_sweeps-before.ensures ∙ ap (add_pre_sweeps _) at_pre.add_visits-visited.ensures))
