-- `mirrors::entry_at` meets its contract: the column stands where `find` says, or nowhere.
use mathlib.Core.Path.{◌∙◌}
use Rattle.faces.proofs.faces.Finding.{find_ok, entry_yes, entry_no}
use native.Mathlib.Omega.{arith}
use Rattle.faces.proofs.mirrors.entry_at.Goals as goal
use Rattle.faces.proofs.mirrors.entry_at.Goals.{else-e-hi-via-then-e-hi+else-wide-j, else-e-hi-via-else-e-hi}

pub find-e-requires : goal.find-e-requires
find-e-requires c = find_ok c.requires c.wide-lo.ensures
    c.wide-hi.ensures

pub bounds-w-s-then-e-hi : goal.bounds-w-s-then-e-hi
bounds-w-s-then-e-hi c = omega (
  arith,
  (find_ok c.requires
      c.wide-lo.ensures c.wide-hi.ensures).room,
  c.if-e-hi.true,
)

pub returns-then-wide-j : goal.returns-then-wide-j
returns-then-wide-j c = entry_yes c.requires
    c.wide-lo.ensures
    c.wide-hi.ensures c.find-e.ensures
    c.if-e-hi.true c.wide.ensures c.if-wide-j.true

pub returns-else-e-hi : goal.returns-else-e-hi
returns-else-e-hi c = entry_no c.requires
    c.wide-lo.ensures c.wide-hi.ensures c.find-e.ensures
    (λ h e. elim c.else-e-hi.branch [
      | else-e-hi-via-then-e-hi+else-wide-j w ↦ w.if-wide-j.false (w.wide.ensures ∙ e)
      | else-e-hi-via-else-e-hi w ↦ omega (arith, w.if-e-hi.false)
    ])
