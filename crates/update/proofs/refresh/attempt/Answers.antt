-- `refresh::attempt` meets its contract: questions 31 and 10, the shadow, the copy, and the row sums.
use mathlib.Core.Path.{◌≡◌, refl, sym, ◌∙◌}
use mathlib.Core.Bool.{false}
use Rattle.refusal.specs.Outcome.{is_refused}
use Rattle.refusal.proofs.Outcome.{passed_up}
use Rattle.update.proofs.refresh.Updating.{ask_ready, start_ready, commit_ready, sums_ready_at, shadow_ready, faces_ready, attempt_asked_no, attempt_no, attempt_yes}
use Rattle.update.proofs.refresh.attempt.Goals as goal

pub shadow_start-image-requires : goal.shadow_start-image-requires
shadow_start-image-requires c = start_ready c.requires

pub asked-requires : goal.asked-requires
asked-requires c = ask_ready c.requires c.shadow_start-image.ensures

pub returns-in_err-asked : goal.returns-in_err-asked
returns-in_err-asked c o by under =
    let at-asked = c in
    let at-start = at-asked in
    let start = at-start in
    rw (passed_up _ c.from_residual.ensures.1 ∙ sym c.in_err-asked.was)
    (attempt_asked_no start.args.f.now start.requires o start.args.x.offsets.now start.args.x.columns.now start.args.x.values.now
    at-start.shadow_start-image.ensures at-asked.asked.ensures (rw c.in_err-asked.was refl))

pub shadow-requires : goal.shadow-requires
shadow-requires c =
    let at-pass = c in
    let at-asked = at-pass in
    let at-start = at-asked in
    let start = at-start in
    let pass : is_refused c.asked.result ≡ false = rw c.in_ok-asked.was refl in
    record {
      shadow_ok = shadow_ready start.requires at-start.shadow_start-image.ensures start.args.x.offsets.now start.args.x.columns.now start.args.x.values.now
          at-asked.asked.ensures pass at-asked.asked.ensures.kept.size;
      faces_ready = faces_ready start.requires at-start.shadow_start-image.ensures start.args.x.offsets.now start.args.x.columns.now start.args.x.values.now
          at-asked.asked.ensures pass;
    }

pub returns-in_err-shadow : goal.returns-in_err-shadow
returns-in_err-shadow c o by under =
    let at-shadow = c in
    let at-pass = at-shadow in
    let at-asked = at-pass in
    let at-start = at-asked in
    let start = at-start in
    rw (passed_up _ c.from_residual-in_err-shadow.ensures.1 ∙ sym c.in_err-shadow.was)
    (attempt_no start.args.f.now start.requires o start.args.x.offsets.now start.args.x.columns.now start.args.x.values.now
    at-start.shadow_start-image.ensures at-asked.asked.ensures (rw c.in_ok-asked.was refl)
    (at-shadow.shadow.ensures o by) (rw c.in_err-shadow.was refl))

pub commit-requires : goal.commit-requires
commit-requires c =
    let at-shadow = c in
    let at-asked = at-shadow in
    let at-start = at-asked in
    let start = at-start in
    commit_ready start.requires at-start.shadow_start-image.ensures (at-shadow.shadow.auto.f ∙ at-asked.asked.ensures.kept.size)

pub sums-requires : goal.sums-requires
sums-requires c =
    let at-commit = c in
    let at-shadow = at-commit in
    let at-asked = at-shadow in
    let at-start = at-asked in
    let start = at-start in
    sums_ready_at start.requires at-start.shadow_start-image.ensures (at-commit.commit.ensures.size ∙ at-shadow.shadow.auto.f ∙ at-asked.asked.ensures.kept.size)

pub returns : goal.returns
returns c o by under =
    let at-sums = c in
    let at-commit = at-sums in
    let at-made = at-commit in
    let at-shadow = at-made in
    let at-pass = at-shadow in
    let at-asked = at-pass in
    let at-start = at-asked in
    let start = at-start in
    rw c.in_ok-shadow.was at
    (attempt_yes start.args.f.now start.requires o start.args.x.offsets.now start.args.x.columns.now start.args.x.values.now
    at-start.shadow_start-image.ensures at-asked.asked.ensures (rw c.in_ok-asked.was refl)
    (at-shadow.shadow.ensures o by) (rw c.in_ok-shadow.was refl) at-commit.commit.ensures
    under at-sums.sums.ensures)
