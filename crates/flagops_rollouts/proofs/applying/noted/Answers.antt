use Rattle.std.proofs.Common.{◌≡◌, ◌||◌, ◌∙◌, ℕ, Err, ap, is_some, rules, subst}
use Rattle.std.specs.Prelude.{nat_lt}
use Rattle.bucket_core.specs.Rule.{total_weight}
use Rattle.flag_defs.specs.Flags.{flags_view}
use Rattle.flagops_rollouts.specs.Beside.{AreBehind, part_if}
use Rattle.flagops_rollouts.specs.Finer.{finer_part, times_at}
use Rattle.flagops_rollouts.specs.Omitted.{TellsOmitted, is_omitting, settle_omitted}
use Rattle.flagops_rollouts.proofs.Omissions.{told_names}
use Rattle.flagops_rollouts.proofs.Parts.{noted_so, tells_behind}
use Rattle.flagops_rollouts.proofs.Points.{finer_path}
use Rattle.flagops_rollouts.proofs.Said.{not_noted, omitted_told}
use Rattle.flagops_rollouts.proofs.applying.noted.Goals as goal

pub returns-in-Ok-clause-exact : goal.returns-in-Ok-clause-exact
returns-in-Ok-clause-exact c =
    let flags = flags_view c.args.document.now.flags in
    let key = c.args.key.now in
    let site = c.args.site in
    let omitted = c.in_ok-omitted.omitted in
    let times = c.in-Ok.ensures ∙ ap (λ (n : ℕ). times_at flags key site n) c.total-points.ensures.value in
    noted_so (nat_lt 1 (times_at flags key site (total_weight c.args.rule.now))) (settle_omitted c.args.strict (is_omitting c.args.floats c.args.document.now.bytes.items flags)) (is_some omitted) (is_some c.with_total.result) c.in_ok-omitted.ensures.exact
    (c.with_total.ensures.told ∙ ap (λ (m : ℕ). is_some omitted || nat_lt 1 m) times)

pub returns-in-Ok-clause-notes : goal.returns-in-Ok-clause-notes
returns-in-Ok-clause-notes c =
    let path = c.args.path.now in
    finer_path path c.in-Ok.factor c.total-points.result c.in_ok-omitted.omitted c.with_total.result c.with_total.ensures.beside (told_names path (flags_view c.args.document.now.flags) c.in_ok-omitted.omitted c.in_ok-omitted.ensures.notes)

pub returns-in-Ok-clause-parts : goal.returns-in-Ok-clause-parts
returns-in-Ok-clause-parts c =
    let path = c.args.path.now in
    let document = c.args.document.now.bytes.items in
    let flags = flags_view c.args.document.now.flags in
    let key = c.args.key.now in
    let site = c.args.site in
    let total = total_weight c.args.rule.now in
    let omitted = c.in_ok-omitted.omitted in
    let shown = c.with_total.result in
    let times = c.in-Ok.ensures ∙ ap (λ (n : ℕ). times_at flags key site n) c.total-points.ensures.value in
    tells_behind (part_if (is_omitting c.args.floats document flags) (TellsOmitted path flags)) (finer_part path (times_at flags key site total) total) omitted shown
    (omitted_told c.args.floats path document flags c.args.strict omitted c.in_ok-omitted.ensures.exact c.in_ok-omitted.ensures.notes)
    (subst (λ (m : ℕ). AreBehind (finer_part path m total) omitted shown) times
    (subst (λ (n : ℕ). AreBehind (finer_part path c.in-Ok.factor n) omitted shown) c.total-points.ensures.value c.with_total.ensures.beside))

pub returns-in_err-omitted-clause-exact : goal.returns-in_err-omitted-clause-exact
returns-in_err-omitted-clause-exact c =
    let flags = flags_view c.args.document.now.flags in
    let is : c.from_residual.result ≡ Err c.in_err-omitted.field-0.0 = search rules in
    not_noted (nat_lt 1 (times_at flags c.args.key.now c.args.site (total_weight c.args.rule.now))) (settle_omitted c.args.strict (is_omitting c.args.floats c.args.document.now.bytes.items flags)) c.in_err-omitted.field-0.0 c.from_residual.result is
    c.in_err-omitted.ensures.exact
