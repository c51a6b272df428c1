use Rattle.std.proofs.Common.{◌≡◌, ◌∙◌, Err, ap, subst, rules, List, ℕ}
use Rattle.std.specs.Prelude.{string_bytes}
use Rattle.std.proofs.lemmas.Result.{err_from_is_err_and}
use Rattle.flag_defs.specs.Flags.{flags_view}
use Rattle.note_streams.specs.LogLines.{files_view}
use Rattle.plan_text.specs.Answer.{planned_view}
use Rattle.control_answers.specs.Check.{IsVerdictOf, IsVerdictOn}
use Rattle.control_answers.specs.Target.{target_of, target_view}
use Rattle.control_answers.specs.Turns.{Gives, OfFiles}
use Rattle.control_answers.specs.declared.refusal.ControlRefusal.TheVariants.{WantOfMemory}
use Rattle.control_answers.proofs.Turns.{not_asked, wanted, with_target}
use Rattle.control_answers.proofs.checking.check_planned.Goals as goal

pub returns-in_err-bytes : goal.returns-in_err-bytes
returns-in_err-bytes c =
    let r = c.from_residual.result in
    let p = err_from_is_err_and r c.from_residual.ensures.1 in
    let is : r ≡ Err WantOfMemory = p.1 ∙ ap Err p.2 in
    wanted string_bytes (IsVerdictOf (flags_view c.args.flags.now) c.args.request.now (files_view c.args.files.now) (planned_view c.args.planned.now)) r is

pub returns-in_err-request : goal.returns-in_err-request
returns-in_err-request c =
    let flags = flags_view c.args.flags.now in
    let files = files_view c.args.files.now in
    let answer = planned_view c.args.planned.now in
    let bytes = c.in_ok-bytes.bytes.items in
    let same : bytes ≡ c.args.request.now = search rules in
    let e = c.in_err-request.field-0.0 in
    let r = c.from_residual-in_err-request.result in
    let p = err_from_is_err_and r c.from_residual-in_err-request.ensures.1 in
    let is : r ≡ Err e = p.1 ∙ ap Err p.2 in
    subst (λ (x : List ℕ). Gives string_bytes (IsVerdictOf flags x files answer) r) same (not_asked string_bytes flags bytes (λ target. OfFiles files target (IsVerdictOn flags bytes answer)) e r is c.in_err-request.ensures.exact)

pub returns : goal.returns
returns c =
    let flags = flags_view c.args.flags.now in
    let files = files_view c.args.files.now in
    let answer = planned_view c.args.planned.now in
    let bytes = c.in_ok-bytes.bytes.items in
    let same : bytes ≡ c.args.request.now = search rules in
    let target = target_view c.in_ok-request.field-0.target in
    let r = c.check_recorded.result in
    let is = c.in_ok-request.ensures.exact in
    let made = subst (λ (x : List ℕ). Gives string_bytes (OfFiles files target (IsVerdictOn flags x answer)) r) is.0 c.check_recorded.ensures in
    subst (λ (x : List ℕ). Gives string_bytes (IsVerdictOf flags x files answer) r) same (with_target string_bytes (target_of flags bytes) (λ target. OfFiles files target (IsVerdictOn flags bytes answer)) target r is.1 made)
