use Rattle.std.proofs.Common.{◌≡◌, ◌∙◌, ℕ, Ok, Err, ap, rules, subst, sym, string_bytes}
use Rattle.std.proofs.lemmas.Result.{err_from_is_err_and}
use Rattle.flag_defs.specs.Flags.{flags_view}
use Rattle.plan_text.specs.Answer.{planned_view}
use Rattle.rollout.specs.Verified.{refining_for}
use Rattle.control_answers.specs.Apply.{IsApplied, applied_view}
use Rattle.control_answers.specs.Snapshot.{snapshot_view}
use Rattle.control_answers.specs.declared.refusal.ControlRefusal.TheVariants.{WantOfMemory}
use Rattle.control_answers.proofs.Outcomes.{doubted, is_asked, undoubted, unkept}
use Rattle.control_answers.proofs.Turns.{wanted}
use Rattle.control_answers.proofs.applying.apply_right.Goals as goal

-- a request that was found right asks something
pub changed-requires : goal.changed-requires
changed-requires c =
    is_asked (refining_for (planned_view c.args.planned)) (flags_view c.args.snapshot.now.flags.now) c.args.request c.args.tally.now (planned_view c.args.planned) c.requires

pub returns-in_err-document : goal.returns-in_err-document
returns-in_err-document c =
    let e = c.in_err-document.field-0.0 in
    let r = c.from_residual.result in
    let p = err_from_is_err_and r c.from_residual.ensures.1 in
    let is : r ≡ Err e = p.1 ∙ ap Err p.2 in
    unkept applied_view (snapshot_view c.args.snapshot.now) c.args.request (planned_view c.args.planned) c.args.tally.now e r is c.in_err-document.ensures

pub returns-in_err-doubt : goal.returns-in_err-doubt
returns-in_err-doubt c =
    let r = c.from_residual-in_err-doubt.result in
    let p = err_from_is_err_and r c.from_residual-in_err-doubt.ensures.1 in
    let is : r ≡ Err WantOfMemory = p.1 ∙ ap Err p.2 in
    wanted applied_view (IsApplied (snapshot_view c.args.snapshot.now) c.args.request (planned_view c.args.planned) c.args.tally.now) r is

pub returns-in-Some : goal.returns-in-Some
returns-in-Some c =
    λ other. doubted (snapshot_view c.args.snapshot.now) c.args.request (planned_view c.args.planned) c.args.tally.now (string_bytes c.in_ok-document.document) c.in_ok-document.ensures c.in-Some.doubt (sym c.in_ok-doubt.ensures ∙ c.in-Some.is)

pub returns-in-None : goal.returns-in-None
returns-in-None c =
    let s = snapshot_view c.args.snapshot.now in
    let answer = planned_view c.args.planned in
    let text = string_bytes c.in_ok-document.document in
    let inputs : c.tally.inside.inputs ≡ c.args.tally.now.inputs = search rules in
    subst (λ (n : ℕ). IsApplied s c.args.request answer c.args.tally.now (Ok (record { document = text; request = c.args.request; answer = answer; inputs = n }))) (sym inputs)
    (undoubted s c.args.request answer c.args.tally.now text c.in_ok-document.ensures (sym c.in_ok-doubt.ensures ∙ c.in-None.is))
