use Rattle.std.proofs.Common.{◌≡◌, ◌∙◌, Err, ap, sym, refl}
use Rattle.std.proofs.lemmas.Result.{err_from_is_err_and}
use Rattle.note_streams.specs.LogLines.{files_view}
use Rattle.control_answers.specs.Apply.{IsApplyAnswer, applied_view}
use Rattle.control_answers.specs.Snapshot.{snapshot_view}
use Rattle.control_answers.specs.Token.{token_view}
use Rattle.control_answers.specs.declared.refusal.ControlRefusal.TheVariants.{WantOfMemory}
use Rattle.control_answers.proofs.Outcomes.{its_document, no_token, other_document}
use Rattle.control_answers.proofs.Turns.{wanted}
use Rattle.control_answers.proofs.applying.apply_answer.Goals as goal

pub returns-in_err-token-clause-exact : goal.returns-in_err-token-clause-exact
returns-in_err-token-clause-exact c =
    let f = c.in_err-token.field-0.0 in
    let r = c.from_residual.result in
    let p = err_from_is_err_and r c.from_residual.ensures.1 in
    let is : r ≡ Err f = p.1 ∙ ap Err p.2 in
    no_token applied_view (snapshot_view c.args.snapshot.now) c.args.token.now (files_view c.args.files.now) f r is c.in_err-token.ensures.exact

pub returns-in_err-is_tag_of-clause-exact : goal.returns-in_err-is_tag_of-clause-exact
returns-in_err-is_tag_of-clause-exact c =
    let r = c.from_residual-in_err-is_tag_of.result in
    let p = err_from_is_err_and r c.from_residual-in_err-is_tag_of.ensures.1 in
    let is : r ≡ Err WantOfMemory = p.1 ∙ ap Err p.2 in
    wanted applied_view (IsApplyAnswer (snapshot_view c.args.snapshot.now) c.args.token.now (files_view c.args.files.now)) r is

pub returns-then-not-branch-clause-exact : goal.returns-then-not-branch-clause-exact
returns-then-not-branch-clause-exact c =
    other_document applied_view (snapshot_view c.args.snapshot.now) c.args.token.now (files_view c.args.files.now) (token_view c.in_ok-token.token) c.in_ok-token.ensures.exact _ refl
    (sym c.in_ok-is_tag_of.ensures ∙ c.if-not-branch.true)

pub returns-clause-exact : goal.returns-clause-exact
returns-clause-exact c =
    its_document applied_view (snapshot_view c.args.snapshot.now) c.args.token.now (files_view c.args.files.now) (token_view c.in_ok-token.token) c.in_ok-token.ensures.exact c.apply_token.result
    (sym c.in_ok-is_tag_of.ensures ∙ c.if-not-branch.false) c.apply_token.ensures
