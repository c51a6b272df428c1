use Rattle.std.proofs.Common.{◌≡◌, ◌∙◌, Err, Ok, refl, ap, subst}
use Rattle.std.proofs.lemmas.Result.{err_from_is_err_and}
use Rattle.std.specs.Prelude.{string_bytes}
use Rattle.note_tallies.specs.File.{tally_text}
use Rattle.note_tallies.specs.Reading.{ReadsAs}
use Rattle.library_rollouts.specs.Refusal.{of_notes}
use Rattle.library_rollouts.specs.Tally.{IsTallyOver}
use Rattle.library_rollouts.specs.Target.{target_view}
use Rattle.library_rollouts.proofs.InTurn.{notes_roomy, refused}
use Rattle.library_rollouts.specs.View.{text_view}
use Rattle.library_rollouts.proofs.tallying.tallied_at.Goals as goal

pub returns-in_err-tally : goal.returns-in_err-tally
returns-in_err-tally c =
    let f = c.in_err-tally.field-0.0 in
    let p = err_from_is_err_and c.from_residual.result c.from_residual.ensures.1 in
    let is : c.from_residual.result ≡ Err (of_notes f) = p.1 ∙ ap Err p.2 in
    refused text_view (IsTallyOver c.args.notes.now (target_view c.args.target)) (of_notes f) c.from_residual.result is (notes_roomy f)
    (λ other. (Err f, c.in_err-tally.ensures (λ want. other (ap of_notes want)), refl, tt))

pub returns : goal.returns
returns c =
    let tallies = c.in_ok-tally.ensures in
    let text = string_bytes c.in_ok-text.text in
    (Ok tallies.0, tallies.1, ap (λ t. Ok (t, tt)) (c.in_ok-text.ensures.text ∙ ap tally_text tallies.2), subst (ReadsAs text) tallies.2 c.in_ok-text.ensures.reads_back)
