use Rattle.std.proofs.Common.{◌≡◌, ◌∙◌, ℕ, List, Option, Some, ap, option_map, string_bytes, sym}
use Rattle.std.proofs.lemmas.Result.{IfOk-weaker}
use Rattle.flag_metadata.specs.Merged.{flag_metadata}
use Rattle.flag_metadata.specs.View.{metadata_view}
use Rattle.flag_resolve.specs.Views.{resolution_view}
use Rattle.ofrep_answers.specs.EvaluationBody.{body_text, told_text}
use Rattle.ofrep_answers.proofs.text.evaluation_text.Goals as goal

-- what is told is the text of the variant
pub returns-in-Some : goal.returns-in-Some
returns-in-Some c =
    let r = resolution_view c.args.resolution.now in
    let key = c.args.key.now in
    let metadata = flag_metadata (metadata_view c.args.metadata.now) key in
    let is : r.variant ≡ Some c.as_str.result.now = ap (option_map string_bytes) c.in-Some.is ∙ ap Some (sym c.as_str.ensures.value) in
    record {
      exact = IfOk-weaker c.success_text.result _ (λ text. string_bytes text ≡ body_text c.args.spelled metadata key r)
          (λ text told. told ∙ sym (ap (λ (o : Option (List ℕ)). told_text c.args.spelled metadata key o r) is)) c.success_text.ensures;
    }
