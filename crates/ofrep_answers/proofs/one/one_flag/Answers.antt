use Rattle.std.proofs.Common.{◌≡◌, ◌∙◌, ℕ, List, Option, Some, None, ap, codes, option_map, string_bytes, sym}
use Rattle.std.proofs.lemmas.Result.{IfOk-weaker}
use Rattle.flag_defs.specs.Flags.{flags_view}
use Rattle.flag_defs.specs.Floats.{floats_view}
use Rattle.flag_metadata.specs.View.{metadata_view}
use Rattle.flag_resolve.specs.Floats.{Marked}
use Rattle.flag_resolve.specs.declared.code.Code.TheVariants.{FlagNotFound}
use Rattle.ofrep_answers.specs.Answer.{answer_view, failed, one_flag}
use Rattle.ofrep_answers.specs.Metadata.{metadata_of}
use Rattle.ofrep_requests.specs.Request.{key_in}
use Rattle.ofrep_answers.proofs.one.one_flag.Goals as goal

-- a path without a key is told as a flag that is not found, by what stands in the key's place
pub returns-in-None : goal.returns-in-None
returns-in-None c =
    let flags : Marked = (flags_view c.args.flags.now, floats_view c.args.flags.now) in
    let metadata = metadata_of (metadata_view c.args.metadata.now) in
    let path = c.args.path.now in
    let body = c.args.body.now in
    let none : key_in path ≡ None = sym c.in_ok-key.ensures.exact ∙ ap (option_map string_bytes) c.in-None.is in
    let named = ap (λ (segment : List ℕ). failed (Some segment) (Some FlagNotFound) (codes "the path has no key that can be decoded")) c.segment_in.ensures in
    IfOk-weaker c.failed.result _ (λ a. answer_view a ≡ one_flag metadata flags c.args.moment path (key_in path) body)
    (λ a is. is ∙ named ∙ sym (ap (λ (k : Option (List ℕ)). one_flag metadata flags c.args.moment path k body) none)) c.failed.ensures
