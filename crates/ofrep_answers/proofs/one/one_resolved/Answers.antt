use Rattle.std.proofs.Common.{◌≡◌, ◌∙◌, ℕ, Bool, List, Option, Some, None, ap, ap₂, sym}
use Rattle.std.proofs.lemmas.Result.{IfOk-weaker}
use Rattle.std.specs.Prelude.{option_copied}
use Rattle.decimal_reads.specs.Reads.{Reading}
use Rattle.flag_defs.specs.Flags.{flags_view}
use Rattle.flag_defs.specs.Floats.{floats_view}
use Rattle.flag_metadata.specs.View.{metadata_view}
use Rattle.flag_resolve.specs.Floats.{Marked}
use Rattle.flag_resolve.specs.Views.{resolution_view}
use Rattle.flag_text.specs.View.{view}
use Rattle.ofrep_answers.specs.Answer.{answer_view, one_resolved, one_unless_near}
use Rattle.ofrep_answers.specs.Evaluation.{is_spelled, read_by_flag}
use Rattle.ofrep_answers.specs.Metadata.{metadata_of}
use Rattle.ofrep_answers.specs.Near.{near_if}
use Rattle.ofrep_answers.proofs.one.one_resolved.Goals as goal

pub returns-in-Some : goal.returns-in-Some
returns-in-Some c =
    let flags : Marked = (flags_view c.args.flags.now, floats_view c.args.flags.now) in
    let metadata = metadata_of (metadata_view c.args.metadata.now) in
    let r = resolution_view c.args.resolution in
    let key = c.args.key.now in
    let context = view c.args.context.now in
    let read = read_by_flag flags.0 key context c.args.moment r in
    let near : near_if r.code flags.0 key ≡ Some c.in-Some.near.now = sym c.near_if.ensures ∙ ap option_copied c.in-Some.is in
    IfOk-weaker c.not_found.result _ (λ a. answer_view a ≡ one_resolved metadata flags key context c.args.moment r)
    (λ a is. is ∙ sym (ap (λ (o : Option (List ℕ)). one_unless_near o read (is_spelled key flags) (metadata.of_flag key) key r) near)) c.not_found.ensures

pub returns-in_ok-read-in-None : goal.returns-in_ok-read-in-None
returns-in_ok-read-in-None c =
    let flags : Marked = (flags_view c.args.flags.now, floats_view c.args.flags.now) in
    let metadata = metadata_of (metadata_view c.args.metadata.now) in
    let r = resolution_view c.args.resolution in
    let key = c.args.key.now in
    let context = view c.args.context.now in
    let read = read_by_flag flags.0 key context c.args.moment r in
    let none : near_if r.code flags.0 key ≡ None = sym c.near_if.ensures ∙ ap option_copied c.in-None.is in
    IfOk-weaker c.one_told.result _ (λ a. answer_view a ≡ one_resolved metadata flags key context c.args.moment r)
    (λ a is. is ∙ ap₂ (λ (o : Option Reading) (b : Bool). one_unless_near None o b (metadata.of_flag key) key r) c.in_ok-read-in-None.ensures c.is_spelled.ensures ∙ sym (ap (λ (o : Option (List ℕ)). one_unless_near o read (is_spelled key flags) (metadata.of_flag key) key r) none)) c.one_told.ensures
